use Rattle.std.proofs.Common.{None, Option, Some, ◌≡◌, ◌∙◌, ap}
use Rattle.std.specs.Arc.{arc_value}
use Rattle.std.specs.Option.{option_map}
use Rattle.spin_table.specs.SetupOf.{data_of}
use Rattle.spin_table.specs.States.{VersionValue}
use Rattle.spin_proto.specs.Replies.{calls_left}
use Rattle.spin_seat.specs.Seats.{version_of}
use Rattle.spin_c.specs.Kept.{pinned_for, replied}
use Rattle.spin_c.proofs.JobReplies.{whole_replay}
use Rattle.spin_c.proofs.kept.Kept.raise.Goals as goal

pub returns-clause-answer : goal.returns-clause-answer
returns-clause-answer g c =
    let reply = c.raise_into.new.buffer in
    let did = c.in_ok-place.ensures in
    let pinned : option_map (λ v. arc_value v) c.in_ok-self-inside.field-0 ≡ pinned_for (calls_left reply) (version_of c.raise_into.new.self) =
    rw c.view.ensures at (rw c.calls.ensures at c.in_ok-self-inside.ensures) in (
      reply,
      c.keep-last.ensures.kept _ None ∙ ap (λ (s : Option VersionValue). Some (replied record { reply = reply; pinned = s; job = None })) pinned,
      c.keep-last.ensures.told,
      whole_replay (data_of c.args.hub.now.setup) c.raise_into.new.self c.args.seat.now.base did.seat did.whole did.first,
      did.answer,
    )
