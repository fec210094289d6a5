use Rattle.std.proofs.Common.{◌∙◌, length, refl, ap}
use Rattle.std.proofs.lemmas.Option.{slice_get_read}
use Rattle.std.specs.Arc.{arc_value}
use Rattle.std.specs.Option.{option_map}
use Rattle.spin_c.proofs.JobReplies.{call_at, pinned_beside}
use Rattle.spin_c.proofs.kept.Kept.job_reply.Goals as goal

pub returns-in-Ok : goal.returns-in-Ok
returns-in-Ok g c =
    let inside = c.self.inside in
    let calls = c.in-Some.calls.now in
    let call = c.in-Some-get.call.now in
    let found = c.in-Some-get.ensures.lookup in
    let there = slice_get_read calls (length calls) c.args.index call refl found.3.0 found.1 in
    let at = call_at c.args.self.now c.args.index calls call c.in-Some.ensures there in
    record {
      call = call;
      at = at;
      version = arc_value c.in-Some-pinned.version;
      pinned = pinned_beside inside.last inside.buffer (option_map (λ v. arc_value v) inside.pinned) inside.job at.to (c.self.view_is ∙ at.kept)
          ∙ ap (option_map (λ v. arc_value v)) c.in-Some-pinned.is;
      place_is = rw c.deref-in-Ok.ensures at c.place.ensures;
      is = rw c.deref.ensures at c.in-Ok.ensures.reply;
    }

pub returns-in-Err : goal.returns-in-Err
returns-in-Err g c =
    let calls = c.in-Some.calls.now in
    let call = c.in-Some-get.call.now in
    let found = c.in-Some-get.ensures.lookup in
    let there = slice_get_read calls (length calls) c.args.index call refl found.3.0 found.1 in (
      call,
      call_at c.args.self.now c.args.index calls call c.in-Some.ensures there,
    )
