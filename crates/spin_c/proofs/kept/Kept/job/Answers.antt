use Rattle.std.proofs.Common.{Option, Some, sym, subst}
use Rattle.std.specs.Arc.{arc_value}
use Rattle.std.specs.Option.{option_map}
use Rattle.spin_table.specs.SetupOf.{data_of}
use Rattle.spin_c.specs.Inner.JobReplies.{IsJobAt}
use Rattle.spin_c.specs.Jobs.{DoesJob}
use Rattle.spin_c.specs.Kept.{Left, left_in}
use Rattle.spin_c.specs.Trails.{told_of}
use Rattle.spin_c.specs.declared.ask.Outcome.TheVariants as outcome
use Rattle.spin_c.proofs.JobReplies.{done}
use Rattle.spin_c.proofs.kept.Kept.job.Goals as goal

pub job_reply-requires-clause-well : goal.job_reply-requires-clause-well
job_reply-requires-clause-well g c = rw c.setup.ensures c.requires.well

pub returns-in-Ok-clause-does : goal.returns-in-Ok-clause-does
returns-in-Ok-clause-does g c =
    let d = data_of c.args.hub.now.setup in
    let inside = c.self.inside in
    let pinned = option_map (λ v. arc_value v) inside.pinned in
    let index = c.args.index in let place = c.in-Ok.place in let reply = c.in-Ok.reply in
    let found = rw c.setup.ensures at c.in-Ok.ensures in
    let is = subst (λ (left : Option Left). IsJobAt d left index place reply) (sym c.self.view_is) found in
    let told = outcome.Raised place (told_of reply) in
    rw c.reply_told-told.ensures
    (
    subst (λ (left : Option Left). DoesJob d left index (left_in inside.last inside.buffer pinned (Some reply)) told) c.self.view_is
    (done d inside.last inside.buffer pinned inside.job index place reply is)
    )
