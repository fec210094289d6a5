use Rattle.std.proofs.Common.{◌<◌, Some, None, subst}
use Rattle.spin_raise.specs.declared.bound.Runner.TheVariants as runner
use Rattle.spin_table.specs.SetupOf.{data_of}
use Rattle.spin_proto.specs.declared.reply.TheConstants.{MAX_RUNS}
use Rattle.spin_proto.specs.Replies.{units_in}
use Rattle.spin_proto.specs.Whole.{raised, starts}
use Rattle.spin_proto.proofs.RaiseTurns.{came_up}
use Rattle.spin_proto.proofs.RaiseLemmas.{spent, ran}
use Rattle.spin_proto.proofs.reply_buffer.raise_into.Goals as goal

pub returns-in-None : goal.returns-in-None
returns-in-None g c = λ bounds are.
    let a = c.args in
    let u = units_in (data_of a.setup.now) in
    let r = raised runner.Raiser u bounds 0 a.event a.args.now in
    let came = rw c.in-None.is at c.in_ok-raise_event.ensures in
    let many = came_up runner.Raiser u bounds a.event a.args.now _ None c.restart.new.self c.raise_event.new.walk c.in_ok-start_over.ensures.args (came bounds are) in
    spent MAX_RUNS r (subst (λ n. n < starts r.marks) c.restart.ensures.left many)

pub returns-in-Some : goal.returns-in-Some
returns-in-Some g c = λ bounds are.
    let a = c.args in
    let u = units_in (data_of a.setup.now) in
    let r = raised runner.Raiser u bounds 0 a.event a.args.now in
    let came = rw c.in-Some.is at c.in_ok-raise_event.ensures in
    let all = came_up runner.Raiser u bounds a.event a.args.now _ (Some c.in-Some.answer) c.restart.new.self c.raise_event.new.walk c.in_ok-start_over.ensures.args (came bounds are) in
    ran MAX_RUNS r c.in-Some.answer c.restart.new.self c.raise_event.new.walk c.restart.ensures.trace c.restart.ensures.jobs c.restart.ensures.left all.0 all.1
