use Rattle.std.proofs.Common.{◌≡◌, ◌<◌, ◌≤◌, ◌∷◌, ◌++◌, List, length, sym, ap, subst, ◌∙◌}
use Rattle.spin_objects.specs.declared.item.Item.{Item}
use Rattle.spin_objects.specs.declared.item.Item.TheVariants as item
use Rattle.spin_objects.specs.Doing.{items_of, last_result}
use Rattle.spin_objects.specs.Units.{acts_of}
use Rattle.spin_raise.specs.Firing.{steps_at, units_of}
use Rattle.spin_raise.specs.declared.bound.Runner.TheVariants as runner
use Rattle.spin_table.specs.SetupOf.{data_of}
use Rattle.spin_proto.specs.declared.reply.TheConstants.{MAX_RUNS}
use Rattle.spin_proto.specs.declared.reply.Reply.TheVariants as reply
use Rattle.spin_proto.specs.Whole.{marks_of, raised_after, reply_of, job_of, job_answer, starts, ups_of}
use Rattle.spin_proto.specs.Inner.Walks.{UpsRise, Gained}
use Rattle.spin_proto.specs.Replies.{units_in}
use Rattle.spin_proto.proofs.RisingRaises.{items_rise}
use Rattle.spin_proto.proofs.RaiseLemmas.{job_found, spent, ran}
use Rattle.spin_proto.proofs.jobs.binding_job.Goals as goal

pub run_handler-requires-clause-first : goal.run_handler-requires-clause-first
run_handler-requires-clause-first g c =
    let a = c.args in
    let job = job_found (data_of a.setup.now) a.version.now.state a.event a.number c.handler_of-handler.result c.bindings.result.now
    a.setup.now.sound c.requires.sound.state c.requires.belongs c.bindings.ensures c.handler_of-handler.ensures in
    job.fits.first

pub run_handler-requires-clause-last : goal.run_handler-requires-clause-last
run_handler-requires-clause-last g c =
    let a = c.args in
    let job = job_found (data_of a.setup.now) a.version.now.state a.event a.number c.handler_of-handler.result c.bindings.result.now
    a.setup.now.sound c.requires.sound.state c.requires.belongs c.bindings.ensures c.handler_of-handler.ensures in
    subst (λ cat. c.handler_of-handler.result ≤ length (acts_of cat)) (sym c.catalogue-cat.ensures) job.fits.last

pub follow-requires-clause-rise : goal.follow-requires-clause-rise
follow-requires-clause-rise g c =
    let a = c.args in
    let d = data_of a.setup.now in
    let s = a.version.now.state in
    let handler = c.handler_of-handler.result in
    let job = job_found d s a.event a.number handler c.bindings.result.now a.setup.now.sound c.requires.sound.state c.requires.belongs c.bindings.ensures c.handler_of-handler.ensures in
    let steps = steps_at (units_in d) handler in
    let given : c.run_handler.new.out ≡ item.Ran a.number ∷ items_of steps a.args =
    (subst (λ cat. c.run_handler.new.out ≡ c.new-given.result ++ item.Ran a.number ∷ items_of (steps_at (units_of cat) handler) a.args) c.catalogue-cat.ensures c.in_ok-word.ensures.out)
    ∙ ap (λ o. o ++ item.Ran a.number ∷ items_of steps a.args) c.new-given.ensures in
    let rises = items_rise (length d.events) a.event steps a.args job.fits.rises in
    subst (λ n. UpsRise n a.event (ups_of c.run_handler.new.out)) (sym c.requires.sound.state.events)
    (subst (λ (given : List Item). UpsRise (length d.events) a.event (ups_of given)) (sym given) rises)

pub returns-then-not-branch : goal.returns-then-not-branch
returns-then-not-branch g c = λ bounds are.
    let a = c.args in
    let d = data_of a.setup.now in
    let s = a.version.now.state in
    let u = units_in d in
    let handler = c.handler_of-handler.result in
    let job = job_found d s a.event a.number handler c.bindings.result.now a.setup.now.sound c.requires.sound.state c.requires.belongs c.bindings.ensures c.handler_of-handler.ensures in
    let steps = steps_at u handler in
    let given : c.run_handler.new.out ≡ item.Ran a.number ∷ items_of steps a.args =
    (subst (λ cat. c.run_handler.new.out ≡ c.new-given.result ++ item.Ran a.number ∷ items_of (steps_at (units_of cat) handler) a.args) c.catalogue-cat.ensures c.in_ok-word.ensures.out)
    ∙ ap (λ o. o ++ item.Ran a.number ∷ items_of steps a.args) c.new-given.ensures in
    let raise = raised_after runner.Job u bounds a.event in
    let followed = rw c.if-not-branch.true at c.in_ok-follow.ensures in
    let many : c.new-walk.result.left < starts (marks_of a.event raise c.run_handler.new.out) = followed bounds are in
    let more : c.new-walk.result.left < starts (marks_of a.event raise (item.Ran a.number ∷ items_of steps a.args)) =
    subst (λ (given : List Item). c.new-walk.result.left < starts (marks_of a.event raise given)) given many in
    let over = subst (λ n. n < starts (marks_of a.event raise (item.Ran a.number ∷ items_of steps a.args))) c.new-walk.ensures.left more in
    subst (λ h. reply.Spent ≡ reply_of MAX_RUNS (job_of u a.event a.number h raise a.args)) (job.found bounds are) (spent MAX_RUNS (job_of u a.event a.number handler raise a.args) over)

pub returns : goal.returns
returns g c = λ bounds are.
    let a = c.args in
    let d = data_of a.setup.now in
    let s = a.version.now.state in
    let u = units_in d in
    let handler = c.handler_of-handler.result in
    let job = job_found d s a.event a.number handler c.bindings.result.now a.setup.now.sound c.requires.sound.state c.requires.belongs c.bindings.ensures c.handler_of-handler.ensures in
    let steps = steps_at u handler in
    let given : c.run_handler.new.out ≡ item.Ran a.number ∷ items_of steps a.args =
    (subst (λ cat. c.run_handler.new.out ≡ c.new-given.result ++ item.Ran a.number ∷ items_of (steps_at (units_of cat) handler) a.args) c.catalogue-cat.ensures c.in_ok-word.ensures.out)
    ∙ ap (λ o. o ++ item.Ran a.number ∷ items_of steps a.args) c.new-given.ensures in
    let raise = raised_after runner.Job u bounds a.event in
    let followed = rw c.if-not-branch.false at c.in_ok-follow.ensures in
    let went : Gained (marks_of a.event raise c.run_handler.new.out) c.new-walk.result c.follow.new.walk = followed bounds are in
    let gained = subst (λ (given : List Item). Gained (marks_of a.event raise given) c.new-walk.result c.follow.new.walk) given went in
    let word : c.in_ok-word.word ≡ last_result (items_of steps a.args) =
    subst (λ cat. c.in_ok-word.word ≡ last_result (items_of (steps_at (units_of cat) handler) a.args)) c.catalogue-cat.ensures c.in_ok-word.ensures.result in
    let answered : c.answer_of_job.result ≡ job_answer (last_result (items_of steps a.args)) = c.answer_of_job.ensures ∙ ap job_answer word in
    let r = job_of u a.event a.number handler raise a.args in
    subst (λ h. reply.Ran c.answer_of_job.result c.follow.new.walk.trace c.follow.new.walk.jobs ≡ reply_of MAX_RUNS (job_of u a.event a.number h raise a.args)) (job.found bounds are)
    (ran MAX_RUNS r c.answer_of_job.result c.new-walk.result c.follow.new.walk c.new-walk.ensures.trace c.new-walk.ensures.jobs c.new-walk.ensures.left answered gained)
