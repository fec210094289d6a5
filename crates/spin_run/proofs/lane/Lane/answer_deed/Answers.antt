use Rattle.std.proofs.Common.{◌≡◌, ◌<◌, ◌^◌, ◌∷◌, [], length, refl, sym, subst, arith}
use Rattle.std.specs.Prelude.{All}
use Rattle.std.proofs.lemmas.Result.{on_ok_weaker}
use Rattle.spin_table.specs.SetupOf.{data_of}
use Rattle.spin_proto.specs.Replies.{BelongsTo}
use Rattle.spin_report.specs.declared.entry.What.{What}
use Rattle.spin_report.specs.Jobs.{answer_calls}
use Rattle.spin_report.specs.declared.entry.What.TheVariants as what
use Rattle.spin_report.specs.declared.entry.Entry.{Entry}
use Rattle.spin_seat.specs.Seats.{version_of}
use Rattle.spin_run.specs.Lanes.{kept_with}
use Rattle.spin_run.specs.declared.lane.Lane.{Lane}
use Rattle.spin_run.specs.Trails.{AddsTo}
use Rattle.spin_run.specs.Inner.Answering.{AddsJobs}
use Rattle.spin_proto.proofs.JobCounts.{calls_few}
use Rattle.spin_run.proofs.LaneAnswers.{reply_more}
use Rattle.spin_run.proofs.lane.Lane.answer_deed.Goals as goal

pub leave_jobs-requires-clause-few : goal.leave_jobs-requires-clause-few
leave_jobs-requires-clause-few g c =
    let gives = c.in_ok-place.ensures.answer in
    let few = calls_few (data_of c.args.by.now.hub.now.setup) gives.before c.args.deed.now c.raise_into.new.buffer gives.leads.0 in
    subst (λ (w : What). length (answer_calls w) < 2 ^ 32) (sym c.answered-what.ensures) (omega (arith, few))

pub leave_jobs-requires-clause-belong : goal.leave_jobs-requires-clause-belong
leave_jobs-requires-clause-belong g c =
    subst (λ (w : What). All (BelongsTo c.raise_into.new.self.state) (answer_calls w)) (sym c.answered-what.ensures) c.in_ok-place.ensures.calls

pub returns-clause-ok : goal.returns-clause-ok
returns-clause-ok g c =
    let d = data_of c.args.by.now.hub.now.setup in
    let old = c.args.self.now in
    let new : Lane = record { seat = c.raise_into.new.self; trail = c.add.new.self; jobs = c.leave_jobs.new.jobs; stop = old.stop; entries = c.keep.new.entries } in
    let entry : Entry = record { place = c.in_ok-place.place; lane = old.seat.pen.lane; line = c.args.line; part = c.args.part; what = what.Deed c.args.deed.now c.raise_into.new.buffer } in
    let lent : Entry = record entry { lane = c.lane-lane.result; what = c.answered-what.result } in
    let same : lent ≡ entry = λ i. record entry { lane = c.lane-lane.ensures.lane i; what = c.answered-what.ensures i } in
    let adds : AddsJobs entry (version_of new.seat) (answer_calls entry.what) old.jobs new.jobs =
    subst (λ (e : Entry). AddsJobs e (version_of new.seat) (answer_calls e.what) old.jobs new.jobs) same c.in_ok-leave_jobs.ensures in
    let kept = subst (λ (e : Entry). new.entries ≡ kept_with old.entries (e ∷ [])) same c.in_ok-keep.ensures in
    on_ok_weaker c.add.result
    (λ (added : AddsTo old.trail lent new.trail).
    reply_more d old new entry (version_of new.seat) (subst (λ (e : Entry). AddsTo old.trail e new.trail) same added)
    c.in_ok-place.ensures.answer (c.raise_into.ensures.seat, c.raise_into.ensures.first) c.in_ok-place.ensures.whole refl kept adds)
    c.add.ensures
