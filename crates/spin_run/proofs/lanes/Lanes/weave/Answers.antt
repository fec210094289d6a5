use Rattle.std.proofs.Common.{rules, sym, subst, ◌∙◌}
use Rattle.std.proofs.lemmas.List.Sorted.{answers_always}
use Rattle.spin_proto.specs.declared.deed.Job.{Job}
use Rattle.spin_run.specs.declared.trail.EntryIndex.{EntryIndex}
use Rattle.spin_run.specs.Trails.{mark_moment}
use Rattle.spin_run.specs.Inner.Weaves.{job_moment, AreMarksInOrder, AreJobsInOrder, IsInterleaving, marks_by_lane, jobs_by_lane}
use Rattle.spin_run.proofs.JoinedLanes.{sorted_interleaving}
use Rattle.spin_run.proofs.MarkOrder.{mark_sooner, mark_sooner_weak}
use Rattle.spin_run.proofs.JobOrder.{job_sooner, job_sooner_weak}
use Rattle.spin_run.proofs.lanes.Lanes.weave.Goals as goal

pub returns-clause-marks : goal.returns-clause-marks
returns-clause-marks c =
    subst (IsInterleaving (λ (m : EntryIndex). m.lane) (marks_by_lane c.args.self.now)) (sym c.from_vec.ensures)
    (sorted_interleaving (λ (m : EntryIndex). m.lane) mark_sooner mark_sooner_weak (marks_by_lane c.args.self.now) c.into_vec-marks.result.items c.sort_by_key.new.self.items
    (c.into_vec-marks.ensures ∙ c.in_ok-trails.ensures.marks) c.requires.marks c.requires.marks_order c.in_ok-sort_by_key.ensures.permutation
    (c.in_ok-sort_by_key.ensures.sorted mark_moment (answers_always _ _ _ (λ f a r g h. search rules)))
    (c.in_ok-sort_by_key.ensures.stable mark_moment (answers_always _ _ _ (λ f a r g h. search rules))))

pub returns-clause-marks_order : goal.returns-clause-marks_order
returns-clause-marks_order c =
    subst AreMarksInOrder (sym c.from_vec.ensures) (c.in_ok-sort_by_key.ensures.sorted mark_moment (answers_always _ _ _ (λ f a r g h. search rules)))

pub returns-clause-jobs : goal.returns-clause-jobs
returns-clause-jobs c =
    subst (IsInterleaving (λ (j : Job). j.lane) (jobs_by_lane c.args.self.now)) (sym c.from_vec-2.ensures)
    (sorted_interleaving (λ (j : Job). j.lane) job_sooner job_sooner_weak (jobs_by_lane c.args.self.now) c.into_vec-jobs.result.items c.sort_by_key-2.new.self.items
    (c.into_vec-jobs.ensures ∙ c.in_ok-trails.ensures.jobs) c.requires.jobs c.requires.jobs_order c.in_ok-sort_by_key-2.ensures.permutation
    (c.in_ok-sort_by_key-2.ensures.sorted job_moment (answers_always _ _ _ (λ f a r g h. search rules)))
    (c.in_ok-sort_by_key-2.ensures.stable job_moment (answers_always _ _ _ (λ f a r g h. search rules))))

pub returns-clause-jobs_order : goal.returns-clause-jobs_order
returns-clause-jobs_order c =
    subst AreJobsInOrder (sym c.from_vec-2.ensures) (c.in_ok-sort_by_key-2.ensures.sorted job_moment (answers_always _ _ _ (λ f a r g h. search rules)))
