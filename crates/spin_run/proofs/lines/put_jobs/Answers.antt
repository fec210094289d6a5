use Rattle.std.proofs.Common.{◌++◌, map, sym, ap, ◌∙◌, arith}
use Rattle.spin_text.specs.Words.{text_of}
use Rattle.spin_proto.specs.declared.deed.Job.{Job}
use Rattle.spin_proto.specs.declared.reply.Reply.{Reply}
use Rattle.spin_report.specs.Lines.{JobSeen, job_seen, job_line}
use Rattle.spin_run.proofs.TextLines.{text_added_side, side_all}
use Rattle.spin_run.proofs.lines.put_jobs.Goals as goal

abbrev one_of : Job × Reply → JobSeen
one_of done = job_seen done.0 done.1

pub loop-at-preserved : goal.loop-at-preserved
loop-at-preserved c =
    text_added_side one_of job_line c.args.text.now c.loop-at.text c.job_text.new.out c.args.jobs.now c.args.replies.now c.loop-at.at c.index-jobs-at.result c.index-replies-at.result c.requires.room
    (omega (arith, c.loop-at-test.true)) (sym c.index-jobs-at.is) (sym c.index-replies-at.is) c.loop-at.invariant c.in_ok-job_text.ensures.ok

pub returns : goal.returns
returns c =
    c.loop-at.invariant ∙ ap (λ x. c.args.text.now ++ text_of (map job_line x)) (side_all one_of c.args.jobs.now c.args.replies.now c.loop-at.at c.requires.room (omega (arith, c.loop-at-test.false)))
