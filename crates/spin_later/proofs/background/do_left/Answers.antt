use Rattle.std.proofs.Common.{All, sym, subst}
use Rattle.std.specs.Prelude.{IfSome}
use Rattle.std.proofs.lemmas.List.Elements.{All-push}
use Rattle.spin_table.specs.SetupOf.{data_of}
use Rattle.spin_later.specs.Inner.Work.{IsRight}
use Rattle.spin_later.proofs.background.do_left.Goals as goal
use Rattle.spin_later.proofs.background.do_left.Goals.{in-Some+in_ok-push, in_default}

pub loop-task-preserved : goal.loop-task-preserved
loop-task-preserved g c =
    let P = IsRight (data_of c.args.setup.now) c.args.batches.now in
    elim c.match-branch-2.branch [
      | in-Some+in_ok-push w ↦
          let right = subst (λ o. IfSome o P) w.in-Some.is c.in_ok-reply.ensures in
          let more = subst (All P) (sym w.in_ok-push.ensures.items) (All-push P c.loop-task.done.items w.in-Some.reply c.loop-task.invariant right) in
          subst (λ v. All P v.items) (sym w.done-is) more
      | in_default w ↦ subst (λ v. All P v.items) (sym w.done-is) c.loop-task.invariant
    ]
