use Rattle.std.proofs.Common.{ap, ◌∙◌}
use Rattle.spin_table.specs.SetupOf.{data_of}
use Rattle.spin_report.proofs.AnswerUniqueness.{one_reply}
use Rattle.spin_vm.specs.declared.came.Came.{Came}
use Rattle.spin_vm.specs.declared.came.Came.TheVariants as came
use Rattle.spin_vm.specs.Spaces.{page_of, access_came, raise_of, faulted, mapped}
use Rattle.spin_vm.proofs.answering.access.Goals as goal

pub returns-clause-came : goal.returns-clause-came
returns-clause-came g c reply are =
    let page = page_of c.args.address in
    let f = c.in-Err.fault in
    let asked = raise_of f c.args.number page c.args.write in
    let same = one_reply (data_of c.args.setup.now) c.args.version.now.state asked c.in_ok-reply.reply (reply asked) c.in_ok-reply.ensures (are asked) in
    ap (came.Faulted f c.in_ok-reply.reply) c.frame_given-frame.ensures
    ∙ ap (faulted f) same
    ∙ ap (access_came reply c.args.number page c.args.write) c.in-Err.ensures

pub returns-clause-space : goal.returns-clause-space
returns-clause-space g c reply are =
    let page = page_of c.args.address in
    let s = c.args.space.now in
    c.in_ok-map.ensures.pages ∙ ap (λ (x : Came). record s { pages = mapped page x s.pages }) (returns-clause-came g c reply are)
