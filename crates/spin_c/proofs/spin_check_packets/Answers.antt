use Rattle.std.proofs.Common.{subst}
use Rattle.std.specs.Prelude.{Some}
use Rattle.spin_grammar.specs.Words.{words}
use Rattle.spin_script.specs.States.{NativeData}
use Rattle.spin_c.specs.Verdicts.{IsVerdict}
use Rattle.spin_c.proofs.spin_check_packets.Goals as goal

pub returns : goal.returns
returns c = (
  c.judge-verdict.result,
  subst (λ (n : NativeData). IsVerdict n c.args.text.now (Some c.args.packets.now) (words c.args.standing.now) c.args.report.now c.judge-verdict.result)
      (λ i. record { handlers = c.new.ensures.handlers i; guards = c.new.ensures.guards i; authorisers = c.new.ensures.authorisers i })
      c.judge-verdict.ensures,
  c.number_of.ensures,
  c.fault_of.ensures,
)
