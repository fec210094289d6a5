use Rattle.std.proofs.Common.{subst}
use Rattle.spin_grammar.specs.Words.{words}
use Rattle.spin_script.specs.States.{NativeData, natives_seen}
use Rattle.spin_c.specs.Wholes.{RunsTo}
use Rattle.spin_c.specs.Packets.{given_if}
use Rattle.spin_c.proofs.spin_run_text.Goals as goal

pub returns : goal.returns
returns c =
    let whole = c.run_whole-whole.result in
    let with = subst (λ packets. RunsTo (natives_seen c.new.result) c.args.text.now packets (words c.args.standing.now) whole) c.given_if-given.ensures c.run_whole-whole.ensures in (
      whole,
      subst (λ (n : NativeData). RunsTo n c.args.text.now (given_if c.args.has_packets c.args.packets.now) (words c.args.standing.now) whole)
          (λ i. record { handlers = c.new.ensures.handlers i; guards = c.new.ensures.guards i; authorisers = c.new.ensures.authorisers i })
          with,
      c.tell_whole.ensures,
    )
