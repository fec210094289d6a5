use Rattle.std.proofs.Common.{List, ℕ, ◌++◌, sym, ap, ◌∙◌}
use Rattle.std.proofs.lemmas.List.{append-nil, append_assoc}
use Rattle.spin_grammar.specs.Lines.{Barrier}
use Rattle.spin_script.specs.Canonical.{line_text}
use Rattle.spin_gen.specs.Drafts.{packet_line}
use Rattle.spin_gen.specs.Inner.Writing.{packets_text}
use Rattle.spin_gen.proofs.ScriptText.{packets_none, packets_more}
use Rattle.spin_gen.proofs.script.put_last.Goals as goal

pub loop-lane-init : goal.loop-lane-init
loop-lane-init c =
    c.in_ok-put_barrier.ensures
    ∙ sym (append-nil (c.args.out.now ++ line_text Barrier))
    ∙ ap (λ (t : List ℕ). c.args.out.now ++ line_text Barrier ++ t) (sym packets_none)

pub loop-lane-preserved : goal.loop-lane-preserved
loop-lane-preserved c =
    let front = c.args.out.now ++ line_text Barrier in
    let n = c.loop-lane.lane in
    c.in_ok-put_packets.ensures
    ∙ ap (λ (t : List ℕ). t ++ line_text (packet_line n)) c.loop-lane.invariant
    ∙ append_assoc front (packets_text n) (line_text (packet_line n))
    ∙ ap (λ (t : List ℕ). front ++ t) (sym (packets_more n))
