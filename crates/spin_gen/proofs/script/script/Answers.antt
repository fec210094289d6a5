use Rattle.std.proofs.Common.{◌≡◌, ◌∙◌, sym, arith}
use Rattle.std.proofs.lemmas.Grind.{common_steps}
use Rattle.spin_gen.specs.Inner.Writing.{head_text}
use Rattle.spin_gen.proofs.ScriptText.{script_made, whole_state}
use Rattle.spin_gen.proofs.script.script.Goals as goal

pub returns-clause-text : goal.returns-clause-text
returns-clause-text c =
    let head : c.extend_from_slice.new.self ≡ head_text = grind (arith, common_steps) in
    script_made _ _ _ _ _ head c.in_ok-put_segments.ensures c.in_ok-put_last.ensures

pub returns-clause-state : goal.returns-clause-state
returns-clause-state c = c.in_ok-put_segments.ensures.state ∙ sym (whole_state _)
