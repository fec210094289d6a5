-- The references to what is outside, from call to call.
use Rattle.std.proofs.Common.{◌∙◌, ℕ}
use Rattle.spin_run.specs.declared.outside.Outside.{Outside}
use Rattle.spin_run.specs.Inner.Outside.{HoldsSame}

-- the same ones after two calls
pub holds_on : {S T A : Type 0} {B : A → Type 0} (reference : T → ℕ) (a b c : Outside S T A B) → HoldsSame reference a b → HoldsSame reference b c → HoldsSame reference a c
holds_on reference a b c first second = record {
  capture = second.capture ∙ first.capture;
  source = second.source ∙ first.source;
  out = second.out ∙ first.out;
  ends = second.ends ∙ first.ends;
  within = second.within ∙ first.within;
}
