use Rattle.std.proofs.Common.{◌≡◌, ◌∙◌, ◌<◌, ℕ, [], ◌∷◌, sym, subst, arith}
use Rattle.std.specs.Prelude.{All}
use Rattle.std.proofs.lemmas.List.Elements.{All-nil, All-cons}
use Rattle.std.proofs.lemmas.List.Kept.{AllPairs-cons}
use Rattle.spin_script.specs.declared.script.Line.{Line}
use Rattle.spin_script.specs.States.{deed_count}
use Rattle.spin_script.specs.Soundness.{IsValidWork}
use Rattle.spin_script.specs.Segments.{IsOnLane}
use Rattle.spin_run.specs.Segments.{IsFitSegment}
use Rattle.spin_tests.proofs.lanes.both_install.Goals as goal

record Fits (number : ℕ) (line : Line) : Type 0 where
  pub number_is : line.number ≡ number
  pub lane : IsOnLane 2 line
  pub valid : IsValidWork line.work
  pub one : deed_count line.work ≡ 1

both : (P : Line → Type 0) (a b : Line) → P a → P b → All P (a ∷ b ∷ [])
both P a b p q = All-cons P a (b ∷ []) p (All-cons P b [] q (All-nil P))

two : (a b : Line) → Fits 1 a → Fits 2 b → IsFitSegment 2 (a ∷ b ∷ [])
two a b f g = record {
  numbers = AllPairs-cons (λ (x y : Line). x.number < y.number) a
      (b ∷ []) (All-cons (λ (y : Line). a.number < y.number) b [] (omega (arith, f.number_is, g.number_is)) (All-nil (λ (y : Line). a.number < y.number)))
      (λ i j d lt within. absurd (omega arith));
  on_lane = both (IsOnLane 2) a b f.lane g.lane;
  valid = both (λ line. IsValidWork line.work) a b f.valid g.valid;
  few = omega (arith, f.one, g.one);
}

pub returns : goal.returns
returns c =
    let first : Fits 1 c.line_of.result = record { number_is = c.line_of.ensures.number; lane = c.line_of.ensures.lane; valid = c.line_of.ensures.valid; one = c.line_of.ensures.one } in
    let second : Fits 2 c.line_of-2.result = record { number_is = c.line_of-2.ensures.number; lane = c.line_of-2.ensures.lane; valid = c.line_of-2.ensures.valid; one = c.line_of-2.ensures.one } in
    subst (IsFitSegment 2) (sym (c.from_vec.ensures ∙ c.in_ok-vec.ensures.items)) (two c.line_of.result c.line_of-2.result first second)
