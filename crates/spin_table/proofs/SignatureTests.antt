-- The tests of signatures decide whether these are equal.
use Rattle.std.proofs.Common.{◌≡◌, List, Bool, true, false, refl, ap, ◌∙◌}
use Rattle.std.specs.Bool.{Decides}
use Rattle.std.specs.Cmp.Lexicographic.{pointwise}
use Rattle.std.proofs.lemmas.Bool.Decides.{Decides-and, Decides-like, same_from_decides}
use Rattle.std.proofs.lemmas.Slice.Eq.{slice_eq-Decides}
use Rattle.spin_values.specs.declared.types.Kind.{Kind}
use Rattle.spin_values.specs.declared.types.Kind.TheVariants.{Word, Bytes}
use Rattle.spin_values.specs.declared.types.Param.{Param}
use Rattle.spin_values.specs.declared.types.EventType.{EventType}
use Rattle.spin_code.specs.Uses.{same_kind}
use Rattle.spin_table.specs.Units.{same_truth, same_param, same_signature}

kind_Decides : (a b : Kind) → Decides (same_kind a b) (a ≡ b)
kind_Decides Word Word = (λ e. refl, λ e. refl)
kind_Decides Word Bytes = (λ e. cc, λ e. cc)
kind_Decides Bytes Word = (λ e. cc, λ e. cc)
kind_Decides Bytes Bytes = (λ e. refl, λ e. refl)

truth_Decides : (a b : Bool) → Decides (same_truth a b) (a ≡ b)
truth_Decides true true = (λ e. refl, λ e. refl)
truth_Decides true false = (λ e. cc, λ e. cc)
truth_Decides false true = (λ e. cc, λ e. cc)
truth_Decides false false = (λ e. refl, λ e. refl)

same_as_param : (a b : Param) → a.kind ≡ b.kind → a.var ≡ b.var → a ≡ b
same_as_param a b p g =
    let first : a ≡ record a { kind = b.kind } = ap (λ (k : Kind). record a { kind = k }) p in
    first ∙ ap (λ (v : Bool). record b { var = v }) g

param_Decides : (a b : Param) → Decides (same_param a b) (a ≡ b)
param_Decides a b =
    Decides-like _ (λ p. same_as_param a b p.0 p.1) (λ e. (ap (λ (p : Param). p.kind) e, ap (λ (p : Param). p.var) e)) (Decides-and _ _ (kind_Decides a.kind b.kind) (truth_Decides a.var b.var))

same_as_event : (a b : EventType) → a.gives ≡ b.gives → a.params ≡ b.params → a ≡ b
same_as_event a b g p =
    let first : a ≡ record a { params = b.params } = ap (λ (k : List Param). record a { params = k }) p in
    first ∙ ap (λ (v : Bool). record b { gives = v }) g

signature_Decides : (a b : EventType) → Decides (same_signature a b) (a ≡ b)
signature_Decides a b =
    let params : Decides (pointwise same_param a.params b.params) (a.params ≡ b.params) = slice_eq-Decides param_Decides a.params b.params _ refl in
    Decides-like _ (λ p. same_as_event a b p.0 p.1) (λ e. (ap (λ (p : EventType). p.gives) e, ap (λ (p : EventType). p.params) e)) (Decides-and _ _ (truth_Decides a.gives b.gives) params)

-- a truth that decides equality is the test's
pub is_same_signature : (a b : EventType) (r : Bool) → Decides r (a ≡ b) → r ≡ same_signature a b
is_same_signature a b r says = same_from_decides r (same_signature a b) says (signature_Decides a b)

pub is_same_kinds : (a b : List Kind) (r : Bool) → Decides r (a ≡ b) → r ≡ pointwise same_kind a b
is_same_kinds a b r says = same_from_decides r (pointwise same_kind a b) says (slice_eq-Decides kind_Decides a b _ refl)
