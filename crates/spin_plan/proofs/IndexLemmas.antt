-- The index of a plan, as compiling makes it binding by binding.
use Rattle.std.proofs.Common.{◌≡◌, ℕ, ◌+◌, ◌<◌, ◌≤◌, not, List, [], ◌∷◌, ◌++◌, length, take, get_or, Option, is_some, sym, ap, subst, ◌∙◌, arith, cond}
use Rattle.std.proofs.lemmas.List.{take_all, length-take}
use Rattle.spin_code.specs.declared.expr.Expr.{Expr}
use Rattle.spin_code.specs.declared.test.Test.{Test}
use Rattle.spin_place.specs.declared.binding.Binding.{Binding}
use Rattle.spin_plan.specs.Keys.{IsKey, wanted}
use Rattle.spin_plan.specs.Planned.{IsOver, positions_from, positions_at, wants}
use Rattle.spin_plan.proofs.Positions.{positions_more, cond_not, take_push}

-- so many bindings are filed
pub record Filed (tests : List Test) (ordered : List Binding) (i : ℕ) (bindings : List Binding) (key : Option Expr) (keyed : List (ℕ × List ℕ)) (free : List ℕ) : Type 0 where
  pub key_is : IsKey tests ordered key
  pub copied : bindings ≡ take i ordered
  pub under : (c : ℕ) → positions_at keyed c ≡ positions_from (λ b. wants c (wanted tests key b)) 0 (take i ordered)
  pub others : free ≡ positions_from (λ b. not (is_some (wanted tests key b))) 0 (take i ordered)

pub filed_more : (tests : List Test) (ordered : List Binding) (i : ℕ) (bindings bindings' : List Binding)
    (key : Option Expr) (keyed keyed' : List (ℕ × List ℕ)) (free free' : List ℕ) (b copy : Binding) (w : Option ℕ) (at : ℕ)
    → Filed tests ordered i bindings key keyed free
    → i < length ordered → b ≡ get_or ordered i b
    → w ≡ wanted tests key b
    → ((c : ℕ) → positions_at keyed' c ≡ positions_at keyed c ++ cond (wants c w) (at ∷ []) [])
    → free' ≡ free ++ cond (is_some w) [] (at ∷ [])
    → bindings' ≡ bindings ++ copy ∷ [] → copy ≡ b
    → at ≡ length bindings
    → Filed tests ordered (i + 1) bindings' key keyed' free'
filed_more tests ordered i bindings bindings' key keyed keyed' free free' b copy w at before lt is wants_is keys others pushed same place =
    let here : at ≡ i = place ∙ ap length before.copied ∙ omega (arith, length-take i ordered, lt) in
    record {
      key_is = before.key_is;
      copied = pushed ∙ ap (λ bs. bs ++ copy ∷ []) before.copied ∙ ap (λ x. take i ordered ++ x ∷ []) same ∙ sym (take_push ordered i b lt is);
      under = λ c.
          keys c
          ∙ ap (λ ks. ks ++ cond (wants c w) (at ∷ []) []) (before.under c)
          ∙ ap (λ o. positions_from (λ x. wants c (wanted tests key x)) 0 (take i ordered) ++ cond (wants c o) (at ∷ []) []) wants_is
          ∙ ap (λ n. positions_from (λ x. wants c (wanted tests key x)) 0 (take i ordered) ++ cond (wants c (wanted tests key b)) (n ∷ []) []) here
          ∙ sym (positions_more (λ x. wants c (wanted tests key x)) ordered i b lt is);
      others =
          others
          ∙ ap (λ ks. ks ++ cond (is_some w) [] (at ∷ [])) before.others
          ∙ ap (λ o. positions_from (λ x. not (is_some (wanted tests key x))) 0 (take i ordered) ++ cond (is_some o) [] (at ∷ [])) wants_is
          ∙ ap (λ n. positions_from (λ x. not (is_some (wanted tests key x))) 0 (take i ordered) ++ cond (is_some (wanted tests key b)) [] (n ∷ [])) here
          ∙ ap (λ ks. positions_from (λ x. not (is_some (wanted tests key x))) 0 (take i ordered) ++ ks) (sym (cond_not (is_some (wanted tests key b)) (i ∷ []) []))
          ∙ sym (positions_more (λ x. not (is_some (wanted tests key x))) ordered i b lt is);
    }

pub filed_all : (tests : List Test) (ordered : List Binding) (i : ℕ) (bindings : List Binding) (key : Option Expr) (keyed : List (ℕ × List ℕ)) (free : List ℕ)
    → Filed tests ordered i bindings key keyed free → length ordered ≤ i
    → IsOver tests (record { bindings = bindings; key = key; keyed = keyed; free = free })
filed_all tests ordered i bindings key keyed free filed past =
    let whole : take i ordered ≡ ordered = take_all i ordered past in
    let same : ordered ≡ bindings = sym (filed.copied ∙ whole) in
    record {
      key = subst (λ bs. IsKey tests bs key) same filed.key_is;
      keyed = λ c. filed.under c ∙ ap (positions_from (λ b. wants c (wanted tests key b)) 0) (whole ∙ same);
      free = filed.others ∙ ap (positions_from (λ b. not (is_some (wanted tests key b))) 0) (whole ∙ same);
    }
