-- The guards that a sound setup's rules impose serve their event.
use Rattle.std.proofs.Common.{◌≡◌, ℕ, zero, suc, ◌-◌, ◌<◌, ◌≤◌, ◌==◌, Bool, true, false, not, ◌&&◌, cond, List, [], ◌∷◌, length, get_or, refl, sym, ap, ◌∙◌, inl, inr, arith}
use Rattle.std.specs.Prelude.{slice_get, Option, None, Some, position, is_none, nat_lt, if◌then◌else◌}
use Rattle.std.specs.List.{list_all, position_or_len}
use Rattle.std.specs.Option.{option_map, option_map_or}
use Rattle.std.proofs.lemmas.Bool.{cases_Bool, cases_lt}
use Rattle.std.proofs.lemmas.List.Folds.{list_all_at}
use Rattle.std.proofs.lemmas.List.Sums.{prefix_len_passes}
use Rattle.std.proofs.lemmas.Option.{slice_get_cases, slice_get_within, get_or_from_slice_get}
use Rattle.spin_policy.specs.declared.rule.Rule.{Rule}
use Rattle.spin_policy.specs.declared.rule.Effect.TheVariants as effect
use Rattle.spin_policy.specs.declared.rule.Verdict.{Verdict}
use Rattle.spin_policy.specs.declared.rule.Verdict.TheVariants as verdict
use Rattle.spin_policy.specs.Imposed.{effect_guards, numbered_effect, imposed_guards}
use Rattle.spin_objects.specs.Units.{GuardUnit}
use Rattle.spin_table.specs.declared.event.EventDef.{EventDef}
use Rattle.spin_table.specs.declared.fault.SetupFault.{SetupFault}
use Rattle.spin_table.specs.declared.fault.SetupFault.TheVariants as fault
use Rattle.spin_table.specs.Setups.{SetupData, rules_of, has_authority}
use Rattle.spin_table.specs.Units.{is_fit_guard}
use Rattle.spin_table.specs.Faults.{first_fault, faults_of, IsSoundSetup, is_fit_rule, has_bad_policy}

-- a test of all elements passes at each
pub list_all-at : {X : Type 0} (p : X → Bool) (xs : List X) (at : ℕ) (x : X) → list_all p xs ≡ true → at < length xs → get_or xs at x ≡ x → p x ≡ true
list_all-at p xs at x all inside read =
    elim (cases_Bool (p (get_or xs at x))) [
      | inl passes ↦ sym (ap p read) ∙ passes
      | inr fails ↦ let no : false ≡ true = sym (list_all_at p xs at x inside fails) ∙ all in cc
    ]

past_all : (n size : ℕ) → cond (nat_lt n size) (Some n) None ≡ None → size ≤ n
past_all n size none =
    elim (cases_lt n size) [
      | inl inside ↦ let within : nat_lt n size ≡ true = grind arith in let no : Some n ≡ None = sym (ap (λ b. cond b (Some n) None) within) ∙ none in cc
      | inr past ↦ past
    ]

-- a test that passes nowhere fails at each place
pub position-fails : {X : Type 0} (p : X → Bool) (xs : List X) (at : ℕ) (x : X) → position p xs ≡ None → slice_get xs at ≡ Some x → p x ≡ false
position-fails p xs at x none read =
    let inside : at < length xs = slice_get_within xs at x read in
    let past : length xs ≤ position_or_len p xs = past_all (position_or_len p xs) (length xs) none in
    let fails : not (p (get_or xs at x)) ≡ true = prefix_len_passes (λ x. not (p x)) xs at x (omega arith) in
    sym (ap p (get_or_from_slice_get xs at x x read)) ∙ opposite (p (get_or xs at x)) fails
  where
    opposite : (b : Bool) → not b ≡ true → b ≡ false
    opposite true e = cc
    opposite false e = refl

effect_fit : (guards : List GuardUnit) (e : EventDef) (rules : List Rule) → list_all (is_fit_rule guards e) rules ≡ true → (number : ℕ)
    → list_all (is_fit_guard guards e) (effect_guards (numbered_effect rules number)) ≡ true
effect_fit guards e rules all number = choose (number == 0)
  where
    choose : (t : Bool) → list_all (is_fit_guard guards e) (effect_guards (option_map_or (λ rule. rule.effect) (if t then None else slice_get rules (number - 1)) effect.Allow)) ≡ true
    choose true = refl
    choose false =
        elim (slice_get_cases rules (number - 1)).1 [
          | inl (rule, inside, read, at) ↦
              ap (λ o. list_all (is_fit_guard guards e) (effect_guards (option_map_or (λ (r : Rule). r.effect) o effect.Allow))) read
              ∙ list_all-at (is_fit_rule guards e) rules (number - 1) rule all inside at
          | inr (past, none) ↦ ap (λ o. list_all (is_fit_guard guards e) (effect_guards (option_map_or (λ (r : Rule). r.effect) o effect.Allow))) none
        ]

imposed_fit : (guards : List GuardUnit) (e : EventDef) (rules : List Rule) → list_all (is_fit_rule guards e) rules ≡ true → (v : Verdict)
    → list_all (is_fit_guard guards e) (imposed_guards rules v) ≡ true
imposed_fit guards e rules all verdict.Allow = refl
imposed_fit guards e rules all (verdict.Deny number) = refl
imposed_fit guards e rules all (verdict.Impose number) = effect_fit guards e rules all number
imposed_fit guards e rules all (verdict.Force number) = effect_fit guards e rules all number

pub no_faults : (faults : List (Option SetupFault)) → is_none (first_fault faults) ≡ true → (k : ℕ) → get_or faults k None ≡ None
no_faults [] none k = refl
no_faults (None ∷ others) none zero = refl
no_faults (None ∷ others) none (suc k) = no_faults others none k
no_faults (Some fault ∷ others) none k = cc

pub unmapped : {A B : Type 0} (f : A → B) (o : Option A) → option_map f o ≡ None → o ≡ None
unmapped f None e = refl
unmapped f (Some x) e = cc

policy_of_setup : (d : SetupData) (event : ℕ) (e : EventDef) → IsSoundSetup d → slice_get d.events event ≡ Some e
    → (has_authority d.policies e.authority ≡ true) × (list_all (is_fit_rule d.guards e) (rules_of d.policies e.authority) ≡ true)
policy_of_setup d event e sound read =
    let fifth : option_map (λ at. fault.BadPolicy at) (position (has_bad_policy d.policies d.guards) d.events) ≡ None = no_faults (faults_of d) sound 5 in
    let policy : position (has_bad_policy d.policies d.guards) d.events ≡ None = unmapped (λ at. fault.BadPolicy at) (position (has_bad_policy d.policies d.guards) d.events) fifth in
    let good : has_bad_policy d.policies d.guards e ≡ false = position-fails (has_bad_policy d.policies d.guards) d.events event e policy read in
    both (has_authority d.policies e.authority) (list_all (is_fit_rule d.guards e) (rules_of d.policies e.authority)) good
  where
    both : (a b : Bool) → not (a && b) ≡ false → (a ≡ true) × (b ≡ true)
    both true true e = (refl, refl)
    both true false e = cc
    both false b e = cc

-- the rules of an event are given, or its native authoriser is there
pub authority_of_setup : (d : SetupData) (event : ℕ) (e : EventDef) → IsSoundSetup d → slice_get d.events event ≡ Some e → has_authority d.policies e.authority ≡ true
authority_of_setup d event e sound read = (policy_of_setup d event e sound read).0

-- what a rule of an event imposes serves the event
pub imposed_of_setup : (d : SetupData) (event : ℕ) (e : EventDef) (v : Verdict) → IsSoundSetup d → slice_get d.events event ≡ Some e
    → list_all (is_fit_guard d.guards e) (imposed_guards (rules_of d.policies e.authority) v) ≡ true
imposed_of_setup d event e v sound read = imposed_fit d.guards e (rules_of d.policies e.authority) (policy_of_setup d event e sound read).1 v
