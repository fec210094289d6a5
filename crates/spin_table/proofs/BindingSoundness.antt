-- The bindings of an event that a command leaves are sound.
use Rattle.std.proofs.Common.{◌≡◌, ℕ, suc, ◌+◌, ◌<◌, ◌≤◌, ◌==◌, Bool, true, false, not, ◌&&◌, cond, List, [], ◌∷◌, ◌++◌, length, get_or, map, refl, sym, ap, subst, ◌∙◌, arith, inl, inr}
use Rattle.std.specs.Prelude.{Option, Some, filter, find, IsTrue, All, Contains, if◌then◌else◌}
use Rattle.std.specs.List.{list_all}
use Rattle.std.specs.List.Sorted.{IsStrictlyIncreasing}
use Rattle.std.specs.Option.{option_map_or}
use Rattle.std.proofs.lemmas.Bool.{cases_lt, eqb-true, eq-eqb}
use Rattle.std.proofs.lemmas.List.{length-map, length-append, map-append, get_or-map, get_or_append_left}
use Rattle.std.proofs.Math.Seq.{get_or-append_seam}
use Rattle.std.proofs.lemmas.List.Elements.{All-push, All-filter, All-contains}
use Rattle.std.proofs.lemmas.List.Kept.{IsStrictlyIncreasing-filter, AllPairs-from_increasing}
use Rattle.std.proofs.lemmas.Option.{slice_get_cases}
use Rattle.spin_word.specs.declared.command.Op.{Op}
use Rattle.spin_word.specs.declared.command.Op.TheVariants as op
use Rattle.spin_word.specs.declared.command.Mode.TheVariants as mode
use Rattle.spin_word.specs.declared.command.Command.{Command}
use Rattle.spin_policy.specs.declared.rule.Rule.{Rule}
use Rattle.spin_policy.specs.declared.rule.Verdict.{Verdict}
use Rattle.spin_policy.specs.Imposed.{imposed_guards, forces_apart}
use Rattle.spin_policy.specs.Verdicts.{is_install}
use Rattle.spin_word.specs.Commands.{guard_is_used, handler_is_used}
use Rattle.spin_table.specs.Verdicts.{answer_to}
use Rattle.spin_place.specs.declared.binding.Binding.{Binding}
use Rattle.spin_place.specs.Orders.{AreDistinct}
use Rattle.spin_place.specs.Precedence.{numbers_of}
use Rattle.spin_place.proofs.Precedences.{same_binding}
use Rattle.spin_place.proofs.NumberLists.{Contains-there, Contains-cons}
use Rattle.spin_table.specs.declared.event.EventDef.{EventDef}
use Rattle.spin_table.specs.Setups.{SetupData, rules_of}
use Rattle.spin_table.specs.States.{binding_of}
use Rattle.spin_table.specs.Units.{is_fit_handler, is_fit_guard, is_fit_own_guard, has_wrong_mode}
use Rattle.spin_table.specs.Steps.{installed, replaced, replaced_at, bindings_after, mode_under}
use Rattle.spin_table.specs.Refusals.{mode_of, of_handler}
use Rattle.spin_table.specs.Soundness.{is_fit_binding}
use Rattle.spin_table.proofs.LawfulOrders.{map-filter, numbers-map}
use Rattle.spin_table.proofs.PassingCommands.{Passes, fit_handler, fit_installed, fit_guard}

-- bindings that rise by number up to the place, are few, and serve the event
pub record AreSound (d : SetupData) (place event : ℕ) (e : EventDef) (bs : List Binding) : Type 0 where
  pub rising : IsStrictlyIncreasing (numbers_of bs)
  pub installed : All (λ n. (0 < n) × (n ≤ place)) (numbers_of bs)
  pub few : length bs ≤ d.live
  pub fit : All (λ b. IsTrue (is_fit_binding d event e b)) bs

-- numbers that rise are distinct
pub distinct-from_rising : (ns : List ℕ) → IsStrictlyIncreasing ns → AreDistinct ns
distinct-from_rising ns rising = λ i j d l m same. absurd (omega (arith, AllPairs-from_increasing ns rising i j d l m))

-- the place may be later
later : (ns : List ℕ) (place : ℕ) → All (λ n. (0 < n) × (n ≤ place)) ns → All (λ n. (0 < n) × (n ≤ place + 1)) ns
later ns place all = λ k d l. let h = all k d l in (h.0, omega (arith, h.1))

kept_one : (b : Bool) {X : Type 0} (x : X) (ys : List X) (n : ℕ) → length ys ≤ n → length (cond b (x ∷ ys) ys) ≤ suc n
kept_one true x ys n h = omega arith
kept_one false x ys n h = omega arith

pub length-filter-le : {X : Type 0} (p : X → Bool) (xs : List X) → length (filter p xs) ≤ length xs
length-filter-le p [] = omega arith
length-filter-le p (x ∷ xs) = kept_one (p x) x (filter p xs) (length xs) (length-filter-le p xs)

pub AreSound-filter : (d : SetupData) (place event : ℕ) (e : EventDef) (bs : List Binding) (q : ℕ → Bool) → AreSound d place event e bs
    → AreSound d (place + 1) event e (filter (λ b. q b.number) bs)
AreSound-filter d place event e bs q s =
    let numbers : numbers_of (filter (λ (b : Binding). q b.number) bs) ≡ filter q (numbers_of bs) = map-filter (λ (b : Binding). b.number) q bs in
    record {
      rising = subst IsStrictlyIncreasing (sym numbers) (IsStrictlyIncreasing-filter q (numbers_of bs) s.rising);
      installed = subst (λ ns. All (λ n. (0 < n) × (n ≤ place + 1)) ns) (sym numbers) (All-filter q (λ n. (0 < n) × (n ≤ place + 1)) (numbers_of bs) (later (numbers_of bs) place s.installed));
      few = omega (arith, length-filter-le (λ (b : Binding). q b.number) bs, s.few);
      fit = All-filter (λ (b : Binding). q b.number) (λ b. IsTrue (is_fit_binding d event e b)) bs s.fit;
    }

-- each element of a mapped list is what is made of one of the list
All-made : {X : Type 0} (P : X → Type 0) (f : X → X) (xs : List X) → ((x : X) → Contains xs x → P (f x)) → All P (map f xs)
All-made P f xs each = λ k d l.
    elim (slice_get_cases xs k).1 [
      | inl (x, inside, read, at) ↦ subst P (sym (get_or-map f xs k x d inside ∙ ap f at)) (each x (k, inside, at))
      | inr (past, none) ↦ absurd (omega (arith, length-map xs f))
    ]

pub AreSound-map : (d : SetupData) (place event : ℕ) (e : EventDef) (bs : List Binding) (f : Binding → Binding) → ((b : Binding) → (f b).number ≡ b.number)
    → ((b : Binding) → Contains bs b → IsTrue (is_fit_binding d event e (f b)))
    → AreSound d place event e bs → AreSound d (place + 1) event e (map f bs)
AreSound-map d place event e bs f same fits s =
    let numbers = numbers-map f same bs in
    record {
      rising = subst IsStrictlyIncreasing (sym numbers) s.rising;
      installed = subst (λ ns. All (λ n. (0 < n) × (n ≤ place + 1)) ns) (sym numbers) (later (numbers_of bs) place s.installed);
      few = omega (arith, length-map bs f, s.few);
      fit = All-made (λ b. IsTrue (is_fit_binding d event e b)) f bs fits;
    }

pub AreSound-later : (d : SetupData) (place event : ℕ) (e : EventDef) (bs : List Binding) → AreSound d place event e bs → AreSound d (place + 1) event e bs
AreSound-later d place event e bs s = record { rising = s.rising; installed = later (numbers_of bs) place s.installed; few = s.few; fit = s.fit }

-- a number above all others goes on the rise
rising-push : (ns : List ℕ) (place n : ℕ) → IsStrictlyIncreasing ns → All (λ m. (0 < m) × (m ≤ place)) ns → place < n → IsStrictlyIncreasing (ns ++ n ∷ [])
rising-push ns place n rising all above k inside =
    elim (cases_lt (k + 1) (length ns)) [
      | inl within ↦
          let low : get_or (ns ++ n ∷ []) k 0 ≡ get_or ns k 0 = get_or_append_left ns (n ∷ []) 0 k (omega arith) in
          let high : get_or (ns ++ n ∷ []) (k + 1) 0 ≡ get_or ns (k + 1) 0 = get_or_append_left ns (n ∷ []) 0 (k + 1) within in
          omega (arith, rising k within)
      | inr past ↦
          let size = length-append ns (n ∷ []) in
          let last : k + 1 ≡ length ns = omega arith in
          let low : get_or (ns ++ n ∷ []) k 0 ≡ get_or ns k 0 = get_or_append_left ns (n ∷ []) 0 k (omega arith) in
          let high : get_or (ns ++ n ∷ []) (k + 1) 0 ≡ n = ap (λ i. get_or (ns ++ n ∷ []) i 0) last ∙ get_or-append_seam ns n [] 0 in
          omega (arith, (all k 0 (omega arith)).1)
    ]

pub AreSound-push : (d : SetupData) (place event : ℕ) (e : EventDef) (bs : List Binding) (b : Binding) → b.number ≡ place + 1 → length bs < d.live
    → IsTrue (is_fit_binding d event e b) → AreSound d place event e bs → AreSound d (place + 1) event e (bs ++ b ∷ [])
AreSound-push d place event e bs b number room fit s =
    let numbers : numbers_of (bs ++ b ∷ []) ≡ numbers_of bs ++ b.number ∷ [] = map-append (λ (x : Binding). x.number) bs (b ∷ []) in
    record {
      rising = subst IsStrictlyIncreasing (sym numbers) (rising-push (numbers_of bs) place b.number s.rising s.installed (omega arith));
      installed = subst (λ ns. All (λ n. (0 < n) × (n ≤ place + 1)) ns) (sym numbers)
          (All-push (λ n. (0 < n) × (n ≤ place + 1)) (numbers_of bs) b.number (later (numbers_of bs) place s.installed) (omega arith, omega arith));
      few = omega (arith, length-append bs (b ∷ []));
      fit = All-push (λ b. IsTrue (is_fit_binding d event e b)) bs b s.fit fit;
    }

-- three tests that pass
all_three : (a b c : Bool) → a ≡ true → b ≡ true → c ≡ true → (a && b && c) ≡ true
all_three true true true p q r = refl
all_three false b c p q r = cc
all_three true false c p q r = cc
all_three true true false p q r = cc

pub first_two : (a b c : Bool) → (a && b && c) ≡ true → (a ≡ true) × (b ≡ true) × (c ≡ true)
first_two true true true e = (refl, refl, refl)
first_two false b c e = cc
first_two true false c e = cc
first_two true true false e = cc

-- one that passes is found, where each that passes is the same
find_first : {X : Type 0} (b : Bool) (y x : X) (r : Option X) → (b ≡ true → y ≡ x) → (b ≡ false → r ≡ Some x) → cond b (Some y) r ≡ Some x
find_first true y x r this rest = ap Some (this refl)
find_first false y x r this rest = rest refl

find_same : {X : Type 0} (p : X → Bool) (xs : List X) (x : X) → Contains xs x → p x ≡ true → ((y : X) → Contains xs y → p y ≡ true → y ≡ x) → find p xs ≡ Some x
find_same p [] x (k, l, e) passes same = absurd (omega arith)
find_same p (y ∷ ys) x h passes same =
    find_first (p y) y x (find p ys) (same y (0, omega arith, refl))
    (λ fails. elim (Contains-cons x y ys h) [
      | inl first ↦ let no : false ≡ true = sym fails ∙ ap p first ∙ passes in cc
      | inr rest ↦ find_same p ys x rest passes (λ z at. same z (Contains-there z y ys at))
    ])

pub found_is : (bs : List Binding) (b : Binding) → AreDistinct (numbers_of bs) → Contains bs b → binding_of bs b.number ≡ Some b
found_is bs b distinct within =
    find_same (λ (x : Binding). x.number == b.number) bs b within (eq-eqb b.number b.number refl)
    (λ y at passes. same_binding bs y b distinct at within (eqb-true y.number b.number passes))

-- the imposed guards are there
abbrev pub AreImposedFit : SetupData → EventDef → List ℕ → Type 0
AreImposedFit d e guards = list_all (is_fit_guard d.guards e) guards ≡ true

-- a binding that may be replaced serves the event afterwards too
fit_replaced : (d : SetupData) (e : EventDef) (bs : List Binding) (c : Command) → c.op ≡ op.Replace → Passes d e bs c
    → AreImposedFit d e (imposed_guards (rules_of d.policies e.authority) (answer_to d.policies e bs c)) → AreDistinct (numbers_of bs)
    → All (λ b. IsTrue (is_fit_binding d c.event e b)) bs → (b : Binding) → Contains bs b
    → IsTrue (is_fit_binding d c.event e (replaced_at (rules_of d.policies e.authority) (answer_to d.policies e bs c) c b))
fit_replaced d e bs c is p imposed distinct fit b within = choose (b.number == c.target) refl
  where
    choose : (t : Bool) → (b.number == c.target) ≡ t → IsTrue (is_fit_binding d c.event e (if t then replaced (rules_of d.policies e.authority) (answer_to d.policies e bs c) c b else b))
    choose false at = All-contains (λ b. IsTrue (is_fit_binding d c.event e b)) bs b fit within
    choose true at =
        let target : c.target ≡ b.number = sym (eqb-true b.number c.target at) in
        let found : binding_of bs c.target ≡ Some b = ap (binding_of bs) target ∙ found_is bs b distinct within in
        let mode : mode_of bs c c.op ≡ b.mode = ap (mode_of bs c) is ∙ ap (λ o. option_map_or (λ (b : Binding). b.mode) o mode.Plain) found in
        let handler = fit_handler d e bs c b.mode p (ap handler_is_used is) (subst (λ m. of_handler d.handlers c (λ h. has_wrong_mode m h.act) ≡ false) mode p.mode) in
        all_three (is_fit_handler d.handlers c.event e b.mode c.handler) (is_fit_own_guard d.guards e c.guard)
        (list_all (is_fit_guard d.guards e) (imposed_guards (rules_of d.policies e.authority) (answer_to d.policies e bs c))) handler (fit_guard d e bs c p (ap guard_is_used is)) imposed

pub number-replaced : (rules : List Rule) (v : Verdict) (c : Command) (b : Binding) → (replaced_at rules v c b).number ≡ b.number
number-replaced rules v c b = choose (b.number == c.target)
  where
    choose : (t : Bool) → (if t then replaced rules v c b else b).number ≡ b.number
    choose true = refl
    choose false = refl

-- what a command leaves of sound bindings is sound
pub AreSound-after : (d : SetupData) (place : ℕ) (e : EventDef) (bs : List Binding) (c : Command) (o : Op) → c.op ≡ o
    → Passes d e bs c → AreImposedFit d e (imposed_guards (rules_of d.policies e.authority) (answer_to d.policies e bs c))
    → AreSound d place c.event e bs → AreSound d (place + 1) c.event e (bindings_after (rules_of d.policies e.authority) (answer_to d.policies e bs c) (place + 1) c o bs)
AreSound-after d place e bs c op.Install is p imposed s =
    let room : length bs < d.live = grind (arith, p.room, ap is_install is) in
    let fit = all_three (is_fit_handler d.handlers c.event e (mode_under (forces_apart (rules_of d.policies e.authority) (answer_to d.policies e bs c)) c.mode) c.handler)
    (is_fit_own_guard d.guards e c.guard) (list_all (is_fit_guard d.guards e) (imposed_guards (rules_of d.policies e.authority) (answer_to d.policies e bs c)))
    (fit_installed d e bs c (forces_apart (rules_of d.policies e.authority) (answer_to d.policies e bs c)) p is refl) (fit_guard d e bs c p (ap guard_is_used is)) imposed in
    AreSound-push d place c.event e bs (installed (rules_of d.policies e.authority) (answer_to d.policies e bs c) (place + 1) c) refl room fit s
AreSound-after d place e bs c op.Remove is p imposed s = AreSound-filter d place c.event e bs (λ n. not (n == c.target)) s
AreSound-after d place e bs c op.Replace is p imposed s =
    AreSound-map d place c.event e bs (replaced_at (rules_of d.policies e.authority) (answer_to d.policies e bs c) c)
    (number-replaced (rules_of d.policies e.authority) (answer_to d.policies e bs c) c)
    (fit_replaced d e bs c is p imposed (distinct-from_rising (numbers_of bs) s.rising) s.fit) s
AreSound-after d place e bs c op.Default is p imposed s = AreSound-later d place c.event e bs s
AreSound-after d place e bs c op.NoDefault is p imposed s = AreSound-later d place c.event e bs s
