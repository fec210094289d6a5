-- What is known of a list after a call that adds to its end, or else leaves it as it was.
use Rattle.std.proofs.Common.{◌≡◌, ℕ, ◌≤◌, List, [], ◌∷◌, ◌++◌, map, length, refl, ap, sym, subst, ◌∙◌, arith}
use Rattle.std.specs.Prelude.{Option, None, Some, Result, Ok, Err, OnOk, OnErr, All}
use Rattle.std.proofs.lemmas.Grind.{common_steps}
use Rattle.std.proofs.lemmas.List.{map-append}
use Rattle.std.proofs.lemmas.List.Elements.{All-push}
use Rattle.std.proofs.lemmas.Result.{on_ok_weaker}
use Rattle.spin_code.specs.declared.check.ActFault.{ActFault}
use Rattle.spin_objects.specs.declared.kinds.NativeFault.{NativeFault}
use Rattle.spin_objects.specs.declared.kinds.TheConstants.{MAX_NATIVES}
use Rattle.spin_objects.specs.declared.unit.TheConstants.{MAX_UNITS}
use Rattle.spin_objects.specs.declared.unit.Body.{Body}
use Rattle.spin_objects.specs.declared.unit.Body.TheVariants as body
use Rattle.spin_objects.specs.declared.unit.Check.{Check}
use Rattle.spin_objects.specs.declared.unit.Check.TheVariants as check
use Rattle.spin_objects.specs.declared.unit.CatalogueFault.{CatalogueFault}
use Rattle.spin_objects.specs.Adding.{handler_refusal, guard_refusal, adding_refusal, IsBy, IsNativeBy}
use Rattle.spin_objects.specs.There.{IsBodyThere, IsCheckThere}

-- what the elements are known by grows by what the new one is known by
pub known_after : {A B D F : Type 0} (known : A → B) (result : Result D F) (old new : List A) (x : A)
    → OnOk result (new ≡ old ++ x ∷ []) → OnOk result (map known new ≡ map known old ++ known x ∷ [])
known_after known result old new x = on_ok_weaker result (λ is. ap (map known) is ∙ map-append known old (x ∷ []))

-- what holds in any case holds of an added element
pub in_any_case : {D F P : Type 0} (result : Result D F) → P → OnOk result P
in_any_case (Ok done) this = this
in_any_case (Err fault) this = tt

-- what holds of each element and of the new one holds of each element then
pub all_after : {A D F : Type 0} (P : A → Type 0) (result : Result D F) (old new : List A) (x : A)
    → OnOk result (new ≡ old ++ x ∷ []) → OnErr result (new ≡ old) → All P old → OnOk result (P x) → All P new
all_after P (Ok done) old new x added kept all this = subst (All P) (sym added) (All-push P old x all this)
all_after P (Err fault) old new x added kept all this = subst (All P) (sym kept) all

-- what was added was not refused
unrefused : {D : Type 0} (first : Option CatalogueFault) (done : D) → IsBy first (Ok done) → first ≡ None
unrefused None done fits = refl
unrefused (Some what) done fits = absurd (cc (fits))

native_unrefused : (first : Option NativeFault) (done : Unit {0}) → IsNativeBy first (Ok done) → first ≡ None
native_unrefused None done fits = refl
native_unrefused (Some what) done fits = absurd (cc (fits))

-- natives stay few, since one more than the greatest number is refused
pub few_natives : {A B : Type 0} (known : A → B) (name_of : B → List ℕ) (name : List ℕ) (checked : Result (Unit {0}) ActFault)
    (result : Result (Unit {0}) NativeFault) (old new : List A) (x : A)
    → IsNativeBy (adding_refusal name (map name_of (map known old)) checked) result → length old ≤ MAX_NATIVES
    → OnOk result (new ≡ old ++ x ∷ []) → OnErr result (new ≡ old) → length new ≤ MAX_NATIVES
few_natives known name_of name checked (Ok done) old new x fits few added kept =
    let none = native_unrefused (adding_refusal name (map name_of (map known old)) checked) done fits in
    grind (arith, common_steps)
few_natives known name_of name checked (Err fault) old new x fits few added kept = grind (arith, common_steps)

-- the answer is by the first refusal, told of the numbers as lists have them
pub answered : {D : Type 0} (refusal_of : ℕ → ℕ → Option CatalogueFault) (refusal : Option CatalogueFault) (result : Result D CatalogueFault)
    (natives natives' count count' : ℕ) → refusal ≡ refusal_of natives count → natives ≡ natives' → count ≡ count'
    → IsBy refusal result → IsBy (refusal_of natives' count') result
answered refusal_of refusal result natives natives' count count' is same_natives same_count by_refusal =
    subst (λ first. IsBy first result) (is ∙ ap (λ n. refusal_of n count) same_natives ∙ ap (refusal_of natives') same_count) by_refusal

-- handlers stay few, since one more than the greatest number is refused
pub few_bodies : {D : Type 0} (b : Body) (result : Result D CatalogueFault) (natives : ℕ) (old new : List Body) (x : Body)
    → IsBy (handler_refusal b natives (length old)) result → length old ≤ MAX_UNITS
    → OnOk result (new ≡ old ++ x ∷ []) → OnErr result (new ≡ old) → length new ≤ MAX_UNITS
few_bodies b (Ok done) natives old new x fits few added kept =
    let none = unrefused (handler_refusal b natives (length old)) done fits in
    grind (arith, common_steps)
few_bodies b (Err fault) natives old new x fits few added kept = grind (arith, common_steps)

-- guards stay few, since one more than the greatest number is refused
pub few_checks : {D : Type 0} (c : Check) (result : Result D CatalogueFault) (natives : ℕ) (old new : List Check) (x : Check)
    → IsBy (guard_refusal c natives (length old)) result → length old ≤ MAX_UNITS
    → OnOk result (new ≡ old ++ x ∷ []) → OnErr result (new ≡ old) → length new ≤ MAX_UNITS
few_checks c (Ok done) natives old new x fits few added kept =
    let none = unrefused (guard_refusal c natives (length old)) done fits in
    grind (arith, common_steps)
few_checks c (Err fault) natives old new x fits few added kept = grind (arith, common_steps)

-- a handler that is not refused is coded, or a native that is there
pub body_fits : {D : Type 0} (b : Body) (result : Result D CatalogueFault) (natives count : ℕ)
    → IsBy (handler_refusal b natives count) result → OnOk result (IsBodyThere natives b)
body_fits (body.Coded sig act) (Ok done) natives count fits = tt
body_fits (body.Native native) (Ok done) natives count fits =
    let none = unrefused (handler_refusal (body.Native native) natives count) done fits in
    grind (arith, common_steps)
body_fits b (Err fault) natives count fits = tt

-- a guard that is not refused is coded, or a native that is there
pub check_fits : {D : Type 0} (c : Check) (result : Result D CatalogueFault) (natives count : ℕ)
    → IsBy (guard_refusal c natives count) result → OnOk result (IsCheckThere natives c)
check_fits (check.Coded sig test) (Ok done) natives count fits = tt
check_fits (check.Native native) (Ok done) natives count fits =
    let none = unrefused (guard_refusal (check.Native native) natives count) done fits in
    grind (arith, common_steps)
check_fits c (Err fault) natives count fits = tt
