-- A catalogue's bodies and checks are known by their units and natives.
use Rattle.std.proofs.Common.{◌≡◌, List, [], ◌∷◌, ◌++◌, map, refl, sym, ap, subst, ◌∙◌}
use Rattle.std.proofs.lemmas.List.{map-append}
use Rattle.spin_objects.specs.declared.unit.Body.{Body}
use Rattle.spin_objects.specs.declared.unit.Body.TheVariants as body
use Rattle.spin_objects.specs.declared.unit.Check.{Check}
use Rattle.spin_objects.specs.declared.unit.Check.TheVariants as check
use Rattle.spin_objects.specs.Units.{HandlerUnit, GuardUnit, Named, unit_of_body, unit_of_check, native_of_body, native_of_check}

head_is : {X : Type 0} (x y : X) (xs ys : List X) → x ∷ xs ≡ y ∷ ys → x ≡ y
head_is x y xs ys e = cc

tail_is : {X : Type 0} (x y : X) (xs ys : List X) → x ∷ xs ≡ y ∷ ys → xs ≡ ys
tail_is x y xs ys e = cc

-- lists of which two things are known that tell their elements apart
same_list : {X U V : Type 0} (f : X → U) (g : X → V) → ((x y : X) → f x ≡ f y → g x ≡ g y → x ≡ y) → (xs ys : List X) → map f xs ≡ map f ys → map g xs ≡ map g ys → xs ≡ ys
same_list f g one [] [] h k = refl
same_list f g one [] (y ∷ ys) h k = absurd cc
same_list f g one (x ∷ xs) [] h k = absurd cc
same_list {X} f g one (x ∷ xs) (y ∷ ys) h k =
    ap (λ (z : X). z ∷ xs) (one x y (head_is (f x) (f y) (map f xs) (map f ys) h) (head_is (g x) (g y) (map g xs) (map g ys) k))
    ∙ ap (λ (zs : List X). y ∷ zs) (same_list f g one xs ys (tail_is (f x) (f y) (map f xs) (map f ys) h) (tail_is (g x) (g y) (map g xs) (map g ys) k))

one_body : (natives : List (Named HandlerUnit)) (b c : Body) → unit_of_body natives b ≡ unit_of_body natives c → native_of_body b ≡ native_of_body c → b ≡ c
one_body natives (body.Coded sig act) (body.Coded sig' act') h k = ap (λ (u : HandlerUnit). body.Coded u.sig u.act) h
one_body natives (body.Coded sig act) (body.Native j) h k = absurd cc
one_body natives (body.Native i) (body.Coded sig act) h k = absurd cc
one_body natives (body.Native i) (body.Native j) h k = cc

one_check : (natives : List (Named GuardUnit)) (b c : Check) → unit_of_check natives b ≡ unit_of_check natives c → native_of_check b ≡ native_of_check c → b ≡ c
one_check natives (check.Coded sig t) (check.Coded sig' t') h k = ap (λ (u : GuardUnit). check.Coded u.sig u.test) h
one_check natives (check.Coded sig t) (check.Native j) h k = absurd cc
one_check natives (check.Native i) (check.Coded sig t) h k = absurd cc
one_check natives (check.Native i) (check.Native j) h k = cc

pub same_bodies : (m n : List (Named HandlerUnit)) (old new : List Body) → m ≡ n → map (unit_of_body m) new ≡ map (unit_of_body n) old → map native_of_body new ≡ map native_of_body old → new ≡ old
same_bodies m n old new is units natives =
    same_list (unit_of_body n) native_of_body (one_body n) new old (subst (λ (k : List (Named HandlerUnit)). map (unit_of_body k) new ≡ map (unit_of_body n) old) is units) natives

pub same_checks : (m n : List (Named GuardUnit)) (old new : List Check) → m ≡ n → map (unit_of_check m) new ≡ map (unit_of_check n) old → map native_of_check new ≡ map native_of_check old → new ≡ old
same_checks m n old new is units natives =
    same_list (unit_of_check n) native_of_check (one_check n) new old (subst (λ (k : List (Named GuardUnit)). map (unit_of_check k) new ≡ map (unit_of_check n) old) is units) natives

-- one body more
pub body_added : (m n : List (Named HandlerUnit)) (old new : List Body) (b : Body) → m ≡ n → map (unit_of_body m) new ≡ map (unit_of_body n) old ++ unit_of_body n b ∷ []
    → map native_of_body new ≡ map native_of_body old ++ native_of_body b ∷ [] → new ≡ old ++ b ∷ []
body_added m n old new b is units natives =
    same_bodies m n (old ++ b ∷ []) new is (units ∙ sym (map-append (unit_of_body n) old (b ∷ []))) (natives ∙ sym (map-append native_of_body old (b ∷ [])))

-- one check more
pub check_added : (m n : List (Named GuardUnit)) (old new : List Check) (b : Check) → m ≡ n → map (unit_of_check m) new ≡ map (unit_of_check n) old ++ unit_of_check n b ∷ []
    → map native_of_check new ≡ map native_of_check old ++ native_of_check b ∷ [] → new ≡ old ++ b ∷ []
check_added m n old new b is units natives =
    same_checks m n (old ++ b ∷ []) new is (units ∙ sym (map-append (unit_of_check n) old (b ∷ []))) (natives ∙ sym (map-append native_of_check old (b ∷ [])))
