-- The handler that was added last.
use Rattle.std.proofs.Common.{◌≡◌, ◌-◌, ◌<◌, ℕ, List, [], ◌∷◌, ◌++◌, length, map, Some, sym, ap, subst, ◌∙◌, arith}
use Rattle.std.specs.Prelude.{slice_get}
use Rattle.std.specs.Option.{option_map}
use Rattle.std.proofs.lemmas.List.{length-append}
use Rattle.std.proofs.lemmas.Option.{slice_get-get_or, slice_get-map}
use Rattle.std.proofs.Math.Seq.{get_or-append_seam}
use Rattle.spin_code.specs.declared.act.Act.{Act}
use Rattle.spin_values.specs.First.{numbered}
use Rattle.spin_objects.specs.Units.{HandlerUnit}
use Rattle.spin_objects.proofs.NumberedItems.{numbered-reads}

some_is : (a b : Act) → Some a ≡ Some b → a ≡ b
some_is a b e = cc

abbrev act_in : HandlerUnit → Act
act_in u = u.act

last_of : (units : List HandlerUnit) (u : HandlerUnit) (number : ℕ) (a : Act) → number ≡ length (units ++ u ∷ []) → numbered (map act_in (units ++ u ∷ [])) number ≡ Some a → a ≡ u.act
last_of units u number a e read =
    let at : number - 1 ≡ length units = omega (arith, length-append units (u ∷ [])) in
    let inside : length units < length (units ++ u ∷ []) = omega (arith, length-append units (u ∷ [])) in
    let there : slice_get (units ++ u ∷ []) (length units) ≡ Some u = slice_get-get_or (units ++ u ∷ []) (length units) u inside ∙ ap (λ (z : HandlerUnit). Some z) (get_or-append_seam units u [] u) in
    let known : slice_get (map act_in (units ++ u ∷ [])) (number - 1) ≡ Some u.act =
    ap (slice_get (map act_in (units ++ u ∷ []))) at ∙ slice_get-map act_in (units ++ u ∷ []) (length units) ∙ ap (option_map act_in) there in
    some_is a u.act (sym (numbered-reads (map act_in (units ++ u ∷ [])) number a read) ∙ known)

pub last_is : (all units : List HandlerUnit) (u : HandlerUnit) (number : ℕ) (a : Act) → all ≡ units ++ u ∷ [] → number ≡ length all → numbered (map (λ x. x.act) all) number ≡ Some a → a ≡ u.act
last_is all units u number a is e read =
    last_of units u number a (e ∙ ap length is) (subst (λ (hs : List HandlerUnit). numbered (map act_in hs) number ≡ Some a) is read)
