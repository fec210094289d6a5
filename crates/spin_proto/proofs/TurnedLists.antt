-- A list that is turned round, of which each item is taken from the end.
use Rattle.std.proofs.Common.{◌≡◌, List, [], ◌∷◌, ◌++◌, reverse, ap, ◌∙◌}
use Rattle.std.proofs.lemmas.List.{reverse-append, reverse-reverse}

pub taken : {X : Type 0} (items rest : List X) (item : X) → items ≡ rest ++ item ∷ [] → reverse items ≡ item ∷ reverse rest
taken {X} items rest item is = ap (λ (xs : List X). reverse xs) is ∙ reverse-append rest (item ∷ [])

pub turned_back : {X : Type 0} (given items : List X) → items ≡ reverse given → reverse items ≡ given
turned_back {X} given items is = ap (λ (xs : List X). reverse xs) is ∙ reverse-reverse given

pub nothing_turned : {X : Type 0} (items : List X) → items ≡ [] → reverse items ≡ []
nothing_turned {X} items none = ap (λ (xs : List X). reverse xs) none
