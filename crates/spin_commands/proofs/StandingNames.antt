-- The names under which an endpoint stands, gathered one after another.
use Rattle.std.proofs.Common.{◌≡◌, ◌&&◌, ℕ, Bool, true, false, List, [], get_or, refl, sym, ap, ◌∙◌}
use Rattle.std.specs.Prelude.{bytes_eq}
use Rattle.std.specs.List.{list_any, filter}
use Rattle.std.proofs.lemmas.List.Elements.{All-from_get_or}
use Rattle.std.proofs.lemmas.List.Folds.{list_any_at}
use Rattle.std.proofs.lemmas.Map.Views.{any-filter_same}
use Rattle.std.proofs.lemmas.Slice.Eq.{bytes_eq-Decides}
use Rattle.spin_endpoint.specs.Named.{NamedEnd, stands}
use Rattle.spin_check.specs.RunTexts.{StandAs}

and_true : (b c : Bool) → c ≡ true → (b && c) ≡ b
and_true true c is = is
and_true false c is = refl

-- just those endpoints stand whose names were kept
pub stand_as : (endpoints : List (List ℕ)) (ends : List NamedEnd) → StandAs endpoints (filter (λ name. stands name ends) endpoints) ends
stand_as endpoints ends =
    All-from_get_or (λ name. stands name ends ≡ list_any (bytes_eq name) (filter (λ other. stands other ends) endpoints)) endpoints [] (λ i there.
    let name = get_or endpoints i [] in
    let same : list_any (bytes_eq name) endpoints ≡ true = list_any_at (bytes_eq name) endpoints i [] there ((bytes_eq-Decides name name).1 refl) in
    let kept = any-filter_same (bytes_eq name) (λ other. stands other ends) (stands name ends) (λ other is. ap (λ n. stands n ends) (sym ((bytes_eq-Decides name other).0 is))) endpoints in
    sym (kept ∙ and_true (stands name ends) (list_any (bytes_eq name) endpoints) same))
