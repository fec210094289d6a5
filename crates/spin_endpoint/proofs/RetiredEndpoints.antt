-- A list of endpoints that are retired, and one more.
use Rattle.std.proofs.Common.{◌≡◌, ◌<◌, ◌+◌, ℕ, Bool, false, List, [], ◌∷◌, length, take, get_or, set, refl, sym, ap, ◌∙◌, arith, ⊎_elim}
use Rattle.std.proofs.lemmas.Bool.{cases_eq}
use Rattle.std.proofs.lemmas.List.{get_or-set_other, take_more}
use Rattle.std.proofs.lemmas.List.Sums.{fold-append}
use Rattle.std.proofs.lemmas.Grind.{get_or-set_at}
use Rattle.spin_endpoint.specs.Named.{NamedEnd, stands, changed_as, retired}
use Rattle.spin_endpoint.specs.Sends.{name_of, all_retired, stands_in_turn}

pub all_retired_none : (names : List (List ℕ)) (ends : List NamedEnd) → all_retired names [] ends ≡ ends
all_retired_none names ends = refl

-- one more number is one more endpoint retired
pub all_retired_more : (names : List (List ℕ)) (numbers : List ℕ) (i d : ℕ) (ends : List NamedEnd) → i < length numbers
    → all_retired names (take (i + 1) numbers) ends ≡ changed_as (name_of names (get_or numbers i d)) retired (all_retired names (take i numbers) ends)
all_retired_more names numbers i d ends lt =
    ap (λ (ns : List ℕ). all_retired names ns ends) (take_more numbers i d lt)
    ∙ fold-append (λ (now : List NamedEnd) (number : ℕ). changed_as (name_of names number) retired now) ends (take i numbers) (get_or numbers i d ∷ [])

-- what the numbers so far left, after one more
pub step_retired : (names : List (List ℕ)) (numbers : List ℕ) (i number : ℕ) (before cur after : List NamedEnd) (name : List ℕ) → i < length numbers → number ≡ get_or numbers i 0
    → name ≡ name_of names number → cur ≡ all_retired names (take i numbers) before → after ≡ changed_as name retired cur → after ≡ all_retired names (take (i + 1) numbers) before
step_retired names numbers i number before cur after name lt is named so_far done =
    done ∙ ap (λ n. changed_as n retired cur) (named ∙ ap (λ n. name_of names n) is)
    ∙ ap (λ ends. changed_as (name_of names (get_or numbers i 0)) retired ends) so_far ∙ sym (all_retired_more names numbers i 0 before lt)

-- whether one stood at its turn
pub stood_in_turn : (names : List (List ℕ)) (numbers : List ℕ) (i : ℕ) (before cur : List NamedEnd) (name : List ℕ)
    → name ≡ name_of names (get_or numbers i 0) → cur ≡ all_retired names (take i numbers) before → stands name cur ≡ stands_in_turn names numbers before i
stood_in_turn names numbers i before cur name named so_far = ap (λ n. stands n cur) named ∙ ap (λ ends. stands (name_of names (get_or numbers i 0)) ends) so_far

-- what is noted, with one more
pub noted_more : (noted : List Bool) (i turn : ℕ) (now : Bool) (wanted : ℕ → Bool) → i < length noted → now ≡ wanted i
    → ((t : ℕ) → t < i → get_or noted t false ≡ wanted t) → turn < i + 1 → get_or (set noted i now) turn false ≡ wanted turn
noted_more noted i turn now wanted lt is so_far below =
    ⊎_elim
    (λ same. get_or-set_at noted i turn now false same lt ∙ is ∙ ap wanted (sym same))
    (λ other. get_or-set_other noted i turn now false other ∙ so_far turn (omega (arith, below, other)))
    (cases_eq turn i)
