-- Sends by the flags of their endpoints.
use Rattle.std.proofs.Common.{◌≡◌, ◌<◌, ℕ, Bool, true, false, cond, List, [], ◌∷◌, length, get_or, refl, sym, ap, ◌∙◌, inl, inr, arith}
use Rattle.std.specs.Prelude.{◌==◌, ◌&&◌, nat_lt, filter, count_by}
use Rattle.std.proofs.lemmas.Bool.{cases_lt}
use Rattle.std.proofs.lemmas.Bool.Decides.{nat_tests}
use Rattle.std.proofs.lemmas.List.{get_or_past}
use Rattle.std.proofs.lemmas.List.Sums.{sum_by-cons}
use Rattle.spin_endpoint.specs.Named.{NamedEnd, stands}
use Rattle.spin_endpoint.specs.Sends.{SentSeen, name_of, lost_to}
use Rattle.spin_check.specs.Inner.Standings.{AreFlags, numbers_of}
use Rattle.spin_check.proofs.EndpointFlags.{lost_by_flag}
use Rattle.spin_whole.specs.Runs.{is_received}
use Rattle.spin_whole.specs.Inner.Flags.{is_set}

count_numbers : (n : ℕ) (sends : List SentSeen) → count_by (λ m. m == n) (numbers_of sends) ≡ count_by (λ (s : SentSeen). s.endpoint == n) sends
count_numbers n [] = refl
count_numbers n (s ∷ sends) =
    let one = sum_by-cons (λ m. cond {A = ℕ} (m == n) 1 0) s.endpoint (numbers_of sends) in
    let two = sum_by-cons (λ (x : SentSeen). cond {A = ℕ} (x.endpoint == n) 1 0) s sends in
    omega (arith, one, two, count_numbers n sends)

-- what is lost to a number, by its flag
pub lost_number : (names : List (List ℕ)) (ends : List NamedEnd) (flags : List Bool) (sends : List SentSeen) (n : ℕ) (b : Bool)
    → AreFlags names ends flags → n < length names → get_or flags n false ≡ b → lost_to names ends sends n ≡ cond b 0 (count_by (λ (s : SentSeen). s.endpoint == n) sends)
lost_number names ends flags sends n b are lt is =
    lost_by_flag names ends flags sends (numbers_of sends) n b are lt is refl ∙ ap (λ k. cond b 0 k) (count_numbers n sends)

-- a send is received where the flag of its number is set
received_is : (names : List (List ℕ)) (ends : List NamedEnd) (flags : List Bool) (n : ℕ) → AreFlags names ends flags
    → is_set flags n ≡ (nat_lt n (length names) && stands (name_of names n) ends)
received_is names ends flags n are =
    elim (cases_lt n (length names)) [
      | inl lt ↦
          let there : nat_lt n (length names) ≡ true = grind (arith, nat_tests, lt) in
          are.each n lt ∙ ap (λ b. b && stands (name_of names n) ends) (sym there)
      | inr past ↦
          let there : nat_lt n (length names) ≡ false = grind (arith, nat_tests, past) in
          get_or_past flags n false (omega (arith, past, are.all)) ∙ ap (λ b. b && stands (name_of names n) ends) (sym there)
    ]

pub received_by_flags : (names : List (List ℕ)) (ends : List NamedEnd) (flags : List Bool) (sends : List SentSeen) → AreFlags names ends flags
    → filter (λ (s : SentSeen). is_set flags s.endpoint) sends ≡ filter (is_received names ends) sends
received_by_flags names ends flags [] are = refl
received_by_flags names ends flags (s ∷ sends) are =
    let same = received_is names ends flags s.endpoint are in
    let rest = received_by_flags names ends flags sends are in
    λ i. cond (same i) (s ∷ rest i) (rest i)
