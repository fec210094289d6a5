-- Which endpoints stand, by number.
use Rattle.std.proofs.Common.{◌≡◌, ◌≢◌, ℕ, ◌+◌, ◌<◌, ◌≤◌, Bool, true, false, cond, List, [], ◌∷◌, ◌++◌, map, length, take, get_or, set, refl, sym, ap, subst, ◌∙◌, append_assoc, inl, inr, arith}
use Rattle.std.specs.Prelude.{bytes_eq, ◌&&◌, ◌==◌, ◌||◌, not, filter, count_by, AllPairs}
use Rattle.std.specs.List.{enumerate_from}
use Rattle.std.proofs.lemmas.Bool.{cases_eq, cases_lt}
use Rattle.std.proofs.lemmas.Bool.Decides.{nat_tests}
use Rattle.std.proofs.lemmas.Slice.Eq.{bytes_eq-Decides}
use Rattle.std.proofs.lemmas.List.{append-nil, map-append, length-set, length-map, get_or-set_same, get_or-set_other, get_or-map, take_more, take_all}
use Rattle.std.proofs.lemmas.List.Elements.{filter-append}
use Rattle.std.proofs.lemmas.List.FromFn.{length-enumerate_from, get_or-enumerate_from}
use Rattle.std.proofs.lemmas.List.Sums.{sum_by-cons}
use Rattle.spin_endpoint.specs.Endpoints.{EndpointSeen}
use Rattle.spin_endpoint.specs.Named.{NamedEnd, stands_as, stands, changed_as, retired}
use Rattle.spin_endpoint.specs.Sends.{SentSeen, name_of, received, all_received, all_retired, stands_in_turn, is_lost, lost_to}
use Rattle.spin_endpoint.proofs.RetiredEndpoints.{all_retired_none, all_retired_more}
use Rattle.spin_text.specs.Words.{ended, text_of}
use Rattle.spin_report.specs.Histories.{Retirement, retire_line, lost_line, lost_lines}
use Rattle.spin_report.specs.Runs.{retirements, lost_counts}
use Rattle.spin_report.proofs.Retirements.{turns, retirements_are}
use Rattle.spin_check.specs.Inner.Standings.{AreFlags, numbers_of}
use Rattle.spin_check.proofs.ReplayLemmas.{text_of-append}

abbrev end_of : List ℕ → Bool → EndpointSeen → NamedEnd
end_of name b object = record { name = name; stands = b; object = object }

abbrev struck : List ℕ → NamedEnd → NamedEnd
struck name end = cond (stands_as name end) (retired end) end

-- a retired name has no endpoint that stands under it
struck_same : (name m : List ℕ) (b : Bool) (object : EndpointSeen) → stands_as name (struck name (end_of m b object)) ≡ false
struck_same name m false object = refl
struck_same name m true object = go (bytes_eq m name) refl where
  go : (t : Bool) → bytes_eq m name ≡ t → stands_as name (cond t (retired (end_of m true object)) (end_of m true object)) ≡ false
  go true e = refl
  go false e = e

stands_same : (name : List ℕ) (ends : List NamedEnd) → stands name (changed_as name retired ends) ≡ false
stands_same name [] = refl
stands_same name (end ∷ ends) =
    (λ i. struck_same name end.name end.stands end.object i || stands_same name ends i)

-- and each other name is as before
struck_other : (q name m : List ℕ) (b : Bool) (object : EndpointSeen) → (q ≡ name → ⊥) → stands_as q (struck name (end_of m b object)) ≡ stands_as q (end_of m b object)
struck_other q name m false object other = refl
struck_other q name m true object other = go (bytes_eq m name) refl (bytes_eq m q) refl where
  go : (t : Bool) → bytes_eq m name ≡ t → (u : Bool) → bytes_eq m q ≡ u → stands_as q (cond t (retired (end_of m true object)) (end_of m true object)) ≡ bytes_eq m q
  go false e u f = refl
  go true e false f = sym f
  go true e true f = absurd (other (sym ((bytes_eq-Decides m q).0 f) ∙ (bytes_eq-Decides m name).0 e))

stands_other : (q name : List ℕ) (ends : List NamedEnd) → (q ≡ name → ⊥) → stands q (changed_as name retired ends) ≡ stands q ends
stands_other q name [] other = refl
stands_other q name (end ∷ ends) other =
    (λ i. struck_other q name end.name end.stands end.object other i || stands_other q name ends other i)

-- the sends change no name and retire nothing
received_stands : (q : List ℕ) (names : List (List ℕ)) (sends : List SentSeen) (m : List ℕ) (b : Bool) (object : EndpointSeen)
    → stands_as q (received names sends (end_of m b object)) ≡ stands_as q (end_of m b object)
received_stands q names sends m true object = refl
received_stands q names sends m false object = refl

stands_received : (q : List ℕ) (names : List (List ℕ)) (sends : List SentSeen) (ends : List NamedEnd) → stands q (all_received names sends ends) ≡ stands q ends
stands_received q names sends [] = refl
stands_received q names sends (end ∷ ends) =
    (λ i. received_stands q names sends end.name end.stands end.object i || stands_received q names sends ends i)

pub flags_received : (names : List (List ℕ)) (sends : List SentSeen) (ends : List NamedEnd) (flags : List Bool) → AreFlags names ends flags → AreFlags names (all_received names sends ends) flags
flags_received names sends ends flags are = record {
  all = are.all;
  differ = are.differ;
  each = λ n lt. are.each n lt ∙ sym (stands_received (name_of names n) names sends ends);
}

names_differ : (names : List (List ℕ)) → AllPairs (λ name later. name ≢ later) names → (k n : ℕ) → k < length names → n < length names → (k ≡ n → ⊥) → name_of names k ≡ name_of names n → ⊥
names_differ names differ k n lt within other same =
    elim (cases_lt k n) [
      | inl less ↦ differ k n [] less within same
      | inr more ↦ differ n k [] (omega (arith, more, other)) lt (sym same)
    ]

-- one number is struck out
flag_struck : (names : List (List ℕ)) (ends : List NamedEnd) (flags : List Bool) (n : ℕ) → n < length names
    → AreFlags names ends flags → AreFlags names (changed_as (name_of names n) retired ends) (set flags n false)
flag_struck names ends flags n lt are = record {
  all = length-set flags n false ∙ are.all;
  differ = are.differ;
  each = λ k within.
      elim (cases_eq k n) [
        | inl is ↦
            ap (λ i. get_or (set flags n false) i false) is ∙ get_or-set_same flags n false false (omega (arith, lt, are.all))
            ∙ sym (stands_same (name_of names n) ends) ∙ ap (λ i. stands (name_of names i) (changed_as (name_of names n) retired ends)) (sym is)
        | inr other ↦
            get_or-set_other flags n k false false other ∙ are.each k within
            ∙ sym (stands_other (name_of names k) (name_of names n) ends (names_differ names are.differ k n within lt other))
      ];
}

-- ---- retirements

abbrev turn_of : List (List ℕ) → List ℕ → List NamedEnd → ℕ × ℕ → Retirement
turn_of names numbers ends turn = record { endpoint = turn.1; stood = stands_in_turn names numbers ends turn.0 }

-- the first numbers are retired
pub record IsRetiring (names : List (List ℕ)) (ends : List NamedEnd) (numbers : List ℕ) (i : ℕ) (before : List ℕ) (flags : List Bool) (out : List ℕ) : Type 0 where
  pub flags_are : AreFlags names (all_retired names (take i numbers) ends) flags
  pub text : out ≡ before ++ text_of (map retire_line (take i (turns names numbers ends)))

pub retiring_none : (names : List (List ℕ)) (ends : List NamedEnd) (numbers before : List ℕ) (flags : List Bool) → AreFlags names ends flags → IsRetiring names ends numbers 0 before flags before
retiring_none names ends numbers before flags are = record {
  flags_are = subst (λ es. AreFlags names es flags) (sym (all_retired_none names ends)) are;
  text = sym (append-nil before);
}

pub retiring_more : (names : List (List ℕ)) (ends : List NamedEnd) (numbers before : List ℕ) (i n : ℕ) (flags : List Bool) (out next : List ℕ)
    → i < length numbers → n ≡ get_or numbers i 0 → n < length flags
    → next ≡ out ++ ended (retire_line (record { endpoint = n; stood = get_or flags n false })) → IsRetiring names ends numbers i before flags out
    → IsRetiring names ends numbers (i + 1) before (set flags n false) next
retiring_more names ends numbers before i n flags out next lt is there text sofar =
    let now = all_retired names (take i numbers) ends in
    let within : n < length names = omega (arith, there, sofar.flags_are.all) in
    let long : i < length (enumerate_from 0 numbers) = omega (arith, lt, length-enumerate_from 0 numbers) in
    let stood : get_or flags n false ≡ stands_in_turn names numbers ends i = sofar.flags_are.each n within ∙ ap (λ k. stands (name_of names k) now) is in
    let pair : get_or (enumerate_from 0 numbers) i (i, 0) ≡ (i, n) = get_or-enumerate_from 0 numbers i (i, 0) lt ∙ (let at : 0 + i ≡ i = omega arith in λ j. (at j, sym is j)) in
    let one : get_or (turns names numbers ends) i (turn_of names numbers ends (i, 0)) ≡ record { endpoint = n; stood = get_or flags n false } =
    get_or-map (turn_of names numbers ends) (enumerate_from 0 numbers) i (i, 0) (turn_of names numbers ends (i, 0)) long
    ∙ ap (turn_of names numbers ends) pair ∙ ap (λ b. record { endpoint = n; stood = b }) (sym stood) in
    let all : i < length (turns names numbers ends) = omega (arith, long, length-map (enumerate_from 0 numbers) (turn_of names numbers ends)) in
    let more : take (i + 1) (turns names numbers ends) ≡ take i (turns names numbers ends) ++ record { endpoint = n; stood = get_or flags n false } ∷ [] =
    take_more (turns names numbers ends) i (turn_of names numbers ends (i, 0)) all ∙ ap (λ r. take i (turns names numbers ends) ++ r ∷ []) one in
    record {
      flags_are =
          subst (λ es. AreFlags names es (set flags n false)) (sym (all_retired_more names numbers i 0 ends lt ∙ ap (λ k. changed_as (name_of names k) retired now) (sym is)))
          (flag_struck names now flags n within sofar.flags_are);
      text =
          text ∙ ap (λ o. o ++ ended (retire_line (record { endpoint = n; stood = get_or flags n false }))) sofar.text
          ∙ append_assoc before (text_of (map retire_line (take i (turns names numbers ends)))) (ended (retire_line (record { endpoint = n; stood = get_or flags n false })))
          ∙ ap (λ t. before ++ t) (sym (
          ap (λ rs. text_of (map retire_line rs)) more
          ∙ ap text_of (map-append retire_line (take i (turns names numbers ends)) (record { endpoint = n; stood = get_or flags n false } ∷ []))
          ∙ text_of-append (map retire_line (take i (turns names numbers ends))) (retire_line (record { endpoint = n; stood = get_or flags n false }) ∷ [])
          ∙ ap (λ t. text_of (map retire_line (take i (turns names numbers ends))) ++ t) (append-nil (ended (retire_line (record { endpoint = n; stood = get_or flags n false }))))));
    }

pub retiring_all : (names : List (List ℕ)) (ends : List NamedEnd) (numbers before : List ℕ) (i : ℕ) (flags : List Bool) (out : List ℕ)
    → length numbers ≤ i → IsRetiring names ends numbers i before flags out
    → (out ≡ before ++ text_of (map retire_line (retirements names numbers ends))) × AreFlags names (all_retired names numbers ends) flags
retiring_all names ends numbers before i flags out past so =
    let long : length (turns names numbers ends) ≤ i = omega (arith, past, length-enumerate_from 0 numbers, length-map (enumerate_from 0 numbers) (turn_of names numbers ends)) in (
      so.text ∙ ap (λ rs. before ++ text_of (map retire_line rs)) (take_all i (turns names numbers ends) long ∙ sym (retirements_are names numbers ends)),
      subst (λ ns. AreFlags names (all_retired names ns ends) flags) (take_all i numbers past) so.flags_are,
    )

-- ---- lost sends

abbrev lost_here : List (List ℕ) → List NamedEnd → ℕ → SentSeen → Bool
lost_here names ends n sent = (sent.endpoint == n) && is_lost names ends sent

-- all sends to a number are lost, or none is
lost_is : (names : List (List ℕ)) (ends : List NamedEnd) (n : ℕ) (b : Bool) → stands (name_of names n) ends ≡ b
    → (sends : List SentSeen) → lost_to names ends sends n ≡ cond b 0 (count_by (λ m. m == n) (numbers_of sends))
lost_is names ends n true is [] = refl
lost_is names ends n false is [] = refl
lost_is names ends n b is (s ∷ sends) = go (s.endpoint == n) refl (lost_is names ends n b is sends) where
  go : (t : Bool) → (s.endpoint == n) ≡ t → lost_to names ends sends n ≡ cond b 0 (count_by (λ m. m == n) (numbers_of sends))
      → length (cond (t && is_lost names ends s) (s ∷ filter (lost_here names ends n) sends) (filter (lost_here names ends n) sends)) ≡ cond b 0 (count_by (λ m. m == n) (numbers_of (s ∷ sends)))
  go false e rest =
      let step = sum_by-cons (λ m. cond {A = ℕ} (m == n) 1 0) s.endpoint (numbers_of sends) in
      let zero_more : cond {A = ℕ} (s.endpoint == n) 1 0 ≡ 0 = ap (λ t. cond {A = ℕ} t 1 0) e in
      let count : count_by (λ m. m == n) (numbers_of (s ∷ sends)) ≡ count_by (λ m. m == n) (numbers_of sends) = omega (arith, step, zero_more) in
      rest ∙ ap (λ k. cond b 0 k) (sym count)
  go true e rest =
      let same : s.endpoint ≡ n = grind (arith, nat_tests, e) in
      let lost : is_lost names ends s ≡ not b = ap (λ k. not (stands (name_of names k) ends)) same ∙ ap not is in
      let step = sum_by-cons (λ m. cond {A = ℕ} (m == n) 1 0) s.endpoint (numbers_of sends) in
      let one_more : cond {A = ℕ} (s.endpoint == n) 1 0 ≡ 1 = ap (λ t. cond {A = ℕ} t 1 0) e in
      let count : count_by (λ m. m == n) (numbers_of (s ∷ sends)) ≡ 1 + count_by (λ m. m == n) (numbers_of sends) = omega (arith, step, one_more) in
      ap (λ t. length (cond t (s ∷ filter (lost_here names ends n) sends) (filter (lost_here names ends n) sends))) lost ∙ by b rest ∙ ap (λ k. cond b 0 k) (sym count)
    where
      by : (c : Bool) → lost_to names ends sends n ≡ cond c 0 (count_by (λ m. m == n) (numbers_of sends))
          → length (cond (not c) (s ∷ filter (lost_here names ends n) sends) (filter (lost_here names ends n) sends)) ≡ cond c 0 (1 + count_by (λ m. m == n) (numbers_of sends))
      by true h = h
      by false h = omega (arith, h)

abbrev is_some : ℕ × ℕ → Bool
is_some lost = not (lost.1 == 0)

abbrev losses_to : List (List ℕ) → List NamedEnd → List SentSeen → ℕ → List (ℕ × ℕ)
losses_to names ends sent i = filter is_some (take i (enumerate_from 0 (lost_counts names ends sent)))

-- the lines of the first numbers
abbrev pub IsLosing : List (List ℕ) → List NamedEnd → List SentSeen → ℕ → List ℕ → List ℕ → Type 0
IsLosing names ends sent i before out = out ≡ before ++ text_of (map lost_line (losses_to names ends sent i))

length_counts : (names : List (List ℕ)) (ends : List NamedEnd) (sent : List SentSeen) → length (lost_counts names ends sent) ≡ length names
length_counts names ends sent = length-map (enumerate_from 0 names) (λ n. lost_to names ends sent n.0) ∙ length-enumerate_from 0 names

count_at : (names : List (List ℕ)) (ends : List NamedEnd) (sent : List SentSeen) (i : ℕ) → i < length names → get_or (lost_counts names ends sent) i 0 ≡ lost_to names ends sent i
count_at names ends sent i lt =
    let long : i < length (enumerate_from 0 names) = omega (arith, lt, length-enumerate_from 0 names) in
    get_or-map (λ (n : ℕ × List ℕ). lost_to names ends sent n.0) (enumerate_from 0 names) i (i, []) 0 long
    ∙ ap (λ (n : ℕ × List ℕ). lost_to names ends sent n.0) (get_or-enumerate_from 0 names i (i, []) lt)
    ∙ (let at : 0 + i ≡ i = omega arith in ap (lost_to names ends sent) at)

losses_more : (names : List (List ℕ)) (ends : List NamedEnd) (sent : List SentSeen) (i count : ℕ) → i < length names → lost_to names ends sent i ≡ count
    → losses_to names ends sent (i + 1) ≡ losses_to names ends sent i ++ cond (not (count == 0)) ((i, count) ∷ []) []
losses_more names ends sent i count lt is =
    let counts = lost_counts names ends sent in
    let long : i < length counts = omega (arith, lt, length_counts names ends sent) in
    let all : i < length (enumerate_from 0 counts) = omega (arith, long, length-enumerate_from 0 counts) in
    let one : get_or (enumerate_from 0 counts) i (i, 0) ≡ (i, count) =
    get_or-enumerate_from 0 counts i (i, 0) long ∙ (let at : 0 + i ≡ i = omega arith in let of_it = count_at names ends sent i lt ∙ is in λ j. (at j, of_it j)) in
    ap (filter is_some) (take_more (enumerate_from 0 counts) i (i, 0) all ∙ ap (λ p. take i (enumerate_from 0 counts) ++ p ∷ []) one)
    ∙ filter-append is_some (take i (enumerate_from 0 counts)) ((i, count) ∷ [])

-- no send to the number is lost
pub losing_same : (names : List (List ℕ)) (ends : List NamedEnd) (sent : List SentSeen) (i : ℕ) (before out : List ℕ)
    → i < length names → lost_to names ends sent i ≡ 0 → IsLosing names ends sent i before out
    → IsLosing names ends sent (i + 1) before out
losing_same names ends sent i before out lt is so = so ∙ ap (λ l. before ++ text_of (map lost_line l)) (sym (losses_more names ends sent i 0 lt is ∙ append-nil (losses_to names ends sent i)))

-- so many are
pub losing_more : (names : List (List ℕ)) (ends : List NamedEnd) (sent : List SentSeen) (i count : ℕ) (before out next : List ℕ) → i < length names → 0 < count → lost_to names ends sent i ≡ count
    → next ≡ out ++ ended (lost_line (i, count)) → IsLosing names ends sent i before out → IsLosing names ends sent (i + 1) before next
losing_more names ends sent i count before out next lt left_over is text so =
    let kept : not (count == 0) ≡ true = grind (arith, nat_tests, left_over) in
    let more : losses_to names ends sent (i + 1) ≡ losses_to names ends sent i ++ (i, count) ∷ [] =
    losses_more names ends sent i count lt is ∙ ap (λ t. losses_to names ends sent i ++ cond t ((i, count) ∷ []) []) kept in
    text ∙ ap (λ o. o ++ ended (lost_line (i, count))) so
    ∙ append_assoc before (text_of (map lost_line (losses_to names ends sent i))) (ended (lost_line (i, count)))
    ∙ ap (λ t. before ++ t) (sym (
    ap (λ l. text_of (map lost_line l)) more ∙ ap text_of (map-append lost_line (losses_to names ends sent i) ((i, count) ∷ []))
    ∙ text_of-append (map lost_line (losses_to names ends sent i)) (lost_line (i, count) ∷ [])
    ∙ ap (λ t. text_of (map lost_line (losses_to names ends sent i)) ++ t) (append-nil (ended (lost_line (i, count))))))

-- what is lost to a number, by its flag
pub lost_by_flag : (names : List (List ℕ)) (ends : List NamedEnd) (flags : List Bool) (sent : List SentSeen) (sends : List ℕ) (n : ℕ) (b : Bool)
    → AreFlags names ends flags → n < length names → get_or flags n false ≡ b
    → numbers_of sent ≡ sends → lost_to names ends sent n ≡ cond b 0 (count_by (λ m. m == n) sends)
lost_by_flag names ends flags sent sends n b are lt is same =
    lost_is names ends n b (sym (are.each n lt) ∙ is) sent ∙ ap (λ l. cond b 0 (count_by (λ m. m == n) l)) same

-- all numbers are gone over
pub losing_all : (names : List (List ℕ)) (ends : List NamedEnd) (sent : List SentSeen) (i : ℕ) (before out : List ℕ)
    → length names ≤ i → IsLosing names ends sent i before out → out ≡ before ++ text_of (lost_lines (lost_counts names ends sent))
losing_all names ends sent i before out past so =
    let counts = lost_counts names ends sent in
    let long : length (enumerate_from 0 counts) ≤ i = omega (arith, past, length_counts names ends sent, length-enumerate_from 0 counts) in
    so ∙ ap (λ l. before ++ text_of (map lost_line (filter is_some l))) (take_all i (enumerate_from 0 counts) long)
