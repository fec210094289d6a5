-- What lines ask: in which order, how much, and by which numbers.
use Rattle.std.proofs.Common.{◌≡◌, ◌⊎◌, inl, inr, ℕ, suc, ◌+◌, ◌<◌, ◌≤◌, List, [], ◌∷◌, ◌++◌, map, length, take, drop, get_or, refl, sym, ap, subst, ◌∙◌, arith, append_assoc, length-append}
use Rattle.std.specs.Prelude.{All, sum_by}
use Rattle.std.specs.List.{AllPairs, enumerate_from}
use Rattle.std.proofs.lemmas.Bool.{cases_lt}
use Rattle.std.proofs.lemmas.List.{length-map, length-take, get_or_default, drop-drop}
use Rattle.std.proofs.lemmas.List.FromFn.{length-enumerate_from, get_or-enumerate_from}
use Rattle.std.proofs.lemmas.List.Kept.{AllPairs-cons}
use Rattle.std.proofs.lemmas.List.Elements.{All-head, All-tail, All-cons, All-nil, All-append, All-weaker, All-map}
use Rattle.std.proofs.lemmas.List.Sums.{sum_by-cons}
use Rattle.spin_word.specs.declared.work.Work.{Work}
use Rattle.spin_word.specs.declared.work.Work.TheVariants as work
use Rattle.spin_script.specs.declared.script.Line.{Line}
use Rattle.spin_script.specs.States.{deed_count}
use Rattle.spin_report.specs.Asked.{Numbered, AreApart}
use Rattle.spin_report.specs.Segments.{records_wanted, raise_with, parts_of, asked_at, asked_in, wanted_by}

-- a part of a line as it is asked
abbrev pub numbered : Line → ℕ × Work → Numbered
numbered line part = record { lane = line.lane; line = line.number; part = part.0; asked = part.1 }

-- P of what each line asks is P of all that is asked
pub asked_all : (P : Numbered → Type 0) (lines : List Line) (records : List (List ℕ))
    → All (λ line. (part : ℕ × Work) → P (numbered line part)) lines → All P (asked_in lines records)
asked_all P [] records each = All-nil P
asked_all P (line ∷ lines) records each =
    All-append P (asked_at line (take (records_wanted line.work) records)) (asked_in lines (drop (records_wanted line.work) records))
    (of_parts (parts_of line.work (take (records_wanted line.work) records)))
    (asked_all P lines (drop (records_wanted line.work) records) (All-tail (λ line. (part : ℕ × Work) → P (numbered line part)) line lines each))
  where
    of_parts : (parts : List (ℕ × Work)) → All P (map (numbered line) parts)
    of_parts [] = All-nil P
    of_parts (part ∷ parts) = All-cons P (numbered line part) (map (numbered line) parts) (All-head (λ line. (part : ℕ × Work) → P (numbered line part)) line lines each part) (of_parts parts)

-- ---- the order of the text

-- the second stands after the first in the text
abbrev pub IsLater : Numbered → Numbered → Type 0
IsLater first second = (first.line < second.line) ⊎ ((first.line ≡ second.line) × (first.part < second.part))

AllPairs-nil : {X : Type 0} (R : X → X → Type 0) → AllPairs R []
AllPairs-nil R i j d lt in' = absurd (omega arith)

AllPairs-head : {X : Type 0} (R : X → X → Type 0) (x : X) (xs : List X) → AllPairs R (x ∷ xs) → All (R x) xs
AllPairs-head R x xs all i d lt = all 0 (suc i) d (omega arith) (omega arith)

AllPairs-tail : {X : Type 0} (R : X → X → Type 0) (x : X) (xs : List X) → AllPairs R (x ∷ xs) → AllPairs R xs
AllPairs-tail R x xs all i j d lt in' = all (suc i) (suc j) d (omega arith) (omega arith)

AllPairs-append : {X : Type 0} (R : X → X → Type 0) (xs ys : List X) → AllPairs R xs → AllPairs R ys → All (λ x. All (R x) ys) xs → AllPairs R (xs ++ ys)
AllPairs-append R [] ys first second across = second
AllPairs-append R (x ∷ xs) ys first second across =
    AllPairs-cons R x (xs ++ ys) (All-append (R x) xs ys (AllPairs-head R x xs first) (All-head (λ x. All (R x) ys) x xs across))
    (AllPairs-append R xs ys (AllPairs-tail R x xs first) second (All-tail (λ x. All (R x) ys) x xs across))

abbrev pub raise_part : ℕ → ℕ × List ℕ → ℕ × Work
raise_part event part = (part.0, raise_with event part.1)

-- the parts of a packet line from p on
parts_from : (line : Line) (event p : ℕ) (records : List (List ℕ))
    → All (λ (n : Numbered). (n.line ≡ line.number) × (p ≤ n.part)) (map (numbered line) (map (raise_part event) (enumerate_from p records)))
parts_from line event p [] = All-nil (λ (n : Numbered). (n.line ≡ line.number) × (p ≤ n.part))
parts_from line event p (r ∷ rs) =
    All-cons (λ (n : Numbered). (n.line ≡ line.number) × (p ≤ n.part)) (numbered line (raise_part event (p, r))) (map (numbered line) (map (raise_part event) (enumerate_from (p + 1) rs)))
    (refl, omega arith)
    (All-weaker (λ (n : Numbered). (n.line ≡ line.number) × (p + 1 ≤ n.part)) (λ (n : Numbered). (n.line ≡ line.number) × (p ≤ n.part))
    (λ n both. (both.0, omega (arith, both.1))) (map (numbered line) (map (raise_part event) (enumerate_from (p + 1) rs))) (parts_from line event (p + 1) rs))

parts_rise : (line : Line) (event p : ℕ) (records : List (List ℕ)) → AllPairs IsLater (map (numbered line) (map (raise_part event) (enumerate_from p records)))
parts_rise line event p [] = AllPairs-nil IsLater
parts_rise line event p (r ∷ rs) =
    AllPairs-cons IsLater (numbered line (raise_part event (p, r))) (map (numbered line) (map (raise_part event) (enumerate_from (p + 1) rs)))
    (All-weaker (λ (n : Numbered). (n.line ≡ line.number) × (p + 1 ≤ n.part)) (IsLater (numbered line (raise_part event (p, r))))
    (λ n both. inr (sym both.0, omega (arith, both.1))) (map (numbered line) (map (raise_part event) (enumerate_from (p + 1) rs))) (parts_from line event (p + 1) rs))
    (parts_rise line event (p + 1) rs)

one_alone : (x : Numbered) → AllPairs IsLater (x ∷ [])
one_alone x = AllPairs-cons IsLater x [] (All-nil (IsLater x)) (AllPairs-nil IsLater)

line_rises : (line : Line) (w : Work) (records : List (List ℕ)) → AllPairs IsLater (map (numbered line) (parts_of w records))
line_rises line (work.Packet event count) records = parts_rise line event 1 records
line_rises line (work.Command c) records = one_alone (numbered line (0, work.Command c))
line_rises line (work.Deed d) records = one_alone (numbered line (0, work.Deed d))

line_numbers : (line : Line) (parts : List (ℕ × Work)) → All (λ (n : Numbered). n.line ≡ line.number) (map (numbered line) parts)
line_numbers line [] = All-nil (λ (n : Numbered). n.line ≡ line.number)
line_numbers line (part ∷ parts) = All-cons (λ (n : Numbered). n.line ≡ line.number) (numbered line part) (map (numbered line) parts) refl (line_numbers line parts)

-- what lines ask stands in the order of the text, where their numbers rise
pub asked_rises : (lines : List Line) (records : List (List ℕ)) → AllPairs (λ line later. line.number < later.number) lines → AllPairs IsLater (asked_in lines records)
asked_rises [] records up = AllPairs-nil IsLater
asked_rises (line ∷ lines) records up =
    let parts = parts_of line.work (take (records_wanted line.work) records) in
    let rest = asked_in lines (drop (records_wanted line.work) records) in
    AllPairs-append IsLater (map (numbered line) parts) rest
    (line_rises line line.work (take (records_wanted line.work) records))
    (asked_rises lines (drop (records_wanted line.work) records) (AllPairs-tail (λ line later. line.number < later.number) line lines up))
    (All-weaker (λ (n : Numbered). n.line ≡ line.number) (λ (n : Numbered). All (IsLater n) rest)
    (λ n same. asked_all (IsLater n) lines (drop (records_wanted line.work) records)
    (All-weaker (λ (later : Line). line.number < later.number) (λ (later : Line). (part : ℕ × Work) → IsLater n (numbered later part))
    (λ later less part. inl (subst (λ m. m < later.number) (sym same) less)) lines (AllPairs-head (λ line later. line.number < later.number) line lines up)))
    (map (numbered line) parts) (line_numbers line parts))

never_later : (m n : Numbered) → IsLater m n → m.line ≡ n.line → m.part ≡ n.part → ⊥
never_later m n (inl less) line part = omega (arith, line)
never_later m n (inr later) line part = let less = later.1 in omega (arith, part)

-- what stands in the order of the text has numbers of its own
pub rising_apart : (asked : List Numbered) → AllPairs IsLater asked → AreApart asked
rising_apart asked up m n (i, under, at) (j, below, there) line part =
    elim (cases_lt i j) [
      | inl less ↦ absurd (never_later m n (subst (λ (x : Numbered × Numbered). IsLater x.0 x.1) (λ k. (at k, second k)) (up i j m less below)) line part)
      | inr least ↦
          elim (cases_lt j i) [
            | inl less ↦ absurd (never_later n m (subst (λ (x : Numbered × Numbered). IsLater x.0 x.1) (λ k. (second k, at k)) (up j i m less under)) (sym line) (sym part))
            | inr most ↦ let same : i ≡ j = omega arith in sym at ∙ ap (λ k. get_or asked k m) same ∙ second
          ]
    ]
  where
    second : get_or asked j m ≡ n
    second = get_or_default asked j m n below ∙ there

-- ---- how many

parts_few : (asked : Work) (records : List (List ℕ)) → length (parts_of asked (take (records_wanted asked) records)) ≤ deed_count asked
parts_few (work.Command command) records = omega arith
parts_few (work.Deed deed) records = omega arith
parts_few (work.Packet event count) records =
    let taken = take count records in
    let raise : ℕ × List ℕ → ℕ × Work = λ part. (part.0, raise_with event part.1) in
    omega (arith, length-map (enumerate_from 1 taken) raise, length-enumerate_from 1 taken, length-take count records)

-- no more is asked than the deeds that are counted
pub asked_few : (lines : List Line) (records : List (List ℕ)) → length (asked_in lines records) ≤ sum_by (λ line. deed_count line.work) lines
asked_few [] records = omega arith
asked_few (line ∷ lines) records =
    let taken = take (records_wanted line.work) records in
    let rest = drop (records_wanted line.work) records in
    let one = parts_few line.work records in
    let more = asked_few lines rest in
    let number : ℕ × Work → Numbered = λ part. record { lane = line.lane; line = line.number; part = part.0; asked = part.1 } in
    let same = length-map (parts_of line.work taken) number in
    omega (arith, one, more, same, length-append (asked_at line taken) (asked_in lines rest), sum_by-cons (λ (l : Line). deed_count l.work) line lines)

-- ---- by which numbers

line_parts : (top : ℕ) (w : Work) (records : List (List ℕ)) → deed_count w ≤ top → All (λ part. part.0 ≤ top) (parts_of w (take (records_wanted w) records))
line_parts top (work.Command c) records few = All-cons (λ (part : ℕ × Work). part.0 ≤ top) (0, work.Command c) [] (omega arith) (All-nil (λ (part : ℕ × Work). part.0 ≤ top))
line_parts top (work.Deed d) records few = All-cons (λ (part : ℕ × Work). part.0 ≤ top) (0, work.Deed d) [] (omega arith) (All-nil (λ (part : ℕ × Work). part.0 ≤ top))
line_parts top (work.Packet event count) records few =
    let taken = take count records in
    All-map (λ (part : ℕ × Work). part.0 ≤ top) (raise_part event) (enumerate_from 1 taken) (λ k d lt.
    let inside : k < length taken = omega (arith, length-enumerate_from 1 taken) in
    subst (λ (part : ℕ × List ℕ). part.0 ≤ top) (sym (get_or-enumerate_from 1 taken k d inside)) (omega (arith, length-take count records)))

-- no part has a number above that of the deeds that are counted
pub asked_parts : (top : ℕ) (lines : List Line) (records : List (List ℕ)) → sum_by (λ line. deed_count line.work) lines ≤ top → All (λ n. n.part ≤ top) (asked_in lines records)
asked_parts top [] records few = All-nil (λ (n : Numbered). n.part ≤ top)
asked_parts top (line ∷ lines) records few =
    let sum = sum_by-cons (λ (l : Line). deed_count l.work) line lines in
    let parts = parts_of line.work (take (records_wanted line.work) records) in
    All-append (λ (n : Numbered). n.part ≤ top) (asked_at line (take (records_wanted line.work) records)) (asked_in lines (drop (records_wanted line.work) records))
    (All-map (λ (n : Numbered). n.part ≤ top) (numbered line) parts (line_parts top line.work records (omega (arith, sum))))
    (asked_parts top lines (drop (records_wanted line.work) records) (omega (arith, sum)))

-- ---- some lines and then others

-- the others ask with the records that the first ones leave
pub asked_behind : (first others : List Line) (records : List (List ℕ)) → asked_in (first ++ others) records ≡ asked_in first records ++ asked_in others (drop (wanted_by first) records)
asked_behind [] others records = refl
asked_behind (line ∷ first) others records =
    let w = records_wanted line.work in
    let all : w + wanted_by first ≡ wanted_by (line ∷ first) = sym (sum_by-cons (λ (l : Line). records_wanted l.work) line first) in
    ap (λ x. asked_at line (take w records) ++ x)
    (asked_behind first others (drop w records)
    ∙ ap (λ (left : List (List ℕ)). asked_in first (drop w records) ++ asked_in others left) (drop-drop (wanted_by first) w records ∙ ap (λ k. drop k records) all))
    ∙ sym (append_assoc (asked_at line (take w records)) (asked_in first (drop w records)) (asked_in others (drop (wanted_by (line ∷ first)) records)))
