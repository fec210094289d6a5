-- What is asked lane after lane.
use Rattle.std.proofs.Common.{◌≡◌, ◌⊎◌, inl, inr, ℕ, zero, suc, ◌+◌, ◌<◌, ◌≤◌, Bool, true, false, cond, List, [], ◌∷◌, ◌++◌, map, length, take, drop, get_or, refl, sym, ap, subst, ◌∙◌, arith, eq-eqb, ne_eqb}
use Rattle.std.specs.Prelude.{◌==◌, nat_lt, filter, All, AllPairs}
use Rattle.std.specs.List.{enumerate_from}
use Rattle.std.proofs.lemmas.Bool.{cases_eq, eqb-true}
use Rattle.std.proofs.lemmas.Bool.Decides.{nat_tests}
use Rattle.std.proofs.lemmas.List.{append-nil, length-take, take_more}
use Rattle.std.proofs.lemmas.List.Elements.{All-nil, All-cons, All-head, All-tail, All-append, All-weaker, filter-append}
use Rattle.std.proofs.lemmas.List.Kept.{AllPairs-cons, AllPairs-filter}
use Rattle.std.proofs.lemmas.List.Sums.{sum_by-append, sum_by-cons}
use Rattle.std.proofs.Math.Seq.{drop-cons}
use Rattle.spin_place.proofs.NumberLists.{AllPairs-head, AllPairs-tail}
use Rattle.spin_word.specs.declared.command.Command.{Command}
use Rattle.spin_word.specs.declared.work.Deed.{Deed}
use Rattle.spin_word.specs.declared.work.Work.{Work}
use Rattle.spin_word.specs.declared.work.Work.TheVariants as work
use Rattle.spin_script.specs.declared.script.Line.{Line}
use Rattle.spin_script.specs.Soundness.{is_command_work, commands_in}
use Rattle.spin_report.specs.Asked.{Numbered}
use Rattle.spin_report.specs.Segments.{records_wanted, raise_with, parts_of, asked_at, asked_in, asked_of_lane}
use Rattle.spin_report.proofs.Asking.{IsLater}
use Rattle.spin_whole.specs.Inner.Parts.{alone, packets, by_lane, commands_asked}

-- ---- each lane's own

own_again : (k : ℕ) (asked : List Numbered) → asked_of_lane k (asked_of_lane k asked) ≡ asked_of_lane k asked
own_again k [] = refl
own_again k (n ∷ asked) = go (n.lane == k) refl (own_again k asked) where
  go : (b : Bool) → (n.lane == k) ≡ b → asked_of_lane k (asked_of_lane k asked) ≡ asked_of_lane k asked
      → asked_of_lane k (cond b (n ∷ asked_of_lane k asked) (asked_of_lane k asked)) ≡ cond b (n ∷ asked_of_lane k asked) (asked_of_lane k asked)
  go true is rest =
      ap (λ b. cond b (n ∷ asked_of_lane k (asked_of_lane k asked)) (asked_of_lane k (asked_of_lane k asked))) is ∙ ap (λ (l : List Numbered). n ∷ l) rest
  go false is rest = rest

own_other : (k j : ℕ) (asked : List Numbered) → (j ≡ k → ⊥) → asked_of_lane k (asked_of_lane j asked) ≡ []
own_other k j [] other = refl
own_other k j (n ∷ asked) other = go (n.lane == j) refl (own_other k j asked other) where
  go : (b : Bool) → (n.lane == j) ≡ b → asked_of_lane k (asked_of_lane j asked) ≡ [] → asked_of_lane k (cond b (n ∷ asked_of_lane j asked) (asked_of_lane j asked)) ≡ []
  go true is rest =
      ap (λ b. cond b (n ∷ asked_of_lane k (asked_of_lane j asked)) (asked_of_lane k (asked_of_lane j asked)))
      (ne_eqb n.lane k (λ same. other (sym (eqb-true n.lane j is) ∙ same))) ∙ rest
  go false is rest = rest

own_lane : (k : ℕ) (asked : List Numbered) → All (λ n. n.lane ≡ k) (asked_of_lane k asked)
own_lane k [] = All-nil (λ (n : Numbered). n.lane ≡ k)
own_lane k (n ∷ asked) = go (n.lane == k) refl (own_lane k asked) where
  go : (b : Bool) → (n.lane == k) ≡ b → All (λ (m : Numbered). m.lane ≡ k) (asked_of_lane k asked)
      → All (λ (m : Numbered). m.lane ≡ k) (cond b (n ∷ asked_of_lane k asked) (asked_of_lane k asked))
  go true is rest = All-cons (λ (m : Numbered). m.lane ≡ k) n (asked_of_lane k asked) (eqb-true n.lane k is) rest
  go false is rest = rest

lane_none : (k n : ℕ) (asked : List Numbered) → n ≤ k → asked_of_lane k (by_lane n asked) ≡ []
lane_none k zero asked le = refl
lane_none k (suc n) asked le =
    let before = lane_none k n asked (omega (arith, le)) in
    let own = own_other k n asked (λ same. absurd (omega (arith, le, same))) in
    filter-append (λ (m : Numbered). m.lane == k) (by_lane n asked) (asked_of_lane n asked) ∙ (λ i. before i ++ own i)

-- of what is asked lane after lane, each lane has its own
pub lane_once : (k n : ℕ) (asked : List Numbered) → k < n → asked_of_lane k (by_lane n asked) ≡ asked_of_lane k asked
lane_once k zero asked lt = absurd (omega (arith, lt))
lane_once k (suc n) asked lt =
    let parts = filter-append (λ (m : Numbered). m.lane == k) (by_lane n asked) (asked_of_lane n asked) in
    elim (cases_eq k n) [
      | inl is ↦
          let before = lane_none k n asked (omega (arith, is)) in
          let own : asked_of_lane k (asked_of_lane n asked) ≡ asked_of_lane k asked = ap (λ j. asked_of_lane k (asked_of_lane j asked)) (sym is) ∙ own_again k asked in
          parts ∙ (λ i. before i ++ own i)
      | inr other ↦
          let before = lane_once k n asked (omega (arith, lt, other)) in
          let own = own_other k n asked (λ same. other (sym same)) in
          parts ∙ (λ i. before i ++ own i) ∙ append-nil (asked_of_lane k asked)
    ]

-- ---- in which order

-- the second is of a later lane, or of the same one and later in the text
abbrev pub IsAfter : Numbered → Numbered → Type 0
IsAfter first second = (first.lane < second.lane) ⊎ ((first.lane ≡ second.lane) × IsLater first second)

pub lane_below : (n : ℕ) (asked : List Numbered) → All (λ m. m.lane < n) (by_lane n asked)
lane_below zero asked = All-nil (λ (m : Numbered). m.lane < 0)
lane_below (suc n) asked =
    All-append (λ (m : Numbered). m.lane < suc n) (by_lane n asked) (asked_of_lane n asked)
    (All-weaker (λ (m : Numbered). m.lane < n) (λ (m : Numbered). m.lane < suc n) (λ m lt. omega (arith, lt)) (by_lane n asked) (lane_below n asked))
    (All-weaker (λ (m : Numbered). m.lane ≡ n) (λ (m : Numbered). m.lane < suc n) (λ m is. omega (arith, is)) (asked_of_lane n asked) (own_lane n asked))

own_rises : (k : ℕ) (asked : List Numbered) → AllPairs IsLater asked → AllPairs IsAfter (asked_of_lane k asked)
own_rises k asked rise = λ i j d lt within.
    let own = own_lane k asked in
    inr (own i d (omega (arith, lt, within)) ∙ sym (own j d within), AllPairs-filter IsLater (λ (n : Numbered). n.lane == k) asked rise i j d lt within)

pairs_both : {X : Type 0} (R : X → X → Type 0) (xs ys : List X) → AllPairs R xs → AllPairs R ys → All (λ x. All (R x) ys) xs → AllPairs R (xs ++ ys)
pairs_both R [] ys first second across = second
pairs_both R (x ∷ xs) ys first second across =
    AllPairs-cons R x (xs ++ ys) (All-append (R x) xs ys (AllPairs-head R x xs first) (All-head (λ z. All (R z) ys) x xs across))
    (pairs_both R xs ys (AllPairs-tail R x xs first) second (All-tail (λ z. All (R z) ys) x xs across))

pub lane_rises : (n : ℕ) (asked : List Numbered) → AllPairs IsLater asked → AllPairs IsAfter (by_lane n asked)
lane_rises zero asked rise = λ i j d lt within. absurd (omega (arith, within))
lane_rises (suc n) asked rise =
    pairs_both IsAfter (by_lane n asked) (asked_of_lane n asked) (lane_rises n asked rise) (own_rises n asked rise)
    (All-weaker (λ (m : Numbered). m.lane < n) (λ (m : Numbered). All (IsAfter m) (asked_of_lane n asked))
    (λ m lt. All-weaker (λ (x : Numbered). x.lane ≡ n) (IsAfter m) (λ x is. inl (omega (arith, lt, is))) (asked_of_lane n asked) (own_lane n asked))
    (by_lane n asked) (lane_below n asked))

-- ---- how many commands

abbrev pub one_if : Numbered → ℕ
one_if n = cond (is_command_work n.asked) 1 0

pub commands_both : (first second : List Numbered) → commands_asked (first ++ second) ≡ commands_asked first + commands_asked second
commands_both first second = sum_by-append one_if first second

kept_commands : (b : Bool) (n : Numbered) (asked : List Numbered) → commands_asked (cond b (n ∷ asked) asked) ≡ cond {A = ℕ} b (one_if n) 0 + commands_asked asked
kept_commands true n asked = sum_by-cons one_if n asked
kept_commands false n asked = omega arith

-- those of the first lanes, so many of them, in the order of the text
abbrev low : ℕ → List Numbered → List Numbered
low n asked = filter (λ m. nat_lt m.lane n) asked

one_more : (m n c : ℕ) → cond {A = ℕ} (nat_lt m (suc n)) c 0 ≡ cond {A = ℕ} (nat_lt m n) c 0 + cond {A = ℕ} (m == n) c 0
one_more m n c = go (nat_lt m (suc n)) (nat_lt m n) (m == n) refl refl refl where
  go : (x y z : Bool) → nat_lt m (suc n) ≡ x → nat_lt m n ≡ y → (m == n) ≡ z → cond {A = ℕ} x c 0 ≡ cond {A = ℕ} y c 0 + cond {A = ℕ} z c 0
  go true true false a b e = omega arith
  go true false true a b e = omega arith
  go false false false a b e = omega arith
  go true true true a b e = absurd (grind (arith, nat_tests, a, b, e))
  go true false false a b e = absurd (grind (arith, nat_tests, a, b, e))
  go false true z a b e = absurd (grind (arith, nat_tests, a, b))
  go false false true a b e = absurd (grind (arith, nat_tests, a, b, e))

low_more : (n : ℕ) (asked : List Numbered) → commands_asked (low (suc n) asked) ≡ commands_asked (low n asked) + commands_asked (asked_of_lane n asked)
low_more n [] = refl
low_more n (m ∷ asked) =
    let all = kept_commands (nat_lt m.lane (suc n)) m (low (suc n) asked) in
    let before = kept_commands (nat_lt m.lane n) m (low n asked) in
    let own = kept_commands (m.lane == n) m (asked_of_lane n asked) in
    omega (arith, all, before, own, one_more m.lane n (one_if m), low_more n asked)

low_fewer : (n : ℕ) (asked : List Numbered) → commands_asked (low n asked) ≤ commands_asked asked
low_fewer n [] = omega arith
low_fewer n (m ∷ asked) =
    let kept = kept_commands (nat_lt m.lane n) m (low n asked) in
    let whole = sum_by-cons one_if m asked in
    let less = at_most (nat_lt m.lane n) (one_if m) in
    omega (arith, kept, whole, less, low_fewer n asked)
  where
    at_most : (b : Bool) (c : ℕ) → cond {A = ℕ} b c 0 ≤ c
    at_most true c = omega arith
    at_most false c = omega arith

low_all : (n : ℕ) (asked : List Numbered) → commands_asked (by_lane n asked) ≡ commands_asked (low n asked)
low_all zero [] = refl
low_all zero (m ∷ asked) =
    let none : nat_lt m.lane 0 ≡ false = grind (arith, nat_tests) in
    low_all zero asked ∙ ap (λ b. commands_asked (cond b (m ∷ low zero asked) (low zero asked))) (sym none)
low_all (suc n) asked = omega (arith, commands_both (by_lane n asked) (asked_of_lane n asked), low_all n asked, low_more n asked)

-- one lane more has no fewer commands
pub lane_commands : (k n : ℕ) (asked : List Numbered) → k ≤ n → commands_asked (by_lane k asked) ≤ commands_asked (by_lane n asked)
lane_commands k zero asked le = let same : k ≡ 0 = omega (arith, le) in subst (λ j. commands_asked (by_lane j asked) ≤ 0) (sym same) (omega arith)
lane_commands k (suc n) asked le =
    elim (cases_eq k (suc n)) [
      | inl is ↦ subst (λ j. commands_asked (by_lane k asked) ≤ commands_asked (by_lane j asked)) is (omega arith)
      | inr other ↦ omega (arith, lane_commands k n asked (omega (arith, le, other)), commands_both (by_lane n asked) (asked_of_lane n asked))
    ]

abbrev part_of : Line → ℕ × Work → Numbered
part_of line part = record { lane = line.lane; line = line.number; part = part.0; asked = part.1 }

none_of_packets : (line : Line) (event from : ℕ) (records : List (List ℕ)) → commands_asked (packets line event from records) ≡ 0
none_of_packets line event from [] = refl
none_of_packets line event from (r ∷ records) =
    let step = sum_by-cons one_if (record { lane = line.lane; line = line.number; part = from; asked = raise_with event r }) (packets line event (from + 1) records) in
    omega (arith, step, none_of_packets line event (from + 1) records)

-- the packets of a line, as they are asked
pub asked_packets : (line : Line) (event count : ℕ) (records : List (List ℕ)) → line.work ≡ work.Packet event count → asked_at line records ≡ packets line event 1 records
asked_packets line event count records is = ap (λ w. map (part_of line) (parts_of w records)) is ∙ over (enumerate_from 1 records) where
  over : (rs : List (ℕ × List ℕ)) → map (part_of line) (map (λ (p : ℕ × List ℕ). (p.0, raise_with event p.1)) rs)
      ≡ map (λ (p : ℕ × List ℕ). record { lane = line.lane; line = line.number; part = p.0; asked = raise_with event p.1 }) rs
  over [] = refl
  over (r ∷ rs) = ap (λ (l : List Numbered). record { lane = line.lane; line = line.number; part = r.0; asked = raise_with event r.1 } ∷ l) (over rs)

-- what else a line asks, as its one deed
pub asked_command : (line : Line) (records : List (List ℕ)) (c : Command) → line.work ≡ work.Command c → asked_at line records ≡ alone line 0 (work.Command c)
asked_command line records c is = ap (λ w. map (part_of line) (parts_of w records)) is

pub asked_deed : (line : Line) (records : List (List ℕ)) (d : Deed) → line.work ≡ work.Deed d → asked_at line records ≡ alone line 0 (work.Deed d)
asked_deed line records d is = ap (λ w. map (part_of line) (parts_of w records)) is

line_commands : (line : Line) (records : List (List ℕ)) (w : Work) → line.work ≡ w → commands_asked (asked_at line records) ≡ cond {A = ℕ} (is_command_work line.work) 1 0
line_commands line records (work.Command c) is = ap commands_asked (asked_command line records c is) ∙ ap (λ w. cond {A = ℕ} (is_command_work w) 1 0) (sym is)
line_commands line records (work.Deed d) is = ap commands_asked (asked_deed line records d is) ∙ ap (λ w. cond {A = ℕ} (is_command_work w) 1 0) (sym is)
line_commands line records (work.Packet event count) is =
    ap commands_asked (asked_packets line event count records is) ∙ none_of_packets line event 1 records ∙ ap (λ w. cond {A = ℕ} (is_command_work w) 1 0) (sym is)

all_commands : (lines : List Line) (records : List (List ℕ)) → commands_asked (asked_in lines records) ≡ commands_in lines
all_commands [] records = refl
all_commands (line ∷ lines) records =
    let w = records_wanted line.work in
    let both = commands_both (asked_at line (take w records)) (asked_in lines (drop w records)) in
    let one = line_commands line (take w records) line.work refl in
    let sum = sum_by-cons (λ (l : Line). cond {A = ℕ} (is_command_work l.work) 1 0) line lines in
    omega (arith, both, one, sum, all_commands lines (drop w records))

-- all lanes have no more commands than the lines
pub lanes_few : (n : ℕ) (lines : List Line) (records : List (List ℕ)) → commands_asked (by_lane n (asked_in lines records)) ≤ commands_in lines
lanes_few n lines records = omega (arith, low_all n (asked_in lines records), low_fewer n (asked_in lines records), all_commands lines records)

-- ---- line after line

own_all : {A : Type 0} (f : A → Numbered) (k : ℕ) (xs : List A) → ((a : A) → (f a).lane ≡ k) → asked_of_lane k (map f xs) ≡ map f xs
own_all f k [] each = refl
own_all f k (x ∷ xs) each =
    ap (λ b. cond b (f x ∷ asked_of_lane k (map f xs)) (asked_of_lane k (map f xs))) (eq-eqb (f x).lane k (each x)) ∙ ap (λ (l : List Numbered). f x ∷ l) (own_all f k xs each)

own_none : {A : Type 0} (f : A → Numbered) (k : ℕ) (xs : List A) → ((a : A) → (f a).lane ≡ k → ⊥) → asked_of_lane k (map f xs) ≡ []
own_none f k [] each = refl
own_none f k (x ∷ xs) each =
    ap (λ b. cond b (f x ∷ asked_of_lane k (map f xs)) (asked_of_lane k (map f xs))) (ne_eqb (f x).lane k (each x)) ∙ own_none f k xs each

-- what is asked from a line on is what it asks, and what is asked from the next line on with the records that it leaves
asked_next : (k i : ℕ) (lines : List Line) (line : Line) (left : List (List ℕ)) → i < length lines → line ≡ get_or lines i line
    → asked_of_lane k (asked_in (drop i lines) left) ≡ asked_of_lane k (asked_at line (take (records_wanted line.work) left))
    ++ asked_of_lane k (asked_in (drop (i + 1) lines) (drop (records_wanted line.work) left))
asked_next k i lines line left lt is =
    let next : suc i ≡ i + 1 = omega arith in
    let parts : drop i lines ≡ line ∷ drop (i + 1) lines = drop-cons lines i line lt ∙ (λ j. sym is j ∷ drop (next j) lines) in
    ap (λ ls. asked_of_lane k (asked_in ls left)) parts
    ∙ filter-append (λ (n : Numbered). n.lane == k) (asked_at line (take (records_wanted line.work) left)) (asked_in (drop (i + 1) lines) (drop (records_wanted line.work) left))

-- of a line of the lane all that it asks is the lane's
pub next_own : (k i : ℕ) (lines : List Line) (line : Line) (left taken others : List (List ℕ)) → i < length lines → line ≡ get_or lines i line → line.lane ≡ k
    → taken ≡ take (records_wanted line.work) left → others ≡ drop (records_wanted line.work) left
    → asked_of_lane k (asked_in (drop i lines) left) ≡ asked_at line taken ++ asked_of_lane k (asked_in (drop (i + 1) lines) others)
next_own k i lines line left taken others lt is lane one two =
    asked_next k i lines line left lt is
    ∙ (let own = own_all (part_of line) k (parts_of line.work (take (records_wanted line.work) left)) (λ a. lane) in
    λ j. own j ++ asked_of_lane k (asked_in (drop (i + 1) lines) (drop (records_wanted line.work) left)))
    ∙ (λ j. asked_at line (sym one j) ++ asked_of_lane k (asked_in (drop (i + 1) lines) (sym two j)))

-- of any other nothing is
pub next_other : (k i : ℕ) (lines : List Line) (line : Line) (left others : List (List ℕ)) → i < length lines → line ≡ get_or lines i line → (line.lane ≡ k → ⊥)
    → others ≡ drop (records_wanted line.work) left
    → asked_of_lane k (asked_in (drop i lines) left) ≡ asked_of_lane k (asked_in (drop (i + 1) lines) others)
next_other k i lines line left others lt is other two =
    asked_next k i lines line left lt is
    ∙ (let none = own_none (part_of line) k (parts_of line.work (take (records_wanted line.work) left)) (λ a. other) in
    λ j. none j ++ asked_of_lane k (asked_in (drop (i + 1) lines) (drop (records_wanted line.work) left)))
    ∙ (λ j. asked_of_lane k (asked_in (drop (i + 1) lines) (sym two j)))

-- ---- record after record

packets-push : (line : Line) (event from : ℕ) (xs : List (List ℕ)) (x : List ℕ) → packets line event from (xs ++ x ∷ []) ≡ packets line event from xs ++ alone line (from + length xs) (raise_with event x)
packets-push line event from [] x = ap (λ n. alone line n (raise_with event x)) (omega arith)
packets-push line event from (y ∷ xs) x =
    ap (λ (l : List Numbered). alone line from (raise_with event y) ++ l)
    (packets-push line event (from + 1) xs x ∙ ap (λ n. packets line event (from + 1) xs ++ alone line n (raise_with event x)) (omega arith))

pub packets_more : (line : Line) (event i part : ℕ) (records : List (List ℕ)) (frame : List ℕ) → i < length records → frame ≡ get_or records i frame → part ≡ i + 1
    → packets line event 1 (take (i + 1) records) ≡ packets line event 1 (take i records) ++ alone line part (raise_with event frame)
packets_more line event i part records frame lt is number =
    let long : 1 + length (take i records) ≡ part = omega (arith, length-take i records, number) in
    ap (packets line event 1) (take_more records i frame lt)
    ∙ packets-push line event 1 (take i records) (get_or records i frame)
    ∙ (λ j. packets line event 1 (take i records) ++ alone line (long j) (raise_with event (sym is j)))
