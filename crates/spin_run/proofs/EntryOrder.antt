-- The order of entries.
use Rattle.std.proofs.Common.{◌≡◌, ◌==◌, ◌≢◌, ⊎_elim, ℕ, ◌+◌, ◌*◌, ◌<◌, ◌≤◌, Bool, true, false, cond, eqb, ltb, List}
use Rattle.std.proofs.Common.{[], ◌∷◌, ◌++◌, map, length, get_or, refl, sym, ap, ◌∙◌, subst, arith, length-append}
use Rattle.std.specs.Prelude.{not, All}
use Rattle.std.specs.List.{AllAdjacentBelow, AllPairs}
use Rattle.std.specs.Ordering.{nat_cmp, bool_cmp, ordering_then, is_lt}
use Rattle.std.specs.declared.cmp.Ordering.{Ordering}
use Rattle.std.specs.declared.cmp.Ordering.TheVariants.{Less, Equal, Greater}
use Rattle.std.specs.Cmp.{IsTotalOrder, IsStrictWeakOrder, bool_cmp_total}
use Rattle.std.specs.List.Sorted.{IsNonDecreasingBy}
use Rattle.std.proofs.lemmas.Cmp.{nat_cmp_total, on_total, then_total}
use Rattle.std.proofs.lemmas.Bool.{false≢true, eqb-false, ne_eqb, eq-eqb, ltb-false, le-ltb}
use Rattle.std.proofs.lemmas.List.{get_or_append_left, get_or-map, length-map}
use Rattle.std.proofs.lemmas.List.Sorted.{ranks_by, sorted_far}
use Rattle.spin_table.specs.declared.refusal.Verdicted.TheVariants as verdicted
use Rattle.spin_seat.specs.Answers as seat
use Rattle.spin_seat.specs.Runs.{Follows}
use Rattle.spin_seat.specs.Weaves.{rank}
use Rattle.spin_seat.proofs.SeatAnswers.{below}
use Rattle.spin_report.specs.declared.entry.What.{What}
use Rattle.spin_report.specs.declared.entry.What.TheVariants as what
use Rattle.spin_report.specs.declared.entry.Entry.{Entry}
use Rattle.spin_report.specs.Asked.{Numbered, asked_of}
use Rattle.spin_report.specs.Segments.{is_accepted, moment, moment_cmp, IsInOrder}
use Rattle.spin_report.proofs.Asking.{IsLater}
use Rattle.spin_run.specs.Lanes.{said_of, seat_answer}

pub moment_total : IsTotalOrder moment_cmp
moment_total =
    then_total (then_total (then_total (then_total (on_total (λ (t : ℕ × Bool × ℕ × ℕ × ℕ). t.0) nat_cmp_total) (on_total (λ (t : ℕ × Bool × ℕ × ℕ × ℕ). t.1) bool_cmp_total))
    (on_total (λ (t : ℕ × Bool × ℕ × ℕ × ℕ). t.2) nat_cmp_total)) (on_total (λ (t : ℕ × Bool × ℕ × ℕ × ℕ). t.3) nat_cmp_total)) (on_total (λ (t : ℕ × Bool × ℕ × ℕ × ℕ). t.4) nat_cmp_total)

abbrev pub earlier : Entry → Entry → Bool
earlier x y = is_lt (moment_cmp (moment x) (moment y))

pub earlier_weak : IsStrictWeakOrder earlier
earlier_weak = ranks_by moment_total moment

-- an entry and its answer are accepted commands alike
pub accepted_said : (w : What) → seat.is_accepted (said_of w) ≡ is_accepted w
accepted_said (what.Command c verdicted.Accepted) = refl
accepted_said (what.Command c (verdicted.Refused r)) = refl
accepted_said (what.Deed d r) = refl

-- ---- the order of entries is one of places

then_less : (o x y z : Ordering) → o ≡ Less → is_lt (ordering_then (ordering_then (ordering_then o x) y) z) ≡ true
then_less Less x y z e = refl
then_less Equal x y z e = absurd (cc (e))
then_less Greater x y z e = absurd (cc (e))

by_rank : (p q : ℕ) (s t : Bool) → (ordering_then (nat_cmp p q) (bool_cmp (not s) (not t)) ≢ Less) → 2 * q + cond t 0 1 ≤ 2 * p + cond s 0 1
by_rank p q s t not_before = go (ltb p q) refl (eqb p q) refl s t not_before
  where
    go : (b : Bool) → ltb p q ≡ b → (c : Bool) → eqb p q ≡ c → (s t : Bool)
        → (ordering_then (cond b Less (cond c Equal Greater)) (bool_cmp (not s) (not t)) ≢ Less) → 2 * q + cond t 0 1 ≤ 2 * p + cond s 0 1
    go true b c c' s t never = absurd (never refl)
    go false b c c' true true never = let le = ltb-false p q b in omega arith
    go false b c c' false false never = let le = ltb-false p q b in omega arith
    go false b c c' false true never = let le = ltb-false p q b in omega arith
    go false b true c true false never = absurd (never refl)
    go false b false c true false never = let le = ltb-false p q b in let ne = eqb-false p q c in omega arith

non_decreasing_map : {X Y : Type 0} (f : X → Y) (n : Y → ℕ) (xs : List X) → IsNonDecreasingBy (λ x. n (f x)) xs → IsNonDecreasingBy n (map f xs)
non_decreasing_map f n [] up i j d le lt = absurd (omega arith)
non_decreasing_map {X} {Y} f n (x ∷ xs) up i j d le lt =
    let size = length-map (x ∷ xs) f in
    let at : (k : ℕ) → k < length (x ∷ xs) → f (get_or (x ∷ xs) k x) ≡ get_or (map f (x ∷ xs)) k d = λ k h. sym (get_or-map f (x ∷ xs) k x d h) in
    subst (λ (p : Y × Y). n p.0 ≤ n p.1) (λ h. (at i (omega (arith, size)) h, at j (omega (arith, size)) h)) (up i j x le (omega (arith, size)))

-- accepted commands stand before the others of their place
pub rank_rises : (es : List Entry) → IsInOrder es → IsNonDecreasingBy rank (map seat_answer es)
rank_rises es up = non_decreasing_map seat_answer rank es (λ i j d le lt.
    let far = sorted_far earlier earlier_weak es up i j d le lt in
    let x = get_or es j d in
    let y = get_or es i d in
    subst (λ (b : Bool × Bool). 2 * y.place + cond b.0 0 1 ≤ 2 * x.place + cond b.1 0 1) (λ h. (sym (accepted_said y.what) h, sym (accepted_said x.what) h))
    (by_rank x.place y.place (is_accepted x.what) (is_accepted y.what)
    (λ less. false≢true (sym far ∙ then_less (ordering_then (nat_cmp x.place y.place) (bool_cmp (not (is_accepted x.what)) (not (is_accepted y.what))))
    (nat_cmp x.lane y.lane) (nat_cmp x.line y.line) (nat_cmp x.part y.part) less))))

-- ---- the trail of a lane is in order

pub nat_greater : (p q : ℕ) → q < p → nat_cmp p q ≡ Greater
nat_greater p q lt = ap (λ b. cond b Less (cond (p == q) Equal Greater)) (le-ltb p q (omega arith)) ∙ ap (λ b. cond b Equal Greater) (ne_eqb p q (λ same. absurd (omega arith)))

pub nat_same : (p q : ℕ) → p ≡ q → nat_cmp p q ≡ Equal
nat_same p q same = ap (λ b. cond b Less (cond (p == q) Equal Greater)) (le-ltb p q (omega arith)) ∙ ap (λ b. cond b Equal Greater) (eq-eqb p q same)

-- an entry that follows in place and text is not earlier
not_earlier : (x y : Entry) → Follows (seat_answer x) (seat_answer y) → x.lane ≡ y.lane → IsLater (asked_of x) (asked_of y) → earlier y x ≡ false
not_earlier x y follows lane later =
    below x.place y.place follows.0
    (λ (same : x.place ≡ y.place). ap (λ o. is_lt (ordering_then (ordering_then (ordering_then (ordering_then o b) c) l) p)) (nat_same y.place x.place (sym same))
    ∙ by_kind same (is_accepted y.what) refl (is_accepted x.what))
    (λ (less : x.place < y.place). ap (λ o. is_lt (ordering_then (ordering_then (ordering_then (ordering_then o b) c) l) p)) (nat_greater y.place x.place less))
  where
    b : Ordering
    b = bool_cmp (not (is_accepted y.what)) (not (is_accepted x.what))

    c : Ordering
    c = nat_cmp y.lane x.lane

    l : Ordering
    l = nat_cmp y.line x.line

    p : Ordering
    p = nat_cmp y.part x.part

    by_text : is_lt (ordering_then l p) ≡ false
    by_text = ⊎_elim (λ (less : x.line < y.line). ap (λ o. is_lt (ordering_then o p)) (nat_greater y.line x.line less))
        (λ (both : (x.line ≡ y.line) × (x.part < y.part)). (λ i. is_lt (ordering_then (nat_same y.line x.line (sym both.0) i) (nat_greater y.part x.part both.1 i)))) later

    by_lane' : is_lt (ordering_then (ordering_then c l) p) ≡ false
    by_lane' = ap (λ o. is_lt (ordering_then (ordering_then o l) p)) (nat_same y.lane x.lane (sym lane)) ∙ by_text

    by_kind : x.place ≡ y.place → (s : Bool) → is_accepted y.what ≡ s → (t : Bool) → is_lt (ordering_then (ordering_then (ordering_then (bool_cmp (not s) (not t)) c) l) p) ≡ false
    by_kind same true e t = let less = follows.1 (accepted_said y.what ∙ e) in absurd (omega arith)
    by_kind same false e true = refl
    by_kind same false e false = by_lane'

-- entries of one lane whose places rise and that answer deeds in the order of the text are in order
pub trail_in_order : (lane : ℕ) (trail : List Entry) (asked left : List Numbered)
    → AllAdjacentBelow Follows (map seat_answer trail) (length (map seat_answer trail)) → All (λ (e : Entry). e.lane ≡ lane) trail
    → asked ≡ map asked_of trail ++ left → AllPairs IsLater asked → IsInOrder trail
trail_in_order lane trail asked left rising lanes is text k e lo hi =
    let first = get_or trail k e in
    let second = get_or trail (k + 1) e in
    let size : length asked ≡ length trail + length left = ap length is ∙ length-append (map asked_of trail) left ∙ ap (λ n. n + length left) (length-map trail asked_of) in
    let at : (j : ℕ) → j < length trail → get_or asked j (asked_of e) ≡ asked_of (get_or trail j e) = λ j lt.
    ap (λ l. get_or l j (asked_of e)) is ∙ get_or_append_left (map asked_of trail) left (asked_of e) j (omega (arith, length-map trail asked_of)) ∙ get_or-map asked_of trail j e (asked_of e) lt in
    let answer : (j : ℕ) → j < length trail → get_or (map seat_answer trail) j (seat_answer e) ≡ seat_answer (get_or trail j e) = λ j lt. get_or-map seat_answer trail j e (seat_answer e) lt in
    let later : IsLater (asked_of first) (asked_of second) =
    subst (λ (p : Numbered × Numbered). IsLater p.0 p.1) (λ i. (at k (omega arith) i, at (k + 1) hi i)) (text k (k + 1) (asked_of e) (omega arith) (omega (arith, size))) in
    let follows : Follows (seat_answer first) (seat_answer second) =
    subst (λ (p : seat.Answer × seat.Answer). Follows p.0 p.1) (λ i. (answer k (omega arith) i, answer (k + 1) hi i)) (rising k (seat_answer e) (omega (arith, length-map trail seat_answer))) in
    not_earlier first second follows (lanes k e (omega arith) ∙ sym (lanes (k + 1) e hi)) later
