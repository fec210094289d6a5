-- What lines ask of one lane.
use Rattle.std.proofs.Common.{◌≡◌, ◌≢◌, ◌==◌, ℕ, suc, ◌+◌, ◌<◌, ◌≤◌, Bool, true, false, cond, List, [], ◌∷◌, ◌++◌, map, length, take, drop, get_or, sum_by, refl, sym, ap, ◌∙◌, arith, eq-eqb, ne_eqb}
use Rattle.std.specs.List.{enumerate_from}
use Rattle.std.proofs.lemmas.List.{length-take, take_more, take-append-drop}
use Rattle.std.proofs.lemmas.List.Elements.{filter-append}
use Rattle.std.proofs.Math.Seq.{drop-cons}
use Rattle.spin_word.specs.declared.work.Work.{Work}
use Rattle.spin_word.specs.declared.work.Work.TheVariants as work
use Rattle.spin_script.specs.declared.script.Line.{Line}
use Rattle.spin_script.specs.States.{deed_count}
use Rattle.spin_report.specs.Asked.{Numbered}
use Rattle.spin_report.specs.Segments.{records_wanted, raise_with, parts_of, asked_at, asked_in, asked_of_lane}
use Rattle.spin_report.proofs.Asking.{asked_few}
use Rattle.spin_run.specs.Inner.Answering.{asked_alone, asked_packets}

-- ---- whose it is

own_all : {A : Type 0} (f : A → Numbered) (k lane : ℕ) (xs : List A) → ((a : A) → (f a).lane ≡ lane) → lane ≡ k → asked_of_lane k (map f xs) ≡ map f xs
own_all f k lane [] each e = refl
own_all f k lane (x ∷ xs) each e =
    ap (λ b. cond b (f x ∷ asked_of_lane k (map f xs)) (asked_of_lane k (map f xs))) (eq-eqb (f x).lane k (each x ∙ e))
    ∙ ap (λ l. f x ∷ l) (own_all f k lane xs each e)

own_none : {A : Type 0} (f : A → Numbered) (k lane : ℕ) (xs : List A) → ((a : A) → (f a).lane ≡ lane) → lane ≢ k → asked_of_lane k (map f xs) ≡ []
own_none f k lane [] each other = refl
own_none f k lane (x ∷ xs) each other =
    ap (λ b. cond b (f x ∷ asked_of_lane k (map f xs)) (asked_of_lane k (map f xs))) (ne_eqb (f x).lane k (λ same. other (sym (each x) ∙ same)))
    ∙ own_none f k lane xs each other

-- a line of the lane asks it for all that it asks, and another line for nothing
pub own_line : (k : ℕ) (line : Line) (records : List (List ℕ)) → line.lane ≡ k → asked_of_lane k (asked_at line records) ≡ asked_at line records
own_line k line records is =
    own_all (λ (part : ℕ × Work). record { lane = line.lane; line = line.number; part = part.0; asked = part.1 }) k line.lane (parts_of line.work records) (λ a. refl) is

pub other_line : (k : ℕ) (line : Line) (records : List (List ℕ)) → line.lane ≢ k → asked_of_lane k (asked_at line records) ≡ []
other_line k line records other =
    own_none (λ (part : ℕ × Work). record { lane = line.lane; line = line.number; part = part.0; asked = part.1 }) k line.lane (parts_of line.work records) (λ a. refl) other

-- what is asked from a line on is what it asks, and what is asked from the next line on with the records that it leaves
pub asked_next : (k i : ℕ) (lines : List Line) (line : Line) (left : List (List ℕ)) → i < length lines → line ≡ get_or lines i line
    → asked_of_lane k (asked_in (drop i lines) left) ≡ asked_of_lane k (asked_at line (take (records_wanted line.work) left))
    ++ asked_of_lane k (asked_in (drop (i + 1) lines) (drop (records_wanted line.work) left))
asked_next k i lines line left lt is =
    let next : suc i ≡ i + 1 = omega arith in
    let parts : drop i lines ≡ line ∷ drop (i + 1) lines = drop-cons lines i line lt ∙ (λ j. sym is j ∷ drop (next j) lines) in
    ap (λ ls. asked_of_lane k (asked_in ls left)) parts
    ∙ filter-append (λ (n : Numbered). n.lane == k) (asked_at line (take (records_wanted line.work) left)) (asked_in (drop (i + 1) lines) (drop (records_wanted line.work) left))

-- ---- how many

own_fewer : (k : ℕ) (asked : List Numbered) → length (asked_of_lane k asked) ≤ length asked
own_fewer k [] = omega arith
own_fewer k (n ∷ asked) = go (n.lane == k) (own_fewer k asked)
  where
    go : (b : Bool) → length (asked_of_lane k asked) ≤ length asked → length (cond b (n ∷ asked_of_lane k asked) (asked_of_lane k asked)) ≤ length (n ∷ asked)
    go true le = omega arith
    go false le = omega arith

-- a lane is asked no more than the deeds of all lines
pub own_few : (k : ℕ) (lines : List Line) (records : List (List ℕ)) → length (asked_of_lane k (asked_in lines records)) ≤ sum_by (λ line. deed_count line.work) lines
own_few k lines records =
    let all = asked_few lines records in
    let own = own_fewer k (asked_in lines records) in
    omega arith

-- ---- the records of a packet line

enumerate-push : (from : ℕ) (xs : List (List ℕ)) (x : List ℕ) → enumerate_from from (xs ++ x ∷ []) ≡ enumerate_from from xs ++ (from + length xs, x) ∷ []
enumerate-push from [] x = ap (λ n. (n, x) ∷ []) (omega arith)
enumerate-push from (y ∷ xs) x = ap (λ l. (from, y) ∷ l) (enumerate-push (from + 1) xs x ∙ ap (λ n. enumerate_from (from + 1) xs ++ (n, x) ∷ []) (omega arith))

packets-push : (lane line event from : ℕ) (xs : List (List ℕ)) (x : List ℕ)
    → asked_packets lane line event from (xs ++ x ∷ []) ≡ asked_packets lane line event from xs ++ asked_alone lane line (from + length xs) (raise_with event x)
packets-push lane line event from [] x = ap (λ n. asked_alone lane line n (raise_with event x)) (omega arith)
packets-push lane line event from (y ∷ xs) x =
    ap (λ l. asked_alone lane line from (raise_with event y) ++ l)
    (packets-push lane line event (from + 1) xs x ∙ ap (λ n. asked_packets lane line event (from + 1) xs ++ asked_alone lane line n (raise_with event x)) (omega arith))

-- the next record
pub packets_more : (lane line event i part : ℕ) (records : List (List ℕ)) (record' : List ℕ) → i < length records → record' ≡ get_or records i record' → part ≡ i + 1
    → asked_packets lane line event 1 (take (i + 1) records) ≡ asked_packets lane line event 1 (take i records) ++ asked_alone lane line part (raise_with event record')
packets_more lane line event i part records record' lt is number =
    let long : 1 + length (take i records) ≡ part = omega (arith, length-take i records, number) in
    ap (asked_packets lane line event 1) (take_more records i record' lt)
    ∙ packets-push lane line event 1 (take i records) (get_or records i record')
    ∙ (λ j. asked_packets lane line event 1 (take i records) ++ asked_alone lane line (long j) (raise_with event (sym is j)))

packets-append : (lane line event from : ℕ) (xs ys : List (List ℕ)) → asked_packets lane line event from (xs ++ ys) ≡ asked_packets lane line event from xs ++ asked_packets lane line event (from + length xs) ys
packets-append lane line event from [] ys = ap (λ n. asked_packets lane line event n ys) (omega arith)
packets-append lane line event from (x ∷ xs) ys =
    ap (λ l. asked_alone lane line from (raise_with event x) ++ l)
    (packets-append lane line event (from + 1) xs ys ∙ ap (λ n. asked_packets lane line event (from + 1) xs ++ asked_packets lane line event n ys) (omega arith))

-- what is asked behind the first records, of which the next one is the first
abbrev pub packets_behind : ℕ → ℕ → ℕ → ℕ → List (List ℕ) → List Numbered
packets_behind lane line event i records = asked_packets lane line event (i + 1 + 1) (drop (i + 1) records)

-- the first records, the next one, and those behind it
pub packets_parts : (lane line event i : ℕ) (records : List (List ℕ)) (record' : List ℕ) → i < length records
    → asked_packets lane line event 1 records ≡ asked_packets lane line event 1 (take i records)
    ++ (asked_alone lane line (i + 1) (raise_with event (get_or records i record')) ++ packets_behind lane line event i records)
packets_parts lane line event i records record' lt =
    let next : suc i ≡ i + 1 = omega arith in
    let long : 1 + length (take i records) ≡ i + 1 = omega (arith, length-take i records, lt) in
    let parts : drop i records ≡ get_or records i record' ∷ drop (i + 1) records = drop-cons records i record' lt ∙ (λ j. get_or records i record' ∷ drop (next j) records) in
    sym (ap (asked_packets lane line event 1) (take-append-drop i records)) ∙ packets-append lane line event 1 (take i records) (drop i records)
    ∙ (λ j. asked_packets lane line event 1 (take i records) ++ asked_packets lane line event (long j) (parts j))

pub packets_count : (lane line event from : ℕ) (records : List (List ℕ)) → length (asked_packets lane line event from records) ≡ length records
packets_count lane line event from [] = refl
packets_count lane line event from (r ∷ records) = ap suc (packets_count lane line event (from + 1) records)

pub packet_count : (line : Line) (records : List (List ℕ)) (event count : ℕ) → line.work ≡ work.Packet event count → length (asked_at line records) ≡ length records
packet_count line records event count is =
    let number : ℕ × Work → Numbered = λ part. record { lane = line.lane; line = line.number; part = part.0; asked = part.1 } in
    ap (λ w. length (map number (parts_of w records))) is ∙ packets_count line.lane line.number event 1 records
