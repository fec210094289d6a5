-- What lanes are to do, asked one after another.
use Rattle.std.proofs.Common.{◌≡◌, ℕ, ◌+◌, ◌*◌, ◌<◌, ◌≤◌, true, false, cond, List, [], ◌∷◌, ◌++◌, map, length, take}
use Rattle.std.proofs.Common.{drop, get_or, set, replicate, refl, sym, ap, subst, ◌∙◌, append_assoc, inl, inr, arith}
use Rattle.std.specs.Prelude.{◌==◌, All, count_by, Option, None, Some, MatchOption}
use Rattle.std.specs.List.{enumerate_from, AllWithin}
use Rattle.std.specs.Option.{option_to_list}
use Rattle.std.proofs.lemmas.Bool.{cases_eq}
use Rattle.std.proofs.lemmas.Bool.Decides.{nat_tests}
use Rattle.std.proofs.lemmas.List.{append-nil, map-append, map-set, get_or-map, length-map, length-take, length-set, get_or-set_same}
use Rattle.std.proofs.lemmas.List.{get_or-set_other, get_or-replicate, length-replicate, drop_more, drop-drop, take_more}
use Rattle.std.proofs.lemmas.List.Elements.{filter-append, All-push}
use Rattle.std.proofs.lemmas.List.Sums.{sum_by-append, sum_by-set, sum_by-cons}
use Rattle.std.proofs.lemmas.List.Folds.{sum_by-replicate}
use Rattle.spin_word.specs.declared.work.Work.{Work}
use Rattle.spin_word.specs.declared.work.Work.TheVariants as work
use Rattle.spin_script.specs.declared.script.Line.{Line}
use Rattle.spin_script.specs.Soundness.{is_command_work, commands_in}
use Rattle.spin_report.specs.Asked.{Numbered}
use Rattle.spin_report.specs.Segments.{records_wanted, raise_with, parts_of, asked_at, asked_in, wanted_by, asked_of_lane}
use Rattle.spin_check.specs.declared.deeds.Ask.{Ask}
use Rattle.spin_check.specs.Inner.Asks.{numbered, IsValid, asks_command, queue_of, left_of, with_ask, commands_left, commands_asked, AreAsked, Adds, packets_at}

pub adds_none : (queues : List (List Ask)) → Adds [] queues queues
adds_none queues = record {
  lanes = refl;
  each = λ k lt. sym (append-nil (left_of k queues));
  valid = λ h. h;
  commands = omega arith;
}

pub adds_both : (a b : List Numbered) (q r s : List (List Ask)) → Adds a q r → Adds b r s → Adds (a ++ b) q s
adds_both a b q r s one two = record {
  lanes = two.lanes ∙ one.lanes;
  each = λ k lt.
      two.each k (omega (arith, lt, one.lanes)) ∙ ap (λ x. x ++ asked_of_lane k b) (one.each k lt)
      ∙ append_assoc (left_of k q) (asked_of_lane k a) (asked_of_lane k b)
      ∙ ap (λ x. left_of k q ++ x) (sym (filter-append (λ (n : Numbered). n.lane == k) a b));
  valid = λ h. two.valid (one.valid h);
  commands = omega (arith, one.commands, two.commands, sum_by-append (λ (n : Numbered). cond (is_command_work n.asked) 1 0) a b);
}

-- all items of a list with one set
pub all_set : {X : Type 0} (P : X → Type 0) (xs : List X) (at : ℕ) (x : X) → at < length xs → All P xs → P x → All P (set xs at x)
all_set P xs at x lt h p k d within =
    elim (cases_eq k at) [
      | inl is ↦ subst P (sym (ap (λ i. get_or (set xs at x) i d) is ∙ get_or-set_same xs at x d lt)) p
      | inr other ↦ subst P (sym (get_or-set_other xs at k x d other)) (h k d (omega (arith, within, length-set xs at x)))
    ]

one_command : (ask : Ask) → count_by asks_command (ask ∷ []) ≡ commands_asked (numbered ask ∷ [])
one_command ask = refl

pub adds_one : (ask : Ask) (queues : List (List Ask)) → ask.lane < length queues → IsValid ask → Adds (numbered ask ∷ []) queues (with_ask ask queues)
adds_one ask queues lt valid =
    let old = queue_of ask.lane queues in
    let new = old ++ ask ∷ [] in
    let sums : commands_left (with_ask ask queues) + count_by asks_command old ≡ commands_left queues + count_by asks_command new =
    sum_by-set (λ queue. count_by asks_command queue) queues ask.lane new [] lt in
    let grown : count_by asks_command new ≡ count_by asks_command old + count_by asks_command (ask ∷ []) = sum_by-append (λ (a : Ask). cond (asks_command a) 1 0) old (ask ∷ []) in
    record {
      lanes = length-set queues ask.lane new;
      each = λ k within.
          elim (cases_eq k ask.lane) [
            | inl is ↦
                let here : (ask.lane == k) ≡ true = grind (arith, nat_tests, is) in
                let mine : asked_of_lane k (numbered ask ∷ []) ≡ numbered ask ∷ [] = ap (λ b. cond b (numbered ask ∷ []) []) here in
                let read : queue_of k (with_ask ask queues) ≡ queue_of k queues ++ ask ∷ [] =
                ap (λ i. get_or (with_ask ask queues) i []) is ∙ get_or-set_same queues ask.lane new [] lt ∙ ap (λ i. queue_of i queues ++ ask ∷ []) (sym is) in
                ap (map numbered) read ∙ map-append numbered (queue_of k queues) (ask ∷ []) ∙ ap (λ x. left_of k queues ++ x) (sym mine)
            | inr other ↦
                let apart : (ask.lane == k) ≡ false = grind (arith, nat_tests, other) in
                let none : asked_of_lane k (numbered ask ∷ []) ≡ [] = ap (λ b. cond b (numbered ask ∷ []) []) apart in
                ap (map numbered) (get_or-set_other queues ask.lane k new [] other) ∙ sym (append-nil (left_of k queues)) ∙ ap (λ x. left_of k queues ++ x) (sym none)
          ];
      valid = λ h. all_set (λ queue. All IsValid queue) queues ask.lane new lt h (All-push IsValid old ask (h ask.lane [] lt) valid);
      commands = omega (arith, sums, grown, one_command ask);
    }

-- ---- lines

-- what a part of a line asks, and what a line of packets asks with a record, by its part
abbrev part_asked : Line → ℕ × Work → Numbered
part_asked line p = record { lane = line.lane; line = line.number; part = p.0; asked = p.1 }

abbrev packet_asked : Line → ℕ → ℕ × List ℕ → Numbered
packet_asked line event r = record { lane = line.lane; line = line.number; part = r.0; asked = raise_with event r.1 }

map_twice : (line : Line) (event : ℕ) (records : List (ℕ × List ℕ))
    → map (part_asked line) (map (λ (r : ℕ × List ℕ). (r.0, raise_with event r.1)) records) ≡ map (packet_asked line event) records
map_twice line event [] = refl
map_twice line event (r ∷ records) = ap (λ (x : List Numbered). packet_asked line event r ∷ x) (map_twice line event records)

pub asked_packets : (line : Line) (event count : ℕ) (records : List (List ℕ)) → line.work ≡ work.Packet event count → asked_at line records ≡ packets_at line event 1 records
asked_packets line event count records is =
    ap (λ v. map (part_asked line) (parts_of v records)) is ∙ map_twice line event (enumerate_from 1 records)

enumerate_more : {X : Type 0} (n : ℕ) (xs : List X) (x : X) → enumerate_from n (xs ++ x ∷ []) ≡ enumerate_from n xs ++ (n + length xs, x) ∷ []
enumerate_more n [] x = ap (λ (k : ℕ). (k, x) ∷ []) (let e : n ≡ n + 0 = omega arith in e)
enumerate_more n (y ∷ xs) x =
    ap (λ z. (n, y) ∷ z) (enumerate_more (n + 1) xs x ∙ ap (λ (k : ℕ). enumerate_from (n + 1) xs ++ (k, x) ∷ []) (let e : n + 1 + length xs ≡ n + length (y ∷ xs) = omega arith in e))

-- one record more
pub packets_more : (line : Line) (event : ℕ) (records : List (List ℕ)) (record' : List ℕ) (ask : Ask) → ask.lane ≡ line.lane → ask.line ≡ line.number → ask.part ≡ length records + 1
    → (numbered ask).asked ≡ raise_with event record' → packets_at line event 1 (records ++ record' ∷ []) ≡ packets_at line event 1 records ++ numbered ask ∷ []
packets_more line event records record' ask lane number part asked =
    let at : 1 + length records ≡ ask.part = omega (arith, part) in
    let one : packet_asked line event (1 + length records, record') ≡ numbered ask = λ i. record { lane = sym lane i; line = sym number i; part = at i; asked = sym asked i } in
    ap (map (packet_asked line event)) (enumerate_more 1 records record')
    ∙ map-append (packet_asked line event) (enumerate_from 1 records) ((1 + length records, record') ∷ [])
    ∙ ap (λ (n : Numbered). packets_at line event 1 records ++ n ∷ []) one

-- ---- the lines of a segment

none_of_packets : (line : Line) (event : ℕ) (rs : List (ℕ × List ℕ)) → commands_asked (map (packet_asked line event) rs) ≡ 0
none_of_packets line event [] = refl
none_of_packets line event (r ∷ rs) =
    let step = sum_by-cons (λ (n : Numbered). cond (is_command_work n.asked) 1 0) (packet_asked line event r) (map (packet_asked line event) rs) in
    omega (arith, step, none_of_packets line event rs)

asked_commands : (line : Line) (records : List (List ℕ)) → (w : Work) → line.work ≡ w → commands_asked (asked_at line records) ≡ cond (is_command_work line.work) 1 0
asked_commands line records (work.Command c) is =
    ap (λ v. commands_asked (map (part_asked line) (parts_of v records))) is ∙ ap (λ v. cond {A = ℕ} (is_command_work v) 1 0) (sym is)
asked_commands line records (work.Deed d) is =
    ap (λ v. commands_asked (map (part_asked line) (parts_of v records))) is ∙ ap (λ v. cond {A = ℕ} (is_command_work v) 1 0) (sym is)
asked_commands line records (work.Packet event count) is =
    ap commands_asked (asked_packets line event count records is) ∙ none_of_packets line event (enumerate_from 1 records) ∙ ap (λ v. cond {A = ℕ} (is_command_work v) 1 0) (sym is)

-- how far the lines of a segment are gone over
pub record IsGoneOver (lanes : ℕ) (lines : List Line) (records : List (List ℕ)) (i : ℕ) (queues : List (List Ask)) (left : List (List ℕ)) : Type 0 where
  pub asked : List Numbered
  pub adds : Adds asked (replicate lanes []) queues
  pub all : asked_in lines records ≡ asked ++ asked_in (drop i lines) left
  pub commands : commands_asked asked + commands_in (drop i lines) ≡ commands_in lines
  pub wanted : drop (wanted_by (drop i lines)) left ≡ drop (wanted_by lines) records

pub gone_none : (lanes : ℕ) (lines : List Line) (records : List (List ℕ)) → IsGoneOver lanes lines records 0 (replicate lanes []) records
gone_none lanes lines records = record {
  asked = [];
  adds = adds_none (replicate lanes []);
  all = refl;
  commands = omega arith;
  wanted = refl;
}

pub gone_more : (lanes : ℕ) (lines : List Line) (records : List (List ℕ)) (i : ℕ) (q r : List (List Ask)) (left taken others : List (List ℕ)) (line : Line)
    → i < length lines → line ≡ get_or lines i line → taken ≡ take (records_wanted line.work) left → others ≡ drop (records_wanted line.work) left
    → IsGoneOver lanes lines records i q left → Adds (asked_at line taken) q r → IsGoneOver lanes lines records (i + 1) r others
gone_more lanes lines records i q r left taken others line lt is taken_is others_is over more =
    let next : drop i lines ≡ line ∷ drop (i + 1) lines = drop_more lines i line lt ∙ ap (λ l. l ∷ drop (i + 1) lines) (sym is) in
    let rest = drop (i + 1) lines in
    let asks : asked_in (drop i lines) left ≡ asked_at line taken ++ asked_in rest others =
    ap (λ ls. asked_in ls left) next ∙ (λ j. asked_at line (sym taken_is j) ++ asked_in rest (sym others_is j)) in
    let count : commands_in (drop i lines) ≡ cond (is_command_work line.work) 1 0 + commands_in rest = ap commands_in next ∙ sum_by-cons (λ (l : Line). cond (is_command_work l.work) 1 0) line rest in
    let wants : wanted_by (drop i lines) ≡ records_wanted line.work + wanted_by rest = ap wanted_by next ∙ sum_by-cons (λ (l : Line). records_wanted l.work) line rest in
    let gone : drop (wanted_by rest) others ≡ drop (wanted_by (drop i lines)) left =
    ap (drop (wanted_by rest)) others_is ∙ drop-drop (wanted_by rest) (records_wanted line.work) left ∙ ap (λ n. drop n left) (sym wants) in
    record {
      asked = over.asked ++ asked_at line taken;
      adds = adds_both over.asked (asked_at line taken) (replicate lanes []) q r over.adds more;
      all = over.all ∙ ap (λ x. over.asked ++ x) asks ∙ sym (append_assoc over.asked (asked_at line taken) (asked_in rest others));
      commands = omega (arith, over.commands, count, asked_commands line taken line.work refl, sum_by-append (λ (n : Numbered). cond (is_command_work n.asked) 1 0) over.asked (asked_at line taken));
      wanted = gone ∙ over.wanted;
    }

empty_valid : (lanes : ℕ) → All (λ queue. All IsValid queue) (replicate lanes [])
empty_valid lanes k d lt =
    subst (λ queue. All IsValid queue) (sym (get_or-replicate lanes k [] d (omega (arith, lt, length-replicate {A = List Ask} lanes [])))) (λ j x l. absurd (omega (arith, l)))

pub gone_all : (lanes : ℕ) (lines : List Line) (records : List (List ℕ)) (i : ℕ) (queues : List (List Ask)) (left : List (List ℕ)) → drop i lines ≡ []
    → IsGoneOver lanes lines records i queues left
    → AreAsked lanes (asked_in lines records) queues × (commands_left queues ≡ commands_in lines) × (left ≡ drop (wanted_by lines) records)
gone_all lanes lines records i queues left end over =
    let long : length (replicate {A = List Ask} lanes []) ≡ lanes = length-replicate lanes [] in
    let all : asked_in lines records ≡ over.asked = over.all ∙ ap (λ ls. over.asked ++ asked_in ls left) end ∙ append-nil over.asked in
    let none : commands_left (replicate lanes []) ≡ lanes * 0 = sum_by-replicate (λ (queue : List Ask). count_by asks_command queue) lanes [] in (
      record {
        lanes = over.adds.lanes ∙ long;
        each = λ k lt.
            over.adds.each k (omega (arith, lt, long)) ∙ ap (λ queue. map numbered queue ++ asked_of_lane k over.asked) (get_or-replicate lanes k [] [] lt) ∙ ap (asked_of_lane k) (sym all);
        valid = over.adds.valid (empty_valid lanes);
      },
      omega (arith, over.adds.commands, over.commands, ap commands_in end, none),
      ap (λ ls. drop (wanted_by ls) left) (sym end) ∙ over.wanted,
    )

-- ---- queues, each of which is seen as the list of its items

module _ {Q : Type 0} (f : Q → List Ask) (qs : List Q) (queues : List (List Ask)) (seen : map f qs ≡ queues) where
  seen_long : length queues ≡ length qs
  seen_long = ap length (sym seen) ∙ length-map qs f

  seen_at : (k : ℕ) (q : Q) (d : List Ask) → k < length qs → q ≡ get_or qs k q → get_or queues k d ≡ f q
  seen_at k q d lt is = ap (λ l. get_or l k d) (sym seen) ∙ get_or-map f qs k q d lt ∙ ap f (sym is)

  -- one queue is another
  pub seen_set : (k : ℕ) (r : Q) (l : List Ask) → f r ≡ l → map f (set qs k r) ≡ set queues k l
  seen_set k r l is = map-set f qs k r ∙ (λ i. set (seen i) k (is i))

  pub seen_added : (ask : Ask) (q r : Q) → ask.lane < length qs → q ≡ get_or qs ask.lane q → f r ≡ f q ++ ask ∷ [] → map f (set qs ask.lane r) ≡ with_ask ask queues
  seen_added ask q r lt is grown = seen_set ask.lane r (queue_of ask.lane queues ++ ask ∷ []) (grown ∙ ap (λ l. l ++ ask ∷ []) (sym (seen_at ask.lane q [] lt is)))

  pub seen_taken : (lane : ℕ) (q r : Q) (o : Option Ask) → lane < length qs → q ≡ get_or qs lane q
      → MatchOption o (f q ≡ []) (λ ask. f q ≡ ask ∷ f r)
      → MatchOption o (queue_of lane queues ≡ []) (λ ask. (lane < length queues) × (queue_of lane queues ≡ ask ∷ drop 1 (queue_of lane queues))
      × (map f (set qs lane r) ≡ set queues lane (drop 1 (queue_of lane queues))))
  seen_taken lane q r None lt is none = seen_at lane q [] lt is ∙ none
  seen_taken lane q r (Some ask) lt is first =
      let here : queue_of lane queues ≡ ask ∷ f r = seen_at lane q [] lt is ∙ first in
      let rest : drop 1 (queue_of lane queues) ≡ f r = ap (drop 1) here in
      (omega (arith, lt, seen_long), here ∙ ap (λ l. ask ∷ l) (sym rest), seen_set lane r (drop 1 (queue_of lane queues)) (sym rest))

  pub seen_left : (k : ℕ) (q : Q) → k < length qs → q ≡ get_or qs k q → (f q ≡ [] → ⊥) → All (λ queue. queue ≡ []) queues → ⊥
  seen_left k q lt is some none = some (sym (seen_at k q [] lt is) ∙ none k [] (omega (arith, lt, seen_long)))

  pub seen_none : (n : ℕ) → length qs ≤ n → AllWithin (λ q. f q ≡ []) qs 0 n → All (λ queue. queue ≡ []) queues
  seen_none n past h k d lt = go qs refl where
    go : (xs : List Q) → xs ≡ qs → get_or queues k d ≡ []
    go [] is = absurd (omega (arith, lt, seen_long, ap length is))
    go (x ∷ xs) is =
        let within : k < length qs = omega (arith, lt, seen_long) in
        ap (λ l. get_or l k d) (sym seen) ∙ get_or-map f qs k x d within ∙ h k x (omega arith) (omega (arith, within, past))

empty_list : (l : List Ask) → length l ≡ 0 → l ≡ []
empty_list [] none = refl
empty_list (a ∷ l) none = absurd (cc (none))

-- what was taken out of a queue with so many, and what is left
pub popped : (o : Option Ask) (old new : List Ask) (n m : ℕ) → n ≡ length old → old ≡ option_to_list o ++ new → MatchOption o ((n ≡ 0) × (m ≡ 0)) (λ _. m + 1 ≡ n)
    → MatchOption o (old ≡ []) (λ ask. old ≡ ask ∷ new)
popped None old new n m long is cases = empty_list old (sym long ∙ cases.0)
popped (Some ask) old new n m long is cases = is

-- what a front of the list answers of a record more
pub packets_next : (line : Line) (event : ℕ) (records : List (List ℕ)) (k : ℕ) (frame : List ℕ) (ask : Ask) (old now next : List (List Ask)) → k < length records → frame ≡ get_or records k frame
    → ask.lane ≡ line.lane → ask.line ≡ line.number → ask.part ≡ k + 1 → (numbered ask).asked ≡ raise_with event frame → ask.lane < length old → IsValid ask → length old ≡ length now
    → Adds (packets_at line event 1 (take k records)) old now → next ≡ with_ask ask now → Adds (packets_at line event 1 (take (k + 1) records)) old next
packets_next line event records k frame ask old now next lt is lane number part asked there valid same before pushed =
    let front : take (k + 1) records ≡ take k records ++ frame ∷ [] = take_more records k frame lt ∙ ap (λ r. take k records ++ r ∷ []) (sym is) in
    let long : length (take k records) ≡ k = omega (arith, length-take k records, lt) in
    let more : packets_at line event 1 (take k records ++ frame ∷ []) ≡ packets_at line event 1 (take k records) ++ numbered ask ∷ [] =
    packets_more line event (take k records) frame ask lane number (omega (arith, part, long)) asked in
    subst (λ a. Adds a old next) (sym (ap (packets_at line event 1) front ∙ more))
    (adds_both (packets_at line event 1 (take k records)) (numbered ask ∷ []) old now next before
    (subst (λ q. Adds (numbered ask ∷ []) now q) (sym pushed) (adds_one ask now (omega (arith, there, same)) valid)))
