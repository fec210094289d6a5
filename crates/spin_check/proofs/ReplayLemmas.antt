-- A replay that goes along the entries of a report.
use Rattle.std.proofs.Common.{◌≡◌, ℕ, zero, suc, ◌+◌, ◌<◌, Bool, true, false, cond, List, [], ◌∷◌, ◌++◌, map, length, drop, get_or, refl, sym, ap, subst, ◌∙◌, append_assoc, inl, inr, arith}
use Rattle.std.specs.Prelude.{◌==◌, All, Option, None, Some}
use Rattle.std.specs.List.{flat_map}
use Rattle.std.specs.Ordering.{is_lt}
use Rattle.std.proofs.lemmas.Bool.{cases_eq}
use Rattle.std.proofs.lemmas.Bool.Decides.{nat_tests}
use Rattle.std.proofs.lemmas.List.{append-nil, map-append, length-append, length-set, get_or-set_same, get_or-set_other, get_or_default}
use Rattle.std.proofs.lemmas.List.Elements.{All-head, All-tail, All-cons}
use Rattle.spin_table.specs.Setups.{SetupData}
use Rattle.spin_table.specs.States.{State}
use Rattle.spin_text.specs.Words.{ended, text_of}
use Rattle.spin_report.specs.declared.entry.Entry.{Entry}
use Rattle.spin_report.specs.Asked.{Numbered, asked_of}
use Rattle.spin_report.specs.Lines.{JobSeen, entry_line, job_line}
use Rattle.spin_report.specs.Legal.{IsNextEntry, IsLegal}
use Rattle.spin_report.specs.Jobs.{answer_calls, AreJobsFrom, AreJobs}
use Rattle.spin_report.specs.Segments.{moment, moment_cmp, of_lane, IsInOrder}
use Rattle.spin_report.specs.Runs.{sends_of, sends_of_reply}
use Rattle.spin_report.proofs.HistoryUniqueness.{one_list_of_jobs}
use Rattle.spin_check.specs.declared.deeds.Ask.{Ask}
use Rattle.spin_check.specs.Inner.Asks.{numbered, queue_of, left_of}
use Rattle.spin_check.specs.Inner.Standings.{numbers_of}
use Rattle.spin_check.specs.Inner.Replays.{At, Follows, IsNext, sent_by_jobs, queues_after, Replays, IsOnlyNext, AreRead, AreEntries, HasReplayed, IsFresh, GoesOn, AreLonger}

-- ---- the texts of lists

pub text_of-append : (xs ys : List (List ℕ)) → text_of (xs ++ ys) ≡ text_of xs ++ text_of ys
text_of-append [] ys = refl
text_of-append (x ∷ xs) ys = ap (λ t. ended x ++ t) (text_of-append xs ys) ∙ sym (append_assoc (ended x) (text_of xs) (text_of ys))

flat_map-both : {A B : Type 0} (f : A → List B) (xs ys : List A) → flat_map f (xs ++ ys) ≡ flat_map f xs ++ flat_map f ys
flat_map-both f [] ys = refl
flat_map-both f (x ∷ xs) ys = ap (λ t. f x ++ t) (flat_map-both f xs ys) ∙ sym (append_assoc (f x) (flat_map f xs) (flat_map f ys))

-- ---- the order

-- where the last of the entries stands
abbrev last_of : List Entry → Option (ℕ × Bool × ℕ × ℕ × ℕ)
last_of [] = None
last_of (e ∷ []) = Some (moment e)
last_of (e ∷ (f ∷ es)) = last_of (f ∷ es)

order_tail : (e : Entry) (es : List Entry) → IsInOrder (e ∷ es) → IsInOrder es
order_tail e es h = λ k d low lt.
    let at : suc k + 1 ≡ suc (k + 1) = omega arith in
    subst (λ i. is_lt (moment_cmp (moment (get_or (e ∷ es) i d)) (moment (get_or es k d))) ≡ false) at (h (suc k) d (omega arith) (omega (arith, lt)))

order_here : (done : List Entry) (e : Entry) (es : List Entry) → IsInOrder (done ++ e ∷ es) → Follows (last_of done) e
order_here [] e es h = tt
order_here (a ∷ []) e es h = h 0 e (omega arith) (omega arith)
order_here (a ∷ (b ∷ done)) e es h = order_here (b ∷ done) e es (order_tail a (b ∷ done ++ e ∷ es) h)

order_push : (done : List Entry) (e : Entry) → IsInOrder done → Follows (last_of done) e → IsInOrder (done ++ e ∷ [])
order_push [] e h f = λ k d low lt. absurd (omega (arith, lt))
order_push (a ∷ []) e h f = go where
  go : IsInOrder (a ∷ (e ∷ []))
  go zero d low lt = f
  go (suc k) d low lt = absurd (omega (arith, lt))
order_push (a ∷ (b ∷ done)) e h f = go (order_push (b ∷ done) e (order_tail a (b ∷ done) h) f) where
  go : IsInOrder (b ∷ done ++ e ∷ []) → IsInOrder (a ∷ (b ∷ done ++ e ∷ []))
  go more zero d low lt = h 0 d (omega arith) (omega arith)
  go more (suc k) d low lt =
      let at : suc (k + 1) ≡ suc k + 1 = omega arith in
      subst (λ i. is_lt (moment_cmp (moment (get_or (a ∷ (b ∷ done ++ e ∷ [])) i d)) (moment (get_or (b ∷ done ++ e ∷ []) k d))) ≡ false) at (more k d (omega arith) (omega (arith, lt)))

last_pushed : (done : List Entry) (e : Entry) → last_of (done ++ e ∷ []) ≡ Some (moment e)
last_pushed [] e = refl
last_pushed (a ∷ []) e = refl
last_pushed (a ∷ (b ∷ done)) e = last_pushed (b ∷ done) e

-- ---- what the lanes are still to do

module _ (d : SetupData) where
  -- where nothing is left to do, there is no entry more
  read_done : (at : At) (es : List Entry) (last : State) (more : List ℕ) → All (λ queue. queue ≡ []) at.queues → AreRead d at es last more → es ≡ []
  read_done at [] last more none read = refl
  read_done at (e ∷ es) last more none read =
      let lt : e.lane < length at.queues = All-head (λ (x : Entry). x.lane < length at.queues) e es read.lanes_are in
      let here : (e.lane == e.lane) ≡ true = grind (arith, nat_tests) in
      let own : of_lane e.lane (e ∷ es) ≡ e ∷ of_lane e.lane es = ap (λ b. cond b (e ∷ of_lane e.lane es) (of_lane e.lane es)) here in
      let all : asked_of e ∷ map asked_of (of_lane e.lane es) ≡ [] = sym (ap (map asked_of) own) ∙ read.once e.lane lt ∙ ap (map numbered) (none e.lane [] lt) in
      absurd (cc (all))

  read_end : (at : At) → All (λ queue. queue ≡ []) at.queues → AreRead d at [] at.state at.rest
  read_end at none = record {
    legal = refl;
    once = λ k lt. sym (ap (map numbered) (none k [] lt));
    lanes_are = λ k x lt. absurd (omega (arith, lt));
    text = refl;
  }

  -- where there is no entry, nothing is left to do
  none_left : (at : At) (last : State) (more : List ℕ) → AreRead d at [] last more → All (λ queue. queue ≡ []) at.queues
  none_left at last more read = λ k x lt. empty (get_or at.queues k x) (ap (map numbered) (get_or_default at.queues k x [] lt) ∙ sym (read.once k lt)) where
    empty : (queue : List Ask) → map numbered queue ≡ [] → queue ≡ []
    empty [] h = refl
    empty (a ∷ queue) h = absurd (cc (h))

  -- of the lane's own, the first
  first_asked : (at : At) (e : Entry) (es : List Entry) (last : State) (more : List ℕ) → AreRead d at (e ∷ es) last more → (lt : e.lane < length at.queues)
      → asked_of e ∷ map asked_of (of_lane e.lane es) ≡ left_of e.lane at.queues
  first_asked at e es last more read lt =
      let here : (e.lane == e.lane) ≡ true = grind (arith, nat_tests) in
      sym (ap (λ b. map asked_of (cond b (e ∷ of_lane e.lane es) (of_lane e.lane es))) here) ∙ read.once e.lane lt

  split_queue : (n : Numbered) (ns : List Numbered) (queue : List Ask) → n ∷ ns ≡ map numbered queue
      → (ask : Ask) × (others : List Ask) × (queue ≡ ask ∷ others) × (numbered ask ≡ n) × (ns ≡ map numbered others)
  split_queue n ns [] h = absurd (cc (h))
  split_queue n ns (ask ∷ others) h = (ask, others, refl, cc (h), cc (h))

  -- the first entry may come next, and the others are read from there
  read_first : (at : At) (e : Entry) (es : List Entry) (last : State) (more : List ℕ) → Follows at.last e → AreRead d at (e ∷ es) last more
      → (next : State) × IsNext d at e next (text_of (map entry_line es) ++ more)
      × ((after : At) → after.state ≡ next → after.queues ≡ queues_after e at.queues → after.rest ≡ text_of (map entry_line es) ++ more → AreRead d after es last more)
  read_first at e es last more follows read =
      let lt : e.lane < length at.queues = All-head (λ (x : Entry). x.lane < length at.queues) e es read.lanes_are in
      let parts = split_queue (asked_of e) (map asked_of (of_lane e.lane es)) (queue_of e.lane at.queues) (first_asked at e es last more read lt) in
      let text : at.rest ≡ ended (entry_line e) ++ (text_of (map entry_line es) ++ more) = read.text ∙ append_assoc (ended (entry_line e)) (text_of (map entry_line es)) more in
      let next = read.legal.0 in (
        next,
        record { there = lt; asked = (parts.0, parts.1, parts.2, parts.3); answers = read.legal.1; order = follows; text = text },
        λ after state queues rest.
            let long : length after.queues ≡ length at.queues = ap length queues ∙ length-set at.queues e.lane (drop 1 (queue_of e.lane at.queues)) in
            record {
              legal = subst (λ s. IsLegal d s es last) (sym state) read.legal.2;
              once = λ k within.
                  elim (cases_eq k e.lane) [
                    | inl is ↦
                        ap (λ j. map asked_of (of_lane j es)) is ∙ parts.4 ∙ sym (ap (λ q. map numbered (drop 1 q)) parts.2)
                        ∙ sym
                        (ap (map numbered) (ap (queue_of k) queues ∙ ap (λ j. queue_of j (queues_after e at.queues)) is ∙ get_or-set_same at.queues e.lane (drop 1 (queue_of e.lane at.queues)) [] lt))
                    | inr other ↦
                        let apart : (e.lane == k) ≡ false = grind (arith, nat_tests, other) in
                        sym (ap (λ b. map asked_of (cond b (e ∷ of_lane k es) (of_lane k es))) apart) ∙ read.once k (omega (arith, within, long))
                        ∙ sym (ap (map numbered) (ap (queue_of k) queues ∙ get_or-set_other at.queues e.lane k (drop 1 (queue_of e.lane at.queues)) [] other))
                  ];
              lanes_are = subst (λ n. All (λ (x : Entry). x.lane < n) es) (sym long) (All-tail (λ (x : Entry). x.lane < length at.queues) e es read.lanes_are);
              text = rest;
            },
      )

  -- and the other way round
  read_more : (at after : At) (e : Entry) (es : List Entry) (last : State) (more : List ℕ) → IsNext d at e after.state after.rest → after.queues ≡ queues_after e at.queues
      → AreRead d after es last more → AreRead d at (e ∷ es) last more
  read_more at after e es last more next queues read =
      let long : length after.queues ≡ length at.queues = ap length queues ∙ length-set at.queues e.lane (drop 1 (queue_of e.lane at.queues)) in
      record {
        legal = (after.state, next.answers, read.legal);
        once = λ k within.
            elim (cases_eq k e.lane) [
              | inl is ↦
                  let here : (e.lane == k) ≡ true = grind (arith, nat_tests, is) in
                  let rest : map asked_of (of_lane k es) ≡ map numbered next.asked.1 =
                  read.once k (omega (arith, within, long))
                  ∙ ap (map numbered)
                  (ap (queue_of k) queues ∙ ap (λ j. queue_of j (queues_after e at.queues)) is ∙ get_or-set_same at.queues e.lane (drop 1 (queue_of e.lane at.queues)) [] next.there)
                  ∙ ap (λ q. map numbered (drop 1 q)) next.asked.2 in
                  ap (λ b. map asked_of (cond b (e ∷ of_lane k es) (of_lane k es))) here ∙ (λ i. sym next.asked.3 i ∷ rest i)
                  ∙ sym (ap (map numbered) (ap (λ j. queue_of j at.queues) is ∙ next.asked.2))
              | inr other ↦
                  let apart : (e.lane == k) ≡ false = grind (arith, nat_tests, other) in
                  ap (λ b. map asked_of (cond b (e ∷ of_lane k es) (of_lane k es))) apart ∙ read.once k (omega (arith, within, long))
                  ∙ ap (map numbered) (ap (queue_of k) queues ∙ get_or-set_other at.queues e.lane k (drop 1 (queue_of e.lane at.queues)) [] other)
            ];
        lanes_are = All-cons (λ (x : Entry). x.lane < length at.queues) e es next.there (subst (λ n. All (λ (x : Entry). x.lane < n) es) long read.lanes_are);
        text = next.text ∙ ap (λ t. ended (entry_line e) ++ t) read.text ∙ sym (append_assoc (ended (entry_line e)) (text_of (map entry_line es)) more);
      }

  legal_push : (state middle next : State) (done : List Entry) (e : Entry) → IsLegal d state done middle → IsNextEntry d middle e next → IsLegal d state (done ++ e ∷ []) next
  legal_push state middle next [] e h g = (next, subst (λ s. IsNextEntry d s e next) h g, refl)
  legal_push state middle next (x ∷ done) e h g = (h.0, h.1, legal_push h.0 middle next done e h.2 g)

  jobs_push : (state middle next : State) (done : List Entry) (e : Entry) (jobs own : List JobSeen) → IsLegal d state done middle → IsNextEntry d middle e next
      → AreJobsFrom d next e 0 (answer_calls e.what) own → AreJobs d state done jobs → (same : (s : State) (x : Entry) (a b : State) → IsNextEntry d s x a → IsNextEntry d s x b → a ≡ b)
      → AreJobs d state (done ++ e ∷ []) (jobs ++ own)
  jobs_push state middle next [] e jobs own h g from are same =
      (next, own, [], subst (λ s. IsNextEntry d s e next) h g, from, refl, ap (λ x. x ++ own) are ∙ sym (append-nil own))
  jobs_push state middle next (x ∷ done) e jobs own h g from are same =
      let state_is : h.0 ≡ are.0 = same state x h.0 are.0 h.1 are.3 in
      let rest = jobs_push are.0 middle next done e are.2 own (subst (λ s. IsLegal d s done middle) state_is h.2) g from are.5 same in
      (are.0, are.1, are.2 ++ own, are.3, are.4, rest, ap (λ j. j ++ own) are.6 ∙ append_assoc are.1 are.2 own)

  -- the jobs of more entries begin with those of the first ones and of the next one
  jobs_split : (state middle next : State) (done : List Entry) (e : Entry) (others : List Entry) (jobs all : List JobSeen) → IsLegal d state done middle → AreJobs d state done jobs
      → IsNextEntry d middle e next → AreJobs d state (done ++ e ∷ others) all → (same : (s : State) (x : Entry) (a b : State) → IsNextEntry d s x a → IsNextEntry d s x b → a ≡ b)
      → (own : List JobSeen) × (rest : List JobSeen) × AreJobsFrom d next e 0 (answer_calls e.what) own × (all ≡ jobs ++ (own ++ rest))
  jobs_split state middle next [] e others jobs all legal are g h same =
      let state_is : h.0 ≡ next = same state e h.0 next h.3 (subst (λ s. IsNextEntry d s e next) legal g) in
      (h.1, h.2, subst (λ s. AreJobsFrom d s e 0 (answer_calls e.what) h.1) state_is h.4, h.6 ∙ ap (λ j. j ++ (h.1 ++ h.2)) (sym are))
  jobs_split state middle next (x ∷ done) e others jobs all legal are g h same =
      let legal_is : legal.0 ≡ are.0 = same state x legal.0 are.0 legal.1 are.3 in
      let state_is : h.0 ≡ are.0 = same state x h.0 are.0 h.3 are.3 in
      let own_is : h.1 ≡ are.1 =
      sym (append-nil h.1)
      ∙ one_list_of_jobs d state (x ∷ []) (h.1 ++ []) (are.1 ++ []) (h.0, h.1, [], h.3, h.4, refl, refl) (are.0, are.1, [], are.3, are.4, refl, refl) ∙ append-nil are.1 in
      let r =
      jobs_split are.0 middle next done e others are.2 h.2 (subst (λ s. IsLegal d s done middle) legal_is legal.2) are.5 g (subst (λ s. AreJobs d s (done ++ e ∷ others) h.2) state_is h.5) same in
      (r.0, r.1, r.2, h.6 ∙ (λ i. own_is i ++ r.3 i) ∙ sym (append_assoc are.1 are.2 (r.0 ++ r.1)) ∙ ap (λ j. j ++ (r.0 ++ r.1)) (sym are.6))

  -- the replay stands behind these entries, with which each history of the report begins
  pub record IsAlong (start : At) (done : List Entry) (jobs : List JobSeen) (at : At) : Type 0 where
    pub on : (es : List Entry) (last : State) (more : List ℕ) → AreEntries d start es last more → (rest : List Entry) × (es ≡ done ++ rest) × AreRead d at rest last more
    pub back : (rest : List Entry) (last : State) (more : List ℕ) → AreRead d at rest last more → AreRead d start (done ++ rest) last more
    pub order : IsInOrder done
    pub last : at.last ≡ last_of done
    pub legal : IsLegal d start.state done at.state
    pub jobs_are : AreJobs d start.state done jobs
    pub owed : at.owed ≡ text_of (map job_line jobs)
    pub sends : at.sends ≡ numbers_of (flat_map (λ entry. sends_of entry.what) done)
    pub job_sends : at.job_sends ≡ sent_by_jobs jobs

  pub along_none : (start : At) → IsFresh start → IsAlong start [] [] start
  along_none start fresh = record {
    on = λ es last more h. (es, refl, h.0);
    back = λ rest last more h. h;
    order = λ k x low lt. absurd (omega (arith, lt));
    last = fresh.last;
    legal = refl;
    jobs_are = refl;
    owed = fresh.owed;
    sends = fresh.sends;
    job_sends = fresh.job_sends;
  }

  follows_last : (start at : At) (done : List Entry) (e : Entry) (rest es : List Entry) (last : Option (ℕ × Bool × ℕ × ℕ × ℕ))
      → last ≡ last_of done → es ≡ done ++ e ∷ rest → IsInOrder es → Follows last e
  follows_last start at done e rest es last is split order =
      subst (λ l. Follows l e) (sym is) (order_here done e rest (subst IsInOrder split order))

  pub along_more : (start at after : At) (done : List Entry) (jobs own : List JobSeen) (e : Entry)
      → ((s : State) (x : Entry) (a b : State) → IsNextEntry d s x a → IsNextEntry d s x b → a ≡ b)
      → IsAlong start done jobs at → Replays d at e own after → IsOnlyNext d at e after → IsAlong start (done ++ e ∷ []) (jobs ++ own) after
  along_more start at after done jobs own e same along step only = record {
    on = λ es last more h.
        let front = along.on es last more h in
        go es last more h front.0 front.1 front.2;
    back = λ rest last more h.
        subst (λ l. AreRead d start l last more) (sym (append_assoc done (e ∷ []) rest)) (along.back (e ∷ rest) last more (read_more at after e rest last more step.next step.queues h));
    order = order_push done e along.order (subst (λ l. Follows l e) along.last step.next.order);
    last = step.last ∙ sym (last_pushed done e);
    legal = legal_push start.state at.state after.state done e along.legal step.next.answers;
    jobs_are = jobs_push start.state at.state after.state done e jobs own along.legal step.next.answers step.jobs along.jobs_are same;
    owed = step.owed ∙ ap (λ t. t ++ text_of (map job_line own)) along.owed ∙ sym (ap text_of (map-append job_line jobs own) ∙ text_of-append (map job_line jobs) (map job_line own));
    sends =
        step.sends ∙ ap (λ t. t ++ numbers_of (sends_of e.what)) along.sends
        ∙ sym (ap numbers_of (flat_map-both (λ (x : Entry). sends_of x.what) done (e ∷ []) ∙ ap (λ t. flat_map (λ (x : Entry). sends_of x.what) done ++ t) (append-nil (sends_of e.what)))
        ∙ map-append (λ s. s.endpoint) (flat_map (λ (x : Entry). sends_of x.what) done) (sends_of e.what));
    job_sends =
        step.job_sends ∙ ap (λ t. t ++ sent_by_jobs own) along.job_sends
        ∙ sym (ap numbers_of (flat_map-both (λ (j : JobSeen). sends_of_reply j.reply) jobs own)
        ∙ map-append (λ s. s.endpoint) (flat_map (λ (j : JobSeen). sends_of_reply j.reply) jobs) (flat_map (λ (j : JobSeen). sends_of_reply j.reply) own));
  } where
    go : (es : List Entry) (last : State) (more : List ℕ) → AreEntries d start es last more → (rest : List Entry) → es ≡ done ++ rest → AreRead d at rest last more
        → (others : List Entry) × (es ≡ done ++ e ∷ [] ++ others) × AreRead d after others last more
    go es last more h [] split read =
        let none = none_left at last more read e.lane [] step.next.there in
        let left_over = step.next.asked.2 in
        absurd (cc (none, left_over))
    go es last more h (x ∷ others) split read =
        let follows = follows_last start at done x others es at.last along.last split h.1 in
        let first = read_first at x others last more follows read in
        let is = only x first.0 (text_of (map entry_line others) ++ more) first.1 in
        let queues : after.queues ≡ queues_after x at.queues = step.queues ∙ ap (λ y. queues_after y at.queues) (sym is.0) in
        (others, split ∙ ap (λ y. done ++ y ∷ others) is.0 ∙ sym (append_assoc done (e ∷ []) others), first.2 after (sym is.1) queues (sym is.2))

  -- the end of the entries
  pub along_all : (start at : At) (done : List Entry) (jobs : List JobSeen) → All (λ queue. queue ≡ []) at.queues → IsAlong start done jobs at → HasReplayed d start done jobs at
  along_all start at done jobs none along = record {
    read = (subst (λ l. AreRead d start l at.state at.rest) (append-nil done) (along.back [] at.state at.rest (read_end at none)), along.order);
    jobs_are = along.jobs_are;
    owed = along.owed;
    sends = along.sends;
    job_sends = along.job_sends;
    only = λ es last more h.
        let front = along.on es last more h in
        front.1 ∙ ap (λ rest. done ++ rest) (read_done at front.0 last more none front.2) ∙ append-nil done;
  }

  -- the lines of all jobs are no shorter than those of some of them
  lines_of_more : (jobs own rest : List JobSeen)
      → length (text_of (map job_line (jobs ++ (own ++ rest)))) ≡ length (text_of (map job_line jobs)) + (length (text_of (map job_line own)) + length (text_of (map job_line rest)))
  lines_of_more jobs own rest =
      let two = text_of-append (map job_line own) (map job_line rest) in
      let all : text_of (map job_line (jobs ++ (own ++ rest))) ≡ text_of (map job_line jobs) ++ (text_of (map job_line own) ++ text_of (map job_line rest)) =
      ap text_of (map-append job_line jobs (own ++ rest)) ∙ text_of-append (map job_line jobs) (map job_line (own ++ rest))
      ∙ ap (λ t. text_of (map job_line jobs) ++ t) (ap text_of (map-append job_line own rest) ∙ two) in
      ap length all ∙ length-append (text_of (map job_line jobs)) (text_of (map job_line own) ++ text_of (map job_line rest))
      ∙ ap (λ n. length (text_of (map job_line jobs)) + n) (length-append (text_of (map job_line own)) (text_of (map job_line rest)))

  -- something is left to do, and no entry may come next that leaves room for the lines of the jobs
  pub along_stuck : (start at : At) (done : List Entry) (jobs : List JobSeen) → (All (λ queue. queue ≡ []) at.queues → ⊥) → IsAlong start done jobs at → GoesOn d at None
      → ((s : State) (x : Entry) (a b : State) → IsNextEntry d s x a → IsNextEntry d s x b → a ≡ b)
      → (es : List Entry) (last : State) (more : List ℕ) → AreEntries d start es last more → (all : List JobSeen) → AreJobs d start.state es all → AreLonger (length more) [] all
  along_stuck start at done jobs left_over along stuck same es last more h all are = go (along.on es last more h).0 (along.on es last more h).1 (along.on es last more h).2 where
    go : (rest : List Entry) → es ≡ done ++ rest → AreRead d at rest last more → AreLonger (length more) [] all
    go [] split read = absurd (left_over (none_left at last more read))
    go (x ∷ others) split read =
        let first = read_first at x others last more (follows_last start at done x others es at.last along.last split h.1) read in
        let parts = jobs_split start.state at.state first.0 done x others jobs all along.legal along.jobs_are first.1.answers (subst (λ l. AreJobs d start.state l all) split are) same in
        let short : length (text_of (map entry_line others) ++ more) < length (at.owed ++ text_of (map job_line parts.0)) =
        stuck x first.0 (text_of (map entry_line others) ++ more) first.1 parts.0 parts.2 in
        let behind = length-append (text_of (map entry_line others)) more in
        let owed = length-append at.owed (text_of (map job_line parts.0)) in
        let own = ap length along.owed in
        let whole = ap (λ js. length (text_of (map job_line js))) parts.3 ∙ lines_of_more jobs parts.0 parts.1 in
        omega (arith, short, behind, owed, own, whole)
