-- The jobs of entries in order.
use Rattle.std.proofs.Common.{◌≡◌, ◌==◌, ℕ, ◌+◌, ◌<◌, Bool, true, false, cond, List, [], ◌∷◌, ◌++◌, map, refl, sym, ap, ◌∙◌, subst, arith, ltb}
use Rattle.std.specs.Prelude.{All, filter, not}
use Rattle.std.specs.List.{flat_map}
use Rattle.std.specs.List.Sorted.{ties}
use Rattle.std.specs.Cmp.{IsTotalOrder, IsStrictWeakOrder}
use Rattle.std.specs.Ordering.{nat_cmp, bool_cmp, ordering_then, is_lt}
use Rattle.std.specs.declared.cmp.Ordering.{Ordering}
use Rattle.std.specs.declared.cmp.Ordering.TheVariants.{Less, Equal, Greater}
use Rattle.std.proofs.lemmas.Cmp.{nat_cmp_total, on_total, then_total}
use Rattle.std.proofs.lemmas.Bool.{false≢true, ltb-true, ltb-false, lt-ltb, ne_eqb, and_parts}
use Rattle.std.proofs.lemmas.List.Sorted.{ranks_by}
use Rattle.std.proofs.lemmas.List.Elements.{All-head, All-tail, All-cons, All-nil, All-append, All-map, filter-append, All-weaker}
use Rattle.spin_proto.specs.declared.deed.JobCall.{JobCall}
use Rattle.spin_proto.specs.declared.deed.Job.{Job}
use Rattle.spin_seat.proofs.SeatInvariants.{all_unmap}
use Rattle.spin_report.specs.declared.entry.What.{What}
use Rattle.spin_report.specs.declared.entry.What.TheVariants as what
use Rattle.spin_report.specs.declared.entry.Entry.{Entry}
use Rattle.spin_report.specs.Jobs.{answer_calls}
use Rattle.spin_report.specs.Segments.{is_accepted, of_lane, IsInOrder}
use Rattle.spin_run.specs.Lanes.{JobAsked, job_asked, jobs_from, jobs_of}
use Rattle.spin_run.specs.Inner.Weaves.{job_moment, job_moment_cmp, AreJobsInOrder}
use Rattle.spin_run.proofs.SortedLists.{Rising, Rising-append, itself, same_by_lanes, rising_from_sorted, sorted_from_rising}
use Rattle.spin_run.proofs.EntryOrder.{earlier, earlier_weak, nat_same}

abbrev asked_moment : JobAsked → ℕ × ℕ × ℕ × ℕ
asked_moment job = (job.place, job.lane, job.line, job.part)

job_total : IsTotalOrder job_moment_cmp
job_total =
    then_total (then_total (then_total (on_total (λ (t : ℕ × ℕ × ℕ × ℕ). t.0) nat_cmp_total) (on_total (λ (t : ℕ × ℕ × ℕ × ℕ). t.1) nat_cmp_total))
    (on_total (λ (t : ℕ × ℕ × ℕ × ℕ). t.2) nat_cmp_total)) (on_total (λ (t : ℕ × ℕ × ℕ × ℕ). t.3) nat_cmp_total)

abbrev pub sooner : JobAsked → JobAsked → Bool
sooner x y = is_lt (job_moment_cmp (asked_moment x) (asked_moment y))

sooner_weak : IsStrictWeakOrder sooner
sooner_weak = ranks_by job_total asked_moment

-- the order of jobs, each with its version
abbrev pub job_sooner : Job → Job → Bool
job_sooner x y = sooner (job_asked x) (job_asked y)

pub job_sooner_weak : IsStrictWeakOrder job_sooner
job_sooner_weak = ranks_by job_total (λ (job : Job). asked_moment (job_asked job))

pub nat_less : (p q : ℕ) → p < q → nat_cmp p q ≡ Less
nat_less p q lt = ap (λ b. cond b Less (cond (p == q) Equal Greater)) (lt-ltb p q lt)

pub equal : (p q : ℕ) → (p < q → ⊥) → (q < p → ⊥) → p ≡ q
equal p q up down = go (ltb p q) refl (ltb q p) refl
  where
    go : (a : Bool) → ltb p q ≡ a → (b : Bool) → ltb q p ≡ b → p ≡ q
    go true e b f = absurd (up (ltb-true p q e))
    go false e true f = absurd (down (ltb-true q p f))
    go false e false f = let x = ltb-false p q e in let y = ltb-false q p f in omega arith

pub true_not : (b : Bool) → b ≡ true → not b ≡ true → ⊥
true_not b e f = false≢true (ap not (sym e) ∙ f)

-- jobs that tie are of one lane
job_ties : (x y : JobAsked) → ties sooner x y ≡ true → y.lane ≡ x.lane
job_ties x y tied =
    let both = and_parts (not (sooner x y)) (not (sooner y x)) tied in
    let place : x.place ≡ y.place = equal x.place y.place
    (λ less. true_not (sooner x y)
    (ap (λ o. is_lt (ordering_then (ordering_then (ordering_then o (nat_cmp x.lane y.lane)) (nat_cmp x.line y.line)) (nat_cmp x.part y.part))) (nat_less x.place y.place less)) both.0)
    (λ less. true_not (sooner y x)
    (ap (λ o. is_lt (ordering_then (ordering_then (ordering_then o (nat_cmp y.lane x.lane)) (nat_cmp y.line x.line)) (nat_cmp y.part x.part))) (nat_less y.place x.place less)) both.1) in
    sym (equal x.lane y.lane
    (λ less. true_not (sooner x y)
    (λ i. is_lt (ordering_then (ordering_then (ordering_then (nat_same x.place y.place place i) (nat_less x.lane y.lane less i)) (nat_cmp x.line y.line)) (nat_cmp x.part y.part))) both.0)
    (λ less. true_not (sooner y x)
    (λ i. is_lt (ordering_then (ordering_then (ordering_then (nat_same y.place x.place (sym place) i) (nat_less y.lane x.lane less i)) (nat_cmp y.line x.line)) (nat_cmp y.part x.part))) both.1))

-- ---- the jobs of an entry

-- all jobs of an entry carry its numbers
abbrev HasNumbersOf : Entry → JobAsked → Type 0
HasNumbersOf entry job = asked_moment job ≡ (entry.place, entry.lane, entry.line, entry.part)

jobs_numbers : (entry : Entry) (index : ℕ) (calls : List JobCall) → All (HasNumbersOf entry) (jobs_from entry index calls)
jobs_numbers entry index [] = All-nil (HasNumbersOf entry)
jobs_numbers entry index (call ∷ calls) = All-cons (HasNumbersOf entry) _ (jobs_from entry (index + 1) calls) refl (jobs_numbers entry (index + 1) calls)

jobs_at_lane : (k : ℕ) (entry : Entry) (index : ℕ) (calls : List JobCall)
    → filter (λ (j : JobAsked). j.lane == k) (jobs_from entry index calls) ≡ cond (entry.lane == k) (jobs_from entry index calls) []
jobs_at_lane k entry index [] = go (entry.lane == k)
  where
    go : (b : Bool) → [] ≡ cond {A = List JobAsked} b [] []
    go true = refl
    go false = refl
jobs_at_lane k entry index (call ∷ calls) = go (entry.lane == k) (jobs_at_lane k entry (index + 1) calls)
  where
    first : JobAsked
    first = record { place = entry.place; lane = entry.lane; line = entry.line; part = entry.part; index = index; call = call }

    go : (b : Bool) → filter (λ (j : JobAsked). j.lane == k) (jobs_from entry (index + 1) calls) ≡ cond b (jobs_from entry (index + 1) calls) []
        → cond b (first ∷ filter (λ (j : JobAsked). j.lane == k) (jobs_from entry (index + 1) calls))
        (filter (λ (j : JobAsked). j.lane == k) (jobs_from entry (index + 1) calls)) ≡ cond b (first ∷ jobs_from entry (index + 1) calls) []
    go true e = ap (λ l. first ∷ l) e
    go false e = e

-- the jobs of one lane's entries
jobs_of_lane : (k : ℕ) (entries : List Entry) → filter (λ (j : JobAsked). j.lane == k) (flat_map jobs_of entries) ≡ flat_map jobs_of (of_lane k entries)
jobs_of_lane k [] = refl
jobs_of_lane k (e ∷ es) =
    filter-append (λ (j : JobAsked). j.lane == k) (jobs_of e) (flat_map jobs_of es)
    ∙ (λ i. jobs_at_lane k e 0 (answer_calls e.what) i ++ jobs_of_lane k es i)
    ∙ go (e.lane == k)
  where
    go : (b : Bool) → cond b (jobs_of e) [] ++ flat_map jobs_of (of_lane k es) ≡ flat_map jobs_of (cond b (e ∷ of_lane k es) (of_lane k es))
    go true = refl
    go false = refl

none_accepted : (w : What) → is_accepted w ≡ true → answer_calls w ≡ []
none_accepted (what.Command c v) e = refl
none_accepted (what.Deed d r) e = absurd (false≢true e)

one_entry : (entry : Entry) (index : ℕ) (calls : List JobCall) → Rising sooner (jobs_from entry index calls)
one_entry entry index [] = tt
one_entry entry index (call ∷ calls) = (
  All-weaker (HasNumbersOf entry) (λ y. is_lt (job_moment_cmp (asked_moment y) (entry.place, entry.lane, entry.line, entry.part)) ≡ false)
      (λ y has. ap (λ m. is_lt (job_moment_cmp m (entry.place, entry.lane, entry.line, entry.part))) has
      ∙ itself sooner sooner_weak (record { place = entry.place; lane = entry.lane; line = entry.line; part = entry.part; index = index; call = call }))
      (jobs_from entry (index + 1) calls) (jobs_numbers entry (index + 1) calls),
  one_entry entry (index + 1) calls,
)

pub then_equal : (o : Ordering) → ordering_then o Equal ≡ o
then_equal Less = refl
then_equal Equal = refl
then_equal Greater = refl

-- of two that aren't accepted commands
across : (e f : Entry) → is_accepted e.what ≡ false → is_accepted f.what ≡ false → earlier f e ≡ false
    → is_lt (job_moment_cmp (f.place, f.lane, f.line, f.part) (e.place, e.lane, e.line, e.part)) ≡ false
across e f a b up =
    sym (ap (λ o. is_lt (ordering_then (ordering_then (ordering_then o (nat_cmp f.lane e.lane)) (nat_cmp f.line e.line)) (nat_cmp f.part e.part)))
    ((λ i. ordering_then (nat_cmp f.place e.place) (bool_cmp (not (b i)) (not (a i)))) ∙ then_equal (nat_cmp f.place e.place))) ∙ up

later_jobs : (e : Entry) (x : JobAsked) → HasNumbersOf e x → is_accepted e.what ≡ false → (es : List Entry)
    → All (λ (f : Entry). earlier f e ≡ false) es → All (λ y. sooner y x ≡ false) (flat_map jobs_of es)
later_jobs e x has a [] up = All-nil (λ y. sooner y x ≡ false)
later_jobs e x has a (f ∷ fs) up =
    All-append (λ y. sooner y x ≡ false) (jobs_of f) (flat_map jobs_of fs) (go (is_accepted f.what) refl) (later_jobs e x has a fs (All-tail (λ (f : Entry). earlier f e ≡ false) f fs up))
  where
    go : (b : Bool) → is_accepted f.what ≡ b → All (λ y. sooner y x ≡ false) (jobs_of f)
    go true b = subst (λ l. All (λ y. sooner y x ≡ false) (jobs_from f 0 l)) (sym (none_accepted f.what b)) (All-nil (λ y. sooner y x ≡ false))
    go false b = All-weaker (HasNumbersOf f) (λ y. sooner y x ≡ false)
        (λ y is. (λ i. is_lt (job_moment_cmp (is i) (has i))) ∙ across e f a b (All-head (λ (f : Entry). earlier f e ≡ false) f fs up))
        (jobs_of f) (jobs_numbers f 0 (answer_calls f.what))

-- the jobs of entries in order are in order
jobs_rise : (entries : List Entry) → Rising earlier entries → Rising sooner (flat_map jobs_of entries)
jobs_rise [] up = tt
jobs_rise (e ∷ es) up = go (is_accepted e.what) refl (jobs_rise es up.1)
  where
    go : (a : Bool) → is_accepted e.what ≡ a → Rising sooner (flat_map jobs_of es) → Rising sooner (jobs_of e ++ flat_map jobs_of es)
    go true a rest = subst (λ l. Rising sooner (jobs_from e 0 l ++ flat_map jobs_of es)) (sym (none_accepted e.what a)) rest
    go false a rest =
        Rising-append sooner (jobs_of e) (flat_map jobs_of es) (one_entry e 0 (answer_calls e.what)) rest
        (All-weaker (HasNumbersOf e) (λ x. All (λ y. sooner y x ≡ false) (flat_map jobs_of es)) (λ x has. later_jobs e x has a es up.0) (jobs_of e) (jobs_numbers e 0 (answer_calls e.what)))

-- ---- jobs with their versions

Rising-told : (jobs : List Job) → Rising sooner (map job_asked jobs) → Rising job_sooner jobs
Rising-told [] up = tt
Rising-told (j ∷ js) up = (all_unmap (λ y. sooner y (job_asked j) ≡ false) job_asked js up.0, Rising-told js up.1)

Rising-told_back : (jobs : List Job) → Rising job_sooner jobs → Rising sooner (map job_asked jobs)
Rising-told_back [] up = tt
Rising-told_back (j ∷ js) up = (All-map (λ y. sooner y (job_asked j) ≡ false) job_asked js up.0, Rising-told_back js up.1)

-- the jobs of a trail in order are in order
pub jobs_in_order : (entries : List Entry) (jobs : List Job) → IsInOrder entries → map job_asked jobs ≡ flat_map jobs_of entries → AreJobsInOrder jobs
jobs_in_order entries jobs up is =
    sorted_from_rising job_sooner jobs (Rising-told jobs (subst (Rising sooner) (sym is) (jobs_rise entries (rising_from_sorted earlier earlier_weak entries up))))

have_all : (P : ℕ × ℕ × ℕ × ℕ → Type 0) (entries : List Entry) → All (λ (e : Entry). P (e.place, e.lane, e.line, e.part)) entries
    → All (λ (j : JobAsked). P (asked_moment j)) (flat_map jobs_of entries)
have_all P [] all = All-nil (λ (j : JobAsked). P (asked_moment j))
have_all P (e ∷ es) all =
    All-append (λ (j : JobAsked). P (asked_moment j)) (jobs_of e) (flat_map jobs_of es)
    (All-weaker (HasNumbersOf e) (λ (j : JobAsked). P (asked_moment j))
    (λ j has. subst P (sym has) (All-head (λ (e : Entry). P (e.place, e.lane, e.line, e.part)) e es all)) (jobs_of e) (jobs_numbers e 0 (answer_calls e.what)))
    (have_all P es (All-tail (λ (e : Entry). P (e.place, e.lane, e.line, e.part)) e es all))

-- what holds of the numbers of entries holds of those of their jobs
pub jobs_have : (P : ℕ × ℕ × ℕ × ℕ → Type 0) (entries : List Entry) (jobs : List Job) → All (λ (e : Entry). P (e.place, e.lane, e.line, e.part)) entries
    → map job_asked jobs ≡ flat_map jobs_of entries → All (λ (j : Job). P (job_moment j)) jobs
jobs_have P entries jobs all is = all_unmap (λ (j : JobAsked). P (asked_moment j)) job_asked jobs (subst (All (λ (j : JobAsked). P (asked_moment j))) (sym is) (have_all P entries all))

filter_told : (k : ℕ) (jobs : List Job) → filter (λ (j : JobAsked). j.lane == k) (map job_asked jobs) ≡ map job_asked (filter (λ (j : Job). j.lane == k) jobs)
filter_told k [] = refl
filter_told k (j ∷ js) = go (j.lane == k) (filter_told k js)
  where
    go : (b : Bool) → filter (λ (j : JobAsked). j.lane == k) (map job_asked js) ≡ map job_asked (filter (λ (j : Job). j.lane == k) js)
        → cond b (job_asked j ∷ filter (λ (j : JobAsked). j.lane == k) (map job_asked js)) (filter (λ (j : JobAsked). j.lane == k) (map job_asked js))
        ≡ map job_asked (cond b (j ∷ filter (λ (j : Job). j.lane == k) js) (filter (λ (j : Job). j.lane == k) js))
    go true e = ap (λ l. job_asked j ∷ l) e
    go false e = e

-- no lane past the last has any
pub filter_beyond : {X : Type 0} (lane : X → ℕ) (n k : ℕ) (xs : List X) → (k < n → ⊥) → All (λ x. lane x < n) xs → filter (λ x. lane x == k) xs ≡ []
filter_beyond lane n k [] far under = refl
filter_beyond lane n k (x ∷ xs) far under =
    ap (λ b. cond b (x ∷ filter (λ y. lane y == k) xs) (filter (λ y. lane y == k) xs)) (ne_eqb (lane x) k (λ same. far (subst (λ m. m < n) same (All-head (λ y. lane y < n) x xs under))))
    ∙ filter_beyond lane n k xs far (All-tail (λ y. lane y < n) x xs under)

-- jobs in order, that are those of the trails lane by lane, are those of the woven entries
pub jobs_woven : (n : ℕ) (trails : ℕ → List Entry) (woven : List Entry) (jobs : List Job)
    → IsInOrder woven → All (λ (e : Entry). e.lane < n) woven → ((k : ℕ) → k < n → of_lane k woven ≡ trails k)
    → AreJobsInOrder jobs → All (λ (j : Job). j.lane < n) jobs → ((k : ℕ) → k < n → map job_asked (filter (λ (j : Job). j.lane == k) jobs) ≡ flat_map jobs_of (trails k))
    → map job_asked jobs ≡ flat_map jobs_of woven
jobs_woven n trails woven jobs up under each rise jobs_under own =
    same_by_lanes sooner sooner_weak (λ (j : JobAsked). j.lane) job_ties (map job_asked jobs) (flat_map jobs_of woven)
    (Rising-told_back jobs (rising_from_sorted job_sooner job_sooner_weak jobs rise)) (jobs_rise woven (rising_from_sorted earlier earlier_weak woven up))
    (λ k. go k (ltb k n) refl)
  where
    go : (k : ℕ) (b : Bool) → ltb k n ≡ b → filter (λ (j : JobAsked). j.lane == k) (map job_asked jobs) ≡ filter (λ (j : JobAsked). j.lane == k) (flat_map jobs_of woven)
    go k true e = let lt = ltb-true k n e in filter_told k jobs ∙ own k lt ∙ ap (flat_map jobs_of) (sym (each k lt)) ∙ sym (jobs_of_lane k woven)
    go k false e =
        let far : k < n → ⊥ = λ lt. let le = ltb-false k n e in absurd (omega arith) in
        filter_beyond (λ (j : JobAsked). j.lane) n k (map job_asked jobs) far (All-map (λ (j : JobAsked). j.lane < n) job_asked jobs jobs_under)
        ∙ sym (filter_beyond (λ (j : JobAsked). j.lane) n k (flat_map jobs_of woven) far (have_all (λ m. m.1 < n) woven under))
