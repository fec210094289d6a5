-- The trails and jobs of the first lanes were taken out.
use Rattle.std.proofs.Common.{◌≡◌, ℕ, ◌+◌, ◌<◌, ◌≤◌, List, [], ◌∷◌, ◌++◌, map, length, take, drop, set, get_or, sym, ap, ◌∙◌, subst, arith}
use Rattle.std.specs.Prelude.{All}
use Rattle.std.specs.List.{flat_map}
use Rattle.std.proofs.lemmas.List.{drop-set-lt, drop_all, take_more, take_more_set, drop-drop, length-set, take_all, append-nil, get_or-map, length-map, map-append, get_or-drop, map-set, set-get_or}
use Rattle.std.proofs.lemmas.List.Elements.{All-push}
use Rattle.std.proofs.lemmas.List.Concat.{flat_map-append}
use Rattle.spin_proto.specs.declared.deed.Job.{Job}
use Rattle.spin_run.specs.declared.lane.Lane.{Lane}
use Rattle.spin_run.specs.declared.trail.EntryIndex.{EntryIndex}
use Rattle.spin_run.specs.declared.trail.Trail.{Trail}
use Rattle.spin_run.specs.Inner.Weaves.{IsEmptied, unmarked, marks_by_lane, jobs_by_lane}

pub record Gathered (before now : List Lane) (i : ℕ) (trails : List Trail) (marks : List EntryIndex) (jobs : List Job) : Type 0 where
  pub count : length now ≡ length before
  pub trails_are : trails ≡ map unmarked (take i before)
  pub taken : marks ≡ flat_map (λ marks. marks) (take i (marks_by_lane before))
  pub jobs_taken : jobs ≡ flat_map (λ jobs. jobs) (take i (jobs_by_lane before))
  pub left : drop i now ≡ drop i before
  pub emptied : All IsEmptied (take i now)
  pub seats : map (λ (lane : Lane). lane.seat) now ≡ map (λ (lane : Lane). lane.seat) before
  pub stops : map (λ (lane : Lane). lane.stop) now ≡ map (λ (lane : Lane). lane.stop) before
  pub kept : map (λ (lane : Lane). lane.entries) now ≡ map (λ (lane : Lane). lane.entries) before

kept_map : {Y : Type 0} (f : Lane → Y) (xs : List Lane) (i : ℕ) (d y : Lane) → i < length xs → f y ≡ f (get_or xs i d) → map f (set xs i y) ≡ map f xs
kept_map f xs i d y lt same =
    map-set f xs i y ∙ ap (set (map f xs) i) (same ∙ sym (get_or-map f xs i d (f d) lt)) ∙ set-get_or (map f xs) i (f d)

-- one list more
one_more : {X : Type 0} (f : Lane → List X) (before : List Lane) (i : ℕ) (lane : Lane) (all : List X)
    → i < length before → all ≡ flat_map (λ xs. xs) (take i (map f before)) ++ f (get_or before i lane)
    → all ≡ flat_map (λ xs. xs) (take (i + 1) (map f before))
one_more {X} f before i lane all here is =
    let inside : i < length (map f before) = omega (arith, here, length-map before f) in
    is ∙ ap (λ l. flat_map (λ (xs : List X). xs) (take i (map f before)) ++ l) (sym (get_or-map f before i lane [] here) ∙ sym (append-nil (get_or (map f before) i [])))
    ∙ sym (flat_map-append (λ (xs : List X). xs) (take i (map f before)) (get_or (map f before) i [] ∷ []))
    ∙ sym (ap (flat_map (λ xs. xs)) (take_more (map f before) i [] inside))

-- one trail more
trail_more : (before : List Lane) (i : ℕ) (lane : Lane) (all : List Trail) → i < length before → all ≡ map unmarked (take i before) ++ unmarked (get_or before i lane) ∷ []
    → all ≡ map unmarked (take (i + 1) before)
trail_more before i lane all here is =
    is ∙ sym (map-append unmarked (take i before) (get_or before i lane ∷ [])) ∙ sym (ap (map unmarked) (take_more before i lane here))

pub gathers : (before now : List Lane) (i : ℕ) (trails ts : List Trail) (marks ms : List EntryIndex) (jobs js : List Job) (lane rest : Lane) → i < length before
    → Gathered before now i trails marks jobs → IsEmptied rest → ts ≡ trails ++ unmarked (get_or now i lane) ∷ []
    → ms ≡ marks ++ (get_or now i lane).trail.marks → js ≡ jobs ++ (get_or now i lane).jobs → rest.seat ≡ (get_or now i lane).seat
    → rest.stop ≡ (get_or now i lane).stop → rest.entries ≡ (get_or now i lane).entries → Gathered before (set now i rest) (i + 1) ts ms js
gathers before now i trails ts marks ms jobs js lane rest here g none trail_added added jobs_added seat stop kept =
    let lt : i < length now = omega (arith, g.count) in
    let same : get_or now i lane ≡ get_or before i lane =
    ap (λ n. get_or now n lane) (plus i) ∙ sym (get_or-drop i now 0 lane) ∙ ap (λ l. get_or l 0 lane) g.left ∙ get_or-drop i before 0 lane ∙ sym (ap (λ n. get_or before n lane) (plus i)) in
    record {
      count = length-set now i rest ∙ g.count;
      trails_are = trail_more before i lane ts here (trail_added ∙ (λ h. g.trails_are h ++ unmarked (same h) ∷ []));
      taken = one_more (λ (l : Lane). l.trail.marks) before i lane ms here (added ∙ (λ h. g.taken h ++ (same h).trail.marks));
      jobs_taken = one_more (λ (l : Lane). l.jobs) before i lane js here (jobs_added ∙ (λ h. g.jobs_taken h ++ (same h).jobs));
      left = drop-set-lt (i + 1) now i rest (omega arith) ∙ sym (drop-drop 1 i now) ∙ ap (drop 1) g.left ∙ drop-drop 1 i before;
      emptied = subst (All IsEmptied) (sym (take_more_set now i rest lt)) (All-push IsEmptied (take i now) rest g.emptied none);
      seats = kept_map (λ (l : Lane). l.seat) now i lane rest lt seat ∙ g.seats;
      stops = kept_map (λ (l : Lane). l.stop) now i lane rest lt stop ∙ g.stops;
      kept = kept_map (λ (l : Lane). l.entries) now i lane rest lt kept ∙ g.kept;
    }
  where
    plus : (i : ℕ) → i ≡ i + 0
    plus i = omega arith

pub all_emptied : (before now : List Lane) (i : ℕ) (trails : List Trail) (marks : List EntryIndex) (jobs : List Job) → length before ≤ i → Gathered before now i trails marks jobs → All IsEmptied now
all_emptied before now i trails marks jobs le g = subst (All IsEmptied) (take_all i now (omega (arith, le, g.count))) g.emptied

-- where it ends in the middle, the stops are as before
pub cut_stops : (before items now : List Lane) (len i : ℕ) (lane y : Lane) → items ≡ before → len ≡ length items → length now ≡ length before
    → map (λ (l : Lane). l.stop) now ≡ map (λ (l : Lane). l.stop) before → i < length before → y.stop ≡ (get_or now i lane).stop
    → map (λ (l : Lane). l.stop) (take len (set now i y ++ drop (length (set now i y)) items)) ≡ map (λ (l : Lane). l.stop) before
cut_stops before items now len i lane y same whole long stops lt is =
    let after = set now i y in
    let count : length after ≡ length items = omega (arith, length-set now i y, long, ap length same) in
    let none : drop (length after) items ≡ [] = drop_all (length after) items (omega (arith, count)) in
    let all : take len (after ++ drop (length after) items) ≡ after = ap (λ (l : List Lane). take len (after ++ l)) none ∙ ap (take len) (append-nil after) ∙ take_all len after (omega (arith, whole, count)) in
    ap (map (λ (l : Lane). l.stop)) all ∙ kept_map (λ (l : Lane). l.stop) now i lane y (omega (arith, lt, long)) is ∙ stops
