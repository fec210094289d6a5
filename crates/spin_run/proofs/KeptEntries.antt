-- The entries that lanes keep, taken out as one list.
use Rattle.std.proofs.Common.{◌≡◌, ◌==◌, ℕ, ◌+◌, ◌<◌, Bool, true, false, cond, ltb, List, [], ◌∷◌, ◌++◌, map, length, take, drop, set, get_or, refl, sym, ap, ◌∙◌, subst, arith, get_or-append-add, length-set, eqb-true}
use Rattle.std.specs.Prelude.{All, not, Option, None}
use Rattle.std.specs.List.{flat_map}
use Rattle.std.specs.List.Sorted.{ties, IsSortedBy, IsStableBy, IsPermutation}
use Rattle.std.specs.Ordering.{is_lt, ordering_then, ordering_reverse}
use Rattle.std.specs.declared.cmp.Ordering.{Ordering}
use Rattle.std.specs.declared.cmp.Ordering.TheVariants.{Less, Equal, Greater}
use Rattle.std.proofs.lemmas.Cmp.{nat_cmp_total}
use Rattle.std.proofs.lemmas.Bool.{and_parts, ltb-true, ltb-false}
use Rattle.std.proofs.lemmas.List.{append-nil, length-map, get_or-map, get_or-drop, get_or_default, length-take-le, take_more}
use Rattle.std.proofs.lemmas.List.Concat.{flat_map-append}
use Rattle.std.proofs.lemmas.List.Edits.{map_over_more}
use Rattle.std.proofs.lemmas.List.Elements.{All-nil, All-cons, All-map}
use Rattle.atomic_table.specs.Seated.{TableId}
use Rattle.spin_table.specs.Setups.{SetupData}
use Rattle.spin_seat.specs.Seats.{SeatValue, AreOfLanes}
use Rattle.spin_report.specs.declared.entry.Entry.{Entry}
use Rattle.spin_report.specs.Segments.{moment, moment_cmp, of_lane}
use Rattle.spin_run.specs.declared.lane.Lane.{Lane}
use Rattle.spin_run.specs.Kept.{kept_of, keeping, with_none_kept, AreKept}
use Rattle.spin_run.specs.Segments.{IsReady, AreReady}
use Rattle.spin_run.specs.Inner.Weaves.{AreOfTheirLanes}
use Rattle.spin_run.proofs.SortedLists.{rising_from_sorted, sorted_from_rising, Rising-filter, same_by_lanes}
use Rattle.spin_run.proofs.JoinedLanes.{sorted_interleaving}
use Rattle.spin_run.proofs.EntryOrder.{moment_total, earlier, earlier_weak}
use Rattle.spin_run.proofs.JobOrder.{equal, nat_less, filter_beyond}
use Rattle.spin_run.proofs.SegmentLemmas.{some_lane}

-- ---- one lane after another

-- the entries of the first lanes were taken out
pub record Taking (before now : List Lane) (i : ℕ) (all : List Entry) : Type 0 where
  pub count : length now ≡ length before
  pub lanes : now ≡ map with_none_kept (take i before) ++ drop i before
  pub taken : all ≡ flat_map (λ lane. kept_of lane.entries) (take i before)

-- the others are as they were
still_there : (before now : List Lane) (i : ℕ) (all : List Entry) (lane : Lane) → i < length before → Taking before now i all → get_or now i lane ≡ get_or before i lane
still_there before now i all lane lt t =
    let long : length (map with_none_kept (take i before)) ≡ i = length-map (take i before) with_none_kept ∙ length-take-le i before (omega arith) in
    let at : i ≡ length (map with_none_kept (take i before)) + 0 = omega (arith, long) in
    let plus : i + 0 ≡ i = omega arith in
    ap (λ ls. get_or ls i lane) t.lanes ∙ ap (λ n. get_or (map with_none_kept (take i before) ++ drop i before) n lane) at
    ∙ get_or-append-add (map with_none_kept (take i before)) (drop i before) 0 lane ∙ get_or-drop i before 0 lane ∙ ap (λ n. get_or before n lane) plus

pub takes_more : (before now : List Lane) (i : ℕ) (all more : List Entry) (lane rest : Lane) → i < length before → Taking before now i all
    → rest ≡ with_none_kept (get_or now i lane) → more ≡ all ++ kept_of (get_or now i lane).entries → Taking before (set now i rest) (i + 1) more
takes_more before now i all more lane rest lt t rest_is more_is =
    let kept : Lane → List Entry = λ lane. kept_of lane.entries in
    let own = get_or now i lane in
    let in' : i < length now = omega (arith, lt, t.count) in
    record {
      count = length-set now i rest ∙ t.count;
      lanes = ap (set now i) rest_is ∙ map_over_more with_none_kept before now i own lt t.lanes (get_or_default now i lane own in');
      taken = more_is ∙ (λ h. t.taken h ++ kept (still_there before now i all lane lt t h))
          ∙ ap (λ l. flat_map kept (take i before) ++ l) (sym (append-nil (kept (get_or before i lane))))
          ∙ sym (flat_map-append kept (take i before) (get_or before i lane ∷ [])) ∙ sym (ap (flat_map kept) (take_more before i lane lt));
    }

-- ---- lanes that begin to keep entries

-- the first lanes keep entries now
pub record Marked (before now : List Lane) (i : ℕ) : Type 0 where
  pub count : length now ≡ length before
  pub lanes : now ≡ map keeping (take i before) ++ drop i before

pub marks_more : (before now : List Lane) (i : ℕ) (lane rest : Lane) → i < length before → Marked before now i → rest ≡ keeping (get_or now i lane) → Marked before (set now i rest) (i + 1)
marks_more before now i lane rest lt m rest_is =
    let own = get_or now i lane in
    let in' : i < length now = omega (arith, lt, m.count) in
    record {
      count = length-set now i rest ∙ m.count;
      lanes = ap (set now i) rest_is ∙ map_over_more keeping before now i own lt m.lanes (get_or_default now i lane own in');
    }

-- ---- ready lanes

module _ (f : Option (List Entry) → Option (List Entry)) where
  abbrev changed : Lane → Lane
  changed lane = record lane { entries = f lane.entries }

  same_seats : (lanes : List Lane) → map (λ (lane : Lane). lane.seat) (map changed lanes) ≡ map (λ (lane : Lane). lane.seat) lanes
  same_seats [] = refl
  same_seats (lane ∷ lanes) = ap (λ (seats : List SeatValue). lane.seat ∷ seats) (same_seats lanes)

  -- what lanes keep has no part in how they stand
  pub ready_with : (d : SetupData) (log : TableId) (count : ℕ) (lanes : List Lane) → AreReady d log count lanes → AreReady d log count (map changed lanes)
  ready_with d log count [] r = r
  ready_with d log count (lane ∷ lanes) r = record {
    some = omega (arith, length-map (lane ∷ lanes) changed);
    all = length-map (lane ∷ lanes) changed ∙ r.all;
    order = subst (AreOfLanes 0) (sym (same_seats (lane ∷ lanes))) r.order;
    each = All-map (IsReady d log count lane.seat.base lane.seat.pen.front) changed (lane ∷ lanes) (λ k l lt.
        let one = r.each k l lt in
        record {
          own = one.own;
          among = one.among;
          pen = one.pen;
          seat = one.seat;
          whole = one.whole;
          front_is = one.front_is;
          trail = one.trail;
          jobs_are = one.jobs_are;
          stop = one.stop;
        });
  }

-- ---- in the order of the history

equal_parts : (o p : Ordering) → ordering_then o p ≡ Equal → (o ≡ Equal) × (p ≡ Equal)
equal_parts Less p e = absurd (cc (e))
equal_parts Equal p e = (refl, e)
equal_parts Greater p e = absurd (cc (e))

neither_less : (o p : Ordering) → o ≡ ordering_reverse p → not (is_lt o) ≡ true → not (is_lt p) ≡ true → o ≡ Equal
neither_less Less p e a b = absurd (cc (a))
neither_less Equal p e a b = refl
neither_less Greater Less e a b = absurd (cc (b))
neither_less Greater Equal e a b = absurd (cc (e))
neither_less Greater Greater e a b = absurd (cc (e))

-- entries that tie are of one lane
entry_ties : (x y : Entry) → ties earlier x y ≡ true → y.lane ≡ x.lane
entry_ties x y tied =
    let both = and_parts (not (earlier x y)) (not (earlier y x)) tied in
    let a = moment x in
    let b = moment y in
    let same = neither_less (moment_cmp a b) (moment_cmp b a) (moment_total.antisymm a b) both.0 both.1 in
    let to_lane = (equal_parts _ _ (equal_parts _ _ (equal_parts _ _ same).0).0).1 in
    sym (equal x.lane y.lane
    (λ less. absurd (cc (sym (nat_less x.lane y.lane less) ∙ to_lane)))
    (λ less. absurd (cc (sym (nat_cmp_total.antisymm x.lane y.lane ∙ ap ordering_reverse (nat_less y.lane x.lane less)) ∙ to_lane))))

filtered : (k : ℕ) (es : List Entry) → All (λ (e : Entry). e.lane ≡ k) (of_lane k es)
filtered k [] = All-nil (λ (e : Entry). e.lane ≡ k)
filtered k (e ∷ es) = go (e.lane == k) refl (filtered k es)
  where
    go : (b : Bool) → (e.lane == k) ≡ b → All (λ (x : Entry). x.lane ≡ k) (of_lane k es) → All (λ (x : Entry). x.lane ≡ k) (cond b (e ∷ of_lane k es) (of_lane k es))
    go true is rest = All-cons (λ (x : Entry). x.lane ≡ k) e (of_lane k es) (eqb-true e.lane k is) rest
    go false is rest = rest

joined : (lanes : List Lane) → flat_map (λ lane. kept_of lane.entries) lanes ≡ flat_map (λ entries. entries) (map (λ (lane : Lane). kept_of lane.entries) lanes)
joined [] = refl
joined (lane ∷ lanes) = ap (λ l. kept_of lane.entries ++ l) (joined lanes)

module _ (lanes : List Lane) (entries : List Entry) (kept : AreKept lanes entries) where
  abbrev lists : List (List Entry)
  lists = map (λ (lane : Lane). kept_of lane.entries) lanes

  count : length lists ≡ length lanes
  count = length-map lanes (λ (lane : Lane). kept_of lane.entries)

  list_at : (k : ℕ) (d : List Entry) → k < length lanes → get_or lists k d ≡ of_lane k entries
  list_at k d lt =
      let l = some_lane lanes (omega (arith, lt)) in
      get_or-map (λ (lane : Lane). kept_of lane.entries) lanes k l d lt
      ∙ ap kept_of (sym (get_or-map (λ (lane : Lane). lane.entries) lanes k l None lt) ∙ kept.kept k lt)

  own : AreOfTheirLanes (λ (e : Entry). e.lane) lists
  own k d lt = subst (All (λ (e : Entry). e.lane ≡ k)) (sym (list_at k d (omega (arith, lt, count)))) (filtered k entries)

  each_sorted : All (IsSortedBy earlier) lists
  each_sorted k d lt =
      subst (IsSortedBy earlier) (sym (list_at k d (omega (arith, lt, count))))
      (sorted_from_rising earlier (of_lane k entries) (Rising-filter earlier (λ (e : Entry). e.lane == k) entries (rising_from_sorted earlier earlier_weak entries kept.order)))

  -- what is kept, sorted, is those entries
  pub taken_are : (all sorted : List Entry) → all ≡ flat_map (λ lane. kept_of lane.entries) lanes → IsPermutation all sorted → IsSortedBy earlier sorted → IsStableBy earlier all sorted
      → sorted ≡ entries
  taken_are all sorted is moved up stable =
      let w = sorted_interleaving (λ (e : Entry). e.lane) earlier earlier_weak lists all sorted (is ∙ joined lanes) own each_sorted moved up stable in
      same_by_lanes earlier earlier_weak (λ (e : Entry). e.lane) entry_ties sorted entries
      (rising_from_sorted earlier earlier_weak sorted up) (rising_from_sorted earlier earlier_weak entries kept.order) (λ k. go k (ltb k (length lanes)) refl w.each w.lanes_are)
    where
      go : (k : ℕ) (b : Bool) → ltb k (length lanes) ≡ b
          → ((k : ℕ) (d : List Entry) → k < length lists → of_lane k sorted ≡ get_or lists k d)
          → All (λ (e : Entry). e.lane < length lists) sorted → of_lane k sorted ≡ of_lane k entries
      go k true e each under = let lt = ltb-true k (length lanes) e in each k [] (omega (arith, lt, count)) ∙ list_at k [] lt
      go k false e each under =
          let le = ltb-false k (length lanes) e in
          filter_beyond (λ (x : Entry). x.lane) (length lists) k sorted (λ lt. absurd (omega (arith, lt, le, count))) under
          ∙ sym (filter_beyond (λ (x : Entry). x.lane) (length lanes) k entries (λ lt. absurd (omega (arith, lt, le))) kept.lanes_are)
