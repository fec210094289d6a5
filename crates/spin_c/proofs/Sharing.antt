-- A seat that waits, what is left when it is taken out, and that it can be put back; and seats that are taken in.
use Rattle.std.proofs.Common.{◌≡◌, ◌+◌, ℕ, zero, suc, List, [], ◌∷◌, ◌++◌, ◌≤◌, arith, refl, sym, ap, subst, inl, inr, length, length-set, take, ◌∙◌}
use Rattle.std.specs.Prelude.{Option, Some, None, Result, Ok, Err, IfSome, MatchResult, slice_get, slice_set, ⊤}
use Rattle.std.specs.Arc.{arc_value}
use Rattle.std.proofs.lemmas.List.{set-set, set-get_or}
use Rattle.std.proofs.lemmas.Option.{get_or_from_slice_get}
use Rattle.spin_seat.specs.Seats.{SeatValue}
use Rattle.spin_seat.specs.declared.party.Away.{Away}
use Rattle.spin_seat.specs.declared.party.Party.{Party}
use Rattle.spin_c.specs.declared.ask.Outcome.{Outcome}
use Rattle.spin_c.specs.declared.ask.Outcome.TheVariants as outcome
use Rattle.spin_c.specs.declared.lane.Held.{Held}
use Rattle.spin_c.specs.declared.lane.Held.TheVariants as held
use Rattle.spin_c.specs.declared.lane.Lane.{Lane}
use Rattle.spin_c.specs.declared.lane.Room.{Room}
use Rattle.spin_c.specs.Shares.{IsNoShare, IsShare, SharesTo}
use Rattle.spin_c.specs.Waiting.{AreTakenIn, AreWaiting, IsAwayAt, IsHome, IsLaneAnd, IsWellAt, IsWellLane, IsWhole, TakesIn, missing}

-- a seat stands there, and waits
abbrev IsFull : Option (Option Away) → Type 0
IsFull (Some (Some away)) = ⊤
IsFull other = ⊥

module _ (fits : ℕ → Away → Type 0) where
  -- what is so of what stands at the index of a lane
  abbrev Slot : ℕ → Option (Option Away) → Type 0
  Slot lane (Some (Some away)) = fits lane away
  Slot lane other = ⊤

  slot_at : (lane : ℕ) (slots : List (Option Away)) (at n : ℕ) → n ≡ lane + at → AreWaiting fits lane slots → Slot n (slice_get slots at)
  slot_at lane [] at n e all = tt
  slot_at lane (None ∷ slots) zero n e all = tt
  slot_at lane (Some away ∷ slots) zero n e all = subst (λ (k : ℕ). fits k away) (omega arith) all.0
  slot_at lane (None ∷ slots) (suc at) n e all = slot_at (lane + 1) slots at n (omega arith) all
  slot_at lane (Some away ∷ slots) (suc at) n e all = slot_at (lane + 1) slots at n (omega arith) all.1

  -- a seat that waits fits its lane
  pub waits_at : (slots : List (Option Away)) (at : ℕ) (away : Away) → AreWaiting fits 0 slots → slice_get slots at ≡ Some (Some away) → fits at away
  waits_at slots at away all waits = subst (Slot at) waits (slot_at 0 slots at at (omega arith) all)

  -- the others wait on
  pub taken_out : (lane : ℕ) (slots : List (Option Away)) (at : ℕ) → AreWaiting fits lane slots → AreWaiting fits lane (slice_set slots at None)
  taken_out lane [] at all = tt
  taken_out lane (None ∷ slots) zero all = all
  taken_out lane (Some away ∷ slots) zero all = all.1
  taken_out lane (None ∷ slots) (suc at) all = taken_out (lane + 1) slots at all
  taken_out lane (Some away ∷ slots) (suc at) all = (all.0, taken_out (lane + 1) slots at all.1)

  -- ---- taking in

  pub none_taken : (lane : ℕ) (slots : List (Option Away)) → AreTakenIn fits lane slots slots
  none_taken lane [] = tt
  none_taken lane (None ∷ slots) = none_taken (lane + 1) slots
  none_taken lane (Some away ∷ slots) = (refl, none_taken (lane + 1) slots)

  pub one_taken : (lane : ℕ) (slots : List (Option Away)) (at n : ℕ) (home : Option Away) → n ≡ lane + at → slice_get slots at ≡ Some None
      → IfSome home (λ (away : Away). fits n away) → AreTakenIn fits lane slots (slice_set slots at home)
  one_taken lane [] at n home e stands fit = tt
  one_taken lane (None ∷ slots) zero n None e stands fit = none_taken (lane + 1) slots
  one_taken lane (None ∷ slots) zero n (Some away) e stands fit = (subst (λ (k : ℕ). fits k away) (omega arith) fit, none_taken (lane + 1) slots)
  one_taken lane (Some away ∷ slots) zero n home e stands fit = absurd (subst IsFull stands tt)
  one_taken lane (None ∷ slots) (suc at) n home e stands fit = one_taken (lane + 1) slots at n home (omega arith) stands fit
  one_taken lane (Some away ∷ slots) (suc at) n home e stands fit = (refl, one_taken (lane + 1) slots at n home (omega arith) stands fit)

  pub all_taken : (lane : ℕ) (slots then' after : List (Option Away)) → AreTakenIn fits lane slots then' → AreTakenIn fits lane then' after → AreTakenIn fits lane slots after
  all_taken lane [] [] after s t = t
  all_taken lane [] (x ∷ then') after s t = absurd s
  all_taken lane (None ∷ slots) [] after s t = absurd s
  all_taken lane (None ∷ slots) (None ∷ then') [] s t = absurd t
  all_taken lane (None ∷ slots) (None ∷ then') (None ∷ after) s t = all_taken (lane + 1) slots then' after s t
  all_taken lane (None ∷ slots) (None ∷ then') (Some z ∷ after) s t = (t.0, all_taken (lane + 1) slots then' after s t.1)
  all_taken lane (None ∷ slots) (Some y ∷ then') [] s t = absurd t
  all_taken lane (None ∷ slots) (Some y ∷ then') (None ∷ after) s t = absurd (subst IsHome (sym t.0) tt)
  all_taken lane (None ∷ slots) (Some y ∷ then') (Some z ∷ after) s t =
      (subst (λ (o : Option Away). IfSome o (λ (away : Away). fits lane away)) (sym t.0) s.0, all_taken (lane + 1) slots then' after s.1 t.1)
  all_taken lane (Some x ∷ slots) [] after s t = absurd s
  all_taken lane (Some x ∷ slots) (None ∷ then') after s t = absurd (subst IsHome (sym s.0) tt)
  all_taken lane (Some x ∷ slots) (Some y ∷ then') [] s t = absurd t
  all_taken lane (Some x ∷ slots) (Some y ∷ then') (z ∷ after) s t = (t.0 ∙ s.0, all_taken (lane + 1) slots then' after s.1 t.1)

  pub taken_length : (lane : ℕ) (slots after : List (Option Away)) → AreTakenIn fits lane slots after → length after ≡ length slots
  taken_length lane [] [] t = refl
  taken_length lane [] (z ∷ after) t = absurd t
  taken_length lane (None ∷ slots) [] t = absurd t
  taken_length lane (None ∷ slots) (None ∷ after) t = ap suc (taken_length (lane + 1) slots after t)
  taken_length lane (None ∷ slots) (Some z ∷ after) t = ap suc (taken_length (lane + 1) slots after t.1)
  taken_length lane (Some x ∷ slots) [] t = absurd t
  taken_length lane (Some x ∷ slots) (z ∷ after) t = ap suc (taken_length (lane + 1) slots after t.1)

  pub taken_wait : (lane : ℕ) (slots after : List (Option Away)) → AreTakenIn fits lane slots after → AreWaiting fits lane slots → AreWaiting fits lane after
  taken_wait lane [] [] t all = tt
  taken_wait lane [] (z ∷ after) t all = absurd t
  taken_wait lane (None ∷ slots) [] t all = absurd t
  taken_wait lane (None ∷ slots) (None ∷ after) t all = taken_wait (lane + 1) slots after t all
  taken_wait lane (None ∷ slots) (Some z ∷ after) t all = (t.0, taken_wait (lane + 1) slots after t.1 all)
  taken_wait lane (Some x ∷ slots) [] t all = absurd t
  taken_wait lane (Some x ∷ slots) (None ∷ after) t all = absurd (subst IsHome (sym t.0) tt)
  taken_wait lane (Some x ∷ slots) (Some z ∷ after) t all =
      (subst (λ (o : Option Away). IfSome o (λ (away : Away). fits lane away)) (sym t.0) all.0, taken_wait (lane + 1) slots after t.1 all.1)

-- where there were no places there are none
no_places : (slots : List (Option Away)) → length slots ≡ 0 → slots ≡ []
no_places [] none = refl
no_places (x ∷ slots) none = absurd (omega (arith, none))

-- a place for each lane stays
pub whole_as : (lanes : ℕ) (old new : SeatValue) (slots after : List (Option Away)) (room : Room) → length after ≡ length slots → new.pen.lane ≡ old.pen.lane
    → IsWhole lanes old slots room → IsWhole lanes new after room
whole_as lanes old new slots after room same lane (inl none) = inl (no_places after (same ∙ ap length none))
whole_as lanes old new slots after room same lane (inr w) = inr (lane ∙ w.0, same ∙ w.1, w.2)

module _ {A C E : Type 0} {B : A → Type 0} {D : C → Type 0} {F : E → Type 0} where
  -- a lane that takes in what came home is as it should
  pub takes_well : (l : Lane A C E B D F) (after : List (Option Away)) → IsWellLane l
      → AreTakenIn (IsAwayAt (arc_value l.party) l.away.seat.base) 0 l.waiting after → IsWellLane (record l { waiting = after })
  takes_well l after well taken =
      let fits = IsAwayAt (arc_value l.party) l.away.seat.base in (
        record {
          party = well.0.party;
          own = well.0.own;
          others = taken_wait fits 0 l.waiting after taken well.0.others;
          whole = whole_as (arc_value l.party).hub.log.lanes l.away.seat l.away.seat l.waiting after l.room (taken_length fits 0 l.waiting after taken) refl well.0.whole;
        },
        well.1,
      )

  -- so is one from which a seat is taken
  pub left_well : (l : Lane A C E B D F) (at : ℕ) → IsWellLane l → IsWellLane (record l { waiting = slice_set l.waiting at None })
  left_well l at well =
      let fits = IsAwayAt (arc_value l.party) l.away.seat.base in (
        record {
          party = well.0.party;
          own = well.0.own;
          others = taken_out fits 0 l.waiting at well.0.others;
          whole = whole_as (arc_value l.party).hub.log.lanes l.away.seat l.away.seat l.waiting (slice_set l.waiting at None) l.room (length-set l.waiting at None) refl well.0.whole;
        },
        well.1,
      )

  -- and the lane of that seat
  pub shared_well : (l : Lane A C E B D F) (p : Party A C E B D F) (away : Away) (waiting : List (Option Away)) (room : Room) (at : ℕ) → IsWellLane l
      → slice_get l.waiting at ≡ Some (Some away) → p ≡ arc_value l.party → waiting ≡ [] → IsWellAt p away waiting room
  shared_well l p away waiting room at well waited same fresh =
      let is = waits_at (IsAwayAt (arc_value l.party) l.away.seat.base) l.waiting at away well.0.others waited in
      record {
        party = rw same (rw is.1.is_seat.1 well.0.party);
        own = rw same ((is.0.0, is.0.1 ∙ sym is.1.lane_is), record { own = is.1.own; lane_is = refl; is_seat = (is.1.is_seat.0, refl) });
        others = rw fresh tt;
        whole = inl fresh;
      }

  pub takes_none : (l : Lane A C E B D F) → TakesIn l l
  takes_none l = record { waiting = none_taken (IsAwayAt (arc_value l.party) l.away.seat.base) 0 l.waiting; same = refl }

  -- a lane whose others wait as before is as it was
  pub set_back : (l : Lane A C E B D F) (waiting : List (Option Away)) → waiting ≡ l.waiting → record l { waiting = waiting } ≡ l
  set_back l waiting back = ap (λ (w : List (Option Away)). record l { waiting = w }) back

  -- what is shared after seats were taken in
  pub shares_then : {X : Type 0} (held_of : X → Held A C E B D F) (l whole after : Lane A C E B D F) (number : ℕ) (r : Result X Outcome) → TakesIn l whole
      → MatchResult r (λ s. IsLaneAnd (held_of s) (λ share. IsShare whole number after share)) (λ why. (after ≡ whole) × IsNoShare whole.waiting number why)
      → MatchResult r (λ s. SharesTo (held.Lane l) number (held.Lane after) (Some (held_of s)) outcome.Done) (λ why. SharesTo (held.Lane l) number (held.Lane after) None why)
  shares_then held_of l whole after number (Ok s) taken is = go (held_of s) is
    where
      go : (h : Held A C E B D F) → IsLaneAnd h (λ share. IsShare whole number after share) → SharesTo (held.Lane l) number (held.Lane after) (Some h) outcome.Done
      go (held.Lane share) shared = (record { whole = whole; taken = taken; shared = shared }, refl)
      go (held.Ended rows) none = absurd none
  shares_then held_of l whole after number (Err why) taken is =
      (subst (λ (a : Lane A C E B D F). TakesIn l a) (sym is.0) taken, subst (λ (a : Lane A C E B D F). IsNoShare a.waiting number why) (sym is.0) is.1)

-- of the first few no more seats are missing than they are
pub few_taken : (k : ℕ) (slots : List (Option Away)) → missing (take k slots) ≤ k
few_taken zero slots = omega arith
few_taken (suc k) [] = omega arith
few_taken (suc k) (None ∷ slots) = let few = few_taken k slots in omega (arith, few)
few_taken (suc k) (Some away ∷ slots) = let few = few_taken k slots in omega (arith, few)

module _ {X : Type 0} where
  pub front_of : (xs ys : List X) → take (length xs) (xs ++ ys) ≡ xs
  front_of [] ys = refl
  front_of (x ∷ xs) ys = ap (λ (zs : List X). x ∷ zs) (front_of xs ys)

  -- what stands there may be put there
  pub put_again : (slots : List X) (at : ℕ) (x : X) → slice_get slots at ≡ Some x → slice_set slots at x ≡ slots
  put_again slots at x stands =
      subst (λ (y : X). slice_set slots at y ≡ slots) (get_or_from_slice_get slots at x x stands) (set-get_or slots at x)

  -- so what was taken out may be put back
  pub put_back : (slots : List X) (at : ℕ) (x y : X) → slice_get slots at ≡ Some x → slice_set (slice_set slots at y) at x ≡ slots
  put_back slots at x y stands = set-set slots at y x ∙ put_again slots at x stands
