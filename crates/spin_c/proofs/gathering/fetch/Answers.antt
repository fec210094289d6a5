use Rattle.std.proofs.Common.{◌≡◌, ◌∙◌, ◌++◌, List, drop, length, refl, subst, sym, take}
use Rattle.std.specs.Prelude.{Option}
use Rattle.std.specs.Arc.{arc_value}
use Rattle.spin_seat.specs.declared.party.Away.{Away}
use Rattle.spin_c.specs.Waiting.{AreTakenIn, IsAwayAt}
use Rattle.spin_c.proofs.Sharing.{front_of, taken_length, takes_none, takes_well}
use Rattle.spin_c.proofs.gathering.fetch.Goals as goal

pub returns-clause-taken : goal.returns-clause-taken
returns-clause-taken g c =
    let l = c.args.lane.now in
    let p = arc_value l.party in
    let first = l.away.seat.base in
    let new = c.take_in.new.slots in
    let old = c.as_mut_slice.ensures.value ∙ c.into_vec-slots.ensures ∙ c.replace.ensures.value in
    let t = rw c.deref.ensures at (c.take_in.ensures first (rw c.deref.ensures c.requires.well.0.party)) in
    let count = taken_length (IsAwayAt p first) 0 c.as_mut_slice.result.now new t ∙ c.as_mut_slice.ensures.len in
    let whole = subst (λ n. take n (new ++ drop (length new) c.into_vec-slots.result.items) ≡ new) count (front_of new (drop (length new) c.into_vec-slots.result.items)) in
    record {
      waiting = subst (λ (ws : List (Option Away)). AreTakenIn (IsAwayAt p first) 0 l.waiting ws) (sym (c.from_vec.ensures ∙ whole))
          (subst (λ (ws : List (Option Away)). AreTakenIn (IsAwayAt p first) 0 ws new) old t);
      same = refl;
    }

pub returns-clause-well : goal.returns-clause-well
returns-clause-well g c = takes_well c.args.lane.now c.from_vec.result c.requires.well (returns-clause-taken g c).waiting

pub returns-then-at-len-clause-taken : goal.returns-then-at-len-clause-taken
returns-then-at-len-clause-taken g c = takes_none c.args.lane.now
