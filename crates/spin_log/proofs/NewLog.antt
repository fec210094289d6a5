-- The rule holds of a new log, where the pens of all lanes are at one seat.
use Rattle.std.proofs.Common.{◌≡◌, ◌≢◌, ℕ, zero, suc, ◌+◌, ◌<◌, ◌≤◌, cond, eqb, List, [], ◌∷◌, length, refl, sym, ap}
use Rattle.std.proofs.Common.{subst, arith, length-append}
use Rattle.std.specs.Prelude.{All}
use mathlib.Core.Logic.{dite}
use mathlib.Core.Option.{some, some-ne-none, some-injective}
use native.Mathlib.Decide.{ℕ_discrete}
use lib.ListN.{get_elem?}
use Rattle.std.proofs.lemmas.List.Elements.{All-nil}
use Rattle.atomic_table.specs.Table.{opening}
use Rattle.spin_log.specs.declared.view.Hand.{Hand}
use Rattle.spin_log.specs.declared.view.View.{View}
use Rattle.spin_log.specs.Rows.{IsCommandBelow, IsPrefix, size_of}
use Rattle.spin_log.specs.Rule.{Knows, Fits, total, Holds, new_hand, new_hands, first_view}
use Rattle.spin_log.specs.Inner.Blank.{IsBlank}
use Rattle.spin_log.specs.History.{pin}
use Rattle.spin_log.specs.Steps.{drafted, published}
use Rattle.spin_log.proofs.RowLists.{all_cons}
use Rattle.spin_log.proofs.PenCounts.{counted, not_counted}

-- the start: the pens of all lanes know and did nothing
new_know : (lanes lane n : ℕ) (words : List ℕ) → lane + n ≤ lanes → All (Knows lanes [] [] words) (new_hands lanes lane n)
new_know lanes lane zero words le = All-nil (Knows lanes [] [] words)
new_know lanes lane (suc n) words le =
    all_cons (Knows lanes [] [] words) (new_hand lanes lane) (new_hands lanes (lane + 1) n)
    record {
      lanes_is = refl;
      lane = omega arith;
      front = ([], refl);
      own = refl;
      reached = refl;
      pins = All-nil (λ (pin : ℕ). pin ≤ 0);
      marked = (refl, refl);
      drafted = λ k h. absurd (omega arith);
      at_most_a_row = omega arith;
      within_its_part = omega arith;
    }
    (new_know lanes (lane + 1) n words (omega arith))

new_once : (lanes lane from n : ℕ) → (lane < from → total (λ (hand : Hand). cond (eqb hand.lane lane) 1 0) (new_hands lanes from n) ≡ 0)
    × (total (λ (hand : Hand). cond (eqb hand.lane lane) 1 0) (new_hands lanes from n) ≤ 1)
new_once lanes lane from zero = ((λ _. refl), omega arith)
new_once lanes lane from (suc n) =
    let r = new_once lanes lane (from + 1) n in
    dite (ℕ_discrete from lane)
    (λ (same : from ≡ lane).
    let a : cond {A = ℕ} (eqb from lane) 1 0 ≡ 1 = counted from lane same in
    let z = r.0 (omega arith) in
    ((λ below. absurd (omega arith)), omega arith))
    (λ (not : from ≢ lane).
    let a : cond {A = ℕ} (eqb from lane) 1 0 ≡ 0 = not_counted from lane not in
    let o = r.1 in
    ((λ below. let z = r.0 (omega arith) in omega arith), omega arith))

pub opens : (lanes : ℕ) (words : List ℕ) → IsBlank lanes (size_of lanes) words → Holds lanes (opening words [] (first_view lanes))
opens lanes words blank = record {
  log = [];
  stands = record {
    size = blank.size;
    head = blank.head;
    entries = λ front row rest e. absurd (omega (arith, ap length e, length-append front (row ∷ rest)));
    zeros = λ k past le. blank.zeros k;
    room = omega arith;
    commands = All-nil (IsCommandBelow lanes);
  };
  moments = [];
  published = refl;
  each = one;
  one_pen = λ lane. let n = (new_once lanes lane 0 lanes).1 in omega arith;
}
  where
    one : (seat : ℕ) (v : View) → get_elem? (first_view lanes ∷ []) seat ≡ some v → Fits lanes [] [] words v
    one zero v e = subst (Fits lanes [] [] words) (some-injective (first_view lanes) v e) (new_know lanes 0 lanes words (omega arith), All-nil (λ front. IsPrefix front []))
    one (suc seat) v e = absurd (some-ne-none v (sym e))
