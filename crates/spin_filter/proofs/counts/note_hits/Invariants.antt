use Rattle.std.proofs.Common.{◌≡◌, map, ◌<◌, ◌≤◌, ◌++◌, ◌∷◌, [], ℕ, List, All, get_or, length}
use Rattle.spin_filter.specs.declared.hits.Hit.{Hit}
use Rattle.spin_filter.specs.Counting.{Marked, IsHit, binding_of}
use Rattle.spin_filter.proofs.counts.note_hits.Given as goal

abbrev pub invariant-loop-hit : goal.invariant-loop-hit
invariant-loop-hit l =
    let marked : Marked = record { first = l.is_first; taken = l.step } in
    record {
      listed : map binding_of l.hit-items ≡ map binding_of l.fn.hits.items;
      noted : (steps : List Marked) → All (IsHit steps) l.fn.hits.items → (k : ℕ) (d : Hit) → k < l.hit-index → IsHit (steps ++ marked ∷ []) (get_or l.hit-items k d);
      left : (steps : List Marked) → All (IsHit steps) l.fn.hits.items → (k : ℕ) (d : Hit) → l.hit-index ≤ k → k < length l.hit-items → IsHit steps (get_or l.hit-items k d);
    }
