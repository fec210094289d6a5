-- What contracts see of an endpoint, and what it does with a piece.
use Rattle.std.specs.Prelude.{◌≡◌, ◌++◌, ◌∷◌, [], ℕ, List, Option, Some, Result, MatchResult}
use Rattle.std.specs.Option.{option_map}
use Rattle.spin_outside.specs.Counts.{Rose, raised_by}

-- the pieces that it received, where it tells them; how often it was finished, and how often it
-- failed
pub record EndpointSeen : Type 0 where
  pub pieces : Option (List (List ℕ))
  pub finishes : ℕ
  pub faults : ℕ

-- an endpoint that tells its pieces and has received none
abbrev pub untouched : EndpointSeen
untouched = record { pieces = Some []; finishes = 0; faults = 0 }

-- the endpoint, with these pieces more
abbrev pub gained : List (List ℕ) → EndpointSeen → EndpointSeen
gained more end = record end { pieces = option_map (λ pieces. pieces ++ more) end.pieces }

-- the endpoint, finished once more
abbrev pub finished_once : EndpointSeen → EndpointSeen
finished_once end = record end { finishes = raised_by end.finishes 1 }

-- Its count of faults rose, and nothing else changed.
pub record OnlyFails (before after : EndpointSeen) : Type 0 where
  pub rose : Rose before.faults after.faults
  pub others : after ≡ record before { faults = after.faults }

-- The piece is added to those received, or the count of faults rose and nothing else changed.
abbrev pub Takes : {E : Type 0} → List ℕ → Result (Unit {0}) E → EndpointSeen → EndpointSeen → Type 0
Takes piece result before after =
    MatchResult result (λ _. after ≡ gained (piece ∷ []) before) (λ _. OnlyFails before after)
