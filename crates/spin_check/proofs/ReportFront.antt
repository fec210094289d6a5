-- The front of a report.
use Rattle.std.proofs.Common.{◌≡◌, ◌≢◌, ℕ, List, ◌++◌}
use Rattle.std.specs.Prelude.{Option, None, Some, MatchOption}
use denote.Ref.{Bor}
use Rattle.spin_check.specs.Inner.Fronts.{IsBehind}

pub behind_from : (text report : List ℕ) (r : Option (Bor (List ℕ))) → MatchOption r ((rest : List ℕ) → report ≢ text ++ rest) (λ x. report ≡ text ++ x.now) → IsBehind text report r
behind_from text report None h = h
behind_from text report (Some x) h = h
