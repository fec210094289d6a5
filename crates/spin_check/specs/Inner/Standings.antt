-- Which endpoints of a script stand, by number.
use Rattle.std.specs.Prelude.{◌≡◌, ◌≢◌, ℕ, ◌<◌, Bool, false, List, map, length, AllPairs, slice_index_or}
use Rattle.spin_endpoint.specs.Named.{NamedEnd, stands}
use Rattle.spin_endpoint.specs.Sends.{SentSeen, name_of}

-- the flags say of each number whether an endpoint stands under its name, and no two numbers have one name
pub record AreFlags (names : List (List ℕ)) (ends : List NamedEnd) (flags : List Bool) : Type 0 where
  pub all : length flags ≡ length names
  pub differ : AllPairs (λ name later. name ≢ later) names
  pub each : (n : ℕ) → n < length names → slice_index_or flags n false ≡ stands (name_of names n) ends

-- the numbers that are sent to
abbrev pub numbers_of : List SentSeen → List ℕ
numbers_of sends = map (λ sent. sent.endpoint) sends
