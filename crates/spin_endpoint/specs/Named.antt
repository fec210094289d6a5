-- Endpoints by name, in the order of adding, and what adding, delivering and retiring do to them.
use Rattle.std.specs.Prelude.{◌≡◌, ◌<◌, ◌≤◌, ◌&&◌, ◌∷◌, [], ℕ, Bool, true, false, List, Result, Ok}
use Rattle.std.specs.Prelude.{Err, length, map, All, if◌then◌else◌, bytes_eq}
use Rattle.std.specs.List.{list_any}
use Rattle.spin_outside.specs.Counts.{Rose}
use Rattle.spin_endpoint.specs.Endpoints.{EndpointSeen, gained, finished_once}
use Rattle.spin_endpoint.specs.declared.ends.TheConstants.{MAX_ENDPOINTS}
use Rattle.spin_endpoint.specs.declared.faults.Unknown as unknown
use Rattle.spin_endpoint.specs.declared.faults.DeliverFault.{DeliverFault}
use Rattle.spin_endpoint.specs.declared.faults.DeliverFault.TheVariants.{Failed, Unknown}
use Rattle.spin_endpoint.specs.declared.faults.EndsFault.{EndsFault}
use Rattle.spin_endpoint.specs.declared.faults.EndsFault.TheVariants.{SameName, TooMany, NoMemory}

-- an endpoint that was added: its name, whether it stands or is retired, and what is seen of it
pub record NamedEnd : Type 0 where
  pub name : List ℕ
  pub stands : Bool
  pub object : EndpointSeen

-- an endpoint as it is added: it stands
abbrev pub added : List ℕ → EndpointSeen → NamedEnd
added name object = record { name = name; stands = true; object = object }

-- the endpoint stands, and under this name
abbrev pub stands_as : List ℕ → NamedEnd → Bool
stands_as name end = end.stands && bytes_eq end.name name

-- whether an endpoint stands under the name
abbrev pub stands : List ℕ → List NamedEnd → Bool
stands name ends = list_any (stands_as name) ends

-- The endpoint that stands under the name is changed so, and no other.
abbrev pub changed_as : List ℕ → (NamedEnd → NamedEnd) → List NamedEnd → List NamedEnd
changed_as name change ends = map (λ end. if stands_as name end then change end else end) ends

abbrev pub with_piece : List ℕ → NamedEnd → NamedEnd
with_piece piece end = record end { object = gained (piece ∷ []) end.object }

-- the endpoint with that count of faults
abbrev pub with_faults : ℕ → NamedEnd → NamedEnd
with_faults faults end = record end { object = record end.object { faults = faults } }

-- the endpoint, which no longer stands and was finished once more
abbrev pub retired : NamedEnd → NamedEnd
retired end = record end { stands = false; object = finished_once end.object }

-- The endpoint that stands under the name failed: its count of faults rose, and nothing else
-- changed.
pub record FailsAt (name : List ℕ) (before after : List NamedEnd) : Type 0 where
  pub faults : ℕ
  pub rose : All (λ end. stands_as name end ≡ true → Rose end.object.faults faults) before
  pub others : after ≡ changed_as name (with_faults faults) before

-- what a delivery of a piece to a name does
abbrev pub Delivers : List ℕ → List ℕ → Result (Unit {0}) DeliverFault → List NamedEnd → List NamedEnd → Type 0
Delivers name piece (Ok done) before after =
    (stands name before ≡ true) × (after ≡ changed_as name (with_piece piece) before)
Delivers name piece (Err Failed) before after = (stands name before ≡ true) × FailsAt name before after
Delivers name piece (Err Unknown) before after = (stands name before ≡ false) × (after ≡ before)

-- what retiring a name does
abbrev pub Retires : List ℕ → Result (Unit {0}) unknown.Unknown → List NamedEnd → List NamedEnd → Type 0
Retires name (Ok done) before after = (stands name before ≡ true) × (after ≡ changed_as name retired before)
Retires name (Err refused) before after = (stands name before ≡ false) × (after ≡ before)

-- No endpoint stands under the name, and there is room for one more.
pub record CanAdd (name : List ℕ) (ends : List NamedEnd) : Type 0 where
  pub new_name : stands name ends ≡ false
  pub room : length ends < MAX_ENDPOINTS

-- The fault that applies. Memory is wanted only where none of the others does.
abbrev pub IsFaultOf : List ℕ → List NamedEnd → EndsFault → Type 0
IsFaultOf name ends SameName = stands name ends ≡ true
IsFaultOf name ends TooMany = (stands name ends ≡ false) × (MAX_ENDPOINTS ≤ length ends)
IsFaultOf name ends NoMemory = CanAdd name ends
