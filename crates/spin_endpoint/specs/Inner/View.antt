-- How an endpoint beside its name is seen.
use Rattle.spin_endpoint.specs.declared.ends.End.{End}
use Rattle.spin_endpoint.specs.Endpoints.{EndpointSeen}
use Rattle.spin_endpoint.specs.Named.{NamedEnd}

-- how an endpoint is seen, given how its object is
abbrev pub view_of : {A : Type 0} {B : A → Type 0} → (End A B → EndpointSeen) → End A B → NamedEnd
view_of seen end = record { name = end.name; stands = end.stands; object = seen end }
