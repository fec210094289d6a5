-- Hits that tell nothing yet.
use Rattle.std.specs.Prelude.{◌≡◌, List, [], All, map}
use Rattle.spin_filter.specs.declared.hits.Hit.{Hit}
use Rattle.spin_filter.specs.Counting.{BindingAt, IsHit, binding_of}

-- They are those of these bindings, and tell nothing yet.
pub record AreFresh (listed : List BindingAt) (hits : List Hit) : Type 0 where
  pub listed_are : map binding_of hits ≡ listed
  pub none : All (IsHit []) hits
