-- What is said of a refusal of `order`.
use Rattle.std.specs.Prelude.{ℕ, List, ⊤, Result, Ok, Err}
use Rattle.spin_place.specs.declared.run_order.OrderFault.{OrderFault}
use Rattle.spin_place.specs.declared.run_order.OrderFault.TheVariants.{Conflict, NoMemory}

-- where the answer is a conflict, P holds of the numbers that it carries
abbrev pub IfConflict : Result (List ℕ) OrderFault → (List ℕ → Type 0) → Type 0
IfConflict (Ok ns) P = ⊤
IfConflict (Err (Conflict ns)) P = P ns
IfConflict (Err NoMemory) P = ⊤
