-- The room that is left for nodes.
use Rattle.std.specs.Prelude.{ℕ, ◌-◌, nat_le, if◌then◌else◌, Option, Some, None}

-- what is left of the room after so many nodes, if there is room for them
abbrev pub left_after : ℕ → ℕ → Option ℕ
left_after nodes room = if nat_le nodes room then Some (room - nodes) else None
