-- The row of four words that stands for a command.
use Rattle.std.specs.Prelude.{◌≡◌, ◌≢◌, ℕ, ◌+◌, ◌*◌, ◌/◌, ◌%◌, ◌^◌, IsTrue, List, [], ◌∷◌}
use Rattle.spin_word.specs.declared.command.Command.{Command}
use Rattle.spin_word.specs.declared.row.Row.{Row}
use Rattle.spin_word.specs.Commands.{number_of_op, number_of_place, number_of_mode, is_command}

-- each number times 2^16 to its index, added up
abbrev pub quarters : List ℕ → ℕ
quarters [] = 0
quarters (n ∷ ns) = n + 2 ^ 16 * quarters ns

-- the row of a command: what is done in the first word, the target in the second, the bindings that
-- it goes before and after in the others
abbrev pub row_of : Command → Row
row_of c = record {
  a =
      number_of_mode c.mode
      + 2 ^ 2 * number_of_place c.place
      + 2 ^ 15 * c.guard
      + 2 ^ 25 * c.handler
      + 2 ^ 35 * c.requester
      + 2 ^ 43 * c.event
      + 2 ^ 49 * c.lane
      + 2 ^ 53 * number_of_op c.op;
  b = c.target;
  c = quarters c.before;
  d = quarters c.after;
}

-- the row stands for the command
abbrev pub StandsFor : Row → Command → Type 0
StandsFor row c = IsTrue (is_command c) × (row_of c ≡ row)

-- no command has the row
abbrev pub StandsForNone : Row → Type 0
StandsForNone row = (c : Command) → IsTrue (is_command c) → row_of c ≢ row

-- the row stands for a command
unfoldable pub IsCommand : Row → Type 0
IsCommand row = (c : Command) × StandsFor row c

-- the lane that the row of a command carries
unfoldable pub lane_of : Row → ℕ
lane_of row = row.a / 2 ^ 49 % 16
