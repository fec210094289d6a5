-- Arguments as C hands them in, beside bytes.
use Rattle.std.specs.Prelude.{◌≡◌, ◌+◌, ◌≤◌, ◌⊎◌, ℕ, All, List, if◌then◌else◌, ◌==◌, drop, length, take}
use Rattle.spin_values.specs.declared.values.Value.{Value}
use Rattle.spin_values.specs.declared.values.Value.TheVariants as value
use Rattle.spin_c.specs.declared.ask.Outcome.{Outcome}
use Rattle.spin_c.specs.declared.ask.Outcome.TheVariants as outcome
use Rattle.spin_c.specs.declared.given.SpinArg.{SpinArg}

-- it is a word, or a range of the bytes
abbrev pub IsGiven : List ℕ → SpinArg → Type 0
IsGiven bytes arg = (arg.kind ≡ 0) ⊎ ((arg.kind ≡ 1) × (arg.at + arg.length ≤ length bytes))

-- the value that it is then
abbrev pub value_of : List ℕ → SpinArg → Value
value_of bytes arg = if arg.kind == 0 then value.Word arg.at else value.Bytes (take arg.length (drop arg.at bytes))

-- why there are no values: one is neither; or all are, and there was no memory
abbrev pub IsUngiven : List ℕ → List SpinArg → Outcome → Type 0
IsUngiven bytes given outcome.NoArgument = All (IsGiven bytes) given → ⊥
IsUngiven bytes given outcome.NoMemory = All (IsGiven bytes) given
IsUngiven bytes given other = ⊥
