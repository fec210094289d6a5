-- What the logger hands in, what it logs, and its status.
use Rattle.std.specs.Prelude.{ℕ, true, List, [], ◌∷◌, ◌++◌, None, Result, Ok, Err}
use Rattle.std.specs.List.{flat_map}
use Rattle.spin.specs.Expr.TheVariants.{Const, Arg}
use Rattle.spin.specs.Test.{Test}
use Rattle.spin.specs.Test.TheVariants.{Compare}
use Rattle.spin.specs.Cmp.TheVariants.{Le}
use Rattle.spin.specs.OpMatch.TheVariants.{Any}
use Rattle.spin.specs.Effect.TheVariants.{Impose}
use Rattle.spin.specs.Rule.{Rule}
use Rattle.spin.specs.Step.{Step}
use Rattle.spin.specs.Step.TheVariants.{Send}
use Rattle.spin.specs.Reply.{Reply}
use Rattle.spin.specs.Reply.TheVariants.{Ran}
use Rattle.host_logger.specs.declared.Fault.{Fault}
use Rattle.host_logger.specs.declared.Fault.TheVariants as fault

-- how grave it is from what the logger logs on
abbrev pub grave : ℕ
grave = 3

-- the word of argument 0 is this one, or greater
abbrev pub is_at_least : ℕ → Test
is_at_least level = Compare Le (Const level) (Arg 0)

-- guard 1 is imposed on whoever binds, and nobody changes what another has bound
abbrev pub imposing : List Rule
imposing =
    record { low = 0; high = 255; op = Any; handler = None; own_only = true; effect = Impose (1 ∷ []) } ∷ []

-- the line of a step: what it sends, and a line feed
abbrev pub line_of : Step → List ℕ
line_of (Send endpoint bytes) = bytes ++ 10 ∷ []
line_of step = []

-- the lines of a reply
abbrev pub lines_of : Reply → List ℕ
lines_of (Ran answer trace jobs) = flat_map line_of trace
lines_of reply = []

-- the status of a run that ends so
abbrev pub status_of : Result Unit Fault → ℕ
status_of (Ok done) = 0
status_of (Err (fault.Script line cause)) = 2
status_of (Err (fault.Native f)) = 3
status_of (Err (fault.Refused refusal)) = 3
status_of (Err fault.Full) = 3
status_of (Err fault.Unwritten) = 5
status_of (Err fault.NoMemory) = 7
