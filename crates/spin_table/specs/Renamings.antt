-- Bindings, commands and states under other numbers.
use Rattle.std.specs.Prelude.{◌≡◌, ℕ, ◌+◌, ◌<◌, ◌⊎◌, ◌==◌, ⊤, if◌then◌else◌, List, [], ◌∷◌}
use Rattle.std.specs.Prelude.{All, map, length, slice_get, Some}
use Rattle.spin_word.specs.declared.command.Command.{Command}
use Rattle.spin_word.specs.Commands.{no_number}
use Rattle.spin_place.specs.declared.binding.Binding.{Binding}
use Rattle.spin_place.specs.Precedence.{names}
use Rattle.spin_table.specs.declared.refusal.Refusal.{Refusal}
use Rattle.spin_table.specs.declared.refusal.Refusal.TheVariants as refusal
use Rattle.spin_table.specs.declared.refusal.Verdicted.{Verdicted}
use Rattle.spin_table.specs.declared.refusal.Verdicted.TheVariants as verdicted
use Rattle.spin_table.specs.Setups.{SetupData}
use Rattle.spin_table.specs.States.{State, EventState}
use Rattle.spin_table.specs.Steps.{IsStep}

-- Below, `to` gives each number the one that it has in the other state.

-- the numbers keep their order
abbrev pub Rises : (ℕ → ℕ) → Type 0
Rises to = (m n : ℕ) → m < n → to m < to n

-- none stays none
abbrev pub renamed_or_none : (ℕ → ℕ) → ℕ → ℕ
renamed_or_none to n = if n == no_number then no_number else to n

-- the command under the other numbers
abbrev pub renamed_command : (ℕ → ℕ) → Command → Command
renamed_command to c = record c {
  target = to c.target;
  before = map (renamed_or_none to) c.before;
  after = map (renamed_or_none to) c.after;
}

-- no number comes to none that isn't none itself
abbrev pub StayNamed : (ℕ → ℕ) → List ℕ → Type 0
StayNamed to ns = All (λ n. (n ≡ no_number) ⊎ (to n < no_number)) ns

-- a conflict tells its cycle under the other numbers
abbrev pub renamed_refusal : (ℕ → ℕ) → Refusal → Refusal
renamed_refusal to (refusal.Conflict cycle) = refusal.Conflict (map to cycle)
renamed_refusal to r = r

abbrev pub renamed_verdict : (ℕ → ℕ) → Verdicted → Verdicted
renamed_verdict to verdicted.Accepted = verdicted.Accepted
renamed_verdict to (verdicted.Refused r) = verdicted.Refused (renamed_refusal to r)

-- the first numbers name a binding just where the second name it under its other number
abbrev pub NameAlike : (ℕ → ℕ) → List ℕ → List ℕ → Type 0
NameAlike to ns ms = (k : ℕ) → 0 < k → to k < no_number → names ms (to k) ≡ names ns k

-- the second binding is the first one under its other number, and its constraints say of all others what the first
-- one's say
pub record IsRenamedBinding (to : ℕ → ℕ) (b c : Binding) : Type 0 where
  pub number : c.number ≡ to b.number
  pub some : 0 < b.number
  pub named : c.number < no_number
  pub before : NameAlike to b.before c.before
  pub after : NameAlike to b.after c.after
  pub rest : c ≡ record b { number = c.number; before = c.before; after = c.after }

-- the same of bindings in order
abbrev pub AreRenamed : (ℕ → ℕ) → List Binding → List Binding → Type 0
AreRenamed to [] [] = ⊤
AreRenamed to (b ∷ bs) (c ∷ cs) = IsRenamedBinding to b c × AreRenamed to bs cs
AreRenamed to bs cs = ⊥

-- the same of an event, which keeps its default
pub record IsRenamedEvent (to : ℕ → ℕ) (e f : EventState) : Type 0 where
  pub bindings : AreRenamed to e.bindings f.bindings
  pub default : f.default ≡ e.default

-- The second state is the first one under the other numbers. The numbers that are still to come, those after its place,
-- are those after the other's place.
pub record IsRenamed (to : ℕ → ℕ) (s t : State) : Type 0 where
  pub coming : (n : ℕ) → to (s.place + 1 + n) ≡ t.place + 1 + n
  pub events : length t.events ≡ length s.events
  pub each : (event : ℕ) (e f : EventState)
      → slice_get s.events event ≡ Some e → slice_get t.events event ≡ Some f → IsRenamedEvent to e f

-- Commands are judged alike: what a command comes to in the first state, that it comes to under the other numbers in
-- the second, and the next state of the second is that of the first under the other numbers. It holds as long as the
-- numbers stay below that of none.
abbrev pub StepsAreRenamed : Type 0
StepsAreRenamed =
    (d : SetupData) (to : ℕ → ℕ) (s t : State) (c : Command) (v : Verdicted) (next : State)
    → Rises to → IsRenamed to s t → t.place + 1 < no_number
    → StayNamed to c.before → StayNamed to c.after
    → IsStep d s c v next
    → (other : State) × IsStep d t (renamed_command to c) (renamed_verdict to v) other
    × IsRenamed to next other
