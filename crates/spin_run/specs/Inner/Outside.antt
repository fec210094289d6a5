-- What contracts see of what a run reaches outside.
use Rattle.std.specs.Prelude.{◌≡◌, ℕ, List}
use Rattle.spin_outside.specs.Seen.{SinkSeen}
use Rattle.spin_outside.specs.Sources.{SourceSeen}
use Rattle.spin_endpoint.specs.Named.{NamedEnd}
use Rattle.spin_endpoint.specs.declared.ends.Ends.{Ends}
use Rattle.spin_table.specs.States.{State}
use Rattle.spin_run.specs.declared.outside.Outside.{Outside}
use Rattle.spin_run.specs.Ends.{RunSeen, seen}
use Rattle.spin_run.specs.Inner.Steps.{RunState, moment}

-- Below, A and B are the kinds of the boxed endpoints.

-- what is seen of it, by what is seen of a source, of what is told the segments, and of endpoints
abbrev pub seen_by : {S T A : Type 0} {B : A → Type 0} → (S → SourceSeen) → (T → SinkSeen) → (Ends A B → List NamedEnd)
    → Outside S T A B → RunSeen
seen_by source sink ends o = seen (source o.source.now) (sink o.out.now) (ends o.ends.now)

-- and the moment between segments at which it is seen so, with lanes of that state
abbrev pub moment_by : {S T A : Type 0} {B : A → Type 0} → (S → SourceSeen) → (T → SinkSeen) → (Ends A B → List NamedEnd)
    → State → Outside S T A B → RunState
moment_by source sink ends state o =
    moment state o.capture.now (source o.source.now) (sink o.out.now) (ends o.ends.now)

-- It holds the references that it held, and so does what is told the segments. So what they lead to is the caller's.
pub record HoldsSame {S T A : Type 0} {B : A → Type 0} (reference : T → ℕ) (old new : Outside S T A B) : Type 0 where
  pub capture : new.capture.ghost_name ≡ old.capture.ghost_name
  pub source : new.source.ghost_name ≡ old.source.ghost_name
  pub out : new.out.ghost_name ≡ old.out.ghost_name
  pub ends : new.ends.ghost_name ≡ old.ends.ghost_name
  pub within : reference new.out.now ≡ reference old.out.now
