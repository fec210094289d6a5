-- What the parties of a queue agree on where a host does its tasks at one setup.
use Rattle.std.specs.Arc.{arc_value}
use Rattle.spin_table.specs.Setups.{SetupData}
use Rattle.spin_jobs.specs.Jobs.{CanDoAt}
use Rattle.spin_later.specs.declared.task.Task.{Task}

-- the task can be done at the setup: its call can on its version
abbrev pub CanDoTask : SetupData → Task → Type 0
CanDoTask d t = CanDoAt d (arc_value t.version) t.call

-- just the tasks are allowed that can be done at the setup
abbrev pub IsAgreedAt : SetupData → (Task → Type 0) → Type 0
IsAgreedAt d allows = (t : Task) → (CanDoTask d t → allows t) × (allows t → CanDoTask d t)
