-- What holds of the script so far, since each of its lines passed.
use Rattle.std.specs.Prelude.{◌≡◌, ◌<◌, ◌≤◌, ℕ, true, false, List, [], ◌∷◌, ◌++◌, length, Some, slice_get}
use Rattle.spin_word.specs.declared.command.TheConstants.{MAX_PLACE}
use Rattle.spin_policy.specs.declared.rule.Rule.{Rule}
use Rattle.spin_objects.specs.Units.{HandlerUnit, GuardUnit}
use Rattle.spin_table.specs.declared.event.EventDef.{EventDef}
use Rattle.spin_table.specs.declared.event.Authority.TheVariants as authority
use Rattle.spin_table.specs.Units.{is_fit_default}
use Rattle.spin_table.specs.Faults.{has_bad_owner, has_bad_merge, raises_amiss, has_bad_policy}
use Rattle.spin_script.specs.declared.script.Segment.{Segment}
use Rattle.spin_script.specs.States.{ScriptState, NativeData, policies}
use Rattle.spin_script.specs.Soundness.{AreValid, command_lines}

-- ---- what lanes are to do

-- there are so many command lines, which are few, and their commands are valid
pub record HasCommands (commands : ℕ) (segments : List Segment) : Type 0 where
  pub counted : command_lines segments ≡ commands
  pub few : commands ≤ MAX_PLACE
  pub valid : AreValid segments

-- ---- what is declared

-- it holds of each element at its place
abbrev pub Each : {X : Type 0} → (ℕ → X → Type 0) → List X → Type 0
Each {X} P xs = (at : ℕ) (x : X) → slice_get xs at ≡ Some x → P at x

-- there are none of the faults for which there is no setup
pub record IsFit (rules : List (List Rule)) (modules : ℕ) (events : List EventDef)
    (handlers : List HandlerUnit) (guards : List GuardUnit) : Type 0 where
  pub some_modules : 1 ≤ modules
  pub few_modules : modules ≤ 256
  pub few_events : length events ≤ 64
  pub owners : Each (λ at e. has_bad_owner modules e ≡ false) events
  pub merges : Each (λ at e. has_bad_merge e ≡ false) events
  pub raises : Each (λ at h. raises_amiss events h ≡ false) handlers
  pub defaults : Each (λ at e. is_fit_default handlers at e e.first_default ≡ true) events
  pub authorities : Each (λ at e. has_bad_policy rules guards e ≡ false) events

-- what later sections declare isn't there yet
pub record IsOrdered (section : ℕ) (events : List EventDef)
    (handlers : List HandlerUnit) : Type 0 where
  pub no_events : section < 2 → events ≡ []
  pub no_handlers : section < 4 → handlers ≡ []
  pub no_rules : section < 6 → Each (λ at e. e.authority ≡ authority.Rules []) events
  pub no_defaults : section < 7 → Each (λ at e. e.first_default ≡ 0) events

pub record IsSound (n : NativeData) (s : ScriptState) : Type 0 where
  pub declared : IsFit (policies n) s.modules s.events s.handlers s.guards
  pub ordered : IsOrdered s.section s.events s.handlers
  pub asked : HasCommands s.commands (s.ended ++ s.segment ∷ [])
