-- Setups with eight events of words, as the generated script has them.
use Rattle.std.proofs.Common.{◌≡◌, ◌<◌, ◌≤◌, ◌-◌, ℕ, [], ◌∷◌}
use Rattle.std.specs.Prelude.{slice_get, Some}
use Rattle.spin_values.specs.First.{numbered}
use Rattle.spin_code.specs.declared.expr.Expr.{Expr}
use Rattle.spin_code.specs.declared.act.ActStep.TheVariants as step
use Rattle.spin_objects.specs.Units.{HandlerUnit, GuardUnit}
use Rattle.spin_table.specs.declared.event.EventDef.{EventDef}
use Rattle.spin_table.specs.Setups.{SetupData}
use Rattle.spin_gen.specs.Declarations.{word_to_word, of_word}

-- an event of words, which module 0 owns, without a default
pub record IsWordEvent (d : SetupData) (event : ℕ) : Type 0 where
  pub def : EventDef
  pub there : slice_get d.events event ≡ Some def
  pub owner : def.owner ≡ 0
  pub sig : def.sig ≡ word_to_word
  pub default : def.first_default ≡ 0

-- a handler of words, whose act is one result
pub record IsWordHandler (d : SetupData) (handler : ℕ) : Type 0 where
  pub unit : HandlerUnit
  pub there : numbered d.handlers handler ≡ Some unit
  pub sig : unit.sig ≡ word_to_word
  pub result : Expr
  pub steps : unit.act.steps ≡ step.Result result ∷ []

-- a guard of words
pub record IsWordGuard (d : SetupData) (guard : ℕ) : Type 0 where
  pub unit : GuardUnit
  pub there : slice_get d.guards (guard - 1) ≡ Some unit
  pub sig : unit.sig ≡ of_word

-- One module, the events 0 to 7 of words, and handlers and guards 1 to 4 for them.
pub record HasWords (d : SetupData) : Type 0 where
  pub modules : d.modules ≡ 1
  pub events : (event : ℕ) → event < 8 → IsWordEvent d event
  pub handlers : (handler : ℕ) → 0 < handler → handler ≤ 4 → IsWordHandler d handler
  pub guards : (guard : ℕ) → 0 < guard → guard ≤ 4 → IsWordGuard d guard
