-- Laws of the script language.
use Rattle.std.specs.Prelude.{◌≡◌, ℕ, List, map, Ok, Err}
use Rattle.spin_objects.specs.Units.{HandlerUnit, GuardUnit}
use Rattle.spin_table.specs.declared.event.EventDef.{EventDef}
use Rattle.spin_table.specs.Setups.{SetupData}
use Rattle.spin_grammar.specs.Bare.{bare_step, bare_test, bare_merge}
use Rattle.spin_script.specs.States.{NativeData, ScriptData}
use Rattle.spin_script.specs.Language.{Outcome, IsScript}

-- ---- without where the boxes of expressions and tests lie

abbrev pub bare_event : EventDef → EventDef
bare_event e = record e { merge = bare_merge e.merge }

abbrev pub bare_handler : HandlerUnit → HandlerUnit
bare_handler h = record h { act = record { steps = map bare_step h.act.steps } }

abbrev pub bare_guard : GuardUnit → GuardUnit
bare_guard g = record g { test = bare_test g.test }

abbrev pub bare_setup : SetupData → SetupData
bare_setup d = record d {
  events = map bare_event d.events;
  handlers = map bare_handler d.handlers;
  guards = map bare_guard d.guards;
}

abbrev pub bare_script : ScriptData → ScriptData
bare_script s = record s { setup = bare_setup s.setup }

-- two outcomes are one: the same bad line for the same cause, or the same script but for where its boxes lie
abbrev pub AreOne : Outcome → Outcome → Type 0
AreOne (Ok s) (Ok t) = bare_script s ≡ bare_script t
AreOne (Err e) (Err f) = e ≡ f
AreOne o p = ⊥

-- A text comes to one thing.
abbrev pub OneOutcome : Type 0
OneOutcome = (n : NativeData) (text : List ℕ) (o p : Outcome) → IsScript n text o
    → IsScript n text p → AreOne o p

-- Each text comes to something: it is a script, or has a first bad line and its cause.
abbrev pub SomeOutcome : Type 0
SomeOutcome = (n : NativeData) (text : List ℕ) → (o : Outcome) × IsScript n text o
