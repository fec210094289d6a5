-- What a setup is built from, as plain data.
use Rattle.std.specs.Prelude.{ℕ, List}
use Rattle.spin_objects.specs.declared.catalogue.Catalogue.{Catalogue}
use Rattle.spin_objects.specs.Units.{handlers_of, guards_of, policies_of}
use Rattle.spin_table.specs.declared.event.EventDef.{EventDef}
use Rattle.spin_table.specs.Setups.{SetupData}

-- a native handler, guard or authoriser counts as the act, the test or the rules that it was handed in with
abbrev pub data_from : {A C E : Type 0} {B : A → Type 0} {D : C → Type 0} {F : E → Type 0} → ℕ
    → ℕ → List EventDef → Catalogue A C E B D F → SetupData
data_from modules live events c = record {
  modules = modules;
  live = live;
  events = events;
  handlers = handlers_of c;
  guards = guards_of c;
  policies = policies_of c.natives;
}
