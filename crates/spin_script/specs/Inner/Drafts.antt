-- The script so far, as the reader keeps it.
use Rattle.std.specs.Prelude.{List}
use Rattle.spin_objects.specs.Units.{HandlerUnit, GuardUnit, handlers_of, guards_of}
use Rattle.spin_objects.specs.declared.catalogue.Catalogue.{Catalogue}
use Rattle.spin_script.specs.declared.draft.Draft.{Draft}
use Rattle.spin_script.specs.States.{ScriptState}

-- with these handlers and guards
abbrev pub state : Draft → List HandlerUnit → List GuardUnit → ScriptState
state d handlers guards = record {
  version = d.version;
  section = d.section;
  begins = d.begins;
  modules = d.modules;
  events = d.events.items;
  endpoints = d.endpoints;
  handlers = handlers;
  guards = guards;
  ended = d.ended;
  segment = d.segment;
  commands = d.commands;
  deeds = d.deeds;
  lanes = d.lanes;
}

-- with the handlers and guards of a catalogue
abbrev pub so_far : {A C E : Type 0} {B : A → Type 0} {D : C → Type 0} {F : E → Type 0} → Draft
    → Catalogue A C E B D F → ScriptState
so_far d c = state d (handlers_of c) (guards_of c)
