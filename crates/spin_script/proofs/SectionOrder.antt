-- Lines stand by rising section.
use Rattle.std.proofs.Common.{◌≡◌, ◌≤◌, ℕ, List, [], ◌∷◌, ◌++◌, Some, refl, ◌∙◌, arith}
use Rattle.std.specs.Prelude.{slice_get, slice_set}
use Rattle.spin_values.specs.declared.types.EventType.{EventType}
use Rattle.spin_code.specs.declared.merge.Merge.{Merge}
use Rattle.spin_objects.specs.Units.{HandlerUnit}
use Rattle.spin_table.specs.declared.event.EventDef.{EventDef}
use Rattle.spin_table.specs.declared.event.Authority.TheVariants as authority
use Rattle.spin_script.specs.States.{new_event}
use Rattle.spin_script.specs.Inner.Sound.{IsOrdered}
use Rattle.spin_script.proofs.ListElements.{each_none, each_push, each_set}

pub ordered_none : IsOrdered 0 [] []
ordered_none = record {
  no_events = λ h. refl;
  no_handlers = λ h. refl;
  no_rules = λ h. each_none (λ at e. e.authority ≡ authority.Rules []) [] refl;
  no_defaults = λ h. each_none (λ at e. e.first_default ≡ 0) [] refl;
}

-- a later section
pub ordered_on : (b c : ℕ) (es : List EventDef) (hs : List HandlerUnit) → b ≤ c → IsOrdered b es hs → IsOrdered c es hs
ordered_on b c es hs on o = record {
  no_events = λ h. o.no_events (omega arith);
  no_handlers = λ h. o.no_handlers (omega arith);
  no_rules = λ h. o.no_rules (omega arith);
  no_defaults = λ h. o.no_defaults (omega arith);
}

pub ordered_event : (b : ℕ) (es : List EventDef) (hs : List HandlerUnit) (owner : ℕ) (sig : EventType) (merge : Merge)
    → b ≤ 2 → IsOrdered b es hs → IsOrdered 2 (es ++ new_event owner sig merge ∷ []) hs
ordered_event b es hs owner sig merge on o = record {
  no_events = λ h. absurd (omega arith);
  no_handlers = λ h. o.no_handlers (omega arith);
  no_rules = λ h. each_push (λ at e. e.authority ≡ authority.Rules []) es (new_event owner sig merge) (o.no_rules (omega arith)) refl;
  no_defaults = λ h. each_push (λ at e. e.first_default ≡ 0) es (new_event owner sig merge) (o.no_defaults (omega arith)) refl;
}

pub ordered_handler : (b : ℕ) (es : List EventDef) (hs more : List HandlerUnit) → b ≤ 4 → IsOrdered b es hs → IsOrdered 4 es more
ordered_handler b es hs more on o = record {
  no_events = λ h. absurd (omega arith);
  no_handlers = λ h. absurd (omega arith);
  no_rules = λ h. o.no_rules (omega arith);
  no_defaults = λ h. o.no_defaults (omega arith);
}

pub ordered_set : (b : ℕ) (es : List EventDef) (hs : List HandlerUnit) (k : ℕ) (e t : EventDef) → slice_get es k ≡ Some e → t.first_default ≡ e.first_default
    → b ≤ 6 → IsOrdered b es hs → IsOrdered 6 (slice_set es k t) hs
ordered_set b es hs k e t read same on o = record {
  no_events = λ h. absurd (omega arith);
  no_handlers = λ h. absurd (omega arith);
  no_rules = λ h. absurd (omega arith);
  no_defaults = λ h. each_set (λ at d. d.first_default ≡ 0) es k t (o.no_defaults (omega arith)) (same ∙ o.no_defaults (omega arith) k e read);
}

pub ordered_last : (es : List EventDef) (hs : List HandlerUnit) → IsOrdered 7 es hs
ordered_last es hs = record {
  no_events = λ h. absurd (omega arith);
  no_handlers = λ h. absurd (omega arith);
  no_rules = λ h. absurd (omega arith);
  no_defaults = λ h. absurd (omega arith);
}
