-- What has a number in a catalogue.
use Rattle.std.proofs.Common.{◌≡◌, ℕ, ◌+◌, ◌<◌, length, get_or, ◌-◌, arith, List, Some, refl, sym, ap, subst, ◌∙◌, map}
use Rattle.std.specs.Prelude.{slice_get, Option, None, IsSomeAnd}
use Rattle.std.specs.Option.{option_map}
use Rattle.std.proofs.lemmas.Option.{slice_get-map, slice_get_within, get_or_from_slice_get, same_Some}
use Rattle.spin_values.specs.First.{numbered}
use Rattle.spin_values.specs.declared.types.EventType.{EventType}
use Rattle.spin_code.specs.declared.act.Act.{Act}
use Rattle.spin_objects.specs.Units.{HandlerUnit, GuardUnit}
use Rattle.spin_objects.proofs.NumberedItems.{numbered-map, numbered-reads}

-- a handler is its signature and its act
same_unit : (u : HandlerUnit) (sig : EventType) (act : Act) → u.sig ≡ sig → u.act ≡ act → u ≡ record { sig = sig; act = act }
same_unit u sig act p q =
    let first : u ≡ record u { sig = sig } = ap (λ (s : EventType). record u { sig = s }) p in
    first ∙ ap (λ (a : Act). record { sig = sig; act = a }) q

unit_from : (o : Option HandlerUnit) (sig : EventType) (act : Act) → IsSomeAnd o (λ u. sig ≡ u.sig) → option_map (λ u. u.act) o ≡ Some act
    → o ≡ Some (record { sig = sig; act = act })
unit_from None sig act p e = cc
unit_from (Some u) sig act p e = let q : u.act ≡ act = same_Some _ _ e in ap Some (same_unit u sig act (sym p) q)

pub numbered_handler : (units : List HandlerUnit) (number : ℕ) (sig : EventType) (act : Act) → IsSomeAnd (numbered units number) (λ u. sig ≡ u.sig)
    → numbered (map (λ u. u.act) units) number ≡ Some act → numbered units number ≡ Some (record { sig = sig; act = act })
numbered_handler units number sig act p e = unit_from (numbered units number) sig act p (sym (numbered-map (λ (u : HandlerUnit). u.act) units number) ∙ e)

pub sig_from : (o : Option GuardUnit) (sig : EventType) → IsSomeAnd o (λ u. sig ≡ u.sig) → option_map (λ (u : GuardUnit). u.sig) o ≡ Some sig
sig_from None sig p = absurd p
sig_from (Some u) sig p = ap Some (sym p)

unit_with : (o : Option HandlerUnit) (act : Act) → option_map (λ (u : HandlerUnit). u.act) o ≡ Some act → (u : HandlerUnit) × (o ≡ Some u) × (u.act ≡ act)
unit_with None act e = cc
unit_with (Some u) act e = (u, refl, same_Some _ _ e)

-- a handler whose act is read from the list of acts
pub act_unit : (units : List HandlerUnit) (at : ℕ) (act : Act) → numbered (map (λ u. u.act) units) (at + 1) ≡ Some act
    → (u : HandlerUnit) × (at < length units) × (get_or units at u ≡ u) × (u.act ≡ act)
act_unit units at act e =
    let same : at + 1 - 1 ≡ at = omega arith in
    let there = subst (λ k. slice_get (map (λ (u : HandlerUnit). u.act) units) k ≡ Some act) same (numbered-reads (map (λ (u : HandlerUnit). u.act) units) (at + 1) act e) in
    let unit = unit_with (slice_get units at) act (sym (slice_get-map (λ (u : HandlerUnit). u.act) units at) ∙ there) in
    (unit.0, slice_get_within units at unit.0 unit.1, get_or_from_slice_get units at unit.0 unit.0 unit.1, unit.2)
