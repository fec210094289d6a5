use Rattle.std.proofs.Common.{◌≡◌, ◌∙◌, sym, ap, arith, not, true, false}
use Rattle.std.specs.List.{list_all}
use Rattle.std.proofs.lemmas.List.Elements.{AllWithin-more, at_read}
use Rattle.spin_objects.specs.Units.{handlers_of}
use Rattle.spin_table.specs.Faults.{is_step_fit, raises_amiss}
use Rattle.spin_table.proofs.NumberedUnits.{act_unit}
use Rattle.spin_table.proofs.FirstPlaces.{position-none, position-at}
use Rattle.spin_table.proofs.build.bad_up.Goals as goal

pub returns-then-not-raises_fit : goal.returns-then-not-raises_fit
returns-then-not-raises_fit g c =
    let units = handlers_of c.args.catalogue.now in
    let at = c.loop-at.at in
    let unit = act_unit units at _ c.act_of.ensures in
    let amiss : raises_amiss c.args.events.now unit.0 ≡ true =
    ap (λ a. not (list_all (is_step_fit c.args.events.now) a.steps)) unit.3 ∙ ap not (sym c.raises_fit.ensures ∙ c.if-not-raises_fit.true) in
    sym (position-at (raises_amiss c.args.events.now) units at unit.0 unit.1 unit.2 amiss c.loop-at.invariant)

pub loop-at-preserved : goal.loop-at-preserved
loop-at-preserved g c =
    let units = handlers_of c.args.catalogue.now in
    let at = c.loop-at.at in
    let unit = act_unit units at _ c.act_of.ensures in
    let fit : raises_amiss c.args.events.now unit.0 ≡ false =
    ap (λ a. not (list_all (is_step_fit c.args.events.now) a.steps)) unit.3 ∙ ap not (sym c.raises_fit.ensures ∙ c.if-not-raises_fit.false) in
    AllWithin-more (λ h. raises_amiss c.args.events.now h ≡ false) units 0 at c.loop-at.invariant (at_read units (λ h. raises_amiss c.args.events.now h ≡ false) at unit.0 unit.1 (sym unit.2) fit)

pub returns : goal.returns
returns g c =
    let units = handlers_of c.args.catalogue.now in
    sym (position-none (raises_amiss c.args.events.now) units (λ k d l m. c.loop-at.invariant k d l (omega (arith, c.handlers-at-end.ensures))))
