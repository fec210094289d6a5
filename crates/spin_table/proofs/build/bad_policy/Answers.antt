use Rattle.std.proofs.Common.{◌≡◌, ◌∙◌, sym, arith, false}
use Rattle.std.proofs.lemmas.List.Elements.{AllWithin-more, at_read}
use Rattle.spin_objects.specs.Units.{guards_of, policies_of}
use Rattle.spin_table.specs.Faults.{has_bad_policy}
use Rattle.spin_table.proofs.FirstPlaces.{position-none, position-at}
use Rattle.spin_table.proofs.build.bad_policy.Goals as goal

pub returns-then-has_bad_policy : goal.returns-then-has_bad_policy
returns-then-has_bad_policy g c =
    let bad = has_bad_policy (policies_of c.args.catalogue.now.natives) (guards_of c.args.catalogue.now) in
    sym (position-at bad c.args.events.now c.loop-at.at c.index-events-at.result (omega arith) (sym c.index-events-at.is)
    (sym c.has_bad_policy.ensures ∙ c.if-has_bad_policy.true) c.loop-at.invariant)

pub loop-at-preserved : goal.loop-at-preserved
loop-at-preserved g c =
    let bad = has_bad_policy (policies_of c.args.catalogue.now.natives) (guards_of c.args.catalogue.now) in
    AllWithin-more (λ e. bad e ≡ false) c.args.events.now 0 c.loop-at.at c.loop-at.invariant
    (at_read c.args.events.now (λ e. bad e ≡ false) c.loop-at.at c.index-events-at.result (omega arith) c.index-events-at.is (sym c.has_bad_policy.ensures ∙ c.if-has_bad_policy.false))

pub returns : goal.returns
returns g c =
    let bad = has_bad_policy (policies_of c.args.catalogue.now.natives) (guards_of c.args.catalogue.now) in
    sym (position-none bad c.args.events.now (λ k d l m. c.loop-at.invariant k d l (omega arith)))
