use Rattle.std.proofs.Common.{◌≡◌, ◌<◌, ◌∙◌, sym, arith, false, length}
use Rattle.std.specs.List.{enumerate_from}
use Rattle.std.proofs.lemmas.List.Elements.{AllWithin-more, at_read}
use Rattle.std.proofs.lemmas.List.FromFn.{length-enumerate_from}
use Rattle.spin_objects.specs.Units.{handlers_of}
use Rattle.spin_table.specs.Faults.{has_bad_default}
use Rattle.spin_table.proofs.FirstPlaces.{position-none, position-at, enumerated}
use Rattle.spin_table.proofs.build.bad_default.Goals as goal

pub returns-then-has_bad_default : goal.returns-then-has_bad_default
returns-then-has_bad_default g c =
    let events = c.args.events.now in
    let at = c.loop-at.at in
    let inside : at < length (enumerate_from 0 events) = omega (arith, length-enumerate_from 0 events) in
    record {
      default = sym (position-at (has_bad_default (handlers_of c.args.catalogue.now)) (enumerate_from 0 events) at
          (at, c.index-events-at.result) inside (enumerated events at _ (omega arith) (sym c.index-events-at.is))
          (sym c.has_bad_default.ensures ∙ c.if-has_bad_default.true) c.loop-at.invariant);
      there = omega arith;
    }

pub loop-at-preserved : goal.loop-at-preserved
loop-at-preserved g c =
    let events = c.args.events.now in
    let at = c.loop-at.at in
    let inside : at < length (enumerate_from 0 events) = omega (arith, length-enumerate_from 0 events) in
    let bad = has_bad_default (handlers_of c.args.catalogue.now) in
    AllWithin-more (λ p. bad p ≡ false) (enumerate_from 0 events) 0 at c.loop-at.invariant
    (at_read (enumerate_from 0 events) (λ p. bad p ≡ false) at (at, c.index-events-at.result) inside
    (sym (enumerated events at _ (omega arith) (sym c.index-events-at.is))) (sym c.has_bad_default.ensures ∙ c.if-has_bad_default.false))

pub returns-clause-default : goal.returns-clause-default
returns-clause-default g c =
    let events = c.args.events.now in
    sym (position-none (has_bad_default (handlers_of c.args.catalogue.now)) (enumerate_from 0 events) (λ k d l m. c.loop-at.invariant k d l (omega (arith, length-enumerate_from 0 events))))
