use Rattle.std.proofs.Common.{◌≡◌, ◌<◌, ℕ, ◌+◌, ◌-◌, List, length, get_or, Some, ap, ◌∙◌, arith}
use Rattle.std.specs.Prelude.{slice_get}
use Rattle.std.proofs.lemmas.List.{length-map}
use Rattle.std.proofs.lemmas.Option.{slice_get-get_or}
use Rattle.spin_objects.specs.Units.{GuardUnit, guards_of, unit_of_check, native_guards}
use Rattle.spin_objects.specs.declared.unit.Check.{Check}
use Rattle.spin_objects.specs.declared.unit.Check.TheVariants as unit
use Rattle.spin_script.specs.States.{natives_seen}
use Rattle.spin_script.specs.Canonical.{guard_line}
use Rattle.spin_script.proofs.WrittenParts.{lines_more, more_written}
use Rattle.spin_script.proofs.write.declared.put_guards.Goals as goal

pub loop-at-preserved : goal.loop-at-preserved
loop-at-preserved g c =
    let all : List Check = c.args.catalogue.now.checks in
    let this : Check = get_or all c.loop-at.at (unit.Native 0) in
    let size = length-map (guards_of c.args.catalogue.now) (λ (u : GuardUnit). u.test) ∙ length-map all (unit_of_check (native_guards c.args.catalogue.now.natives)) in
    let inside : c.loop-at.at < length all = omega (arith, c.loop-at-test.true, c.loop-at.auto.at-end, c.count-at-end.ensures, size) in
    let there : slice_get all c.loop-at.at ≡ Some this = slice_get-get_or all c.loop-at.at (unit.Native 0) inside in
    let at : c.loop-at.at + 1 - 1 ≡ c.loop-at.at = omega arith in
    more_written c.args.out.now _ _
    (lines_more (λ (p : ℕ × Check). guard_line (natives_seen c.args.catalogue.now.natives) p.0 p.1) 1 c.loop-at.at (c.loop-at.at + 1) all this there (omega arith))
    c.loop-at.invariant (c.in_ok-put_guard.ensures this (ap (slice_get all) at ∙ there))
