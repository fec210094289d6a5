use Rattle.std.proofs.Common.{ap, subst, ◌∙◌}
use Rattle.std.specs.Str.Lines.{lines}
use Rattle.spin_grammar.specs.declared.cause.Cause.TheVariants as cause
use Rattle.spin_script.specs.States.{NativeData, natives_seen}
use Rattle.spin_script.specs.Inner.Drafts.{so_far}
use Rattle.spin_script.proofs.ScriptReading.{bad_at, too_large, bad_version}
use Rattle.spin_script.specs.Inner.Declaring.{IsDeclared}
use Rattle.spin_script.proofs.DeclaredUnits.{script_back}
use Rattle.spin_script.proofs.TextDeclarations.{script_declares}
use Rattle.spin_script.proofs.LaneLines.{orderly_read}
use Rattle.spin_script.proofs.read.read_script.Goals as goal

pub returns-then-text-gt-MAX_TEXT-clause-script : goal.returns-then-text-gt-MAX_TEXT-clause-script
returns-then-text-gt-MAX_TEXT-clause-script g c =
    let n = natives_seen c.args.natives in
    bad_at n c.args.text.now 0 cause.TooLarge c.bad.result c.bad.ensures (too_large n c.args.text.now c.if-text-gt-MAX_TEXT.true)

pub returns-then-draft-eq0-clause-script : goal.returns-then-draft-eq0-clause-script
returns-then-draft-eq0-clause-script g c =
    let n = natives_seen c.args.natives in
    let m = natives_seen c.new-catalogue.result.natives in
    let s = so_far c.read_lines.new.draft c.read_lines.new.catalogue in
    bad_at n c.args.text.now 1 cause.Version c.bad-then-draft-eq0.result c.bad-then-draft-eq0.ensures
    (bad_version n m c.args.text.now s (ap natives_seen c.new-catalogue.ensures.natives) c.if-text-gt-MAX_TEXT.false c.if-draft-eq0.true c.in_ok-read_lines.ensures.gives)

pub returns-clause-back : goal.returns-clause-back
returns-clause-back g c =
    let read = c.read_lines.new.catalogue in
    let s = so_far c.read_lines.new.draft read in
    let given = ap natives_seen c.new-catalogue.ensures.natives in
    script_back (natives_seen c.args.natives) s read c.in_ok-build.field-0
    (ap natives_seen c.in_ok-read_lines.ensures.natives ∙ given) c.in_ok-build.ensures.catalogue c.in_ok-build.ensures.script c.if-draft-eq0.false
    (subst (λ (n : NativeData). IsDeclared n s read.bodies read.checks) given c.in_ok-read_lines.ensures.declared)

pub returns-clause-declared : goal.returns-clause-declared
returns-clause-declared g c =
    let read = c.read_lines.new.catalogue in
    let kept = c.in_ok-build.field-0.setup.catalogue in
    script_declares (natives_seen c.args.natives) (natives_seen c.new-catalogue.result.natives) c.args.text.now read.bodies kept.bodies read.checks kept.checks
    (ap natives_seen c.new-catalogue.ensures.natives) (ap (λ k. k.bodies) c.in_ok-build.ensures.catalogue) (ap (λ k. k.checks) c.in_ok-build.ensures.catalogue)
    c.in_ok-read_lines.ensures.said

pub returns-clause-orderly : goal.returns-clause-orderly
returns-clause-orderly g c =
    let read = c.read_lines.new.catalogue in
    orderly_read (natives_seen c.new-catalogue.result.natives) (natives_seen read.natives)
    (so_far c.read_lines.new.draft read) (lines c.args.text.now) _ (ap natives_seen c.in_ok-read_lines.ensures.natives)
    c.if-draft-eq0.false c.in_ok-read_lines.ensures.gives c.in_ok-build.ensures.script
