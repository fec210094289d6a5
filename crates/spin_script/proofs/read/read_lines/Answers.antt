use Rattle.std.proofs.Common.{◌+◌, length, ap, subst, ◌∙◌, arith}
use Rattle.std.specs.Str.Lines.{lines}
use Rattle.spin_script.specs.States.{NativeData, natives_seen}
use Rattle.spin_script.specs.Inner.Drafts.{so_far}
use Rattle.spin_script.specs.Inner.Sound.{IsSound}
use Rattle.spin_script.specs.Inner.Declaring.{IsDeclared}
use Rattle.spin_script.specs.Language.{head, Passes}
use Rattle.spin_script.proofs.ScriptReading.{bad_at, bad_next, comes_on}
use Rattle.spin_script.proofs.TextDeclarations.{declares_on}
use Rattle.spin_script.proofs.read.read_lines.Goals as goal

pub returns-in-Err-Bad-clause-gives : goal.returns-in-Err-Bad-clause-gives
returns-in-Err-Bad-clause-gives g c =
    let n = natives_seen c.args.catalogue.now.natives in
    let m = natives_seen c.loop-line.catalogue.natives in
    let s = so_far c.loop-line.draft c.loop-line.catalogue in
    let number = c.loop-line.number + 1 in
    let refused = c.in-Err-Bad.ensures.gives c.in-Err-Bad.cause c.in-Err-Bad.field-0-is in
    let told = rw c.in-Err-Bad.field-0-is at c.bad.ensures in
    bad_at n c.args.text.now number c.in-Err-Bad.cause c.bad.result told (bad_next n m c.args.text.now s number c.in-Some.line.now c.loop-line.lines c.next.new.self c.in-Err-Bad.cause
    (ap natives_seen c.loop-line.invariant.natives) c.loop-line.invariant.small c.in-Some.ensures.lines refused c.loop-line.invariant.rest)

pub loop-line-preserved : goal.loop-line-preserved
loop-line-preserved g c =
    let n = natives_seen c.args.catalogue.now.natives in
    let m = natives_seen c.loop-line.catalogue.natives in
    let same = ap natives_seen c.loop-line.invariant.natives in
    let old = c.loop-line.catalogue in
    let new = c.take_line.new.catalogue in
    let s = so_far c.loop-line.draft old in
    let t = so_far c.take_line.new.draft new in
    let number = c.loop-line.number + 1 in
    let passes = c.in-Ok.ensures.gives in
    let room = c.loop-line.invariant.room in
    let fewer = ap length c.in-Some.ensures.lines in
    record {
      small = c.loop-line.invariant.small;
      room = omega (arith, room, fewer);
      natives = c.in-Ok.ensures.natives ∙ c.loop-line.invariant.natives;
      sound = subst (λ (k : NativeData). IsSound k t) same c.in-Ok.ensures.sound;
      declared = subst (λ (k : NativeData). IsDeclared k t new.bodies new.checks) same c.in-Ok.ensures.declared;
      said = declares_on n m (lines c.args.text.now) c.loop-line.lines c.next.new.self c.in-Some.line.now old.bodies new.bodies old.checks new.checks s t number
          same c.in-Some.ensures.lines passes c.in-Ok.ensures.grows c.loop-line.invariant.said;
      rest = λ o behind. c.loop-line.invariant.rest o (comes_on n s t number c.in-Some.line.now c.loop-line.lines c.next.new.self o c.in-Some.ensures.lines
          (subst (λ (k : NativeData). Passes k s number (head s c.in-Some.line.now) t) same passes) behind);
    }
