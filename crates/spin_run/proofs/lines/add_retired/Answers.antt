use Rattle.std.proofs.Common.{◌≡◌, ◌++◌, ℕ, Bool, false, map, get_or, ap, ◌∙◌, arith, rules}
use Rattle.spin_text.specs.Words.{ended}
use Rattle.spin_report.specs.Histories.{Retirement, retire_line}
use Rattle.spin_run.specs.Inner.Lining.{retired_as}
use Rattle.spin_run.proofs.TextLines.{added, side_at, side_all}
use Rattle.spin_run.proofs.lines.add_retired.Goals as goal

abbrev one_of : ℕ × Bool → Retirement
one_of one = record { endpoint = one.0; stood = one.1 }

pub loop-at-preserved : goal.loop-at-preserved
loop-at-preserved c =
    let at = c.loop-at.at in
    let n = get_or c.args.numbers.now at 0 in
    let b = get_or c.args.stood.now at false in
    let text : c.retire_text.new.out ≡ ended (retire_line (record { endpoint = n; stood = b })) = search rules in
    let side = side_at one_of c.args.numbers.now c.args.stood.now at 0 false c.requires.room (omega (arith, c.loop-at-test.true)) in
    added retire_line c.args.lines.now c.loop-at.lines c.push.new.self _ (retired_as c.args.numbers.now c.args.stood.now) at
    (one_of (n, b)) side.0 side.1 c.loop-at.invariant text c.in_ok-push.ensures.ok

pub returns : goal.returns
returns c =
    c.loop-at.invariant
    ∙ ap (λ x. c.args.lines.now ++ map ended (map retire_line x)) (side_all one_of c.args.numbers.now c.args.stood.now c.loop-at.at c.requires.room (omega (arith, c.loop-at-test.false)))
