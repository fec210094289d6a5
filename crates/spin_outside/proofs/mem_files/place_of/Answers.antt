use Rattle.std.proofs.Common.{arith, ◌<◌, length, sym, ◌∙◌}
use Rattle.spin_outside.proofs.FileLists.{content-skip, content-found}
use Rattle.spin_outside.proofs.mem_files.place_of.Goals as goal

pub returns-then-is_named-clause-found : goal.returns-then-is_named-clause-found
returns-then-is_named-clause-found c =
    let lt : c.loop-at.at < length c.args.files.now = omega arith in
    let same = c.is_named.ensures.yes c.if-is_named.true in
    (c.index-files-at.result, sym c.index-files-at.is, same, c.loop-at.invariant ∙ content-found _ _ _ _ lt c.index-files-at.is same)

pub loop-at-preserved : goal.loop-at-preserved
loop-at-preserved c =
    let lt : c.loop-at.at < length c.args.files.now = omega arith in
    c.loop-at.invariant ∙ content-skip _ _ _ _ lt c.index-files-at.is (λ same. let yes = c.is_named.ensures.no same in let other = c.if-is_named.false in cc)
