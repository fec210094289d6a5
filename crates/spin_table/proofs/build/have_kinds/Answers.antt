use Rattle.std.proofs.Common.{◌≡◌, length, sym, ◌∙◌, arith, rules, below_more}
use Rattle.spin_values.proofs.ListEquality.{get_map, same_maps, differ_at, kind_alike, kind_apart}
use Rattle.spin_table.specs.Faults.{part_kind}
use Rattle.spin_table.proofs.build.have_kinds.Goals as goal

pub returns-then-ne : goal.returns-then-ne
returns-then-ne c =
    let apart = differ_at (λ p. p.kind) part_kind c.args.sig.now.params c.args.parts.now _ _ _ c.get.ensures c.get-in-loop-at.ensures
    (λ e. kind_apart _ _ _ c.ne.ensures c.if-ne.true (e ∙ sym c.part_kind.ensures)) in
    (λ f. cc, λ e. absurd (apart e))

pub loop-at-preserved : goal.loop-at-preserved
loop-at-preserved c =
    let same : c.get.result.now.kind ≡ c.part_kind.result = kind_alike _ _ _ c.ne.ensures c.if-ne.false in
    below_more _ _ c.loop-at.invariant
    (get_map (λ p. p.kind) c.args.sig.now.params _ _ c.get.ensures
    ∙ (cc (c.part_kind.ensures, same))
    ∙ sym (get_map part_kind c.args.parts.now _ _ c.get-in-loop-at.ensures))

pub returns : goal.returns
returns c =
    let n : length c.args.sig.now.params ≡ length c.args.parts.now = cc in
    (λ t. same_maps (λ p. p.kind) part_kind c.args.sig.now.params c.args.parts.now n (λ k l. c.loop-at.invariant k (omega arith)), λ e. search rules)
