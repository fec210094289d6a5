use Rattle.std.proofs.Common.{ap, ◌≡◌, ◌∙◌, ◌-◌, ◌<◌, length, arith, slice_get, Some}
use Rattle.std.specs.Prelude.{slice_index_or}
use Rattle.spin_vm.proofs.RegionOrder.{last_none, last_some, end_at, read_at}
use Rattle.spin_vm.proofs.regions.Regions.last_before.Goals as goal

pub returns-then-count-eq0-clause-last : goal.returns-then-count-eq0-clause-last
returns-then-count-eq0-clause-last c = last_none c.args.page c.count_before-count.result c.args.self.now c.count_before-count.ensures.count c.if-count-eq0.true

read : (c : goal.After-result-1) → slice_get c.args.self.now (c.count_before-count.result - 1) ≡ Some c.index.result.now
read c =
    let k = c.count_before-count.result - 1 in
    let lt : k < length c.args.self.now = omega (arith, c.count_before-count.ensures.few, c.if-count-eq0.false) in
    let is = c.index.ensures ∙ ap (λ xs. slice_index_or xs k c.index.result.now) c.self.view_is in
    read_at c.args.self.now k c.index.result.now lt is

pub returns-clause-last : goal.returns-clause-last
returns-clause-last c = last_some c.args.page c.count_before-count.result c.args.self.now c.index.result.now c.count_before-count.ensures.count c.if-count-eq0.false (read c)

pub returns-clause-end : goal.returns-clause-end
returns-clause-end c = end_at 0 c.args.self.now (c.count_before-count.result - 1) c.index.result.now c.count_before-count.ensures.apart (read c)
