use Rattle.std.proofs.Common.{◌≡◌, ◌+◌, ◌∙◌, ◌&&◌, nat_lt, true, false, sym, ap, refl, arith}
use Rattle.spin_vm.proofs.RegionOrder.{any_is, writes_is, reaches, lets_write}
use Rattle.spin_vm.proofs.regions.Regions.at.Goals as goal

pub returns-in-None-clause-there : goal.returns-in-None-clause-there
returns-in-None-clause-there c =
    let p = c.args.page in
    sym (any_is 0 p (p + 1) c.args.self.now (omega arith) c.in-None.ensures.apart ∙ ap (reaches p) (sym c.in-None.ensures.last))

pub returns-then-page-region-clause-there : goal.returns-then-page-region-clause-there
returns-then-page-region-clause-there c =
    let p = c.args.page in
    let r = c.in-Some.region in
    let has : nat_lt p (r.start + r.pages) ≡ true = grind (arith, c.if-page-region.true) in
    sym (any_is 0 p (p + 1) c.args.self.now (omega arith) c.in-Some.ensures.apart ∙ ap (reaches p) (sym c.in-Some.ensures.last) ∙ has)

pub returns-then-page-region-clause-writable : goal.returns-then-page-region-clause-writable
returns-then-page-region-clause-writable c =
    let p = c.args.page in
    let r = c.in-Some.region in
    let has : nat_lt p (r.start + r.pages) ≡ true = grind (arith, c.if-page-region.true) in
    let also : (nat_lt p (r.start + r.pages) && r.writable) ≡ r.writable = rw has refl in
    sym (writes_is 0 p c.args.self.now c.in-Some.ensures.apart ∙ ap (lets_write p) (sym c.in-Some.ensures.last) ∙ also)

pub returns-else-page-region-clause-there : goal.returns-else-page-region-clause-there
returns-else-page-region-clause-there c =
    let p = c.args.page in
    let r = c.in-Some.region in
    let lacks : nat_lt p (r.start + r.pages) ≡ false = grind (arith, c.if-page-region.false) in
    sym (any_is 0 p (p + 1) c.args.self.now (omega arith) c.in-Some.ensures.apart ∙ ap (reaches p) (sym c.in-Some.ensures.last) ∙ lacks)
