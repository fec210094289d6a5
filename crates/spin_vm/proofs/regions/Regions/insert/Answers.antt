use Rattle.std.proofs.Common.{subst, sym, ap, ◌≡◌, ◌∙◌, List, arith}
use Rattle.std.specs.List.{insert}
use Rattle.spin_vm.specs.Regions.{with_region}
use Rattle.spin_vm.specs.declared.line.Region.{Region}
use Rattle.spin_vm.specs.Inner.Apart.{AreApart, count_before}
use Rattle.spin_vm.proofs.RegionOrder.{insert_is, with_apart}
use Rattle.spin_vm.proofs.regions.Regions.insert.Goals as goal

inserted : (xs ys zs : List Region) (i : _) (r : Region) → xs ≡ ys → i ≡ count_before r.start ys → zs ≡ insert xs i r → zs ≡ with_region r ys
inserted xs ys zs i r same at is = is ∙ ap (λ us. insert us i r) same ∙ ap (λ k. insert ys k r) at ∙ insert_is r ys

pub invariant_of-self-2 : goal.invariant_of-self-2
invariant_of-self-2 c =
    let r = c.args.region in
    let apart = subst AreApart c.self.view_is c.self.invariant in
    subst AreApart (sym (inserted c.self.inside.items.items c.args.self.now _ _ r c.self.view_is c.count_before-at.ensures.count c.in_ok-insert.ensures.items))
    (with_apart 0 r c.args.self.now (omega arith) c.requires.some c.requires.near c.requires.apart apart)

pub returns-clause-ok : goal.returns-clause-ok
returns-clause-ok c = inserted c.self.inside.items.items c.args.self.now _ _ c.args.region c.self.view_is c.count_before-at.ensures.count c.in_ok-insert.ensures.items
