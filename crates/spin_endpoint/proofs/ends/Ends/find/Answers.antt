use Rattle.std.proofs.Common.{◌≡◌, false, arith}
use Rattle.std.proofs.lemmas.List.Elements.{All-map}
use Rattle.std.proofs.lemmas.List.Folds.{list_any_none}
use Rattle.spin_endpoint.specs.Named.{NamedEnd, stands_as}
use Rattle.spin_endpoint.proofs.ends.Ends.find.Goals as goal

-- the loop went over all endpoints
pub returns-clause-none : goal.returns-clause-none
returns-clause-none g c =
    list_any_none (stands_as c.args.name.now) _
    (All-map (λ (e : NamedEnd). stands_as c.args.name.now e ≡ false) _ c.args.self.now.ends.items
    (rw (← c.deref-end-items.ensures.value) (λ k d h. c.loop-at.invariant k d (omega arith) (omega arith))))
