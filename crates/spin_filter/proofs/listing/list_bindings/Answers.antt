use Rattle.std.proofs.Common.{List, ◌++◌, sym, subst, arith}
use Rattle.std.proofs.lemmas.List.{append-nil, take_all}
use Rattle.spin_place.specs.declared.binding.Binding.{Binding}
use Rattle.spin_filter.specs.Counting.{BindingAt}
use Rattle.spin_filter.specs.Inner.Fresh.{AreFresh}
use Rattle.spin_filter.proofs.FreshHits.{fresh-more, bindings-more, of_bindings}
use Rattle.spin_filter.proofs.listing.list_bindings.Goals as goal

pub loop-binding-init : goal.loop-binding-init
loop-binding-init c = λ listed are. subst (λ (ls : List BindingAt). AreFresh ls c.args.hits.now.items) (sym (append-nil listed)) are

pub loop-binding-preserved : goal.loop-binding-preserved
loop-binding-preserved c = λ listed are.
    let event = c.args.event in
    let bindings = c.args.bindings.now in
    let i = c.loop-binding.binding-index in
    let binding = c.binding-item.result in
    subst (λ (ls : List BindingAt). AreFresh ls c.push.new.self.items) (bindings-more event listed bindings i binding (omega arith) c.binding-item.is)
    (fresh-more (listed ++ of_bindings event _) c.loop-binding.hits.items c.push.new.self.items c.new.result event binding.number (c.loop-binding.invariant listed are) c.new.ensures.hit c.new.ensures.event
    c.new.ensures.number c.in_ok-push.ensures.items)

pub returns : goal.returns
returns c = λ listed are.
    subst (λ (bs : List Binding). AreFresh (listed ++ of_bindings c.args.event bs) c.loop-binding.hits.items) (take_all c.loop-binding.binding-index c.args.bindings.now (omega arith))
    (c.loop-binding.invariant listed are)
