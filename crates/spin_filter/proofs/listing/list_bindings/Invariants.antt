use Rattle.std.proofs.Common.{List, ◌++◌, take}
use Rattle.spin_filter.specs.Counting.{BindingAt}
use Rattle.spin_filter.specs.Inner.Fresh.{AreFresh}
use Rattle.spin_filter.proofs.FreshHits.{of_bindings}
use Rattle.spin_filter.proofs.listing.list_bindings.Given as goal

abbrev pub invariant-loop-binding : goal.invariant-loop-binding
invariant-loop-binding l =
    (listed : List BindingAt) → AreFresh listed l.fn.hits.items → AreFresh (listed ++ of_bindings l.event (take l.binding-index l.bindings)) l.hits.items
