use Rattle.std.proofs.Common.{◌≡◌, true, rules, sym, ap, ◌∙◌, arith, if◌then◌else◌, Some}
use Rattle.std.specs.List.{insert}
use Rattle.spin_reass.specs.Fragments.{end_of}
use Rattle.spin_reass.specs.Joining.{fits}
use Rattle.spin_reass.specs.Inner.Orderly.{place_from}
use Rattle.spin_reass.proofs.PartOrder.{IsAdded, sound, small_size, added, added_is, whole_added}
use Rattle.spin_reass.proofs.datagram.Datagram.add.Goals as goal

pub overflow_add-self : goal.overflow_add-self
overflow_add-self c =
    let size = small_size 0 c.self.inside.parts.items (omega arith) c.self.invariant.0 in
    let s = sound c.args.part c.requires in
    let small = s.small in
    omega (arith, c.self.invariant.1, c.len-len.ensures)

pub invariant_of-self-2 : goal.invariant_of-self-2
invariant_of-self-2 c =
    let parts = c.self.inside.parts.items in
    let fit : fits c.args.part parts ≡ true = search rules in
    let at : c.place_of-at.result ≡ place_from c.args.part.start parts = search rules in
    let is : c.insert.new.self.items ≡ insert parts c.place_of-at.result c.args.part = search rules in
    let a : IsAdded c.args.part parts c.insert.new.self.items = added c.args.part parts c.insert.new.self.items c.place_of-at.result c.requires c.self.invariant.0 fit at is in
    let size = a.size in
    (a.orderly, omega (arith, c.self.invariant.1, c.len-len.ensures), c.end_or-end.ensures ∙ ap (λ e. if c.args.part.last then Some (end_of c.args.part) else e) c.self.invariant.2 ∙ sym a.last)

pub returns-clause-added : goal.returns-clause-added
returns-clause-added c =
    let parts = c.self.inside.parts.items in
    let fit : fits c.args.part parts ≡ true = search rules in
    let at : c.place_of-at.result ≡ place_from c.args.part.start parts = search rules in
    let is : c.insert.new.self.items ≡ insert parts c.place_of-at.result c.args.part = search rules in
    let a : IsAdded c.args.part parts c.insert.new.self.items = added c.args.part parts c.insert.new.self.items c.place_of-at.result c.requires c.self.invariant.0 fit at is in
    added_is c.args.self.now c.args.part c.self.inside.key parts c.insert.new.self.items c.self.view_is fit a.is

pub returns-clause-whole : goal.returns-clause-whole
returns-clause-whole c =
    let parts = c.self.inside.parts.items in
    let fit : fits c.args.part parts ≡ true = search rules in
    let at : c.place_of-at.result ≡ place_from c.args.part.start parts = search rules in
    let is : c.insert.new.self.items ≡ insert parts c.place_of-at.result c.args.part = search rules in
    let a : IsAdded c.args.part parts c.insert.new.self.items = added c.args.part parts c.insert.new.self.items c.place_of-at.result c.requires c.self.invariant.0 fit at is in
    whole_added c.args.self.now c.args.part c.self.inside.key parts c.insert.new.self.items c.is_whole.result c.self.view_is fit a.is c.is_whole.ensures
