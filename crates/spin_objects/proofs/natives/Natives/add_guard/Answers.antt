use Rattle.std.proofs.Common.{◌≡◌, subst}
use Rattle.spin_objects.specs.Adding.{IsNativeBy}
use Rattle.spin_objects.specs.Units.{Named, GuardUnit, known_guard}
use Rattle.spin_objects.proofs.AddedItems.{known_after, all_after, few_natives, in_any_case}
use Rattle.spin_objects.proofs.natives.Natives.add_guard.Goals as goal

pub invariant_of-self : goal.invariant_of-self
invariant_of-self g c = record {
  few_handlers = c.args.self.now.few_handlers;
  few_guards =
      few_natives known_guard (λ (n : Named GuardUnit). n.name) c.args.name c.check_test-checked.result c.keep.result
      c.args.self.now.guards c.keep.new.natives _ (subst (λ first. IsNativeBy first c.keep.result) c.refusal-refusal.ensures c.keep.ensures.answer)
      c.args.self.now.few_guards c.keep.ensures.added c.keep.ensures.kept;
  few_authorisers = c.args.self.now.few_authorisers;
}

pub returns-clause-sincere : goal.returns-clause-sincere
returns-clause-sincere g c = record {
  handlers = c.requires.sincere.handlers;
  guards =
      all_after (λ n. (goal.Guard-dyn g (n.object.vtable, n.object.value)).asks n.object.value ≡ n.test) c.keep.result
      c.args.self.now.guards c.keep.new.natives _ c.keep.ensures.added c.keep.ensures.kept c.requires.sincere.guards (in_any_case c.keep.result c.requires.object);
  authorisers = c.requires.sincere.authorisers;
}

pub returns-clause-added : goal.returns-clause-added
returns-clause-added g c = known_after known_guard c.keep.result c.args.self.now.guards c.keep.new.natives _ c.keep.ensures.added
