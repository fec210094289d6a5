use Rattle.std.proofs.Common.{◌≡◌, List, subst}
use Rattle.std.specs.Prelude.{Ok}
use Rattle.spin_policy.specs.declared.rule.Rule.{Rule}
use Rattle.spin_objects.specs.Adding.{IsNativeBy}
use Rattle.spin_objects.specs.Units.{Named, known_authoriser}
use Rattle.spin_objects.proofs.AddedItems.{known_after, all_after, few_natives, in_any_case}
use Rattle.spin_objects.proofs.natives.Natives.add_authoriser.Goals as goal

pub invariant_of-self : goal.invariant_of-self
invariant_of-self g c = record {
  few_handlers = c.args.self.now.few_handlers;
  few_guards = c.args.self.now.few_guards;
  few_authorisers =
      few_natives known_authoriser (λ (n : Named (List Rule)). n.name) c.args.name (Ok tt) c.keep.result
      c.args.self.now.authorisers c.keep.new.natives _ (subst (λ first. IsNativeBy first c.keep.result) c.refusal-refusal.ensures c.keep.ensures.answer)
      c.args.self.now.few_authorisers c.keep.ensures.added c.keep.ensures.kept;
}

pub returns-clause-sincere : goal.returns-clause-sincere
returns-clause-sincere g c = record {
  handlers = c.requires.sincere.handlers;
  guards = c.requires.sincere.guards;
  authorisers =
      all_after (λ n. (goal.Authoriser-dyn g (n.object.vtable, n.object.value)).follows n.object.value ≡ n.policy) c.keep.result
      c.args.self.now.authorisers c.keep.new.natives _ c.keep.ensures.added c.keep.ensures.kept c.requires.sincere.authorisers (in_any_case c.keep.result c.requires.object);
}

pub returns-clause-added : goal.returns-clause-added
returns-clause-added g c = known_after known_authoriser c.keep.result c.args.self.now.authorisers c.keep.new.natives _ c.keep.ensures.added
