use Rattle.std.proofs.Common.{◌≡◌, subst}
use Rattle.spin_objects.specs.Adding.{IsNativeBy}
use Rattle.spin_objects.specs.Units.{Named, HandlerUnit, known_handler}
use Rattle.spin_objects.proofs.AddedItems.{known_after, all_after, few_natives, in_any_case}
use Rattle.spin_objects.proofs.natives.Natives.add_handler.Goals as goal

pub invariant_of-self : goal.invariant_of-self
invariant_of-self g c = record {
  few_handlers =
      few_natives known_handler (λ (n : Named HandlerUnit). n.name) c.args.name c.check_act-checked.result c.keep.result
      c.args.self.now.handlers c.keep.new.natives _ (subst (λ first. IsNativeBy first c.keep.result) c.refusal-refusal.ensures c.keep.ensures.answer)
      c.args.self.now.few_handlers c.keep.ensures.added c.keep.ensures.kept;
  few_guards = c.args.self.now.few_guards;
  few_authorisers = c.args.self.now.few_authorisers;
}

pub returns-clause-sincere : goal.returns-clause-sincere
returns-clause-sincere g c = record {
  handlers =
      all_after (λ n. (goal.Handler-dyn g (n.object.vtable, n.object.value)).does n.object.value ≡ n.act) c.keep.result
      c.args.self.now.handlers c.keep.new.natives _ c.keep.ensures.added c.keep.ensures.kept c.requires.sincere.handlers (in_any_case c.keep.result c.requires.object);
  guards = c.requires.sincere.guards;
  authorisers = c.requires.sincere.authorisers;
}

pub returns-clause-added : goal.returns-clause-added
returns-clause-added g c = known_after known_handler c.keep.result c.args.self.now.handlers c.keep.new.natives _ c.keep.ensures.added
