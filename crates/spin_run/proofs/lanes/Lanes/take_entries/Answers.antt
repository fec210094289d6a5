use Rattle.std.proofs.Common.{rules, sym, subst, ◌∙◌, []}
use Rattle.std.specs.Option.{option_map}
use Rattle.std.proofs.lemmas.List.Sorted.{answers_always}
use Rattle.spin_report.specs.Segments.{moment}
use Rattle.spin_run.specs.Segments.{AreReady}
use Rattle.spin_run.proofs.KeptEntries.{taken_are, ready_with}
use Rattle.spin_run.proofs.lanes.Lanes.take_entries.Goals as goal

pub returns-clause-entries : goal.returns-clause-entries
returns-clause-entries c = λ entries kept.
    c.from_vec.ensures
    ∙ taken_are c.args.self.now entries kept c.into_vec-entries.result.items c.sort_by_key.new.self.items (c.into_vec-entries.ensures ∙ c.in_ok-entries.ensures.entries)
    c.in_ok-sort_by_key.ensures.permutation
    (c.in_ok-sort_by_key.ensures.sorted moment (answers_always _ _ _ (λ f a r g h. search rules)))
    (c.in_ok-sort_by_key.ensures.stable moment (answers_always _ _ _ (λ f a r g h. search rules)))

pub returns-clause-ready : goal.returns-clause-ready
returns-clause-ready c = λ d log count ready.
    subst (AreReady d log count) (sym c.in_ok-entries.ensures.lanes) (ready_with (option_map (λ _. [])) d log count c.args.self.now ready)
