use Rattle.std.proofs.Common.{◌≡◌, ◌∙◌, ◌<◌, ◌+◌, ℕ, List, [], ◌∷◌, ◌++◌, length, take, get_or, sym, ap, arith}
use Rattle.std.proofs.lemmas.List.{take_more, length-append}
use Rattle.std.proofs.lemmas.List.Sums.{sum_by-append}
use Rattle.spin_run.specs.declared.trail.EntryIndex.{EntryIndex}
use Rattle.spin_run.specs.Summaries.{Counts}
use Rattle.spin_run.specs.Inner.Marks.{counts_by}
use Rattle.spin_run.specs.Inner.Tallies.{plus}
use Rattle.spin_run.proofs.PartCounts.{same_counts, plus_none, plus_assoc}
use Rattle.spin_run.proofs.tally.Tally.add_marks.Goals as goal

counts_joined : (xs ys : List EntryIndex) → counts_by (xs ++ ys) ≡ plus (counts_by xs) (counts_by ys)
counts_joined xs ys =
    same_counts (counts_by (xs ++ ys)) (plus (counts_by xs) (counts_by ys))
    (length-append xs ys)
    (sum_by-append _ xs ys)
    (sum_by-append _ xs ys)
    (sum_by-append _ xs ys)
    (sum_by-append _ xs ys)

-- the entry of one mark more is counted
counted_more : (old now new : Counts) (marks : List EntryIndex) (at : ℕ) (d : EntryIndex) → at < length marks
    → now ≡ plus old (counts_by (take at marks)) → new ≡ plus now (counts_by (get_or marks at d ∷ [])) → new ≡ plus old (counts_by (take (at + 1) marks))
counted_more old now new marks at d there before one =
    one
    ∙ ap (λ (c : Counts). plus c (counts_by (get_or marks at d ∷ []))) before
    ∙ plus_assoc old (counts_by (take at marks)) (counts_by (get_or marks at d ∷ []))
    ∙ ap (plus old) (sym (counts_joined (take at marks) (get_or marks at d ∷ [])))
    ∙ ap (λ (ms : List EntryIndex). plus old (counts_by ms)) (sym (take_more marks at d there))

pub loop-mark-init : goal.loop-mark-init
loop-mark-init c = plus_none c.args.self.now

pub loop-mark-preserved : goal.loop-mark-preserved
loop-mark-preserved c =
    counted_more c.args.self.now c.loop-mark.self c.add_mark.new.self c.args.marks.now c.loop-mark.mark-index _
    (omega arith) c.loop-mark.invariant c.in_ok-add_mark.ensures
