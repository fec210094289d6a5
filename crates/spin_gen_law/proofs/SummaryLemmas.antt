-- Two runs of what is made from a number write one summary.
use Rattle.std.proofs.Common.{◌≡◌, ◌∙◌, ℕ, List, Option, Some, Ok, sym, ap, subst}
use Rattle.spin_pcap.specs.declared.next.Next.TheVariants as next
use Rattle.spin_pcap.specs.declared.order.Order.TheVariants as order
use Rattle.spin_pcap.proofs.CaptureUniqueness.{one_reading}
use Rattle.spin_gen.specs.Texts.{packets_of}
use Rattle.spin_report.specs.Runs.{CaptureSeen, IsRun}
use Rattle.spin_text.specs.Words.{text_of}
use Rattle.spin_run.specs.Ends.{Writes}
use Rattle.spin_run.specs.Summaries.{Counts, summary_lines, summary_text}
use Rattle.spin_gen_law.specs.Laws.{SummariesAreOne}
use Rattle.spin_gen_law.proofs.HistoryCounts.{counts_same}

pub summaries_same : SummariesAreOne
summaries_same n number before after before' after' one two =
    let first = one.whole.1 in
    let second = two.whole.1 in
    let frames : one.frames ≡ two.frames = (one_reading (packets_of number) order.Little order.Little one.frames two.frames (Ok next.End) (Ok next.End) one.capture two.capture).1 in
    let captured : first.captured ≡ second.captured = first.capture_is ∙ ap (λ (fs : List (List ℕ)). Some (record { frames = fs; cut = 0 })) frames ∙ sym second.capture_is in
    let moved : IsRun two.script first.captured before'.ends two.whole.0 second.last =
    subst (λ (c : Option CaptureSeen). IsRun two.script c before'.ends two.whole.0 second.last) (sym captured) second.run in
    let counts = counts_same n number one.script two.script first.captured before.ends before'.ends one.whole.0 two.whole.0 first.last second.last one.read two.read first.run moved in
    let text : summary_text number one.whole.0 ≡ summary_text number two.whole.0 = ap (λ (c : Counts). text_of (summary_lines number c)) counts in
    (summary_text number one.whole.0, one.whole.2, subst (Writes before' after') (sym text) two.whole.2)
