-- Sends that are gathered one after another.
use Rattle.std.proofs.Common.{◌≡◌, ◌<◌, ◌+◌, ℕ, List, [], ◌∷◌, ◌++◌, length, take, get_or, sym, ap, ◌∙◌, append_assoc}
use Rattle.std.specs.List.{filter_map}
use Rattle.std.proofs.lemmas.List.{take_more}
use Rattle.std.proofs.lemmas.List.Elements.{filter_map-append}
use Rattle.spin_proto.specs.declared.reply.Step.{Step}
use Rattle.spin_endpoint.specs.Sends.{SentSeen}
use Rattle.spin_report.specs.Runs.{sent_by}

pub sends_more : (old now now' : List SentSeen) (steps : List Step) (k : ℕ) (step : Step) → k < length steps → get_or steps k step ≡ step
    → now ≡ old ++ filter_map sent_by (take k steps) → now' ≡ now ++ filter_map sent_by (step ∷ []) → now' ≡ old ++ filter_map sent_by (take (k + 1) steps)
sends_more old now now' steps k step lt is before one =
    one ∙ ap (λ x. x ++ filter_map sent_by (step ∷ [])) before
    ∙ append_assoc old (filter_map sent_by (take k steps)) (filter_map sent_by (step ∷ []))
    ∙ ap (λ y. old ++ y)
    (sym (ap (filter_map sent_by) (take_more steps k step lt ∙ ap (λ y. take k steps ++ y ∷ []) is) ∙ filter_map-append sent_by (take k steps) (step ∷ [])))
