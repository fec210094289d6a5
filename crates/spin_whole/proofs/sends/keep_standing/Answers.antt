use Rattle.std.proofs.Common.{◌∙◌, ap, rules}
use Rattle.std.specs.Prelude.{filter}
use Rattle.std.proofs.lemmas.Fn.{filter_same}
use Rattle.spin_endpoint.specs.Sends.{SentSeen}
use Rattle.spin_whole.specs.Inner.Flags.{is_set}
use Rattle.spin_whole.proofs.sends.keep_standing.Goals as goal

pub returns : goal.returns
returns c =
    c.from_vec.ensures ∙ filter_same _ _ _ (λ x b f' k. search rules) _ _ c.retain.ensures.filtered
    ∙ ap (filter (λ (s : SentSeen). is_set c.args.flags.now s.endpoint)) c.into_vec-items.ensures
