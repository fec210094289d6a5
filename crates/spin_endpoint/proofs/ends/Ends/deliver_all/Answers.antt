use Rattle.std.proofs.Common.{◌≡◌, ◌<◌, ◌≤◌, ◌+◌, ℕ, [], true, false, length, get_or, map, set, ap, sym, ◌∙◌, arith, rules}
use Rattle.std.proofs.lemmas.List.{get_or_default, length-replicate, length-set}
use Rattle.spin_endpoint.specs.Sends.{name_of}
use Rattle.spin_endpoint.specs.Inner.View.{view_of}
use Rattle.spin_endpoint.proofs.ReceivedSends.{all_received_none, none_lost, lost_within, none_lost_more, one_lost_more, step_delivered, step_lost, stood, stops}
use Rattle.spin_endpoint.proofs.ends.Ends.deliver_all.Goals.{in-Ok, in-Err-Unknown}
use Rattle.spin_endpoint.proofs.ends.Ends.deliver_all.Goals as goal

pub loop-sent-init : goal.loop-sent-init
loop-sent-init g c = record {
  received = sym (all_received_none c.args.names.now _);
  lost = λ number below. ap (λ l. get_or l number 0) c.none-lost.ensures ∙ none_lost c.args.names.now [] number below;
  len = ap length c.none-lost.ensures ∙ length-replicate {A = ℕ} 64 0;
}

pub add-requires-clause-room : goal.add-requires-clause-room
add-requires-clause-room g c =
    let below : c.endpoint-number.result < 64 = search rules in
    let seen = view_of (λ e. (goal.Endpoint-dyn g (e.object.vtable, e.object.value)).seen e.object.value) in
    let within : get_or c.loop-sent.lost c.endpoint-number.result 0 ≤ c.loop-sent.sent-index =
    lost_within c.args.names.now (map seen c.args.self.now.ends.items) c.args.sends.now c.loop-sent.sent-index c.endpoint-number.result _ (c.loop-sent.invariant.lost c.endpoint-number.result below) in
    search rules

pub loop-sent-preserved : goal.loop-sent-preserved
loop-sent-preserved g c =
    let seen = view_of (λ e. (goal.Endpoint-dyn g (e.object.vtable, e.object.value)).seen e.object.value) in
    let names = c.args.names.now in
    let sends = c.args.sends.now in
    let before = map seen c.args.self.now.ends.items in
    let at = c.loop-sent.sent-index in
    let sent = c.sent-item.result in
    let lt : c.loop-sent.sent-index < length c.args.sends.now = search rules in
    let there : c.endpoint-number.result < length c.args.names.now = search rules in
    let below : c.endpoint-number.result < 64 = search rules in
    let named : c.index-names-number.result ≡ name_of c.args.names.now c.sent-item.result.endpoint =
    c.index-names-number.is ∙ get_or_default c.args.names.now c.endpoint-number.result c.index-names-number.result [] there ∙ ap (λ n. name_of c.args.names.now n) c.endpoint-number.ensures in
    let number : c.endpoint-number.result ≡ (get_or c.args.sends.now c.loop-sent.sent-index c.sent-item.result).endpoint = c.endpoint-number.ensures ∙ ap (λ s. s.endpoint) c.sent-item.is in
    elim c.match-deliver.branch [
      | in-Ok w ↦ record {
        received = step_delivered names sends at sent before _ _ _ _ lt c.sent-item.is named c.bytes.ensures c.loop-sent.invariant.received w.in-Ok.ensures.1;
        lost = λ k small. ap (λ l. get_or l k 0) w.lost-is ∙ c.loop-sent.invariant.lost k small
            ∙ sym (none_lost_more names before sends at sent k lt (stood names sends at sent before _ _ true c.sent-item.is named c.loop-sent.invariant.received w.in-Ok.ensures.0));
        len = ap length w.lost-is ∙ c.loop-sent.invariant.len;
      }
      | in-Err-Unknown w ↦ let refused = rw w.in-Err-Unknown.field-0-is at w.in-Err-Unknown.ensures in record {
        received = step_lost names sends at sent before _ _ _ _ lt c.sent-item.is named c.bytes.ensures c.loop-sent.invariant.received refused.0 refused.1;
        lost = λ k small. ap (λ l. get_or l k 0) (w.lost-is ∙ w.add.ensures ∙ ap (λ n. set c.loop-sent.lost n (get_or c.loop-sent.lost n 0 + 1)) number)
            ∙ one_lost_more names before sends at sent c.loop-sent.lost lt c.loop-sent.invariant.len (omega (arith, below, number))
            (stood names sends at sent before _ _ false c.sent-item.is named c.loop-sent.invariant.received refused.0) c.loop-sent.invariant.lost k small;
        len = ap length (w.lost-is ∙ w.add.ensures) ∙ length-set c.loop-sent.lost c.endpoint-number.result _ ∙ c.loop-sent.invariant.len;
      }
    ]

pub returns-in-Err-Failed : goal.returns-in-Err-Failed
returns-in-Err-Failed g c =
    let lt : c.loop-sent.sent-index < length c.args.sends.now = search rules in
    let there : c.endpoint-number.result < length c.args.names.now = search rules in
    let named : c.index-names-number.result ≡ name_of c.args.names.now c.sent-item.result.endpoint =
    c.index-names-number.is ∙ get_or_default c.args.names.now c.endpoint-number.result c.index-names-number.result [] there ∙ ap (λ n. name_of c.args.names.now n) c.endpoint-number.ensures in
    let failed = rw c.in-Err-Failed.field-0-is at c.in-Err-Failed.ensures in
    stops c.args.names.now c.args.sends.now c.loop-sent.sent-index c.sent-item.result _ _ _ _ c.endpoint-number.result
    lt c.sent-item.is c.endpoint-number.ensures named c.loop-sent.invariant.received failed.0 failed.1
