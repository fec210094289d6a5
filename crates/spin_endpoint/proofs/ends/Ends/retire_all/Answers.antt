use Rattle.std.proofs.Common.{◌≡◌, ◌<◌, ℕ, [], refl, length, map, get_or, sym, ◌∙◌, arith, rules}
use Rattle.std.proofs.lemmas.List.{get_or_default, length-set}
use Rattle.spin_endpoint.specs.Inner.View.{view_of}
use Rattle.spin_endpoint.specs.Sends.{name_of, stands_in_turn}
use Rattle.spin_endpoint.proofs.RetiredEndpoints.{all_retired_none, step_retired, stood_in_turn, noted_more}
use Rattle.spin_endpoint.proofs.ends.Ends.retire_all.Goals as goal

pub loop-at-init : goal.loop-at-init
loop-at-init g c = record {
  retired = sym (all_retired_none c.args.names.now _);
  stood = λ turn below. absurd (omega arith);
  len = c.requires.room;
}

pub loop-at-preserved : goal.loop-at-preserved
loop-at-preserved g c =
    let seen = view_of (λ e. (goal.Endpoint-dyn g (e.object.vtable, e.object.value)).seen e.object.value) in
    let names = c.args.names.now in
    let numbers = c.args.numbers.now in
    let before = map seen c.args.self.now.ends.items in
    let at = c.loop-at.at in
    let lt : c.loop-at.at < length c.args.numbers.now = search rules in
    let number : ℕ = get_or c.args.numbers.now c.loop-at.at 0 in
    let there : get_or c.args.numbers.now c.loop-at.at 0 < length c.args.names.now = c.requires.named at 0 lt in
    let named : c.index-names-numbers.result ≡ name_of c.args.names.now (get_or c.args.numbers.now c.loop-at.at 0) =
    c.index-names-numbers.is ∙ get_or_default names (get_or c.args.numbers.now c.loop-at.at 0) c.index-names-numbers.result [] there in
    let inside : c.loop-at.at < length c.loop-at.stood = omega (arith, lt, c.loop-at.invariant.len) in
    record {
      retired = step_retired names numbers at number before _ _ c.index-names-numbers.result lt refl named c.loop-at.invariant.retired c.retire_if.ensures.ends;
      stood = λ turn below. noted_more c.loop-at.stood at turn c.retire_if.result (stands_in_turn names numbers before) inside
          (c.retire_if.ensures.stood ∙ stood_in_turn names numbers at before _ c.index-names-numbers.result named c.loop-at.invariant.retired) c.loop-at.invariant.stood below;
      len = length-set c.loop-at.stood at c.retire_if.result ∙ c.loop-at.invariant.len;
    }
