use Rattle.std.proofs.Common.{◌≡◌, Some, sym, ap, subst, ◌∙◌}
use Rattle.spin_script.specs.States.{NativeData, natives_seen}
use Rattle.spin_c.specs.Turns.{DoesHeld, OpensTo, Turns}
use Rattle.spin_c.specs.Verdicts.{no_natives}
use Rattle.spin_c.specs.Waiting.{IsWell}
use Rattle.spin_c.proofs.Turning.{closed_else, stays_open}
use Rattle.spin_c.proofs.turn.turn_maybe.Goals as goal
use Rattle.spin_c.proofs.turn.turn_maybe.Goals.{in-Open, in_default-ask}

pub turn_held-outcome-requires : goal.turn_held-outcome-requires
turn_held-outcome-requires g c =
    let held = c.deref_mut.ensures.value ∙ c.into_box-held.ensures in
    record { sincere = rw held (rw c.in-Some.ensures at c.requires.sincere); well = rw held (rw c.in-Some.ensures at c.requires.well) }

pub returns : goal.returns
returns g c =
    let kept = c.of-2.ensures ∙ ap Some c.of.ensures in
    let held = c.deref_mut.ensures.value ∙ c.into_box-held.ensures in
    let after = c.turn_held-outcome.new.held in let told = c.turn_held-outcome.result in
    let does = subst (λ h. DoesHeld h c.args.call.ask after told) held c.turn_held-outcome.ensures.does in
    let open' = stays_open c.in-Some.loose.value after c.args.call.ask told c.in_default-ask-2.not-Close c.in_default-ask-3.not-Return does in
    record {
      well = subst (λ h. IsWell h) (sym kept) c.turn_held-outcome.ensures.well;
      does = subst (λ h. Turns no_natives c.args.maybe.value c.args.call.ask h told) (sym kept)
          (subst (λ h. Turns no_natives h c.args.call.ask (Some after) told) (sym c.in-Some.ensures) open');
    }

pub returns-in_default-clause-does : goal.returns-in_default-clause-does
returns-in_default-clause-does g c = elim c.match-ask.branch [
  | in-Open w ↦
      let none : natives_seen w.new.result ≡ no_natives = λ i. record {
        handlers = w.new.ensures.handlers i;
        guards = w.new.ensures.guards i;
        authorisers = w.new.ensures.authorisers i;
      } in
      let P : NativeData → Type 0 = λ n. OpensTo n w.as_slice.result.now w.in-Open.lanes w.open_maybe.result.0.value w.open_maybe.result.1 in
      let opens : P no_natives = subst P none w.open_maybe.ensures.opens in
      rw (c.in_default.ensures, w.in-Open.is, w.result-is) (rw w.as_slice.ensures at opens)
  | in_default-ask w ↦ rw (c.in_default.ensures, w.result-is, w.none.ensures) (closed_else _ _ _ _ _ _ c.args.call.ask w.in_default-ask.not-Open)
]
