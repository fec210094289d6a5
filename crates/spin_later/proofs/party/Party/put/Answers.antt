use Rattle.std.proofs.Common.{◌∙◌, ℕ, ap, sym, subst, length}
use Rattle.crossbeam_queue.specs.Passes.{view}
use Rattle.spin_later.specs.Parties.{PartyValue, QueueValue}
use Rattle.spin_later.proofs.PassSteps.{puts_alone, learns_alone, party_of, full_at}
use Rattle.spin_later.proofs.party.Party.put.Goals as goal

pub push_as-requires-clause-rule : goal.push_as-requires-clause-rule
push_as-requires-clause-rule g c =
    let allows = g.A.Agreement.allows in
    let v = view c.self.inside.pass in
    let is = c.self.invariant in
    let number = sym is.number_is ∙ ap (λ (p : PartyValue). p.number) c.self.view_is in
    let sent = sym is.sent_is ∙ ap (λ (p : PartyValue). length p.sent) c.self.view_is in
    let agreed = subst (λ (p : ℕ × ℕ). allows (record { sender = p.0; number = p.1; version = c.args.version; call = c.args.call })) (λ i. (sym number i, sym sent i)) c.requires.agreed in
    (puts_alone allows _ _ v _ is.alone (sym is.number_is) (sym is.sent_is) agreed, learns_alone allows _ v is.alone)

pub returns-in-Err : goal.returns-in-Err
returns-in-Err g c =
    let pass = c.self.inside.pass in
    let r = c.in-Err.ensures.rule in
    let id = pass.table_id in
    let is = c.self.invariant in
    let number = sym is.number_is ∙ ap (λ (p : PartyValue). p.number) c.self.view_is in
    let sent = sym is.sent_is ∙ ap (λ (p : PartyValue). length p.sent) c.self.view_is in
    let room = ap (λ (q : QueueValue). q.capacity) c.queue.view_is in (
      r.0 ∙ (λ i. record { sender = number i; number = sent i; version = c.args.version; call = c.args.call }),
      (λ i. party_of (c.in-Err.ensures.queue.0 i) (r.1 i)) ∙ c.self.view_is,
      full_at id (view pass) c.args.self.now _ c.args.queue.now.capacity c.self.view_is room is.alone r.2,
    )
