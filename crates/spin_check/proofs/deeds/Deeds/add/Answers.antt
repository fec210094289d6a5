use Rattle.std.proofs.Common.{sym, ◌≡◌, ◌∙◌, ap, length, arith}
use Rattle.std.proofs.lemmas.List.{length-map}
use Rattle.spin_check.proofs.Queues.{seen_added}
use Rattle.spin_check.proofs.deeds.Deeds.add.Goals as goal

pub returns : goal.returns
returns c =
    let qs = c.self.inside.lanes.items in
    let long : length c.args.self.now ≡ length qs = ap length (sym c.self.view_is) ∙ length-map qs (λ q. q.items) in
    seen_added (λ q. q.items) qs c.args.self.now c.self.view_is c.args.ask c.index_mut.result.now c.push_back.new.self (omega (arith, c.requires, long)) c.index_mut.ensures.value
    c.in_ok-push_back.ensures.items
