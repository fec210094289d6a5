use Rattle.spin_c.proofs.Sharing.{shares_then}
use Rattle.spin_c.proofs.handing.hand_out.Goals as goal

pub returns-in-Lane-clause-shares : goal.returns-in-Lane-clause-shares
returns-in-Lane-clause-shares g c =
    rw c.in-Lane.is (shares_then (λ b. b.value) c.in-Lane.lane c.fetch.new.lane c.share.new.lane c.args.number c.share.result c.fetch.ensures.taken c.share.ensures.shares)
