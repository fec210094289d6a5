use Rattle.std.proofs.Common.{◌≡◌, ◌<◌, ℕ, length, map, take, get_or}
use Rattle.spin_endpoint.specs.Inner.View.{view_of}
use Rattle.spin_endpoint.specs.Sends.{all_received, lost_to}
use Rattle.spin_endpoint.proofs.ends.Ends.deliver_all.Given as goal

-- the sends so far were delivered or lost, and the lost ones are counted
abbrev pub invariant-loop-sent : goal.invariant-loop-sent
invariant-loop-sent g l =
    let seen = λ (all : _). map (view_of (λ e. (goal.Endpoint-dyn g (e.object.vtable, e.object.value)).seen e.object.value)) all in
    record {
      received : seen l.self.ends.items ≡ all_received l.names (take l.sent-index l.sends) (seen l.fn.self.ends.items);
      lost : (number : ℕ) → number < 64 → get_or l.lost number 0 ≡ lost_to l.names (seen l.fn.self.ends.items) (take l.sent-index l.sends) number;
      len : length l.lost ≡ 64;
    }
