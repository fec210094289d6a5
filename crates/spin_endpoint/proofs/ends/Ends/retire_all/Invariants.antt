use Rattle.std.proofs.Common.{◌≡◌, ◌<◌, ℕ, false, length, map, take, get_or}
use Rattle.spin_endpoint.specs.Inner.View.{view_of}
use Rattle.spin_endpoint.specs.Sends.{all_retired, stands_in_turn}
use Rattle.spin_endpoint.proofs.ends.Ends.retire_all.Given as goal

-- the numbers so far are retired, and what stood is noted
abbrev pub invariant-loop-at : goal.invariant-loop-at
invariant-loop-at g l =
    let seen = λ (all : _). map (view_of (λ e. (goal.Endpoint-dyn g (e.object.vtable, e.object.value)).seen e.object.value)) all in
    record {
      retired : seen l.self.ends.items ≡ all_retired l.names (take l.at l.numbers) (seen l.fn.self.ends.items);
      stood : (turn : ℕ) → turn < l.at → get_or l.stood turn false ≡ stands_in_turn l.names l.numbers (seen l.fn.self.ends.items) turn;
      len : length l.stood ≡ length l.numbers;
    }
