-- The numbers that are drawn: a linear congruential generator modulo 2^64, by Knuth's multiplier for
-- MMIX (The Art of Computer Programming, volume 2, 3.3.4), of whose states the high 31 bits count.
use Rattle.std.specs.Prelude.{ℕ, zero, suc, ◌+◌, ◌*◌, ◌/◌, ◌%◌, ◌^◌}

-- the state behind that one
unfoldable pub next_state : ℕ → ℕ
next_state x = (6364136223846793005 * x + 1442695040888963407) % 2 ^ 64

-- the number below `range` that a state answers
unfoldable pub answer : (range x : ℕ) → ℕ
answer range x = x / 2 ^ 33 % range

-- the state so many draws behind x
unfoldable pub state_after : (draws x : ℕ) → ℕ
state_after zero x = x
state_after (suc n) x = state_after n (next_state x)

-- What draw `n` behind the state x answers, counted from 0, where a number below `range` is wanted. A
-- draw makes the next state, which answers.
abbrev pub drawn : (range n x : ℕ) → ℕ
drawn range n x = answer range (state_after (n + 1) x)
