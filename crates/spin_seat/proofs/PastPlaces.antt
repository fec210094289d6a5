-- Places past the one of a first state.
use Rattle.std.proofs.Common.{◌≡◌, ℕ, zero, suc, ◌+◌, ◌-◌, refl, arith}
use Rattle.spin_seat.specs.Places.{place_past, rows_past}

pub place_past_is : (first rows : ℕ) → place_past first rows ≡ first + rows
place_past_is zero rows = omega arith
place_past_is (suc first) rows = refl

pub rows_past_is : (first place : ℕ) → rows_past first place ≡ place - first
rows_past_is zero place = omega arith
rows_past_is (suc first) place = refl

-- that many rows past it lie as many
pub rows_past_place : (first rows : ℕ) → rows_past first (place_past first rows) ≡ rows
rows_past_place first rows = omega (arith, rows_past_is first (place_past first rows), place_past_is first rows)
