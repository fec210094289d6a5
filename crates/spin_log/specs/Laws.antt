-- Laws of logs.
use Rattle.std.specs.Prelude.{◌≡◌, ℕ, ◌<◌, List, All, Any}
use Rattle.spin_word.specs.declared.row.Row.{Row}
use Rattle.spin_log.specs.Rows.{IsCommandBelow}
use Rattle.spin_log.specs.Pens.{PenValue, StandsIn}

-- Each lane below this number has a pen among these, and all of them have this front.
pub record AllAreAt (lanes : ℕ) (front : List Row) (pens : List PenValue) : Type 0 where
  pub each_lane : (lane : ℕ) → lane < lanes → Any (λ pen. pen.lane ≡ lane) pens
  pub same_front : All (λ pen. pen.front ≡ front) pens

-- A log in which a pen of each lane stands, all of them with one front, is that front.
abbrev pub FrontIsLog : Type 0
FrontIsLog =
    (lanes : ℕ) (log front : List Row) (pens : List PenValue) →
    0 < lanes → All (IsCommandBelow lanes) log →
    All (StandsIn log) pens → AllAreAt lanes front pens → log ≡ front
