-- The entries that lanes keep.
use Rattle.std.specs.Prelude.{◌≡◌, ◌<◌, ℕ, List, [], length, All, Option, None, Some}
use Rattle.std.specs.Option.{option_map}
use Rattle.spin_report.specs.declared.entry.Entry.{Entry}
use Rattle.spin_report.specs.Segments.{of_lane, IsInOrder}
use Rattle.spin_run.specs.declared.lane.Lane.{Lane}
use Rattle.spin_run.specs.Segments.{kept_at}

-- the entries that are kept; none where the lane keeps none
abbrev pub kept_of : Option (List Entry) → List Entry
kept_of None = []
kept_of (Some entries) = entries

-- the lane, which keeps entries from now on
abbrev pub keeping : Lane → Lane
keeping lane = record lane { entries = Some [] }

-- the lane, which keeps no entry now, if it keeps entries
abbrev pub with_none_kept : Lane → Lane
with_none_kept lane = record lane { entries = option_map (λ _. []) lane.entries }

-- The lanes keep just these entries, which stand in the order of the history, each lane its own.
pub record AreKept (lanes : List Lane) (entries : List Entry) : Type 0 where
  pub order : IsInOrder entries
  pub lanes_are : All (λ entry. entry.lane < length lanes) entries
  pub kept : (k : ℕ) → k < length lanes → kept_at lanes k ≡ Some (of_lane k entries)
