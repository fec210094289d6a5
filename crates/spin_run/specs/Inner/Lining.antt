-- Parts of a segment's text, as its lines are made of them.
use Rattle.std.specs.Prelude.{ℕ, Bool, not, ◌==◌, List, [], ◌∷◌, map, filter, zip, slice_index_or}
use Rattle.std.specs.List.{range_with_len}
use Rattle.spin_report.specs.Histories.{Retirement}

-- endpoints that are retired, each with whether one stood
abbrev pub retired_as : List ℕ → List Bool → List Retirement
retired_as numbers stood =
    map (λ one. record { endpoint = one.0; stood = one.1 }) (zip numbers stood)

-- an endpoint to which so many sends were lost, if some were
abbrev pub if_lost : ℕ → ℕ → List (ℕ × ℕ)
if_lost number count = filter (λ lost. not (lost.1 == 0)) ((number, count) ∷ [])

-- the counts of so many numbers, from 0 on
abbrev pub counts_to : List ℕ → ℕ → List ℕ
counts_to counts numbers =
    map (λ number. slice_index_or counts number 0) (range_with_len 0 numbers)
