-- The counts of a filter, as lines.
use Rattle.std.specs.Prelude.{ℕ, suc, List, [], ◌∷◌, ◌++◌, map, codes, decimal, slice_index_or}
use Rattle.spin_text.specs.Words.{line_of, text_of}
use Rattle.spin_filter.specs.declared.counts.Counts.{Counts}
use Rattle.spin_filter.specs.declared.filter.Filtered.{Filtered}
use Rattle.spin_filter.specs.declared.hits.Hit.{Hit}

-- a word and a count
abbrev pub count_line : List ℕ → ℕ → List ℕ
count_line word count = line_of (word ∷ decimal count ∷ [])

-- so often a number came up
abbrev pub at : List ℕ → ℕ → ℕ
at tally number = slice_index_or tally number 0

-- the lines of records, commands, outcomes of raises, and packets that were dropped, by the fault
abbrev pub count_lines : Filtered → Counts → List (List ℕ)
count_lines f c =
    count_line (codes "records") c.records
    ∷ count_line (codes "cut") f.cut
    ∷ count_line (codes "accepted") f.accepted
    ∷ count_line (codes "refused") f.refused
    ∷ count_line (codes "jobs") c.jobs
    ∷ count_line (codes "runs") c.runs
    ∷ count_line (codes "value") (at c.outcomes 0)
    ∷ count_line (codes "done") (at c.outcomes 1)
    ∷ count_line (codes "default") (at c.outcomes 2)
    ∷ count_line (codes "nohandler") (at c.outcomes 3)
    ∷ count_line (codes "unknown_event") (at c.outcomes 4)
    ∷ count_line (codes "wrong_args") (at c.outcomes 5)
    ∷ count_line (codes "spent") (at c.outcomes 6)
    ∷ count_line (codes "drop short") (at c.drops 1)
    ∷ count_line (codes "drop version") (at c.drops 2)
    ∷ count_line (codes "drop header_length") (at c.drops 3)
    ∷ count_line (codes "drop total_length") (at c.drops 4)
    ∷ count_line (codes "drop checksum") (at c.drops 5)
    ∷ count_line (codes "drop fragment") (at c.drops 6)
    ∷ count_line (codes "drop udp_length") (at c.drops 7)
    ∷ []

-- sends to the endpoint of that number and name, and how many of them are lost
abbrev pub send_line : ℕ → List ℕ → Counts → List ℕ
send_line number name c = line_of
    (codes "send" ∷ decimal number ∷ name ∷ decimal (at c.sends number) ∷ codes "lost" ∷ decimal (at c.lost number) ∷ [])

-- those to endpoints of these names, of which the first has that number
abbrev pub send_lines_from : ℕ → List (List ℕ) → Counts → List (List ℕ)
send_lines_from number [] c = []
send_lines_from number (name ∷ names) c = send_line number name c ∷ send_lines_from (suc number) names c

-- how often a binding ran, and how often its guards let it run
abbrev pub hit_line : Hit → List ℕ
hit_line hit = line_of
    (codes "hit" ∷ decimal hit.event ∷ decimal hit.number ∷ decimal hit.runs ∷ codes "let" ∷ decimal hit.lets ∷ [])

-- all lines
abbrev pub counts_text : List (List ℕ) → Filtered → Counts → List ℕ
counts_text names f c =
    text_of (count_lines f c) ++ text_of (send_lines_from 0 names c) ++ text_of (map hit_line c.hits.items)
