-- The lines of the script, in which numbers are still to be drawn.
use Rattle.std.specs.Prelude.{ℕ, zero, suc, ◌+◌, ◌%◌, ◌==◌, if◌then◌else◌, List, [], ◌∷◌, ◌++◌, map}
use Rattle.std.specs.List.{flat_map, range_with_len}
use Rattle.spin_values.specs.declared.values.Value.TheVariants.{Word}
use Rattle.spin_word.specs.declared.command.Place.{Place}
use Rattle.spin_word.specs.declared.command.Place.TheVariants as place
use Rattle.spin_word.specs.declared.command.Mode.TheVariants as mode
use Rattle.spin_grammar.specs.Forms as task
use Rattle.spin_grammar.specs.Forms.{At}
use Rattle.spin_grammar.specs.Lines.{LineMeaning, Lane, Barrier}
use Rattle.spin_gen.specs.Numbers.{state_after, drawn}
use Rattle.spin_gen.specs.Declarations.{declarations}

-- a line that stands as it is, or a line of a lane on the event of the lane's number
pub data Draft : Type 0 where
  Stated : LineMeaning → Draft
  -- an install, whose place, handler and guard are drawn
  Install : ℕ → Draft
  -- a raise, whose value is drawn
  Raise : ℕ → Draft

-- how many numbers are drawn for the line
abbrev pub draws_of : Draft → ℕ
draws_of (Stated l) = 0
draws_of (Install lane) = 3
draws_of (Raise lane) = 1

-- the place that a number says: 0 is free, 1 first, and every other last
unfoldable pub drawn_place : ℕ → Place
drawn_place n = if n == 0 then place.Free else if n == 1 then place.First else place.Last

-- a plain install by module 0 on that event
abbrev pub install_line : (lane event handler guard : ℕ) → Place → LineMeaning
install_line lane event handler guard where_to =
    Lane lane (task.Install event 0 handler guard (At where_to) mode.Plain)

-- a raise of the event of the lane's number
abbrev pub raise_line : (lane value : ℕ) → LineMeaning
raise_line lane value = Lane lane (task.Raise lane (Word value ∷ []))

-- the line, where x is the state before its first draw
abbrev pub line_of : ℕ → Draft → LineMeaning
line_of x (Stated l) = l
line_of x (Install lane) =
    install_line lane lane (1 + drawn 4 1 x) (drawn 5 2 x) (drawn_place (drawn 3 0 x))
line_of x (Raise lane) = raise_line lane (drawn 65536 0 x)

-- The lines, where x is the state before the first draw. The draws of a line come behind those of the lines before it.
unfoldable pub lines_of : ℕ → List Draft → List LineMeaning
lines_of x [] = []
lines_of x (d ∷ ds) = line_of x d ∷ lines_of (state_after (draws_of d) x) ds

-- the state behind the draws of these lines
unfoldable pub state_behind : ℕ → List Draft → ℕ
state_behind x [] = x
state_behind x (d ∷ ds) = state_behind (state_after (draws_of d) x) ds

-- ---- the segments

-- the first segment: frames, packets and datagrams are handled
abbrev pub first_segment : List LineMeaning
first_segment =
    install_line 0 8 5 5 place.Free
    ∷ install_line 0 9 6 6 place.Free
    ∷ install_line 0 10 7 7 place.Free
    ∷ []

-- of a lane's lines, counted from 0, each twentieth is an install
abbrev pub lane_draft : (lane j : ℕ) → Draft
lane_draft lane j = if j % 20 == 0 then Install lane else Raise lane

-- the first lines of a lane in a segment
unfoldable pub lane_drafts : (count lane : ℕ) → List Draft
lane_drafts count lane = map (lane_draft lane) (range_with_len 0 count)

-- the lines of the first lanes in a segment, 500 of each
unfoldable pub segment_drafts : ℕ → List Draft
segment_drafts lanes = flat_map (lane_drafts 500) (range_with_len 0 lanes)

-- so many segments of eight lanes, each behind a barrier
unfoldable pub segments_drafts : ℕ → List Draft
segments_drafts zero = []
segments_drafts (suc n) = segments_drafts n ++ Stated Barrier ∷ segment_drafts 8

-- a lane takes 125 records of the capture
abbrev pub packet_line : ℕ → LineMeaning
packet_line lane = Lane lane (task.Packet 8 125)

-- the first lanes take records
unfoldable pub packet_lines : ℕ → List LineMeaning
packet_lines lanes = map packet_line (range_with_len 0 lanes)

-- ---- the whole

-- the lines before the first barrier: the declarations and the first segment
unfoldable pub head_lines : List LineMeaning
head_lines = declarations ++ first_segment

-- the whole script: the lines before the first barrier, four segments of eight lanes, and the one that takes records
unfoldable pub drafts : List Draft
drafts =
    map Stated head_lines ++ (segments_drafts 4 ++ map Stated (Barrier ∷ packet_lines 8))
