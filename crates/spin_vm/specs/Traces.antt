-- The language of traces: a text is a trace, or has a first bad line and its cause.
use Rattle.std.specs.Prelude.{◌≡◌, ℕ, ◌+◌, Bool, false, true, not, ◌||◌, ◌==◌, nat_lt}
use Rattle.std.specs.Prelude.{nat_le, if◌then◌else◌, List, [], ◌∷◌, ◌++◌, length, Option}
use Rattle.std.specs.Prelude.{Some, None, Result, Ok, Err, slice_index, slice_get, slice_set}
use Rattle.std.specs.List.{list_all, list_any}
use Rattle.std.specs.Str.Lines.{lines}
use Rattle.spin_values.specs.First.{first_of}
use Rattle.spin_text.specs.Words.{Word}
use Rattle.spin_grammar.specs.Words.{words}
use Rattle.spin_script.specs.Language.{is_allowed, most_bytes}
use Rattle.spin_vm.specs.declared.limits.TheConstants.{LAST_SPACE, MAX_REGIONS, PAGES}
use Rattle.spin_vm.specs.declared.cause.TraceCause.{TraceCause}
use Rattle.spin_vm.specs.declared.cause.TraceCause.TheVariants as cause
use Rattle.spin_vm.specs.declared.line.Region.{Region}
use Rattle.spin_vm.specs.declared.line.Request.{Request}
use Rattle.spin_vm.specs.declared.line.Request.TheVariants as request
use Rattle.spin_vm.specs.declared.line.Statement.{Statement}
use Rattle.spin_vm.specs.declared.line.Statement.TheVariants as said
use Rattle.spin_vm.specs.declared.line.TraceLine.{TraceLine}
use Rattle.spin_vm.specs.Forms.{says, is_first}
use Rattle.spin_vm.specs.Regions.{has_some, with_region}

-- ---- the spaces so far, by their regions

-- these regions, or none where there is no space
abbrev pub regions_if : Option (List Region) → List Region
regions_if None = []
regions_if (Some regions) = regions

-- the regions of the space of that number, none where there is no such space
abbrev pub regions_at : List (List Region) → ℕ → List Region
regions_at spaces space = regions_if (slice_get spaces space)

-- the regions of a space after a request to it
abbrev pub regions_with : List Region → Request → List Region
regions_with regions (request.Region r) = with_region r regions
regions_with regions other = regions

-- the spaces after a line
abbrev pub regions_after : List (List Region) → Statement → List (List Region)
regions_after spaces (said.Space space) = spaces ++ [] ∷ []
regions_after spaces (said.At space asked) =
    slice_set spaces space (regions_with (regions_at spaces space) asked)

-- ---- why a line that has a form is bad: `first_of` these

-- the region has no pages, ends past the last page, or has a page of one of these
abbrev pub is_bad_region : List Region → Region → Bool
is_bad_region regions r =
    r.pages == 0 || nat_lt PAGES (r.start + r.pages)
    || list_any (has_some r.start (r.start + r.pages)) regions

-- 7 and 8: of a region that is added to these; other requests have no such causes
abbrev pub region_checks : List Region → Request → List (Bool × TraceCause)
region_checks regions (request.Region r) =
    (is_bad_region regions r, cause.Region)
    ∷ (nat_le MAX_REGIONS (length regions), cause.Regions)
    ∷ []
region_checks regions other = []

-- the causes for which what a line says can't stand behind these spaces, in order, each with its condition
abbrev pub trace_checks : List (List Region) → Statement → List (Bool × TraceCause)
trace_checks spaces (said.Space space) =
    (not (space == length spaces) || nat_lt LAST_SPACE space, cause.Next) ∷ []
trace_checks spaces (said.At space asked) =
    (nat_le (length spaces) space, cause.Undeclared)
    ∷ region_checks (regions_at spaces space) asked

-- These lines can stand one behind the other, behind these spaces.
abbrev pub AreGood : List (List Region) → List TraceLine → Type 0
AreGood spaces [] = Unit {0}
AreGood spaces (line ∷ more) =
    (first_of (trace_checks spaces line.said) ≡ None) × AreGood (regions_after spaces line.said) more

-- ---- one line

-- the trace so far: whether its first line stands, its spaces, and its other lines
pub record TraceState : Type 0 where
  pub begun : Bool
  pub spaces : List (List Region)
  pub lines : List TraceLine

-- the trace before all lines
abbrev pub start : TraceState
start = record { begun = false; spaces = []; lines = [] }

-- the trace with that line more, which has that number in the text
abbrev pub with_line : TraceState → ℕ → Statement → TraceState
with_line s number what = record s {
  spaces = regions_after s.spaces what;
  lines = s.lines ++ record { number = number; said = what } ∷ [];
}

-- the trace with that line more, or the cause for which the line is bad, if there is one
abbrev pub line_if : TraceState → ℕ → Statement → Option TraceCause → Result TraceState TraceCause
line_if s number what None = Ok (with_line s number what)
line_if s number what (Some c) = Err c

-- the trace after a line that says this: 4 where it has no form, or else the first cause that applies
abbrev pub after_said : TraceState → ℕ → Option Statement → Result TraceState TraceCause
after_said s number None = Err cause.Form
after_said s number (Some what) = line_if s number what (first_of (trace_checks s.spaces what))

-- the trace after its first line, or 3 where that isn't `vm 1`
abbrev pub after_first : TraceState → Bool → Result TraceState TraceCause
after_first s true = Ok (record s { begun = true })
after_first s false = Err cause.Version

-- where a first word begins with a number sign, the line is skipped
abbrev pub after_words : TraceState → ℕ → List Word → Result TraceState TraceCause
after_words s number [] = Ok s
after_words s number (w ∷ ws) =
    if slice_index w 0 == 35 then Ok s
    else (if s.begun then after_said s number (says (w ∷ ws)) else after_first s (is_first (w ∷ ws)))

-- the trace after the line of that number, or why the line is bad
abbrev pub after_line : TraceState → ℕ → List ℕ → Result TraceState TraceCause
after_line s number line =
    if list_all is_allowed line then after_words s number (words line) else Err cause.NotAscii

-- ---- all lines

-- the lines of a trace, or a bad line's number and the cause
abbrev pub TraceOutcome : Type 0
TraceOutcome = Result (List TraceLine) (ℕ × TraceCause)

-- a trace in which no first line stands is bad at line 1
abbrev pub trace_outcome_at_end : TraceState → TraceOutcome
trace_outcome_at_end s = if s.begun then Ok s.lines else Err (1, cause.Version)

-- what the lines behind the one of that number come to, where it came to this: the first bad line decides
abbrev pub comes_to : Result TraceState TraceCause → ℕ → List (List ℕ) → TraceOutcome
comes_to (Err c) number more = Err (number, c)
comes_to (Ok s) number [] = trace_outcome_at_end s
comes_to (Ok s) number (line ∷ more) =
    comes_to (after_line s (number + 1) line) (number + 1) more

-- what a text comes to
abbrev pub outcome : List ℕ → TraceOutcome
outcome text =
    if nat_lt most_bytes (length text) then Err (0, cause.TooLarge)
    else comes_to (Ok start) 0 (lines text)

-- the causes are numbered from 1
abbrev pub trace_cause_number : TraceCause → ℕ
trace_cause_number cause.TooLarge = 1
trace_cause_number cause.NotAscii = 2
trace_cause_number cause.Version = 3
trace_cause_number cause.Form = 4
trace_cause_number cause.Next = 5
trace_cause_number cause.Undeclared = 6
trace_cause_number cause.Region = 7
trace_cause_number cause.Regions = 8
