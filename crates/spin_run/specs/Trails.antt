-- What is kept of the entries of a lane, once their lines are made.
use Rattle.std.specs.Prelude.{◌≡◌, ◌≤◌, ◌+◌, ℕ, Bool, true, false, not, List, [], ◌∷◌, ◌++◌, map, length, count_by}
use Rattle.std.specs.Prelude.{slice_range, slice_index_or}
use Rattle.std.specs.List.{AllZip, flat_map}
use Rattle.spin_table.specs.declared.refusal.Verdicted.TheVariants as verdicted
use Rattle.spin_text.specs.Words.{ended, text_of}
use Rattle.spin_report.specs.declared.entry.What.{What}
use Rattle.spin_report.specs.declared.entry.What.TheVariants as what
use Rattle.spin_report.specs.declared.entry.Entry.{Entry}
use Rattle.spin_report.specs.Lines.{entry_line}
use Rattle.spin_report.specs.Runs.{sends_of}
use Rattle.spin_report.specs.Views.{answer_steps}
use Rattle.spin_run.specs.Summaries.{is_run}
use Rattle.spin_run.specs.declared.trail.Span.{Span}
use Rattle.spin_run.specs.declared.trail.Kind.{Kind}
use Rattle.spin_run.specs.declared.trail.Kind.TheVariants as kind
use Rattle.spin_run.specs.declared.trail.EntryIndex.{EntryIndex}
use Rattle.spin_run.specs.declared.trail.Trail.{Trail}

-- ---- stretches

-- the items of a stretch
abbrev pub items_in : {X : Type 0} → Span → List X → List X
items_in stretch items = slice_range items stretch.from stretch.to

-- the stretch lies in a list of that length
pub record LiesIn (stretch : Span) (long : ℕ) : Type 0 where
  pub rises : stretch.from ≤ stretch.to
  pub ends : stretch.to ≤ long

-- ---- marks

-- whether it is a command, and what became of it
abbrev pub kind_of : What → Kind
kind_of (what.Command command verdicted.Accepted) = kind.Accepted
kind_of (what.Command command (verdicted.Refused refusal)) = kind.Refused
kind_of (what.Deed deed reply) = kind.Deed

abbrev pub is_accepted_kind : Kind → Bool
is_accepted_kind kind.Accepted = true
is_accepted_kind kind.Refused = false
is_accepted_kind kind.Deed = false

-- where the mark's entry stands among those of its segment
abbrev pub mark_moment : EntryIndex → ℕ × Bool × ℕ × ℕ × ℕ
mark_moment mark = (mark.place, not (is_accepted_kind mark.kind), mark.lane, mark.line, mark.part)

-- The mark is that of the entry, in this trail: it tells where the entry stands, of which kind it is and how many of
-- its steps run a handler, and its stretches are the entry's line and what the entry sends.
pub record IsMarkOf (trail : Trail) (mark : EntryIndex) (entry : Entry) : Type 0 where
  pub place : mark.place ≡ entry.place
  pub kind : mark.kind ≡ kind_of entry.what
  pub lane : mark.lane ≡ entry.lane
  pub line : mark.line ≡ entry.line
  pub part : mark.part ≡ entry.part
  pub runs : mark.runs ≡ count_by is_run (answer_steps entry.what)
  pub text : items_in mark.text trail.text ≡ ended (entry_line entry)
  pub text_lies : LiesIn mark.text (length trail.text)
  pub sends : items_in mark.sends trail.sends ≡ sends_of entry.what
  pub sends_lie : LiesIn mark.sends (length trail.sends)

-- ---- trails

-- no entry has left anything
abbrev pub none_left : Trail
none_left = record { text = []; sends = []; marks = [] }

abbrev pub IsNew : Trail → Type 0
IsNew trail = trail ≡ none_left

-- The trail is that of these entries: their lines, all that they send, and a mark of each.
pub record IsTrailOf (entries : List Entry) (trail : Trail) : Type 0 where
  pub text : trail.text ≡ text_of (map entry_line entries)
  pub sends : trail.sends ≡ flat_map (λ entry. sends_of entry.what) entries
  pub marks : AllZip (IsMarkOf trail) trail.marks entries

-- the lines of these entries and all that they send, without marks
abbrev pub unmarked_trail : List Entry → Trail
unmarked_trail entries = record {
  text = text_of (map entry_line entries);
  sends = flat_map (λ entry. sends_of entry.what) entries;
  marks = [];
}

-- whatever entries the one trail is of, the other is of these and of one more
pub record AddsTo (before : Trail) (entry : Entry) (after : Trail) : Type 0 where
  pub count : length after.marks ≡ length before.marks + 1
  pub goes_on : (entries : List Entry) → IsTrailOf entries before → IsTrailOf (entries ++ entry ∷ []) after

-- ---- the trails of all lanes

-- the trail of a lane
abbrev pub trail_of : List Trail → ℕ → Trail
trail_of trails lane = slice_index_or trails lane none_left

-- the marks are those of these entries, each in the trail of its own lane
abbrev pub AreMarksOf : List Trail → List EntryIndex → List Entry → Type 0
AreMarksOf trails marks entries = AllZip (λ mark entry. IsMarkOf (trail_of trails mark.lane) mark entry) marks entries
