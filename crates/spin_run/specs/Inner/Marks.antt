-- What marks tell of the trails of all lanes.
use Rattle.std.specs.Prelude.{◌<◌, ◌-◌, ℕ, Bool, true, false, List, length, count_by, sum_by}
use Rattle.spin_endpoint.specs.Sends.{SentSeen}
use Rattle.spin_run.specs.declared.trail.Kind.{Kind}
use Rattle.spin_run.specs.declared.trail.Kind.TheVariants as kind
use Rattle.spin_run.specs.declared.trail.EntryIndex.{EntryIndex}
use Rattle.spin_run.specs.declared.trail.Trail.{Trail}
use Rattle.spin_run.specs.Trails.{items_in, LiesIn, trail_of, is_accepted_kind}
use Rattle.spin_run.specs.Summaries.{Counts}

-- the mark's lane has a trail, in which both of its stretches lie
pub record IsInTrails (trails : List Trail) (mark : EntryIndex) : Type 0 where
  pub there : mark.lane < length trails
  pub text : LiesIn mark.text (length (trail_of trails mark.lane).text)
  pub sends : LiesIn mark.sends (length (trail_of trails mark.lane).sends)

-- the line of the mark's entry, and what it sends
abbrev pub line_in : List Trail → EntryIndex → List ℕ
line_in trails mark = items_in mark.text (trail_of trails mark.lane).text

abbrev pub sends_in : List Trail → EntryIndex → List SentSeen
sends_in trails mark = items_in mark.sends (trail_of trails mark.lane).sends

-- ---- counts

abbrev pub is_refused_kind : Kind → Bool
is_refused_kind kind.Accepted = false
is_refused_kind kind.Refused = true
is_refused_kind kind.Deed = false

-- what the entries of these marks count
abbrev pub counts_by : List EntryIndex → Counts
counts_by marks = record {
  entries = length marks;
  accepted = count_by (λ mark. is_accepted_kind mark.kind) marks;
  refused = count_by (λ mark. is_refused_kind mark.kind) marks;
  runs = sum_by (λ mark. mark.runs) marks;
  sends = sum_by (λ mark. mark.sends.to - mark.sends.from) marks;
}
