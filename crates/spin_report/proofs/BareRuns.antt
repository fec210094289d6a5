-- A run of a script is one of the script without where its boxes lie, too.
use Rattle.std.proofs.Common.{List, [], ◌∷◌, subst}
use Rattle.std.specs.Prelude.{Option}
use Rattle.spin_table.specs.States.{State}
use Rattle.spin_endpoint.specs.Named.{NamedEnd}
use Rattle.spin_script.specs.declared.script.Segment.{Segment}
use Rattle.spin_script.specs.States.{ScriptData}
use Rattle.spin_script.specs.Laws.{bare_script}
use Rattle.spin_report.specs.Histories.{SegmentSeen, HistorySeen}
use Rattle.spin_report.specs.Runs.{RunPoint, CaptureSeen, frames_of, start_with, AreRun, IsRun}
use Rattle.spin_report.proofs.BareEntries.{bare_start, bare_legal, bare_jobs}

bare_segments : (script : ScriptData) (segments : List Segment) (before after : RunPoint) (seen : List SegmentSeen) → AreRun script segments before seen after
    → AreRun (bare_script script) segments before seen after
bare_segments script [] before after seen run = run
bare_segments script (segment ∷ segments) before after seen (first, others, next, is, run, rest) = (
  first,
  others,
  next,
  is,
  record {
    retired = run.retired;
    start = run.start;
    woven = record {
      legal = bare_legal script.setup first.entries before.state next.state run.woven.legal;
      once = run.woven.once;
      lanes_are = run.woven.lanes_are;
      order = run.woven.order;
      jobs_are = bare_jobs script.setup first.entries before.state first.jobs run.woven.jobs_are;
    };
    left = run.left;
    lost = run.lost;
    ends = run.ends;
  },
  bare_segments script segments next after others rest,
)

pub bare_run : (script : ScriptData) (capture : Option CaptureSeen) (ends : List NamedEnd) (h : HistorySeen) (last : RunPoint)
    → IsRun script capture ends h last → IsRun (bare_script script) capture ends h last
bare_run script capture ends h last run = record {
  segments = subst (λ (start : State). AreRun (bare_script script) script.segments (record { state = start; left = frames_of capture; ends = ends }) h.segments last)
      (bare_start script.setup) (bare_segments script script.segments (start_with script (frames_of capture) ends) last h.segments run.segments);
  end = run.end;
  capture_is = run.capture_is;
}
