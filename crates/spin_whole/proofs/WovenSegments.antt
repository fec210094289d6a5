-- A segment whose lanes went one after another is woven.
use Rattle.std.proofs.Common.{◌≡◌, ◌<◌, ℕ, List, [], ◌∷◌, map, sym, ap, subst, ◌∙◌}
use Rattle.std.specs.Prelude.{All, AllPairs}
use Rattle.std.proofs.lemmas.List.Elements.{All-nil, All-cons, All-head, All-tail}
use Rattle.spin_table.specs.Setups.{SetupData}
use Rattle.spin_table.specs.States.{State}
use Rattle.spin_script.specs.declared.script.Line.{Line}
use Rattle.spin_report.specs.declared.entry.Entry.{Entry}
use Rattle.spin_report.specs.Asked.{Numbered, asked_of}
use Rattle.spin_report.specs.Lines.{JobSeen}
use Rattle.spin_report.specs.Legal.{IsLegal}
use Rattle.spin_report.specs.Jobs.{AreJobs}
use Rattle.spin_report.specs.Segments.{asked_in, asked_of_lane, IsWoven}
use Rattle.spin_report.proofs.Asking.{asked_rises}
use Rattle.spin_whole.specs.Inner.Parts.{AreDone, by_lane}
use Rattle.spin_whole.proofs.LaneAsks.{IsAfter, lane_once, lane_below, lane_rises}
use Rattle.spin_whole.proofs.MomentOrder.{in_order}

done_legal : (d : SetupData) (s last : State) (entries : List Entry) (jobs : List JobSeen) → AreDone d s entries jobs last → IsLegal d s entries last
done_legal d s last [] jobs done = done.1
done_legal d s last (e ∷ entries) jobs done = (done.0, done.3, done_legal d done.0 last entries done.2 done.5)

done_jobs : (d : SetupData) (s last : State) (entries : List Entry) (jobs : List JobSeen) → AreDone d s entries jobs last → AreJobs d s entries jobs
done_jobs d s last [] jobs done = done.0
done_jobs d s last (e ∷ entries) jobs done = (done.0, done.1, done.2, done.3, done.4, done_jobs d done.0 last entries done.2 done.5, done.6)

lanes_of_asked : (lanes : ℕ) (entries : List Entry) → All (λ (n : Numbered). n.lane < lanes) (map asked_of entries) → All (λ (e : Entry). e.lane < lanes) entries
lanes_of_asked lanes [] all = All-nil (λ (e : Entry). e.lane < lanes)
lanes_of_asked lanes (e ∷ entries) all =
    All-cons (λ (x : Entry). x.lane < lanes) e entries (All-head (λ (n : Numbered). n.lane < lanes) (asked_of e) (map asked_of entries) all)
    (lanes_of_asked lanes entries (All-tail (λ (n : Numbered). n.lane < lanes) (asked_of e) (map asked_of entries) all))

pub woven : (d : SetupData) (lanes : ℕ) (lines : List Line) (records : List (List ℕ)) (before after : State) (entries : List Entry) (jobs : List JobSeen)
    → AllPairs (λ line later. line.number < later.number) lines → AreDone d before entries jobs after → map asked_of entries ≡ by_lane lanes (asked_in lines records)
    → IsWoven d lanes (asked_in lines records) before after entries jobs
woven d lanes lines records before after entries jobs rise done is =
    let asked = asked_in lines records in
    let legal = done_legal d before after entries jobs done in
    record {
      legal = legal;
      once = λ k lt. ap (asked_of_lane k) is ∙ lane_once k lanes asked lt;
      lanes_are = lanes_of_asked lanes entries (subst (All (λ (n : Numbered). n.lane < lanes)) (sym is) (lane_below lanes asked));
      order = in_order d before after entries legal (subst (AllPairs IsAfter) (sym is) (lane_rises lanes asked (asked_rises lines records rise)));
      jobs_are = done_jobs d before after entries jobs done;
    }
