-- What follows from the entries of a run: the states between its segments, its jobs, and over given endpoints all else.
use Rattle.std.proofs.Common.{◌≡◌, ℕ, List, [], ◌∷◌, ◌++◌, map, refl, sym, ap, subst, ◌∙◌}
use Rattle.std.specs.Prelude.{Option}
use Rattle.std.specs.Option.{option_map}
use Rattle.std.specs.List.{flat_map}
use Rattle.spin_table.specs.Setups.{SetupData}
use Rattle.spin_table.specs.States.{State}
use Rattle.spin_endpoint.specs.Named.{NamedEnd}
use Rattle.spin_endpoint.specs.Sends.{SentSeen, all_received, all_retired}
use Rattle.spin_script.specs.declared.script.Segment.{Segment}
use Rattle.spin_script.specs.States.{ScriptData}
use Rattle.spin_report.specs.declared.entry.Entry.{Entry}
use Rattle.spin_report.specs.Lines.{JobSeen}
use Rattle.spin_report.specs.Histories.{SegmentSeen, HistorySeen}
use Rattle.spin_report.specs.Legal.{IsLegal}
use Rattle.spin_report.specs.Jobs.{AreJobs}
use Rattle.spin_report.specs.Runs.{RunPoint, CaptureSeen, sends_of, sends_of_reply, segment_sends, lost_counts, IsSegmentRun, AreRun, counts_of, frames_of, start_with, IsRun}
use Rattle.spin_report.proofs.AnswerUniqueness.{same_last}
use Rattle.spin_report.proofs.HistoryUniqueness.{one_list_of_jobs}

-- the entries, and the jobs, of each segment
abbrev pub rows_of : List SegmentSeen → List (List Entry)
rows_of seen = map (λ s. s.entries) seen

abbrev pub jobs_of : List SegmentSeen → List (List JobSeen)
jobs_of seen = map (λ s. s.jobs) seen

-- two runs of a segment from one state, with the same entries, have the same jobs and leave one state
module _ (d : SetupData) (lanes : ℕ) (names : List (List ℕ)) (segment : Segment) (before before' : RunPoint) (one two : SegmentSeen) (after after' : RunPoint)
    (run : IsSegmentRun d lanes names segment before one after) (run' : IsSegmentRun d lanes names segment before' two after')
    (state : before.state ≡ before'.state) (entries : one.entries ≡ two.entries) where
  next_state : after.state ≡ after'.state
  next_state =
      same_last d before'.state two.entries after.state after'.state
      (subst (λ (x : State × List Entry). IsLegal d x.0 x.1 after.state) (λ i. (state i, entries i)) run.woven.legal) run'.woven.legal

  own_jobs : one.jobs ≡ two.jobs
  own_jobs =
      one_list_of_jobs d before'.state two.entries one.jobs two.jobs
      (subst (λ (x : State × List Entry). AreJobs d x.0 x.1 one.jobs) (λ i. (state i, entries i)) run.woven.jobs_are) run'.woven.jobs_are

first_rows : (one two : SegmentSeen) (others others' seen seen' : List SegmentSeen) → seen ≡ one ∷ others
    → seen' ≡ two ∷ others' → rows_of seen ≡ rows_of seen' → (one.entries ≡ two.entries) × (rows_of others ≡ rows_of others')
first_rows one two others others' seen seen' is is' rows =
    let cut : rows_of (one ∷ others) ≡ rows_of (two ∷ others') = sym (ap rows_of is) ∙ rows ∙ ap rows_of is' in
    (cc (cut), cc (cut))

-- two runs of segments from one state, with the same entries, have the same jobs
pub same_jobs : (script : ScriptData) (segments : List Segment) (before before' after after' : RunPoint) (seen seen' : List SegmentSeen) → before.state ≡ before'.state → rows_of seen ≡ rows_of seen'
    → AreRun script segments before seen after → AreRun script segments before' seen' after' → jobs_of seen ≡ jobs_of seen'
same_jobs script [] before before' after after' seen seen' state rows run run' = ap jobs_of (run.0 ∙ sym run'.0)
same_jobs script (segment ∷ segments) before before' after after' seen seen' state rows (one, others, next, is, run, rest) (two, others', next', is', run', rest') =
    let r = first_rows one two others others' seen seen' is is' rows in
    let here = own_jobs script.setup script.lanes script.endpoints segment before before' one two next next' run run' state r.0 in
    let on = next_state script.setup script.lanes script.endpoints segment before before' one two next next' run run' state r.0 in
    let more = same_jobs script segments next next' after after' others others' on r.1 rest rest' in
    ap jobs_of is ∙ (λ i. here i ∷ more i) ∙ sym (ap jobs_of is')

-- two runs of a segment from where one run stands, with the same entries, are one and leave one standing
module _ (d : SetupData) (lanes : ℕ) (names : List (List ℕ)) (segment : Segment) (before : RunPoint) (one two : SegmentSeen) (after after' : RunPoint)
    (run : IsSegmentRun d lanes names segment before one after) (run' : IsSegmentRun d lanes names segment before two after') (entries : one.entries ≡ two.entries) where
  jobs : one.jobs ≡ two.jobs
  jobs = own_jobs d lanes names segment before before one two after after' run run' refl entries

  sends : segment_sends one ≡ segment_sends two
  sends = λ i. flat_map (λ (entry : Entry). sends_of entry.what) (entries i) ++ flat_map (λ (job : JobSeen). sends_of_reply job.reply) (jobs i)

  own_segment : one ≡ two
  own_segment =
      let retired = run.retired ∙ sym run'.retired in
      let start = run.start ∙ sym run'.start in
      let lost = run.lost ∙ ap (lost_counts names (all_retired names segment.retires before.ends)) sends ∙ sym run'.lost in
      λ i. record { retired = retired i; start = start i; entries = entries i; jobs = jobs i; lost = lost i }

  own_standing : after ≡ after'
  own_standing =
      let state = next_state d lanes names segment before before one two after after' run run' refl entries in
      let left = run.left ∙ sym run'.left in
      let ends = run.ends ∙ ap (λ (sent : List SentSeen). all_received names sent (all_retired names segment.retires before.ends)) sends ∙ sym run'.ends in
      λ i. record { state = state i; left = left i; ends = ends i }

-- two runs of segments from where one run stands, with the same entries, are one and leave one standing
same_segments : (script : ScriptData) (segments : List Segment) (before after after' : RunPoint) (seen seen' : List SegmentSeen) → rows_of seen ≡ rows_of seen'
    → AreRun script segments before seen after → AreRun script segments before seen' after' → (seen ≡ seen') × (after ≡ after')
same_segments script [] before after after' seen seen' rows run run' = (run.0 ∙ sym run'.0, run.1 ∙ sym run'.1)
same_segments script (segment ∷ segments) before after after' seen seen' rows (one, others, next, is, run, rest) (two, others', next', is', run', rest') =
    let r = first_rows one two others others' seen seen' is is' rows in
    let here = own_segment script.setup script.lanes script.endpoints segment before one two next next' run run' r.0 in
    let on = own_standing script.setup script.lanes script.endpoints segment before one two next next' run run' r.0 in
    let more = same_segments script segments next' after after' others others' r.1 (subst (λ (x : RunPoint). AreRun script segments x others after) on rest) rest' in
    (is ∙ (λ i. here i ∷ more.0 i) ∙ sym is', more.1)

-- two runs of a script over one capture and the same endpoints, with the same entries, are one
pub same_run : (script : ScriptData) (capture : Option CaptureSeen) (ends : List NamedEnd) (h k : HistorySeen) (last last' : RunPoint)
    → IsRun script capture ends h last → IsRun script capture ends k last'
    → rows_of h.segments ≡ rows_of k.segments → (h ≡ k) × (last ≡ last')
same_run script capture ends h k last last' run run' rows =
    let s = same_segments script script.segments (start_with script (frames_of capture) ends) last last' h.segments k.segments rows run.segments run'.segments in
    let end = run.end ∙ ap (λ (x : RunPoint). x.state.place) s.1 ∙ sym run'.end in
    let counts = run.capture_is ∙ ap (λ (x : RunPoint). option_map (counts_of x.left) capture) s.1 ∙ sym run'.capture_is in
    (λ i. record { segments = s.0 i; end = end i; capture = counts i }, s.1)
