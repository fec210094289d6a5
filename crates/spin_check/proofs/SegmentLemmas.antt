-- A segment's part of a report.
use Rattle.std.proofs.Common.{◌≡◌, ℕ, ◌<◌, Bool, List, [], ◌∷◌, ◌++◌, map, drop, refl, sym, ap, subst, ◌∙◌, append_assoc, length, arith}
use denote.Ref.{Bor}
use Rattle.std.specs.Prelude.{All, Option, None, Some}
use Rattle.std.specs.List.{flat_map}
use Rattle.std.proofs.lemmas.List.{append-nil, map-append, append_cancel_left, length-append, length-drop}
use Rattle.spin_endpoint.specs.Named.{NamedEnd}
use Rattle.spin_endpoint.specs.Sends.{SentSeen, all_retired, all_received}
use Rattle.spin_table.specs.Setups.{SetupData}
use Rattle.spin_table.specs.States.{State, VersionValue}
use Rattle.spin_table.specs.Soundness.{IsSoundVersion}
use Rattle.spin_text.specs.Words.{ended, text_of}
use Rattle.spin_script.specs.declared.script.Line.{Line}
use Rattle.spin_script.specs.declared.script.Segment.{Segment}
use Rattle.spin_report.specs.declared.entry.Entry.{Entry}
use Rattle.spin_report.specs.Asked.{Numbered}
use Rattle.spin_report.specs.Legal.{IsLegal}
use Rattle.spin_report.specs.Jobs.{AreJobs}
use Rattle.spin_report.specs.Lines.{JobSeen, entry_line, job_line}
use Rattle.spin_report.specs.Histories.{Retirement, SegmentSeen, retire_line, segment_line, segment_lines, lost_lines}
use Rattle.spin_report.specs.Segments.{asked_in, wanted_by}
use Rattle.spin_report.specs.Runs.{RunPoint, retirements, lost_counts, segment_sends, sends_of, sends_of_reply}
use Rattle.spin_report.proofs.LaneAnswers.{filter_asked}
use Rattle.spin_report.proofs.HistoryUniqueness.{one_list_of_jobs}
use Rattle.spin_report.proofs.AnswerUniqueness.{same_last}
use Rattle.spin_check.specs.declared.deeds.Ask.{Ask}
use Rattle.spin_script.specs.Soundness.{commands_in}
use Rattle.spin_check.specs.Inner.Asks.{AreAsked, commands_left}
use Rattle.spin_check.specs.Inner.Standings.{AreFlags, numbers_of}
use Rattle.spin_check.specs.Inner.Fronts.{IsBehind}
use Rattle.spin_check.specs.Inner.Replays.{At, AreEntries, HasReplayed, EndsAt, version_at}
use Rattle.spin_check.specs.Inner.Segments.{Mark, head_text, standing, IsPart, Passes, Goes, IsGoodMark, version_of}
use Rattle.spin_check.proofs.ReplayLemmas.{text_of-append}
use Rattle.spin_check.proofs.EndpointFlags.{flags_received}

-- the text of what stands behind the entries
abbrev pub tail_text : List JobSeen → List ℕ → List ℕ
tail_text jobs lost = text_of (map job_line jobs) ++ text_of (lost_lines lost)

part_text : (number : ℕ) (s : SegmentSeen) (more : List ℕ)
    → text_of (segment_lines number s) ++ more ≡ head_text number s.start s.retired ++ (text_of (map entry_line s.entries) ++ (tail_text s.jobs s.lost ++ more))
part_text number s more =
    let r = map retire_line s.retired in
    let h = segment_line number s.start ∷ [] in
    let e = map entry_line s.entries in
    let j = map job_line s.jobs in
    let l = lost_lines s.lost in
    ap (λ t. t ++ more) (
    text_of-append (r ++ h ++ e ++ j) l
    ∙ ap (λ t. t ++ text_of l) (text_of-append (r ++ h ++ e) j
    ∙ ap (λ t. t ++ text_of j) (text_of-append (r ++ h) e ∙ ap (λ t. t ++ text_of e) (text_of-append r h ∙ ap (λ t. text_of r ++ t) (append-nil (ended (segment_line number s.start)))))))
    ∙ ap (λ t. t ++ more) (append_assoc (head_text number s.start s.retired ++ text_of e) (text_of j) (text_of l))
    ∙ append_assoc (head_text number s.start s.retired ++ text_of e) (tail_text s.jobs s.lost) more
    ∙ append_assoc (head_text number s.start s.retired) (text_of e) (tail_text s.jobs s.lost ++ more)

-- the lines that are owed behind the entries, by the flags of the endpoints that stand
abbrev pub TellsTail : At → List Bool → Option (Bor (List ℕ)) → Type 0
TellsTail at flags found =
    (names : List (List ℕ)) (ends : List NamedEnd) (sent : List SentSeen) → AreFlags names ends flags → numbers_of sent ≡ at.sends ++ at.job_sends
    → IsBehind (at.owed ++ text_of (lost_lines (lost_counts names ends sent))) at.rest found

-- the head, written line by line
pub head_is : (names : List (List ℕ)) (ends : List NamedEnd) (number place : ℕ) (numbers empty first second head : List ℕ) → empty ≡ []
    → first ≡ empty ++ text_of (map retire_line (retirements names numbers ends)) → second ≡ first ++ ended (segment_line number place) → head ≡ second
    → head ≡ head_text number place (retirements names numbers ends)
head_is names ends number place numbers empty first second head none one two is =
    is ∙ two ∙ ap (λ t. t ++ ended (segment_line number place)) (one ∙ ap (λ t. t ++ text_of (map retire_line (retirements names numbers ends))) none)

module _ (d : SetupData) (lanes : ℕ) (names : List (List ℕ)) (number : ℕ) (segment : Segment) (mark : Mark) (ends : List NamedEnd) where
  abbrev retired_now : List Retirement
  retired_now = retirements names segment.retires ends

  abbrev ends_now : List NamedEnd
  ends_now = all_retired names segment.retires ends

  abbrev pub head_now : List ℕ
  head_now = head_text number mark.state.place retired_now

  abbrev asked_now : List Numbered
  asked_now = asked_in segment.lines mark.left

  -- the replay begins behind the head of the segment's part, with all that is asked
  pub record IsBegun (rest : List ℕ) (at : At) : Type 0 where
    pub state : at.state ≡ mark.state
    pub asked : AreAsked lanes asked_now at.queues
    pub rest_is : at.rest ≡ rest

  pub begins : (rest : List ℕ) (at : At) (lines : List Line) (queues : List (List Ask)) → at.state ≡ mark.state
      → at.queues ≡ queues → lines ≡ segment.lines → AreAsked lanes (asked_in lines mark.left) queues
      → at.rest ≡ rest → IsBegun rest at
  begins rest at lines queues state queues_are lines_are asked rest_is = record {
    state = state;
    asked = subst (λ qs. AreAsked lanes asked_now qs) (sym queues_are) (subst (λ ls. AreAsked lanes (asked_in ls mark.left) queues) lines_are asked);
    rest_is = rest_is;
  }

  -- the head, by its own number of the place and list of the endpoints that retire
  pub head_here : (place : ℕ) (numbers : List ℕ) (found : Option (Bor (List ℕ))) → place ≡ mark.state.place → numbers ≡ segment.retires
      → IsBehind (head_text number place (retirements names numbers ends)) mark.rest found → IsBehind head_now mark.rest found
  head_here place numbers found at same is = subst (λ h. IsBehind h mark.rest found) (λ i. head_text number (at i) (retirements names (same i) ends)) is

  -- what a part of the report tells of the replay that begins there
  part_read : (at : At) (rest : List ℕ) → IsBegun rest at → (s : SegmentSeen) (after : RunPoint) (more : List ℕ) → IsPart d lanes names number segment (standing mark ends) mark.rest s after more
      → rest ≡ text_of (map entry_line s.entries) ++ (tail_text s.jobs s.lost ++ more)
      → AreEntries d at s.entries after.state (tail_text s.jobs s.lost ++ more)
  part_read at rest begun s after more part text = (
    record {
      legal = subst (λ t. IsLegal d t s.entries after.state) (sym begun.state) part.run.woven.legal;
      once = λ k lt.
          sym (filter_asked k s.entries) ∙ part.run.woven.once k (subst (λ n. k < n) begun.asked.lanes lt) ∙ sym (begun.asked.each k (subst (λ n. k < n) begun.asked.lanes lt));
      lanes_are = subst (λ n. All (λ (x : Entry). x.lane < n) s.entries) (sym begun.asked.lanes) part.run.woven.lanes_are;
      text = begun.rest_is ∙ text;
    },
    part.run.woven.order,
  )

  -- its text, where its retirements and its start are known
  part_head : (s : SegmentSeen) (after : RunPoint) (more : List ℕ) → IsPart d lanes names number segment (standing mark ends) mark.rest s after more
      → mark.rest ≡ head_now ++ (text_of (map entry_line s.entries) ++ (tail_text s.jobs s.lost ++ more))
  part_head s after more part =
      part.text ∙ part_text number s more
      ∙ (λ i. head_text number (part.run.start i) (part.run.retired i) ++ (text_of (map entry_line s.entries) ++ (tail_text s.jobs s.lost ++ more)))

  -- the report goes on with no head of the segment
  pub no_head : IsBehind head_now mark.rest None → Goes d lanes names number segment mark ends None
  no_head none s after more part = none _ (part_head s after more part)

  part_rest : (rest : List ℕ) → mark.rest ≡ head_now ++ rest → (s : SegmentSeen) (after : RunPoint) (more : List ℕ)
      → IsPart d lanes names number segment (standing mark ends) mark.rest s after more → rest ≡ text_of (map entry_line s.entries) ++ (tail_text s.jobs s.lost ++ more)
  part_rest rest cut s after more part =
      append_cancel_left head_now rest (text_of (map entry_line s.entries) ++ (tail_text s.jobs s.lost ++ more)) (sym cut ∙ part_head s after more part)

  -- with no entries of the segment
  pub no_entries : (rest : List ℕ) (start : At) → mark.rest ≡ head_now ++ rest → IsBegun rest start → EndsAt d start None → Goes d lanes names number segment mark ends None
  no_entries rest start cut begun none s after more part =
      let behind = tail_text s.jobs s.lost ++ more in
      let short : length behind < length (text_of (map job_line s.jobs)) =
      none s.entries after.state behind (part_read start rest begun s after more part (part_rest rest cut s after more part)) s.jobs
      (subst (λ t. AreJobs d t s.entries s.jobs) (sym begun.state) part.run.woven.jobs_are) in
      let whole = length-append (tail_text s.jobs s.lost) more in
      let tail = length-append (text_of (map job_line s.jobs)) (text_of (lost_lines s.lost)) in
      absurd (omega (arith, short, whole, tail))

  -- ---- the entries are read

  module _ (rest : List ℕ) (start at : At) (cut : mark.rest ≡ head_now ++ rest) (begun : IsBegun rest start) (ended_so : EndsAt d start (Some at)) where
    abbrev entries : List Entry
    entries = ended_so.0

    abbrev jobs : List JobSeen
    jobs = ended_so.1

    done : HasReplayed d start entries jobs at
    done = ended_so.2

    abbrev sent_now : List SentSeen
    sent_now = flat_map (λ entry. sends_of entry.what) entries ++ flat_map (λ job. sends_of_reply job.reply) jobs

    sent_numbers : numbers_of sent_now ≡ at.sends ++ at.job_sends
    sent_numbers =
        map-append (λ s. s.endpoint) (flat_map (λ (entry : Entry). sends_of entry.what) entries) (flat_map (λ (job : JobSeen). sends_of_reply job.reply) jobs)
        ∙ (λ i. sym done.sends i ++ sym done.job_sends i)

    abbrev lost_now : List ℕ
    lost_now = lost_counts names ends_now sent_now

    abbrev seen_now : SegmentSeen
    seen_now = record { retired = retired_now; start = mark.state.place; entries = entries; jobs = jobs; lost = lost_now }

    -- each part has these entries, and so all the rest
    same_entries : (s : SegmentSeen) (after : RunPoint) (more : List ℕ) → IsPart d lanes names number segment (standing mark ends) mark.rest s after more → s.entries ≡ entries
    same_entries s after more part = done.only s.entries after.state (tail_text s.jobs s.lost ++ more) (part_read start rest begun s after more part (part_rest rest cut s after more part))

    jobs_of_part : (s : SegmentSeen) (after : RunPoint) (more : List ℕ) → IsPart d lanes names number segment (standing mark ends) mark.rest s after more → s.jobs ≡ jobs
    jobs_of_part s after more part =
        one_list_of_jobs d mark.state entries s.jobs jobs (subst (λ es. AreJobs d mark.state es s.jobs) (same_entries s after more part) part.run.woven.jobs_are)
        (subst (λ t. AreJobs d t entries jobs) begun.state done.jobs_are)

    seen_is : (s : SegmentSeen) (after : RunPoint) (more : List ℕ) → IsPart d lanes names number segment (standing mark ends) mark.rest s after more → s ≡ seen_now
    seen_is s after more part =
        let es = same_entries s after more part in
        let js = jobs_of_part s after more part in
        let sent : segment_sends s ≡ sent_now = λ i. flat_map (λ (entry : Entry). sends_of entry.what) (es i) ++ flat_map (λ (job : JobSeen). sends_of_reply job.reply) (js i) in
        let lost : s.lost ≡ lost_now = part.run.lost ∙ ap (lost_counts names ends_now) sent in
        λ i. record { retired = part.run.retired i; start = part.run.start i; entries = es i; jobs = js i; lost = lost i }

    -- what is left of the report behind the entries
    rest_behind : (s : SegmentSeen) (after : RunPoint) (more : List ℕ) → IsPart d lanes names number segment (standing mark ends) mark.rest s after more → at.rest ≡ tail_text jobs lost_now ++ more
    rest_behind s after more part =
        let same = seen_is s after more part in
        let own : rest ≡ text_of (map entry_line entries) ++ at.rest = sym begun.rest_is ∙ done.read.0.text in
        let other : rest ≡ text_of (map entry_line entries) ++ (tail_text jobs lost_now ++ more) =
        part_rest rest cut s after more part ∙ ap (λ (x : SegmentSeen). text_of (map entry_line x.entries) ++ (tail_text x.jobs x.lost ++ more)) same in
        append_cancel_left (text_of (map entry_line entries)) at.rest (tail_text jobs lost_now ++ more) (sym own ∙ other)

    -- with other lines behind the entries
    pub no_tail : (flags : List Bool) → AreFlags names ends_now flags → TellsTail at flags None → Goes d lanes names number segment mark ends None
    no_tail flags are tells s after more part =
        tells names ends_now sent_now are sent_numbers more (rest_behind s after more part ∙ ap (λ t. t ++ text_of (lost_lines lost_now) ++ more) (sym done.owed))

    -- or it goes on with the segment
    pub passes : (last : Bor (List ℕ)) (next : Mark) → AreFlags names ends_now next.flags → TellsTail at next.flags (Some last)
        → next.state ≡ at.state → next.left ≡ drop (wanted_by segment.lines) mark.left → next.rest ≡ last.now → Passes d lanes names number segment mark ends next
    passes found next flags tells state left rest_is =
        let last = found.now in
        let tail : at.rest ≡ tail_text jobs lost_now ++ last = tells names ends_now sent_now flags sent_numbers ∙ ap (λ t. t ++ text_of (lost_lines lost_now) ++ last) done.owed in
        let ends_after = all_received names sent_now ends_now in
        let text : mark.rest ≡ text_of (segment_lines number seen_now) ++ next.rest =
        cut ∙ ap (λ t. head_now ++ t) (sym begun.rest_is ∙ done.read.0.text ∙ ap (λ t. text_of (map entry_line entries) ++ t) tail)
        ∙ sym (part_text number seen_now last) ∙ ap (λ t. text_of (segment_lines number seen_now) ++ t) (sym rest_is) in
        record {
          seen = seen_now;
          ends_after = ends_after;
          part = record {
            run = record {
              retired = refl;
              start = refl;
              woven = record {
                legal = subst (λ t. IsLegal d t entries next.state) begun.state (subst (λ t. IsLegal d start.state entries t) (sym state) done.read.0.legal);
                once = λ k lt.
                    filter_asked k entries ∙ done.read.0.once k (subst (λ n. k < n) (sym begun.asked.lanes) lt) ∙ begun.asked.each k lt;
                lanes_are = subst (λ n. All (λ (x : Entry). x.lane < n) entries) begun.asked.lanes done.read.0.lanes_are;
                order = done.read.1;
                jobs_are = subst (λ t. AreJobs d t entries jobs) begun.state done.jobs_are;
              };
              left = left;
              lost = refl;
              ends = refl;
            };
            text = text;
          };
          flags = flags_received names sent_now ends_now next.flags flags;
          only = λ s after more part.
              let same = seen_is s after more part in
              let sent : segment_sends s ≡ sent_now = ap segment_sends same in
              let legal_own : IsLegal d mark.state entries next.state =
              subst (λ t. IsLegal d t entries next.state) begun.state (subst (λ t. IsLegal d start.state entries t) (sym state) done.read.0.legal) in
              let state_is : after.state ≡ next.state = same_last d mark.state entries after.state next.state
              (subst (λ (es : List Entry). IsLegal d mark.state es after.state) (same_entries s after more part) part.run.woven.legal) legal_own in
              let left_same : after.left ≡ next.left = part.run.left ∙ sym left in
              let ends_same : after.ends ≡ ends_after = part.run.ends ∙ ap (λ x. all_received names x ends_now) sent in
              let more_is : last ≡ more = append_cancel_left (tail_text jobs lost_now) last more (sym tail ∙ rest_behind s after more part) in
              (λ i. record { state = state_is i; left = left_same i; ends = ends_same i }, same, sym more_is ∙ sym rest_is);
        }

-- no number is added or goes
pub as_many : (names : List (List ℕ)) (ends later : List NamedEnd) (flags now : List Bool) → AreFlags names ends flags → AreFlags names later now → length now ≡ length flags
as_many names ends later flags now are then = then.all ∙ sym are.all

-- what the next segment needs
pub good_mark : (d : SetupData) (segment : Segment) (mark next : Mark) (start at : At) → EndsAt d start (Some at) → start.state ≡ mark.state → commands_left start.queues ≡ commands_in segment.lines
    → version_of next ≡ version_at at → length next.flags ≡ length mark.flags → next.left ≡ drop (wanted_by segment.lines) mark.left → IsGoodMark d segment mark (Some next)
good_mark d segment mark next start at ended_so begun commands version flags left = (
  subst (IsSoundVersion d) (sym version) ended_so.3,
  omega (arith, ended_so.4, commands, ap (λ (v : VersionValue). v.state.place) version, ap (λ (s : State). s.place) begun),
  flags,
  omega (arith, ap length left, length-drop (wanted_by segment.lines) mark.left),
)
