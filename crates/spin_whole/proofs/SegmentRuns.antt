-- One segment: what it has come to, as its part of the history.
use Rattle.std.proofs.Common.{◌≡◌, ◌<◌, ℕ, List, [], ◌++◌, map, length, drop, refl, sym, ap, subst, ◌∙◌, append_assoc, arith}
use Rattle.std.specs.Prelude.{AllPairs, filter}
use Rattle.std.specs.Arc.{arc_value}
use Rattle.std.proofs.lemmas.List.{length-drop}
use Rattle.spin_endpoint.specs.Named.{NamedEnd}
use Rattle.spin_endpoint.specs.Sends.{SentSeen, all_received, all_retired}
use Rattle.spin_table.specs.Setups.{SetupData}
use Rattle.spin_table.specs.States.{State, VersionValue}
use Rattle.spin_table.specs.Soundness.{IsSoundVersion}
use Rattle.spin_text.specs.Words.{ended, text_of}
use Rattle.spin_script.specs.declared.script.Segment.{Segment}
use Rattle.spin_report.specs.declared.entry.Entry.{Entry}
use Rattle.spin_report.specs.Lines.{JobSeen, entry_line, job_line}
use Rattle.spin_report.specs.Histories.{SegmentSeen, retire_line, segment_line, lost_lines}
use Rattle.spin_report.specs.Segments.{asked_in, wanted_by, IsWoven}
use Rattle.spin_report.specs.Runs.{retirements, lost_counts}
use Rattle.spin_check.specs.Inner.Standings.{AreFlags}
use Rattle.spin_check.proofs.EndpointFlags.{flags_received}
use Rattle.spin_whole.specs.declared.part.Part.{Part}
use Rattle.spin_whole.specs.declared.segment.Standing.{Standing}
use Rattle.spin_whole.specs.Runs.{is_received}
use Rattle.spin_whole.specs.Inner.Parts.{Answers, state_of, by_lane, sent_by_entries, sent_by_jobs}
use Rattle.spin_whole.specs.Inner.Standings.{IsGood, RunsOne, TakesPart}
use Rattle.spin_whole.proofs.AnswerSteps.{answers_place}
use Rattle.spin_whole.proofs.LaneAsks.{lanes_few}
use Rattle.spin_whole.proofs.WovenSegments.{woven}
use Rattle.spin_whole.proofs.SegmentSteps.{part_text}

-- a part in which nothing was answered
pub record IsBegun (version : State) (part : Part) : Type 0 where
  pub state : state_of part ≡ version
  pub text : part.text ≡ []
  pub sends : part.sends ≡ []
  pub owed : part.owed ≡ []
  pub job_sends : part.job_sends ≡ []

module _ (d : SetupData) (lanes : ℕ) (segment : Segment) (before : Standing) (start part : Part) (begun : IsBegun (arc_value before.version).state start)
    (answers : Answers d (by_lane lanes (asked_in segment.lines before.left.now)) start part) where
  abbrev entries : List Entry
  entries = answers.entries

  abbrev jobs : List JobSeen
  jobs = answers.jobs

  abbrev sent : List SentSeen
  sent = sent_by_entries entries ++ sent_by_jobs jobs

  sent_is : part.sends ++ part.job_sends ≡ sent
  sent_is =
      let first : part.sends ≡ sent_by_entries entries = answers.sends ∙ ap (λ l. l ++ sent_by_entries entries) begun.sends in
      let second : part.job_sends ≡ sent_by_jobs jobs = answers.job_sends ∙ ap (λ l. l ++ sent_by_jobs jobs) begun.job_sends in
      λ i. first i ++ second i

  text_is : part.text ≡ text_of (map entry_line entries)
  text_is = answers.text ∙ ap (λ l. l ++ text_of (map entry_line entries)) begun.text

  owed_is : part.owed ≡ text_of (map job_line jobs)
  owed_is = answers.owed ∙ ap (λ l. l ++ text_of (map job_line jobs)) begun.owed

  -- what the part has come to is taken over where the endpoints are retired and the head is written
  pub runs_one : (names : List (List ℕ)) (number place : ℕ) (ends : List NamedEnd) (retires : List ℕ) (head : List ℕ) (mid after : Standing)
      → AllPairs (λ line later. line.number < later.number) segment.lines → place ≡ (arc_value before.version).state.place → retires ≡ segment.retires
      → head ≡ before.report ++ text_of (map retire_line (retirements names retires ends))
      → mid.report ≡ head ++ ended (segment_line number place) → mid.sends ≡ before.sends → mid.left.now ≡ drop (wanted_by segment.lines) before.left.now
      → AreFlags names (all_retired names retires ends) mid.flags.items → TakesPart names (all_retired names segment.retires ends) part mid after
      → RunsOne d lanes names number segment ends before after
  runs_one names number place ends retires head mid after rise at same begins goes sends left flags takes =
      let standing = all_retired names segment.retires ends in
      let lost = lost_counts names standing sent in
      let retired = retirements names segment.retires ends in
      let seen : SegmentSeen = record { retired = retired; start = (arc_value before.version).state.place; entries = entries; jobs = jobs; lost = lost } in
      let last : state_of part ≡ (arc_value after.version).state = ap (λ (v : VersionValue). v.state) (ap (λ v. arc_value v) (sym takes.rest.version)) in
      let whole = woven d lanes segment.lines before.left.now (state_of start) (state_of part) entries jobs rise answers.done answers.asked_are in
      let tail : part.text ++ (part.owed ++ text_of (lost_lines (lost_counts names standing (part.sends ++ part.job_sends))))
      ≡ text_of (map entry_line entries) ++ (text_of (map job_line jobs) ++ text_of (lost_lines lost)) =
      λ i. text_is i ++ (owed_is i ++ text_of (lost_lines (lost_counts names standing (sent_is i)))) in
      let front : mid.report ≡ before.report ++ (text_of (map retire_line retired) ++ ended (segment_line number seen.start)) =
      goes ∙ ap (λ t. t ++ ended (segment_line number place)) begins
      ∙ (λ i. (before.report ++ text_of (map retire_line (retirements names (same i) ends))) ++ ended (segment_line number (at i)))
      ∙ append_assoc before.report (text_of (map retire_line retired)) (ended (segment_line number seen.start)) in
      record {
        part = seen;
        ends_after = all_received names sent standing;
        run = record {
          retired = refl;
          start = refl;
          woven = subst (λ (x : State × State). IsWoven d lanes (asked_in segment.lines before.left.now) x.0 x.1 entries jobs) (λ i. (begun.state i, last i)) whole;
          left = ap (λ l. l.now) takes.rest.left ∙ left;
          lost = refl;
          ends = refl;
        };
        text =
            takes.report ∙ (λ i. front i ++ tail i)
            ∙ append_assoc before.report (text_of (map retire_line retired) ++ ended (segment_line number seen.start))
            (text_of (map entry_line entries) ++ (text_of (map job_line jobs) ++ text_of (lost_lines lost)))
            ∙ ap (λ t. before.report ++ t) (sym (part_text number seen));
        sends = takes.sends ∙ (λ i. sends i ++ filter (is_received names standing) (sent_is i));
        flags =
            subst (λ f. AreFlags names (all_received names sent standing) f.items) (sym takes.rest.flags)
            (flags_received names sent standing mid.flags.items (subst (λ r. AreFlags names (all_retired names r ends) mid.flags.items) same flags));
      }

  -- and the next segment has what it needs
  pub is_good : (after : Standing) → IsSoundVersion d (arc_value part.version) → after.version ≡ part.version → length after.flags.items ≡ length before.flags.items
      → after.left.now ≡ drop (wanted_by segment.lines) before.left.now → IsGood d segment before after
  is_good after sound version flags left =
      let state : state_of part ≡ (arc_value after.version).state = ap (λ (v : VersionValue). v.state) (ap (λ v. arc_value v) (sym version)) in
      let place = answers_place d (by_lane lanes (asked_in segment.lines before.left.now)) start part answers in
      let few = lanes_few lanes segment.lines before.left.now in
      record {
        sound = subst (IsSoundVersion d) (ap (λ v. arc_value v) (sym version)) sound;
        place = omega (arith, place, few, ap (λ (s : State). s.place) state, ap (λ (s : State). s.place) begun.state);
        flags = flags;
        left = omega (arith, ap length left, length-drop (wanted_by segment.lines) before.left.now);
      }
