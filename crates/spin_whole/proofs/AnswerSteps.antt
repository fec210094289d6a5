-- What a segment comes to, answer after answer.
use Rattle.std.proofs.Common.{◌≡◌, ◌≤◌, ◌+◌, ℕ, List, [], ◌∷◌, ◌++◌, map, length, drop, refl, sym, ap, subst, ◌∙◌, append_assoc, arith}
use Rattle.std.specs.Arc.{arc_value}
use Rattle.std.proofs.lemmas.Grind.{flat_map-append}
use Rattle.std.proofs.lemmas.List.{append-nil, map-append, drop_all}
use Rattle.std.proofs.lemmas.List.Sums.{sum_by-cons}
use Rattle.spin_word.specs.declared.command.TheConstants.{MAX_PLACE}
use Rattle.spin_table.specs.Setups.{SetupData}
use Rattle.spin_table.specs.States.{State, VersionValue}
use Rattle.spin_table.specs.Soundness.{IsSoundVersion}
use Rattle.spin_text.specs.Words.{ended, text_of}
use Rattle.spin_script.specs.declared.script.Line.{Line}
use Rattle.spin_report.specs.declared.entry.Entry.{Entry}
use Rattle.spin_report.specs.Asked.{Numbered, asked_of}
use Rattle.spin_report.specs.Lines.{JobSeen, entry_line, job_line}
use Rattle.spin_report.specs.Legal.{IsNextEntry}
use Rattle.spin_report.specs.Segments.{asked_in, asked_of_lane}
use Rattle.spin_report.specs.Runs.{sends_of, sends_of_reply}
use Rattle.spin_check.proofs.ReplayLemmas.{text_of-append}
use Rattle.spin_whole.specs.declared.part.Part.{Part}
use Rattle.spin_whole.specs.Inner.Parts.{AddsEntry, AreDone, Answers, state_of, commands_asked, sent_by_entries, sent_by_jobs}
use Rattle.spin_whole.proofs.MomentOrder.{place_moves}
use Rattle.spin_whole.proofs.JobSteps.{added_twice}
use Rattle.spin_whole.proofs.LaneAsks.{one_if, commands_both}

-- ---- one entry

-- one entry, at the version that it leads to
pub one_answered : (d : SetupData) (old mid new : Part) (entry : Entry) → IsNextEntry d (state_of old) entry (state_of mid)
    → mid.text ≡ old.text → mid.sends ≡ old.sends → mid.owed ≡ old.owed → mid.job_sends ≡ old.job_sends
    → AddsEntry d entry mid new → Answers d (asked_of entry ∷ []) old new
one_answered d old mid new entry next text sends owed job_sends adds =
    let own = adds.jobs.0 in
    record {
      entries = entry ∷ [];
      jobs = own;
      done = (state_of mid, own, [], next, adds.jobs.1, (refl, ap (λ (v : VersionValue). v.state) (ap (λ v. arc_value v) adds.version)), sym (append-nil own));
      asked_are = refl;
      text = adds.text ∙ (λ i. text i ++ sym (append-nil (ended (entry_line entry))) i);
      sends = adds.sends ∙ (λ i. sends i ++ sym (append-nil (sends_of entry.what)) i);
      owed = adds.jobs.2 ∙ ap (λ l. l ++ text_of (map job_line own)) owed;
      job_sends = adds.jobs.3 ∙ ap (λ l. l ++ sent_by_jobs own) job_sends;
    }

-- ---- one answer after another

done_append : (d : SetupData) (s middle last : State) (es fs : List Entry) (js ks : List JobSeen) → AreDone d s es js middle → AreDone d middle fs ks last → AreDone d s (es ++ fs) (js ++ ks) last
done_append d s middle last [] fs js ks one two =
    subst (λ (x : State × List JobSeen). AreDone d x.0 fs x.1 last) (λ i. (one.1 i, ap (λ l. l ++ ks) (sym one.0) i)) two
done_append d s middle last (e ∷ es) fs js ks one two = (
  one.0,
  one.1,
  one.2 ++ ks,
  one.3,
  one.4,
  done_append d one.0 middle last es fs one.2 ks one.5 two,
  ap (λ l. l ++ ks) one.6 ∙ append_assoc one.1 one.2 ks,
)

pub answers_nothing : (d : SetupData) (part : Part) → Answers d [] part part
answers_nothing d part = record {
  entries = [];
  jobs = [];
  done = (refl, refl);
  asked_are = refl;
  text = sym (append-nil part.text);
  sends = sym (append-nil part.sends);
  owed = sym (append-nil part.owed);
  job_sends = sym (append-nil part.job_sends);
}

pub answers_then : (d : SetupData) (first second : List Numbered) (old middle new : Part) → Answers d first old middle → Answers d second middle new → Answers d (first ++ second) old new
answers_then d first second old middle new a b = record {
  entries = a.entries ++ b.entries;
  jobs = a.jobs ++ b.jobs;
  done = done_append d (state_of old) (state_of middle) (state_of new) a.entries b.entries a.jobs b.jobs a.done b.done;
  asked_are = map-append asked_of a.entries b.entries ∙ (λ i. a.asked_are i ++ b.asked_are i);
  text =
      added_twice old.text middle.text new.text (text_of (map entry_line a.entries)) (text_of (map entry_line b.entries)) (text_of (map entry_line (a.entries ++ b.entries))) a.text b.text
      (ap text_of (map-append entry_line a.entries b.entries) ∙ text_of-append (map entry_line a.entries) (map entry_line b.entries));
  sends =
      added_twice old.sends middle.sends new.sends (sent_by_entries a.entries) (sent_by_entries b.entries) (sent_by_entries (a.entries ++ b.entries)) a.sends b.sends
      (flat_map-append (λ (e : Entry). sends_of e.what) a.entries b.entries);
  owed =
      added_twice old.owed middle.owed new.owed (text_of (map job_line a.jobs)) (text_of (map job_line b.jobs)) (text_of (map job_line (a.jobs ++ b.jobs))) a.owed b.owed
      (ap text_of (map-append job_line a.jobs b.jobs) ∙ text_of-append (map job_line a.jobs) (map job_line b.jobs));
  job_sends =
      added_twice old.job_sends middle.job_sends new.job_sends (sent_by_jobs a.jobs) (sent_by_jobs b.jobs) (sent_by_jobs (a.jobs ++ b.jobs)) a.job_sends b.job_sends
      (flat_map-append (λ (j : JobSeen). sends_of_reply j.reply) a.jobs b.jobs);
}

-- ---- how many commands were accepted

done_place : (d : SetupData) (s last : State) (entries : List Entry) (jobs : List JobSeen) → AreDone d s entries jobs last → last.place ≤ s.place + commands_asked (map asked_of entries)
done_place d s last [] jobs done = omega (arith, ap (λ (t : State). t.place) done.1)
done_place d s last (e ∷ entries) jobs done =
    let one = place_moves d s done.0 e.what done.3.0 in
    let rest = done_place d done.0 last entries done.2 done.5 in
    let sum = sum_by-cons one_if (asked_of e) (map asked_of entries) in
    omega (arith, one, rest, sum)

-- no more than were asked
pub answers_place : (d : SetupData) (asked : List Numbered) (old new : Part) → Answers d asked old new → (state_of new).place ≤ (state_of old).place + commands_asked asked
answers_place d asked old new a =
    let place = done_place d (state_of old) (state_of new) a.entries a.jobs a.done in
    omega (arith, place, ap commands_asked a.asked_are)

-- ---- a lane, line after line

-- The first lines are gone over: what they ask of the lane is answered, and this is what is left to be asked of it.
pub record IsGone (d : SetupData) (whole rest : List Numbered) (start now : Part) : Type 0 where
  pub first : List Numbered
  pub split : whole ≡ first ++ rest
  pub answers : Answers d first start now
  pub sound : IsSoundVersion d (arc_value now.version)

pub gone_none : (d : SetupData) (whole : List Numbered) (part : Part) → IsSoundVersion d (arc_value part.version) → IsGone d whole whole part part
gone_none d whole part sound = record { first = []; split = refl; answers = answers_nothing d part; sound = sound }

pub gone_same : (d : SetupData) (whole rest next : List Numbered) (start now : Part) → rest ≡ next → IsGone d whole rest start now → IsGone d whole next start now
gone_same d whole rest next start now is gone = subst (λ r. IsGone d whole r start now) is gone

pub gone_more : (d : SetupData) (whole rest own next : List Numbered) (start now after : Part) → rest ≡ own ++ next → Answers d own now after → IsSoundVersion d (arc_value after.version)
    → IsGone d whole rest start now → IsGone d whole next start after
gone_more d whole rest own next start now after is answers sound gone = record {
  first = gone.first ++ own;
  split = gone.split ∙ ap (λ r. gone.first ++ r) is ∙ sym (append_assoc gone.first own next);
  answers = answers_then d gone.first own start now after gone.answers answers;
  sound = sound;
}

-- there is room for the commands of what is asked next
pub gone_room : (d : SetupData) (whole rest own next : List Numbered) (start now : Part) → rest ≡ own ++ next → (state_of start).place + commands_asked whole ≤ MAX_PLACE
    → IsGone d whole rest start now → (state_of now).place + commands_asked own ≤ MAX_PLACE
gone_room d whole rest own next start now is room gone =
    let place = answers_place d gone.first start now gone.answers in
    let all = ap commands_asked gone.split ∙ commands_both gone.first rest in
    let left = ap commands_asked is ∙ commands_both own next in
    omega (arith, place, all, left, room)

pub gone_all : (d : SetupData) (whole : List Numbered) (start now : Part) (lane i : ℕ) (lines : List Line) (left : List (List ℕ)) → length lines ≤ i
    → IsGone d whole (asked_of_lane lane (asked_in (drop i lines) left)) start now → Answers d whole start now
gone_all d whole start now lane i lines left past gone =
    let none : asked_of_lane lane (asked_in (drop i lines) left) ≡ [] = ap (λ ls. asked_of_lane lane (asked_in ls left)) (drop_all i lines past) in
    subst (λ a. Answers d a start now) (sym (gone.split ∙ ap (λ r. gone.first ++ r) none ∙ append-nil gone.first)) gone.answers
