-- The first segment: the script's commands, one after another.
use Rattle.std.proofs.Common.{◌≡◌, ℕ, ◌<◌, ◌≤◌, List, [], ◌∷◌, ◌++◌, map, drop, filter, refl, sym, ap, subst, ◌∙◌, arith}
use Rattle.std.specs.Prelude.{All, AllPairs}
use Rattle.std.specs.List.{flat_map, filter_map}
use Rattle.std.proofs.lemmas.List.Elements.{All-nil, All-cons, All-head, All-tail, All-filter, All-weaker}
use Rattle.std.proofs.lemmas.List.Kept.{AllPairs-filter}
use Rattle.spin_word.specs.declared.work.Work.{Work}
use Rattle.spin_word.specs.declared.work.Work.TheVariants as work
use Rattle.spin_table.specs.declared.refusal.Verdicted.{Verdicted}
use Rattle.spin_table.specs.Setups.{SetupData}
use Rattle.spin_table.specs.States.{State}
use Rattle.spin_endpoint.specs.Named.{NamedEnd}
use Rattle.spin_endpoint.specs.Sends.{all_received}
use Rattle.spin_endpoint.proofs.ReceivedSends.{all_received_none}
use Rattle.spin_script.specs.declared.script.Line.{Line}
use Rattle.spin_script.specs.Soundness.{lines_in, is_command_work}
use Rattle.spin_script.specs.States.{ScriptData}
use Rattle.spin_script.specs.Segments.{IsOnLane}
use Rattle.spin_report.specs.declared.entry.What.TheVariants as what
use Rattle.spin_report.specs.declared.entry.Entry.{Entry}
use Rattle.spin_report.specs.Histories.{SegmentSeen}
use Rattle.spin_report.specs.Legal.{IsLegal}
use Rattle.spin_report.specs.Jobs.{AreJobs}
use Rattle.spin_report.specs.Asked.{asked_of}
use Rattle.spin_report.specs.Segments.{asked_in, asked_of_lane, wanted_by}
use Rattle.spin_report.specs.Runs.{sends_of, lost_counts, IsSegmentRun}
use Rattle.spin_report.proofs.Asking.{IsLater, asked_rises}
use Rattle.spin_filter.specs.Commands.{commands_of, AreGiven}
use Rattle.spin_filter.specs.Rounds.{turns_of, lane_of, AreSuited}
use Rattle.spin_filter_law.specs.Laws.{command_segment, verdict_in, reply_in, answered_in, at_commands}
use Rattle.spin_filter_law.proofs.EntryOrder.{in_order}

-- ---- lanes

pub of_one_lane : (lane : ℕ) (round : List ℕ) (lines : List Line) → AreSuited lane round lines → All (λ (line : Line). line.lane ≡ lane) lines
of_one_lane lane round [] suited = All-nil (λ (line : Line). line.lane ≡ lane)
of_one_lane lane round (line ∷ lines) (here, rest) =
    All-cons (λ (x : Line). x.lane ≡ lane) line lines here.lane_is (of_one_lane lane (round ++ turns_of line.work) lines rest)

pub lane_below : (lanes : ℕ) (lines : List Line) → 1 ≤ lanes → All (IsOnLane lanes) lines → lane_of lines < lanes
lane_below lanes [] some on = omega (arith, some)
lane_below lanes (line ∷ lines) some on = let here = All-head (IsOnLane lanes) line lines on in here.below

-- ---- entries

abbrev command_lines : List Line → List Line
command_lines lines = filter (λ (line : Line). is_command_work line.work) lines

-- these lines, which all are commands, with their verdicts, as entries
record AreAnswered (d : SetupData) (s last : State) (lines : List Line) (verdicts : List Verdicted) : Type 0 where
  entries : List Entry
  legal : IsLegal d s entries last
  jobs : AreJobs d s entries []
  asked : (records : List (List ℕ)) → map asked_of entries ≡ asked_in lines records
  wanted : wanted_by lines ≡ 0
  lanes : (lane : ℕ) → All (λ (line : Line). line.lane ≡ lane) lines → All (λ (entry : Entry). entry.lane ≡ lane) entries
  verdicts_are : filter_map (λ (entry : Entry). verdict_in entry.what) entries ≡ verdicts
  replies_are : filter_map (λ (entry : Entry). reply_in entry.what) entries ≡ []
  silent : flat_map (λ (entry : Entry). sends_of entry.what) entries ≡ []

abbrev line_with : ℕ → ℕ → Work → Line
line_with number lane w = record { number = number; lane = lane; work = w }

one_line : (d : SetupData) (s last : State) (number lane : ℕ) (w : Work) (lines : List Line) (verdicts : List Verdicted)
    → ((then : State) (others : List Verdicted) → AreGiven d then (commands_of lines) others last → AreAnswered d then last (command_lines lines) others)
    → AreGiven d s (commands_of (line_with number lane w ∷ lines)) verdicts last → AreAnswered d s last (command_lines (line_with number lane w ∷ lines)) verdicts
one_line d s last number lane (work.Command c) lines verdicts rest (verdict, others, next, is, split, given) =
    let more = rest next others given in
    let entry : Entry = record { place = next.place; lane = lane; line = number; part = 0; what = what.Command c verdict } in
    record {
      entries = entry ∷ more.entries;
      legal = (next, (is, refl), more.legal);
      jobs = (next, [], [], (is, refl), refl, more.jobs, refl);
      asked = λ records. ap (λ asked. asked_of entry ∷ asked) (more.asked records);
      wanted = more.wanted;
      lanes = λ k own.
          All-cons (λ (x : Entry). x.lane ≡ k) entry more.entries (All-head (λ (line : Line). line.lane ≡ k) (line_with number lane (work.Command c)) (command_lines lines) own)
          (more.lanes k (All-tail (λ (line : Line). line.lane ≡ k) (line_with number lane (work.Command c)) (command_lines lines) own));
      verdicts_are = ap (λ vs. verdict ∷ vs) more.verdicts_are ∙ sym split;
      replies_are = more.replies_are;
      silent = more.silent;
    }
one_line d s last number lane (work.Deed asked) lines verdicts rest given = rest s verdicts given
one_line d s last number lane (work.Packet event count) lines verdicts rest given = rest s verdicts given

all_lines : (d : SetupData) (s last : State) (lines : List Line) (verdicts : List Verdicted) → AreGiven d s (commands_of lines) verdicts last
    → AreAnswered d s last (command_lines lines) verdicts
all_lines d s last [] verdicts given = record {
  entries = [];
  legal = given.1;
  jobs = refl;
  asked = λ records. refl;
  wanted = refl;
  lanes = λ k own. All-nil (λ (entry : Entry). entry.lane ≡ k);
  verdicts_are = sym given.0;
  replies_are = refl;
  silent = refl;
}
all_lines d s last (line ∷ lines) verdicts given =
    one_line d s last line.number line.lane line.work lines verdicts (λ then others more. all_lines d then last lines others more) given

-- ---- the segment

-- a run of the script's commands
pub record HasBegun (script : ScriptData) (s last : State) (records : List (List ℕ)) (ends : List NamedEnd) (verdicts : List Verdicted) : Type 0 where
  pub seen : SegmentSeen
  pub run : IsSegmentRun script.setup script.lanes script.endpoints (command_segment script) (record { state = s; left = records; ends = ends }) seen
      (record { state = last; left = records; ends = ends })
  pub answers : answered_in seen ≡ at_commands verdicts

module _ (script : ScriptData) (s last : State) (records : List (List ℕ)) (ends : List NamedEnd) (verdicts : List Verdicted)
    (lane : ℕ) (below : lane < script.lanes) (own : All (λ (line : Line). line.lane ≡ lane) (lines_in script.segments))
    (rise : AllPairs (λ (line later : Line). line.number < later.number) (lines_in script.segments))
    (given : AreGiven script.setup s (commands_of (lines_in script.segments)) verdicts last) where
  abbrev own_lines : List Line
  own_lines = command_lines (lines_in script.segments)

  answered : AreAnswered script.setup s last own_lines verdicts
  answered = all_lines script.setup s last (lines_in script.segments) verdicts given

  entries_own : All (λ (entry : Entry). entry.lane ≡ lane) answered.entries
  entries_own = answered.lanes lane (All-filter (λ (line : Line). is_command_work line.work) (λ (line : Line). line.lane ≡ lane) (lines_in script.segments) own)

  later : AllPairs IsLater (map asked_of answered.entries)
  later =
      subst (AllPairs IsLater) (sym (answered.asked records))
      (asked_rises own_lines records (AllPairs-filter (λ (line later : Line). line.number < later.number) (λ (line : Line). is_command_work line.work) (lines_in script.segments) rise))

  abbrev told : SegmentSeen
  told = record { retired = []; start = s.place; entries = answered.entries; jobs = []; lost = lost_counts script.endpoints ends (flat_map (λ (entry : Entry). sends_of entry.what) answered.entries ++ []) }

  pub begun : HasBegun script s last records ends verdicts
  begun = record {
    seen = told;
    run = record {
      retired = refl;
      start = refl;
      woven = record {
        legal = answered.legal;
        once = λ k lt. ap (asked_of_lane k) (answered.asked records);
        lanes_are = All-weaker (λ (entry : Entry). entry.lane ≡ lane) (λ (entry : Entry). entry.lane < script.lanes) (λ entry same. omega (arith, same, below)) answered.entries entries_own;
        order = in_order script.setup s last lane answered.entries answered.legal later entries_own;
        jobs_are = answered.jobs;
      };
      left = ap (λ n. drop n records) (sym answered.wanted);
      lost = refl;
      ends = sym (ap (λ sends. all_received script.endpoints (sends ++ []) ends) answered.silent ∙ all_received_none script.endpoints ends);
    };
    answers = λ i. record { verdicts = answered.verdicts_are i; replies = answered.replies_are i; jobs = [] };
  }
