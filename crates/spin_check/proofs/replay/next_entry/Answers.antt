use Rattle.std.proofs.Common.{◌≡◌, ◌<◌, ℕ, [], subst}
use Rattle.std.specs.Prelude.{Option, None, Some}
use Rattle.std.specs.Arc.{arc_value}
use Rattle.spin_table.specs.SetupOf.{data_of}
use Rattle.spin_text.specs.Words.{ended}
use Rattle.spin_report.specs.declared.entry.Entry.{Entry}
use Rattle.spin_report.specs.Lines.{entry_line}
use Rattle.spin_check.specs.Inner.Told.{Begins}
use Rattle.spin_check.specs.Inner.Answers.{IsAnswered}
use Rattle.spin_check.specs.Inner.Fronts.{IsBehind}
use Rattle.spin_check.specs.Inner.Replays.{At, Follows}
use Rattle.spin_check.proofs.ReplaySteps.{no_lane, no_ask, no_answer, no_line, no_order, found_next, ask_valid, ask_room}
use Rattle.spin_check.proofs.replay.next_entry.Goals as goal

pub returns-in_default : goal.returns-in_default
returns-in_default g c = λ owed sends job_sends.
    let d = data_of c.args.setup.now in
    let now : At = record { state = (arc_value c.args.version.now).state; tests = (arc_value c.args.version.now).tests; queues = c.args.deeds.now; last = c.args.last.now; rest = c.args.report.now; owed = owed; sends = sends; job_sends = job_sends } in
    no_lane d now c.requires.lanes c.in_default.ensures

pub returns-in_default-take_next : goal.returns-in_default-take_next
returns-in_default-take_next g c = λ owed sends job_sends.
    let d = data_of c.args.setup.now in
    let now : At = record { state = (arc_value c.args.version.now).state; tests = (arc_value c.args.version.now).tests; queues = c.args.deeds.now; last = c.args.last.now; rest = c.args.report.now; owed = owed; sends = sends; job_sends = job_sends } in
    let lane = c.in-Some.lane in
    let told : (entry : Entry) → entry.lane < 10 → Begins now.rest entry → ◌≡◌ {A = Option ℕ} (Some lane) (Some entry.lane) = c.in-Some.ensures in
    no_ask d now c.requires.lanes lane told c.in_default-take_next.ensures

pub answer-requires-clause-valid : goal.answer-requires-clause-valid
answer-requires-clause-valid g c =
    let d = data_of c.args.setup.now in
    let now : At = record { state = (arc_value c.args.version.now).state; tests = (arc_value c.args.version.now).tests; queues = c.args.deeds.now; last = c.args.last.now; rest = c.args.report.now; owed = []; sends = []; job_sends = [] } in
    let lane = c.in-Some.lane in
    let told : (entry : Entry) → entry.lane < 10 → Begins now.rest entry → ◌≡◌ {A = Option ℕ} (Some lane) (Some entry.lane) = c.in-Some.ensures in
    let ask = c.in-Some-take_next.ask in
    let taken = c.in-Some-take_next.ensures in
    ask_valid d now c.requires.lanes lane told ask taken.0 taken.1 c.requires.valid

pub answer-requires-clause-room : goal.answer-requires-clause-room
answer-requires-clause-room g c =
    let d = data_of c.args.setup.now in
    let now : At = record { state = (arc_value c.args.version.now).state; tests = (arc_value c.args.version.now).tests; queues = c.args.deeds.now; last = c.args.last.now; rest = c.args.report.now; owed = []; sends = []; job_sends = [] } in
    let lane = c.in-Some.lane in
    let told : (entry : Entry) → entry.lane < 10 → Begins now.rest entry → ◌≡◌ {A = Option ℕ} (Some lane) (Some entry.lane) = c.in-Some.ensures in
    let ask = c.in-Some-take_next.ask in
    let taken = c.in-Some-take_next.ensures in
    ask_room d now c.requires.lanes lane told ask taken.0 taken.1 c.requires.room

pub returns-in_default-answered : goal.returns-in_default-answered
returns-in_default-answered g c = λ owed sends job_sends.
    let d = data_of c.args.setup.now in
    let now : At = record { state = (arc_value c.args.version.now).state; tests = (arc_value c.args.version.now).tests; queues = c.args.deeds.now; last = c.args.last.now; rest = c.args.report.now; owed = owed; sends = sends; job_sends = job_sends } in
    let lane = c.in-Some.lane in
    let told : (entry : Entry) → entry.lane < 10 → Begins now.rest entry → ◌≡◌ {A = Option ℕ} (Some lane) (Some entry.lane) = c.in-Some.ensures in
    let ask = c.in-Some-take_next.ask in
    let taken = c.in-Some-take_next.ensures in
    let none : IsAnswered d now.state ask now.rest None = subst (IsAnswered d now.state ask now.rest) c.in_default-answered.is c.in_ok-answered.ensures in
    no_answer d now c.requires.lanes lane told ask taken.0 taken.1 none

pub returns-in_default-2 : goal.returns-in_default-2
returns-in_default-2 g c = λ owed sends job_sends.
    let d = data_of c.args.setup.now in
    let now : At = record { state = (arc_value c.args.version.now).state; tests = (arc_value c.args.version.now).tests; queues = c.args.deeds.now; last = c.args.last.now; rest = c.args.report.now; owed = owed; sends = sends; job_sends = job_sends } in
    let lane = c.in-Some.lane in
    let told : (entry : Entry) → entry.lane < 10 → Begins now.rest entry → ◌≡◌ {A = Option ℕ} (Some lane) (Some entry.lane) = c.in-Some.ensures in
    let ask = c.in-Some-take_next.ask in
    let taken = c.in-Some-take_next.ensures in
    let answered = c.in-Some-answered.answered in
    let is : IsAnswered d now.state ask now.rest (Some answered) = subst (IsAnswered d now.state ask now.rest) c.in-Some-answered.is c.in_ok-answered.ensures in
    let none : IsBehind (ended (entry_line answered.entry)) now.rest None = subst (IsBehind (ended (entry_line answered.entry)) now.rest) c.in_default-2.is c.in_ok-rest.ensures in
    no_line d now c.requires.lanes lane told ask taken.0 taken.1 answered is none

pub returns-then-not-follows : goal.returns-then-not-follows
returns-then-not-follows g c = λ owed sends job_sends.
    let d = data_of c.args.setup.now in
    let now : At = record { state = (arc_value c.args.version.now).state; tests = (arc_value c.args.version.now).tests; queues = c.args.deeds.now; last = c.args.last.now; rest = c.args.report.now; owed = owed; sends = sends; job_sends = job_sends } in
    let lane = c.in-Some.lane in
    let told : (entry : Entry) → entry.lane < 10 → Begins now.rest entry → ◌≡◌ {A = Option ℕ} (Some lane) (Some entry.lane) = c.in-Some.ensures in
    let ask = c.in-Some-take_next.ask in
    let taken = c.in-Some-take_next.ensures in
    let answered = c.in-Some-answered.answered in
    let is : IsAnswered d now.state ask now.rest (Some answered) = subst (IsAnswered d now.state ask now.rest) c.in-Some-answered.is c.in_ok-answered.ensures in
    let none : Follows now.last answered.entry → ⊥ = λ h. absurd (cc (c.follows.ensures.1 h, c.if-not-follows.true)) in
    no_order d now c.requires.lanes lane told ask taken.0 taken.1 answered is none

pub returns : goal.returns
returns g c = λ owed sends job_sends.
    let d = data_of c.args.setup.now in
    let now : At = record { state = (arc_value c.args.version.now).state; tests = (arc_value c.args.version.now).tests; queues = c.args.deeds.now; last = c.args.last.now; rest = c.args.report.now; owed = owed; sends = sends; job_sends = job_sends } in
    let lane = c.in-Some.lane in
    let told : (entry : Entry) → entry.lane < 10 → Begins now.rest entry → ◌≡◌ {A = Option ℕ} (Some lane) (Some entry.lane) = c.in-Some.ensures in
    let ask = c.in-Some-take_next.ask in
    let taken = c.in-Some-take_next.ensures in
    let answered = c.in-Some-answered.answered in
    let is : IsAnswered d now.state ask now.rest (Some answered) = subst (IsAnswered d now.state ask now.rest) c.in-Some-answered.is c.in_ok-answered.ensures in
    let rest = c.in-Some-2.rest in
    let text : IsBehind (ended (entry_line answered.entry)) now.rest (Some rest) = subst (IsBehind (ended (entry_line answered.entry)) now.rest) c.in-Some-2.is c.in_ok-rest.ensures in
    let low : ask.lane < 10 = (ask_valid d now c.requires.lanes lane told ask taken.0 taken.1 c.requires.valid).1 in
    found_next d now c.requires.lanes lane told ask taken.0 taken.1 answered is c.take_next.new.self rest low text (c.follows.ensures.0 c.if-not-follows.false) taken.2
