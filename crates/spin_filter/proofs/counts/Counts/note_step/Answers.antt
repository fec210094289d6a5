use Rattle.std.proofs.Common.{ℕ, List, rules, Some, refl, sym, ap, ◌∙◌}
use Rattle.std.specs.Prelude.{count_by}
use Rattle.std.specs.List.{filter_map}
use Rattle.spin_proto.specs.declared.reply.Step.{Step}
use Rattle.spin_filter.specs.Counting.{Marked, is_run, is_run_of, is_left_of, dropped_by, sent_to}
use Rattle.spin_filter.proofs.StepCounts.{step-counted, quiet-tells, loud-tells, quiet-hits, quiet-other, quiet-runs, loud-runs}
use Rattle.spin_filter.proofs.counts.Counts.note_step.Goals as goal

abbrev drops : List Marked → List ℕ
drops steps = filter_map (λ m. dropped_by m.taken) steps

abbrev sends : List Marked → List ℕ
sends steps = filter_map (λ m. sent_to m.taken) steps

pub returns-in-Run : goal.returns-in-Run
returns-in-Run c listed h is =
    let s = c.args.step.now in
    let marked : Marked = record { first = c.args.is_first; taken = s } in
    let steps = h.steps in
    step-counted listed h marked c.args.self.now (record c.args.self.now { runs = c.one_more-self.result; hits = c.note_hits.new.hits }) is refl refl refl refl
    (c.one_more-self.ensures (count_by (λ (m : Marked). is_run m.taken) steps) is.runs
    ∙ loud-runs (count_by (λ (m : Marked). is_run m.taken) steps) (is_run s) (ap is_run c.in-Run.is))
    (quiet-tells (drops steps) c.args.self.now.drops (dropped_by s) (ap dropped_by c.in-Run.is) is.drops)
    (quiet-tells (sends steps) c.args.self.now.sends (sent_to s) (ap sent_to c.in-Run.is) is.sends)
    (c.note_hits.ensures.noted steps is.hits) c.note_hits.ensures.listed

pub returns-in-Job : goal.returns-in-Job
returns-in-Job c listed h is =
    let s = c.args.step.now in
    let marked : Marked = record { first = c.args.is_first; taken = s } in
    let steps = h.steps in
    step-counted listed h marked c.args.self.now (record c.args.self.now { hits = c.note_hits-in-Job.new.hits }) is refl refl refl refl
    (is.runs ∙ quiet-runs (count_by (λ (m : Marked). is_run m.taken) steps) (is_run s) (ap is_run c.in-Job.is))
    (quiet-tells (drops steps) c.args.self.now.drops (dropped_by s) (ap dropped_by c.in-Job.is) is.drops)
    (quiet-tells (sends steps) c.args.self.now.sends (sent_to s) (ap sent_to c.in-Job.is) is.sends)
    (c.note_hits-in-Job.ensures.noted steps is.hits) c.note_hits-in-Job.ensures.listed

pub returns-in-Dropped : goal.returns-in-Dropped
returns-in-Dropped c listed h is =
    let s = c.args.step.now in
    let marked : Marked = record { first = c.args.is_first; taken = s } in
    let steps = h.steps in
    step-counted listed h marked c.args.self.now (record c.args.self.now { drops = c.add.new.self }) is refl refl refl refl
    (is.runs ∙ quiet-runs (count_by (λ (m : Marked). is_run m.taken) steps) (is_run s) (ap is_run c.in-Dropped.is))
    (loud-tells (drops steps) c.add.new.self (dropped_by s) c.number.result (ap dropped_by c.in-Dropped.is ∙ ap Some (sym c.number.ensures)) (c.add.ensures.tells (drops steps) is.drops))
    (quiet-tells (sends steps) c.args.self.now.sends (sent_to s) (ap sent_to c.in-Dropped.is) is.sends)
    (quiet-hits steps marked c.args.self.now.hits.items (λ e n. ap (is_run_of e n) c.in-Dropped.is) (λ e n. ap (is_left_of e n) c.in-Dropped.is) is.hits) refl

pub returns-in-Send : goal.returns-in-Send
returns-in-Send c listed h is =
    let s = c.args.step.now in
    let marked : Marked = record { first = c.args.is_first; taken = s } in
    let steps = h.steps in
    step-counted listed h marked c.args.self.now (record c.args.self.now { sends = c.add-in-Send.new.self }) is refl refl refl refl
    (is.runs ∙ quiet-runs (count_by (λ (m : Marked). is_run m.taken) steps) (is_run s) (ap is_run c.in-Send.is))
    (quiet-tells (drops steps) c.args.self.now.drops (dropped_by s) (ap dropped_by c.in-Send.is) is.drops)
    (loud-tells (sends steps) c.add-in-Send.new.self (sent_to s) c.in-Send.endpoint (ap sent_to c.in-Send.is) (c.add-in-Send.ensures.tells (sends steps) is.sends))
    (quiet-hits steps marked c.args.self.now.hits.items (λ e n. ap (is_run_of e n) c.in-Send.is) (λ e n. ap (is_left_of e n) c.in-Send.is) is.hits) refl

pub returns-in_default : goal.returns-in_default
returns-in_default c listed h is =
    let s : Step = c.args.step.now in
    let marked : Marked = record { first = c.args.is_first; taken = s } in
    let steps = h.steps in
    let quiet = quiet-other s (search rules) (search rules) (search rules) (search rules) in
    step-counted listed h marked c.args.self.now c.args.self.now is refl refl refl refl
    (is.runs ∙ quiet-runs (count_by (λ (m : Marked). is_run m.taken) steps) (is_run s) quiet.run)
    (quiet-tells (drops steps) c.args.self.now.drops (dropped_by s) quiet.drop is.drops)
    (quiet-tells (sends steps) c.args.self.now.sends (sent_to s) quiet.send is.sends)
    (quiet-hits steps marked c.args.self.now.hits.items quiet.run_of quiet.left_of is.hits) refl
