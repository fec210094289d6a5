-- What is legal after a renewal is legal under the numbers before it.
use Rattle.std.proofs.Common.{◌≡◌, ℕ, ◌+◌, ◌-◌, ◌<◌, ◌≤◌, List, [], ◌∷◌, ◌++◌, map, length, refl, sym, ap, ◌∙◌, subst, arith}
use Rattle.std.specs.Prelude.{All, Option, None, Some, MatchOption}
use Rattle.std.proofs.lemmas.List.Elements.{All-head, All-tail}
use Rattle.spin_word.specs.Commands.{no_number}
use Rattle.spin_word.specs.declared.command.Command.{Command}
use Rattle.spin_table.specs.declared.refusal.Refusal.{Refusal}
use Rattle.spin_table.specs.declared.refusal.Verdicted.{Verdicted}
use Rattle.spin_table.specs.declared.refusal.Verdicted.TheVariants as verdicted
use Rattle.spin_table.specs.Setups.{SetupData}
use Rattle.spin_table.specs.States.{State}
use Rattle.spin_table.specs.Refusals.{refusal_of}
use Rattle.spin_table.specs.Steps.{ChangesTo}
use Rattle.spin_table.specs.Renamings.{Rises, IsRenamed}
use Rattle.spin_table.specs.Renewals.{live_numbers, old_number, renewed}
use Rattle.spin_table.proofs.RenamedSteps.{renamed_steps}
use Rattle.spin_table.proofs.RenewedNumbers.{old_zero}
use Rattle.spin_table.proofs.Renewing.{renewals_rename}
use Rattle.spin_proto.proofs.RenamedReplies.{replies_both}
use Rattle.spin_seat.specs.Answers.{Exchange, command, deed, Answer, LeadsTo, AreLegalAnswers}
use Rattle.spin_seat.specs.Renewals.{renamed_said, renamed_answer, NamesStay, StaysNamed, before_renewal, AnswersAreRenamed, RenewalsGoOn}

-- a step leaves the place, or raises it by one
changes_rises : (d : SetupData) (s : State) (c : Command) (v : Verdicted) (next : State) → ChangesTo d s c v next → (s.place ≤ next.place) × (next.place ≤ s.place + 1)
changes_rises d s c verdicted.Accepted next h = let e = ap (λ (t : State). t.place) h.0 in (omega arith, omega arith)
changes_rises d s c (verdicted.Refused r) next h = let e = ap (λ (t : State). t.place) h.0 in (omega arith, omega arith)

step_rises : (d : SetupData) (s : State) (c : Command) (v : Verdicted) (next : State) (o : Option Refusal)
    → MatchOption o (ChangesTo d s c v next) (λ r. (v ≡ verdicted.Refused r) × (next ≡ s)) → (s.place ≤ next.place) × (next.place ≤ s.place + 1)
step_rises d s c v next None h = changes_rises d s c v next h
step_rises d s c v next (Some r) h = let e = ap (λ (t : State). t.place) h.1 in (omega arith, omega arith)

-- one answer in both states
record BothLead (d : SetupData) (to : ℕ → ℕ) (s t next : State) (said : Exchange) : Type 0 where
  other : State
  leads : LeadsTo d t (renamed_said to said) other
  same : IsRenamed to next other
  low : s.place ≤ next.place
  high : next.place ≤ s.place + 1

both_lead : (d : SetupData) (to : ℕ → ℕ) (s t next : State) (said : Exchange) → Rises to → to 0 ≡ 0 → IsRenamed to s t → t.place + 1 < no_number
    → NamesStay to said → LeadsTo d s said next → BothLead d to s t next said
both_lead d to s t next (command c v) rises zero same room named step =
    let r = renamed_steps d to s t c v next rises same room named.0 named.1 step in
    let up = step_rises d s c v next (refusal_of d s c) step in
    record { other = r.0; leads = r.1; same = r.2; low = up.0; high = up.1 }
both_lead d to s t next (deed asked reply) rises zero same room named h =
    let e = ap (λ (u : State). u.place) h.1 in
    record {
      other = t;
      leads = (replies_both d to s t asked reply rises zero same h.0, refl);
      same = subst (λ (u : State). IsRenamed to u t) (sym h.1) same;
      low = omega arith;
      high = omega arith;
    }

-- the other state's place follows
place_follows : (to : ℕ → ℕ) (s t next other : State) → IsRenamed to s t → IsRenamed to next other → s.place ≤ next.place → other.place ≡ t.place + (next.place - s.place)
place_follows to s t next other a b up =
    let k = next.place - s.place in
    let same : next.place + 1 + 0 ≡ s.place + 1 + k = omega (arith, up) in
    let e : other.place + 1 + 0 ≡ t.place + 1 + k = sym (b.coming 0) ∙ (ap to same ∙ a.coming k) in
    omega (arith, e)

legal_both : (d : SetupData) (to : ℕ → ℕ) (first second : ℕ) (s t last : State) (answers : List Answer) → Rises to → to 0 ≡ 0 → IsRenamed to s t
    → first ≤ s.place → t.place ≡ second + (s.place - first) → t.place + length answers < no_number → All (StaysNamed to) answers → AreLegalAnswers d s answers last
    → (other : State) × AreLegalAnswers d t (map (renamed_answer to first second) answers) other × IsRenamed to last other
legal_both d to first second s t last [] rises zero same low at room named legal = (t, refl, subst (λ (u : State). IsRenamed to u t) (sym legal) same)
legal_both d to first second s t last (answer ∷ answers) rises zero same low at room named legal =
    let next = legal.0 in
    let one = both_lead d to s t next answer.said rises zero same (omega (arith, room)) (All-head (StaysNamed to) answer answers named) legal.1 in
    let up = one.low in
    let few = one.high in
    let follows = place_follows to s t next one.other same one.same up in
    let at' : one.other.place ≡ second + (next.place - first) = omega (arith, follows, at, low, up) in
    let more = legal_both d to first second next one.other last answers rises zero one.same (omega (arith, low, up)) at'
    (omega (arith, room, follows, few, up)) (All-tail (StaysNamed to) answer answers named) legal.3 in
    (more.0, (one.other, one.leads, ap (λ p. second + (p - first)) legal.2 ∙ sym at', more.1), more.2)

pub answers_are_renamed : AnswersAreRenamed
answers_are_renamed d to s t last answers rises zero same room named legal =
    legal_both d to s.place t.place s t last answers rises zero same (omega arith) (omega arith) room named legal

legal_append : (d : SetupData) (s middle last : State) (xs ys : List Answer) → AreLegalAnswers d s xs middle → AreLegalAnswers d middle ys last → AreLegalAnswers d s (xs ++ ys) last
legal_append d s middle last [] ys h k = subst (λ (u : State). AreLegalAnswers d u ys last) h k
legal_append d s middle last (x ∷ xs) ys h k = (h.0, h.1, h.2, legal_append d h.0 middle last xs ys h.3 k)

pub renewals_go_on : RenewalsGoOn
renewals_go_on d first s last before after sound given room named legal later =
    let live = live_numbers s in
    let same = renewals_rename d s sound given (omega (arith, room)) in
    let r = answers_are_renamed d (old_number live s.place) (renewed s) s last after same.0 (old_zero live s.place) same.1 room named later in
    (r.0, legal_append d first s r.0 before (before_renewal s after) legal r.1, r.2)
