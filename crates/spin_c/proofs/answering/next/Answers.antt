use Rattle.std.proofs.Common.{Bool, arith, length, sym, ap, subst, ◌∙◌, inl}
use Rattle.spin_c.specs.declared.moves.Upshot.TheVariants as upshot
use Rattle.spin_c.specs.Moves.{IsLeft, is_last}
use Rattle.spin_c.specs.Raisings.{IsWellOpened, setup_of}
use Rattle.spin_c.specs.Uttered.{turn_told}
use Rattle.spin_c.proofs.OpenAnswers.{idle_so}
use Rattle.spin_c.proofs.answering.next.Goals as goal
use Rattle.spin_c.proofs.answering.next.Goals.{then-is_last, else-is_last}

pub next-requires-clause-well : goal.next-requires-clause-well
next-requires-clause-well g c = rw c.setup-setup.ensures (rw c.deref.ensures (rw c.in-Open.is at c.requires.well))

pub overflow_cast-around : goal.overflow_cast-around
overflow_cast-around g c =
    let o = c.in-Open.opened in
    let well = rw c.in-Open.is at c.requires.well in
    let ends = (c.nesting_ends.ensures (setup_of o) o.raise well).0 in
    let events = rw c.deref.ensures at (rw c.setup-setup.ensures at c.events-events.ensures) in
    omega (arith, ends, events.value, events.few, c.around-around.ensures)

pub returns-after-is_last-clause-well : goal.returns-after-is_last-clause-well
returns-after-is_last-clause-well g c =
    elim c.if-is_last.branch [
      | then-is_last w ↦ rw w.raising-is (idle_so (λ x. IsWellOpened x) w.leave.new.raising w.leave.ensures)
      | else-is_last w ↦ rw w.raising-is (rw c.deref.ensures at (rw c.setup-setup.ensures at c.in-Ok.ensures.well))
    ]

pub returns-after-is_last-clause-moves : goal.returns-after-is_last-clause-moves
returns-after-is_last-clause-moves g c =
    let o = c.in-Open.opened in let r = c.next.new.self in let turn = c.in-Ok.turn in let after = c.if-is_last.raising in
    let did = rw c.deref.ensures at (rw c.setup-setup.ensures at c.in-Ok.ensures) in
    let is = sym (c.is_last.ensures ∙ ap (is_last turn) c.around-around.ensures) in
    let left : IsLeft (is_last turn (length o.raise.below)) (record o { raise = r }) after =
    elim c.if-is_last.branch [
      | then-is_last w ↦ subst (λ (b : Bool). IsLeft b (record o { raise = r }) after) (sym (is ∙ w.if-is_last.true)) (rw w.raising-is w.leave.ensures)
      | else-is_last w ↦ subst (λ (b : Bool). IsLeft b (record o { raise = r }) after) (sym (is ∙ w.if-is_last.false)) w.raising-is
    ] in
    rw c.in-Open.is (inl record {
      next = turn;
      raise = r;
      comes = did.turn;
      gone = did.given;
      left = left;
      told_is = ap upshot.Told (c.turn_told.ensures ∙ ap (λ n. turn_told n turn) c.around-around.ensures);
    })
