use Rattle.std.proofs.Common.{ℕ, length, ◌≤◌, ap, subst, ◌∙◌}
use Rattle.std.specs.Prelude.{All}
use Rattle.std.proofs.lemmas.List.{nil_from_length}
use Rattle.spin_word.specs.declared.command.TheConstants.{MAX_PLACE}
use Rattle.spin_log.specs.Rows.{IsCommandBelow}
use Rattle.spin_log.specs.Pens.{LogValue, StandsIn}
use Rattle.spin_log.proofs.PenNotes.{stands_in, rows_below, history_of}
use Rattle.spin_log.proofs.log.Log.close_into.Goals as goal

pub read_rows-requires-clause-empty : goal.read_rows-requires-clause-empty
read_rows-requires-clause-empty c = nil_from_length c.args.room.rows.items c.args.room.empty

pub returns-clause-pens : goal.returns-clause-pens
returns-clause-pens c =
    subst (All (StandsIn c.from_vec.result)) c.gather-taker.ensures.pens
    (stands_in _ _ _ _ _ _ c.close_with-closed.ensures.values.2 c.from_vec.result (λ log st. c.from_vec.ensures ∙ c.read_rows.ensures _ log st))

pub returns-clause-history : goal.returns-clause-history
returns-clause-history c =
    history_of _ _ _ _ _ _ c.close_with-closed.ensures.values.2 c.from_vec.result (λ log st. c.from_vec.ensures ∙ c.read_rows.ensures _ log st) _ c.gather-taker.ensures.pens

pub returns-clause-rows : goal.returns-clause-rows
returns-clause-rows c =
    subst (λ (lanes : ℕ). All (IsCommandBelow lanes) c.from_vec.result × (length c.from_vec.result ≤ MAX_PLACE)) (ap (λ (l : LogValue). l.lanes) c.self.view_is)
    (rows_below _ _ _ _ _ c.close_with-closed.ensures.values.2 c.from_vec.result (λ log st. c.from_vec.ensures ∙ c.read_rows.ensures _ log st))
