use Rattle.std.proofs.Common.{◌≡◌, [], sym, subst}
use Rattle.std.specs.Prelude.{All, None}
use Rattle.spin_log.specs.Pens.{PenValue, StandsIn}
use Rattle.spin_log.proofs.RowLists.{all_map}
use Rattle.spin_table.specs.SetupOf.{data_of}
use Rattle.spin_seat.specs.Seats.{SeatValue}
use Rattle.spin_seat.proofs.SeatInvariants.{all_unmap}
use Rattle.spin_seat.proofs.ClosedLogs.{closed_clean, closed_legal}
use Rattle.spin_seat.proofs.hub.Hub.close_into.Goals as goal

pub close_into-requires : goal.close_into-requires
close_into-requires g c =
    subst (All (λ (p : PenValue). p.log ≡ c.args.self.log.id)) (sym c.pens_of-pens.ensures)
    (all_map (λ (p : PenValue). p.log ≡ c.args.self.log.id) (λ (s : SeatValue). s.pen) c.args.seats c.requires.own)

pub returns-clause-each : goal.returns-clause-each
returns-clause-each g c =
    all_unmap (StandsIn c.close_into.result) (λ (s : SeatValue). s.pen) c.args.seats (subst (All (StandsIn c.close_into.result)) c.pens_of-pens.ensures c.close_into.ensures.pens)

pub returns-clause-clean : goal.returns-clause-clean
returns-clause-clean g c = λ first are.
    let nobody : SeatValue = record { pen = record { log = c.args.self.log.id; lanes = 0; lane = 0; front = []; own = []; pins = [] }; base = first; state = first; tests = []; pending = None } in
    closed_clean (data_of c.args.self.setup) first c.args.self.log.lanes c.args.seats c.close_into.result nobody c.requires.seats are
    (record { all = c.requires.all; order = c.requires.order; each = returns-clause-each g c; rows = c.close_into.ensures.rows.0 })

pub returns-clause-legal : goal.returns-clause-legal
returns-clause-legal g c = λ first are.
    let nobody : SeatValue = record { pen = record { log = c.args.self.log.id; lanes = 0; lane = 0; front = []; own = []; pins = [] }; base = first; state = first; tests = []; pending = None } in
    closed_legal (data_of c.args.self.setup) first c.args.self.log.lanes c.args.seats c.close_into.result nobody c.requires.seats are
    (record { all = c.requires.all; order = c.requires.order; each = returns-clause-each g c; rows = c.close_into.ensures.rows.0 })
