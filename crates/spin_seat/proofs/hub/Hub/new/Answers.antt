use Rattle.std.proofs.Common.{List, ◌∙◌, sym, ap, subst, length, [], ◌≡◌, ◌≤◌, arith}
use Rattle.std.specs.Arc.{arc_value}
use Rattle.std.specs.Prelude.{All}
use Rattle.std.proofs.lemmas.List.{length-map}
use Rattle.spin_log.specs.Pens.{PenValue}
use Rattle.spin_word.specs.declared.command.TheConstants.{MAX_PLACE}
use Rattle.spin_table.specs.SetupOf.{data_of}
use Rattle.spin_table.specs.States.{State, VersionValue, start_of}
use Rattle.spin_table.specs.Soundness.{IsSoundVersion}
use Rattle.spin_table.specs.Renewals.{NameGiven}
use Rattle.spin_table.proofs.Given.{names_stay_given}
use Rattle.spin_seat.specs.Seats.{SeatValue, IsSeatFrom}
use Rattle.spin_seat.proofs.SeatInvariants.{new_know_nothing, new_of_log, new_count, new_lanes, all_unmap}
use Rattle.spin_seat.proofs.hub.Hub.new.Goals as goal

pub seats_of-requires-clause-new : goal.seats_of-requires-clause-new
seats_of-requires-clause-new g c = subst (λ (pens : List PenValue). All (λ (p : PenValue). p.front ≡ []) pens) (sym c.in_ok-log.ensures.pens)
    (new_know_nothing c.in_ok-log.log.id c.args.lanes 0 c.args.lanes)

pub seats_of-requires-clause-fits : goal.seats_of-requires-clause-fits
seats_of-requires-clause-fits g c =
    let is : (arc_value c.in_ok-first.first).state ≡ start_of (data_of c.args.setup) = ap (λ (v : VersionValue). v.state) c.in_ok-first.ensures.ok ∙ c.in_ok-start.ensures.start in
    subst (λ (s : State). s.place ≤ MAX_PLACE) (sym is) (omega arith)

pub seats_of-requires-clause-sound : goal.seats_of-requires-clause-sound
seats_of-requires-clause-sound g c = subst (IsSoundVersion (data_of c.args.setup)) (sym c.in_ok-first.ensures.ok) c.in_ok-start.ensures.sound

pub seats_of-requires-clause-given : goal.seats_of-requires-clause-given
seats_of-requires-clause-given g c =
    let is : (arc_value c.in_ok-first.first).state ≡ start_of (data_of c.args.setup) = ap (λ (v : VersionValue). v.state) c.in_ok-first.ensures.ok ∙ c.in_ok-start.ensures.start in
    subst NameGiven (sym is) (names_stay_given (data_of c.args.setup)).0

pub returns-clause-seats : goal.returns-clause-seats
returns-clause-seats g c =
    let is : (arc_value c.in_ok-first.first).state ≡ start_of (data_of c.args.setup) = ap (λ (v : VersionValue). v.state) c.in_ok-first.ensures.ok ∙ c.in_ok-start.ensures.start in
    subst (λ (s : State). All (IsSeatFrom (data_of c.args.setup) s) c.in_ok-seats.seats) is c.in_ok-seats.ensures.seats

pub returns-clause-own : goal.returns-clause-own
returns-clause-own g c =
    all_unmap (λ (p : PenValue). p.log ≡ c.in_ok-log.log.id) (λ (s : SeatValue). s.pen) c.in_ok-seats.seats
    (subst (λ (pens : List PenValue). All (λ (p : PenValue). p.log ≡ c.in_ok-log.log.id) pens)
    (sym (c.in_ok-seats.ensures.pens ∙ c.in_ok-log.ensures.pens)) (new_of_log c.in_ok-log.log.id c.args.lanes 0 c.args.lanes))

pub returns-clause-all : goal.returns-clause-all
returns-clause-all g c =
    sym (length-map c.in_ok-seats.seats (λ (s : SeatValue). s.pen)) ∙ ap length (c.in_ok-seats.ensures.pens ∙ c.in_ok-log.ensures.pens) ∙ new_count c.in_ok-log.log.id c.args.lanes 0 c.args.lanes

pub returns-clause-order : goal.returns-clause-order
returns-clause-order g c = new_lanes c.in_ok-log.log.id c.args.lanes 0 c.args.lanes c.in_ok-seats.seats (c.in_ok-seats.ensures.pens ∙ c.in_ok-log.ensures.pens)
