use Rattle.std.proofs.Common.{rules, ◌≡◌, ◌∷◌, [], subst, sym, List}
use Rattle.std.specs.Prelude.{All}
use Rattle.std.proofs.lemmas.List.Elements.{All-cons, All-nil}
use Rattle.spin_table.specs.SetupOf.{data_of}
use Rattle.spin_seat.specs.Seats.{IsSeat, SeatValue}
use Rattle.spin_tests.proofs.seats.close_both.Goals as goal

pub close-requires-clause-seats : goal.close-requires-clause-seats
close-requires-clause-seats g c =
    let P = IsSeat (data_of c.args.hub.setup) in
    let both : ◌≡◌ {A = List SeatValue} c.from_vec-seats.result (c.args.a ∷ c.args.b ∷ []) = search rules in
    subst (All P) (sym both) (All-cons P c.args.a (c.args.b ∷ []) c.requires.seat_a.0 (All-cons P c.args.b [] c.requires.seat_b.0 (All-nil P)))
