use Rattle.spin_seat.proofs.seat.Seat.pin_version.Given as goal

-- the count of the one call
abbrev pub ghosts-pin_counted : goal.ghosts-pin_counted
ghosts-pin_counted g a = record { name = a.blank.name; parts = a.blank.parts }
