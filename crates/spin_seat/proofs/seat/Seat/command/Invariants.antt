use Rattle.spin_seat.proofs.seat.Seat.command.Given as goal

-- the count of the one call
abbrev pub ghosts-command_counted : goal.ghosts-command_counted
ghosts-command_counted g a = record { name = a.blank.name; parts = a.blank.parts }
