use Rattle.spin_raise.proofs.stepping.next_firing.Given as goal

-- the count of the one call
abbrev pub ghosts-next_counted : goal.ghosts-next_counted
ghosts-next_counted g a = record { name = a.blank.name; parts = a.blank.parts }
