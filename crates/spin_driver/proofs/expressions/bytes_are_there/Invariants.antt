use Rattle.spin_driver.proofs.expressions.bytes_are_there.Given as goal

abbrev pub ghosts-has_bytes : goal.ghosts-has_bytes
ghosts-has_bytes a = record { name = a.blank.name; parts = a.blank.parts }
