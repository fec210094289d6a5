use Rattle.spin_driver.proofs.plans.asked.Given as goal

abbrev pub ghosts-next_of : goal.ghosts-next_of
ghosts-next_of a = record { name = a.blank.name; parts = a.blank.parts }
