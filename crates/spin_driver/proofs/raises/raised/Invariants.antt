use Rattle.spin_driver.proofs.raises.raised.Given as goal

abbrev pub ghosts-plan_of : goal.ghosts-plan_of
ghosts-plan_of g a = record { name = a.blank.name; parts = a.blank.parts }
