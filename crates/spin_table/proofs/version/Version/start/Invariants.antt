use Rattle.spin_table.proofs.version.Version.start.Given as goal

-- the count of the one call
abbrev pub ghosts-empty_lists : goal.ghosts-empty_lists
ghosts-empty_lists g a = record { name = a.blank.name; parts = a.blank.parts }
