use Rattle.spin_table.proofs.version.Version.next.Given as goal

-- the count of the one call
abbrev pub ghosts-counted_after : goal.ghosts-counted_after
ghosts-counted_after g a = record { name = a.blank.name; parts = a.blank.parts }
