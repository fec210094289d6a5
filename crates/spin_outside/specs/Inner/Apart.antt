-- Names of files that differ.
use Rattle.std.specs.Prelude.{◌≢◌, List, map}
use Rattle.std.specs.List.{AllPairs}
use Rattle.spin_outside.specs.Files.{File}

-- No two files have the same name.
abbrev pub AreNamedApart : List File → Type 0
AreNamedApart files = AllPairs (λ a b. a ≢ b) (map (λ file. file.name) files)
