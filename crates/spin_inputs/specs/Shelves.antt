-- What a call does to the shelf.
use Rattle.std.specs.Prelude.{◌≡◌, ◌≤◌, ◌+◌, ℕ, List, Option, Some, None, IfSome}
use Rattle.spin_outside.specs.Counts.{Rose}
use Rattle.spin_outside.specs.Files.{AllKeep, OthersKeep}
use Rattle.spin_outside.specs.Seen.{ShelfSeen}

-- The shelf's files and counts are as before.
pub record ShelfStood (before after : ShelfSeen) : Type 0 where
  pub files : after.files ≡ before.files
  pub faults : after.faults ≡ before.faults
  pub absences : after.absences ≡ before.absences

-- The count of faults rose, and else the shelf is as before.
pub record ShelfFailed (before after : ShelfSeen) : Type 0 where
  pub files : after.files ≡ before.files
  pub faults : Rose before.faults after.faults
  pub absences : after.absences ≡ before.absences

-- The count of absences rose, and else the shelf is as before.
pub record ShelfLacked (before after : ShelfSeen) : Type 0 where
  pub files : after.files ≡ before.files
  pub faults : after.faults ≡ before.faults
  pub absences : Rose before.absences after.absences

-- Where the shelf tells its files, nothing was read under any other name.
abbrev pub ReadsOnly : ShelfSeen → ShelfSeen → List ℕ → Type 0
ReadsOnly before after name = IfSome before.files (λ _. OthersKeep before.reads after.reads name)

-- Where the shelf tells its files, at most so many bytes were read under the name.
abbrev pub ReadsFew : ShelfSeen → ShelfSeen → List ℕ → ℕ → Type 0
ReadsFew before after name most = IfSome before.files (λ _. after.reads name ≤ before.reads name + most)

-- Nothing was read under any other name, where a name is given; where none is, nothing was read under any name.
abbrev pub ReadsNamed : ShelfSeen → ShelfSeen → Option (List ℕ) → Type 0
ReadsNamed before after None = IfSome before.files (λ _. AllKeep before.reads after.reads)
ReadsNamed before after (Some name) = ReadsOnly before after name
