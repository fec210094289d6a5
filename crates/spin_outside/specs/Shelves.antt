-- What the files of a shelf in memory tell.
use Rattle.std.specs.Prelude.{ℕ, zero, suc, false, Option, Some, None, List, [], ◌∷◌, map, drop, take}
use Rattle.std.specs.Prelude.{if◌then◌else◌, bytes_eq}
use Rattle.spin_outside.specs.declared.mem_file.MemFile.{MemFile}
use Rattle.spin_outside.specs.Calls.{CallsState, no_call}
use Rattle.spin_outside.specs.Files.{File}
use Rattle.spin_outside.specs.Seen.{ShelfSeen}
use Rattle.spin_outside.specs.Sources.{moved_at_most}

-- a shelf in memory: its files, how many bytes a read moves at most, its finds and reads, and its counts
pub record ShelfState : Type 0 where
  pub files : List MemFile
  pub piece : Option ℕ
  pub finds : CallsState
  pub reads : CallsState
  pub faults : ℕ
  pub absences : ℕ

-- a shelf without files, as it is made
abbrev pub empty_shelf : ShelfState
empty_shelf = record {
  files = [];
  piece = None;
  finds = no_call;
  reads = no_call;
  faults = 0;
  absences = 0;
}

abbrev pub file_of : MemFile → File
file_of file = record { name = file.name; bytes = file.bytes }

abbrev pub held : List MemFile → List File
held files = map file_of files

-- a file that is put in anew, of which nothing was read
abbrev pub fresh : List ℕ → List ℕ → MemFile
fresh name bytes = record { name = name; bytes = bytes; opened = false; position = 0; taken = 0 }

-- a file with other bytes, which has to be found anew
abbrev pub refilled : MemFile → List ℕ → MemFile
refilled file bytes = record file { bytes = bytes; opened = false; position = 0 }

-- The file of the name has these bytes, in its old place; or it is put in behind the others.
abbrev pub with_file : List MemFile → List ℕ → List ℕ → List MemFile
with_file [] name bytes = fresh name bytes ∷ []
with_file (file ∷ files) name bytes =
    if bytes_eq file.name name
    then refilled file bytes ∷ files
    else file ∷ with_file files name bytes

-- what is left of a file: nothing, before it is found
abbrev pub rest_of : MemFile → List ℕ
rest_of file = if file.opened then drop file.position file.bytes else []

abbrev pub name_of : MemFile → Option (List ℕ)
name_of file = if file.opened then Some file.name else None

-- what a view shows of the file at a place
abbrev pub view_at : {T : Type 0} → (MemFile → T) → T → List MemFile → ℕ → T
view_at view none [] at = none
view_at view none (file ∷ files) zero = view file
view_at view none (file ∷ files) (suc at) = view_at view none files at

-- what is left under a number, which is the file's place
abbrev pub left_at : List MemFile → ℕ → List ℕ
left_at files at = view_at rest_of [] files at

-- the name that a number was found under
abbrev pub name_at : List MemFile → ℕ → Option (List ℕ)
name_at files at = view_at name_of None files at

-- how many bytes were read under a name
abbrev pub reads_under : List MemFile → List ℕ → ℕ
reads_under [] name = 0
reads_under (file ∷ files) name =
    if bytes_eq file.name name then file.taken else reads_under files name

abbrev pub shelf_seen : ShelfState → ShelfSeen
shelf_seen shelf = record {
  files = Some (held shelf.files);
  left = λ file. Some (left_at shelf.files file);
  found_as = λ file. name_at shelf.files file;
  reads = λ name. reads_under shelf.files name;
  faults = shelf.faults;
  absences = shelf.absences;
}

-- the bytes that a read of that file moves into a buffer of that size
abbrev pub handed_at : ShelfState → ℕ → ℕ → List ℕ
handed_at shelf file size = take (moved_at_most shelf.piece size) (left_at shelf.files file)
