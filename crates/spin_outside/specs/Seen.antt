-- What contracts see of a sink and of a shelf at one moment.
use Rattle.std.specs.Prelude.{ℕ, ◌≤◌, Option, List, length, IfSome}
use Rattle.std.specs.Io.KnownBytes.{Consumes}
use Rattle.spin_outside.specs.Files.{File, ReadsMore}

-- a sink: the bytes that it took, where it tells them, and how often it failed
pub record SinkSeen : Type 0 where
  pub told : Option (List ℕ)
  pub faults : ℕ

-- A shelf. `files` are the files that it holds, and `left` is what a file number has left, each
-- where the shelf tells it. The name that a file number was last found under, and how many bytes
-- were read under a name in all, are told by a shelf that tells its files. Then there are how often
-- it failed, and how often no file had the name that was asked for.
pub record ShelfSeen : Type 0 where
  pub files : Option (List File)
  pub left : ℕ → Option (List ℕ)
  pub found_as : ℕ → Option (List ℕ)
  pub reads : List ℕ → ℕ
  pub faults : ℕ
  pub absences : ℕ

-- Some front of what the file number had left, of at most so many bytes, is no longer left, and was
-- read under the name of that number.
pub record TakesFront (before now : ShelfSeen) (file most : ℕ) : Type 0 where
  pub bytes : List ℕ
  pub few : length bytes ≤ most
  pub taken : Consumes (before.left file) (now.left file) bytes
  pub under : IfSome before.files
      (λ _. ReadsMore before.reads now.reads (before.found_as file) (length bytes))
