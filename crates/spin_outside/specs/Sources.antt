-- What contracts see of a source at one moment, and what a read does to it.
use Rattle.std.specs.Prelude.{◌≡◌, ◌+◌, ℕ, Option, Some, None, List, if◌then◌else◌, bytes_eq, min, take}
use Rattle.std.specs.Prelude.{drop, length, MatchResult, Result}
use Rattle.spin_outside.specs.Calls.{CallsState, no_call, next_fails, counted}
use Rattle.spin_outside.specs.Counts.{raised_by}
use Rattle.spin_outside.specs.Files.{File}
use Rattle.spin_outside.specs.Seen.{ShelfSeen}

-- What no read of the source changes: the number of its file; the files by name and how many bytes
-- were read under each name in all, where they are told; how often a file was absent; and the name
-- by which proofs know the reference that the source holds.
pub record Keep : Type 0 where
  pub file : ℕ
  pub files : Option (List File)
  pub reads : List ℕ → Option ℕ
  pub absences : ℕ
  pub reference : ℕ

-- a source: the bytes that it has left, and how many were taken from it in all, each where it tells
-- them; its keep; and how often it failed
pub record SourceSeen : Type 0 where
  pub left : Option (List ℕ)
  pub taken : Option ℕ
  pub keep : Keep
  pub faults : ℕ

-- so many bytes more were taken, where their number is told
abbrev pub taken_more : Option ℕ → ℕ → Option ℕ
taken_more None count = None
taken_more (Some before) count = Some (raised_by before count)

-- A read adds what it took to the bytes taken, and a failed one nothing.
abbrev pub TakesMore : {E : Type 0} → Option ℕ → Option ℕ → Result ℕ E → Type 0
TakesMore before now result =
    MatchResult result (λ count. now ≡ taken_more before count) (λ _. now ≡ before)

-- One file of a shelf

-- The bytes read under a name. Those under the name of the file itself are the source's bytes
-- taken, and aren't kept.
abbrev pub reads_beside : Option (List ℕ) → (List ℕ → ℕ) → List ℕ → Option ℕ
reads_beside None reads name = Some (reads name)
reads_beside (Some own) reads name = if bytes_eq own name then None else Some (reads name)

abbrev pub kept_reads : Option (List File) → Option (List ℕ) → (List ℕ → ℕ) → List ℕ → Option ℕ
kept_reads None own reads = λ _. None
kept_reads (Some files) own reads = reads_beside own reads

-- The bytes read under the name of the file itself. A number that wasn't found has none.
abbrev pub own_reads : Option (List ℕ) → (List ℕ → ℕ) → ℕ
own_reads None reads = 0
own_reads (Some own) reads = reads own

-- They are told by a shelf that tells its files.
abbrev pub told_reads : Option (List File) → Option (List ℕ) → (List ℕ → ℕ) → Option ℕ
told_reads None own reads = None
told_reads (Some files) own reads = Some (own_reads own reads)

-- the source over one file of a shelf, behind that reference
abbrev pub file_seen : ShelfSeen → ℕ → ℕ → SourceSeen
file_seen shelf file reference = record {
  left = shelf.left file;
  taken = told_reads shelf.files (shelf.found_as file) shelf.reads;
  keep = record {
    file = file;
    files = shelf.files;
    reads = kept_reads shelf.files (shelf.found_as file) shelf.reads;
    absences = shelf.absences;
    reference = reference;
  };
  faults = shelf.faults;
}

-- A source in memory

-- what it has left, how many bytes a call moves at most, its calls, how many bytes were taken, and
-- its count of faults
pub record SourceState : Type 0 where
  pub left : List ℕ
  pub piece : Option ℕ
  pub calls : CallsState
  pub taken : ℕ
  pub faults : ℕ

-- a source that has these bytes left, as it is made
abbrev pub full_source : List ℕ → SourceState
full_source bytes = record {
  left = bytes;
  piece = None;
  calls = no_call;
  taken = 0;
  faults = 0;
}

abbrev pub memory_seen : SourceState → SourceSeen
memory_seen source = record {
  left = Some source.left;
  taken = Some source.taken;
  keep = record { file = 0; files = None; reads = λ _. None; absences = 0; reference = 0 };
  faults = source.faults;
}

-- how many bytes a call moves at most into a buffer of that size
abbrev pub moved_at_most : Option ℕ → ℕ → ℕ
moved_at_most None size = size
moved_at_most (Some piece) size = min size piece

-- the bytes that a read moves into a buffer of that size
abbrev pub handed : SourceState → ℕ → List ℕ
handed source size = take (moved_at_most source.piece size) source.left

-- the source after a read into a buffer of that size
abbrev pub after_read : SourceState → ℕ → SourceState
after_read source size =
    if next_fails source.calls
    then record source { calls = counted source.calls; faults = source.faults + 1 }
    else record source {
      calls = counted source.calls;
      left = drop (moved_at_most source.piece size) source.left;
      taken = raised_by source.taken (length (handed source size));
    }
