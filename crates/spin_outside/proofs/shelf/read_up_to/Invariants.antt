use Rattle.std.proofs.Common.{◌≡◌, ◌≤◌, ◌+◌, ◌-◌, length, IfSome}
use Rattle.std.specs.Io.KnownBytes.{Consumes}
use Rattle.spin_outside.specs.Files.{OthersKeep, AllKeep, ReadsMore}
use Rattle.spin_outside.proofs.shelf.read_up_to.Given as goal

abbrev pub invariant-loop-bytes : goal.invariant-loop-bytes
invariant-loop-bytes g l = record {
  taken : Consumes ((g.F.Shelf.seen l.fn.shelf).left l.file) ((g.F.Shelf.seen l.shelf).left l.file) l.bytes;
  under : IfSome (g.F.Shelf.seen l.fn.shelf).files (λ _. ReadsMore (g.F.Shelf.seen l.fn.shelf).reads (g.F.Shelf.seen l.shelf).reads ((g.F.Shelf.seen l.fn.shelf).found_as l.file) (length l.bytes));
  small : length l.bytes ≤ l.limit;
  others : OthersKeep (g.F.Shelf.seen l.fn.shelf).left (g.F.Shelf.seen l.shelf).left l.file;
  named : IfSome (g.F.Shelf.seen l.fn.shelf).files (λ _. AllKeep (g.F.Shelf.seen l.fn.shelf).found_as (g.F.Shelf.seen l.shelf).found_as);
  files : (g.F.Shelf.seen l.shelf).files ≡ (g.F.Shelf.seen l.fn.shelf).files;
  absences : (g.F.Shelf.seen l.shelf).absences ≡ (g.F.Shelf.seen l.fn.shelf).absences;
  stood : (g.F.Shelf.seen l.shelf).faults ≡ (g.F.Shelf.seen l.fn.shelf).faults;
}

abbrev pub decreases-loop-bytes : goal.decreases-loop-bytes
decreases-loop-bytes g l = l.limit + 1 - length l.bytes
