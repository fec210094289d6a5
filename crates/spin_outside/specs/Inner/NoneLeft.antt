-- What a shelf in memory has left under a number that wasn't found.
use Rattle.std.specs.Prelude.{◌≡◌, ℕ, zero, suc, Bool, true, false, refl, Some, None, List, []}
use Rattle.std.specs.Prelude.{◌∷◌}
use Rattle.std.specs.Prelude.{drop, if◌then◌else◌}
use Rattle.std.proofs.Common.{ap}
use Rattle.spin_outside.specs.declared.mem_file.MemFile.{MemFile}
use Rattle.spin_outside.specs.Shelves.{rest_of, name_of, left_at, name_at}

-- A number that wasn't found has nothing left.
closed_has_none : (file : MemFile) → name_of file ≡ None → rest_of file ≡ []
closed_has_none file none = closed (file.opened) none where
  closed : (opened : Bool) → (if opened then Some file.name else None) ≡ None
      → (if opened then drop file.position file.bytes else []) ≡ []
  closed true none = cc
  closed false none = refl

pub none_left_at : (files : List MemFile) (at : ℕ) → name_at files at ≡ None
    → Some (left_at files at) ≡ Some []
none_left_at [] at none = refl
none_left_at (file ∷ files) zero none = ap Some (closed_has_none file none)
none_left_at (file ∷ files) (suc at) none = none_left_at files at none
