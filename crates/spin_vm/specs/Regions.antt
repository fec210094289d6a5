-- The regions of a space.
use Rattle.std.specs.Prelude.{ℕ, ◌+◌, Bool, ◌&&◌, nat_lt, if◌then◌else◌, List, [], ◌∷◌}
use Rattle.spin_vm.specs.declared.line.Region.{Region}

-- the region has a page from `from` on that lies before `to`
abbrev pub has_some : (from to : ℕ) → Region → Bool
has_some from to r = nat_lt r.start to && nat_lt from (r.start + r.pages)

-- with one more region, by rising start
abbrev pub with_region : Region → List Region → List Region
with_region r [] = r ∷ []
with_region r (x ∷ xs) = if nat_lt x.start r.start then x ∷ with_region r xs else r ∷ x ∷ xs
