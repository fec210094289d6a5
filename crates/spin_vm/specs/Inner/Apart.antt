-- Regions by rising start, none of which has a page of another.
use Rattle.std.specs.Prelude.{ℕ, suc, ◌+◌, ◌<◌, ◌≤◌, nat_lt, if◌then◌else◌, List, [], ◌∷◌, Option, Some, None}
use Rattle.std.specs.Option.{unwrap_or}
use Rattle.spin_vm.specs.declared.limits.TheConstants.{PAGES}
use Rattle.spin_vm.specs.declared.line.Region.{Region}

-- from that page on
abbrev pub AreApartFrom : ℕ → List Region → Type 0
AreApartFrom page [] = page ≤ PAGES
AreApartFrom page (r ∷ rs) = (page ≤ r.start) × (0 < r.pages) × AreApartFrom (r.start + r.pages) rs

abbrev pub AreApart : List Region → Type 0
AreApart regions = AreApartFrom 0 regions

-- how many regions start before that page
abbrev pub count_before : ℕ → List Region → ℕ
count_before page [] = 0
count_before page (r ∷ rs) = if nat_lt r.start page then suc (count_before page rs) else 0

-- the last region that starts before that page
abbrev pub last_before : ℕ → List Region → Option Region
last_before page [] = None
last_before page (r ∷ rs) = if nat_lt r.start page then Some (unwrap_or (last_before page rs) r) else None
