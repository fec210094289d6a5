-- The limits that the definitions cite, in numbers.
use Rattle.std.specs.Prelude.{◌≡◌}
use Rattle.spin_vm.specs.declared.limits.TheConstants.{LAST_SPACE, MAX_REGIONS, PAGE_SIZE, PAGES, FRAMES}

-- each constant of the sources has its value
pub record AreStated : Type 0 where
  pub spaces : LAST_SPACE ≡ 63
  pub regions : MAX_REGIONS ≡ 256
  pub page : PAGE_SIZE ≡ 4096
  pub pages : PAGES ≡ 4503599627370496
  pub frames : FRAMES ≡ 65536
