-- Which natives are there.
use Rattle.std.specs.Prelude.{ℕ, ◌<◌}
use Rattle.std.specs.Coded.{Unit-prop, le_prop}
use Rattle.spin_objects.specs.declared.unit.Body.{Body}
use Rattle.spin_objects.specs.declared.unit.Body.TheVariants as body
use Rattle.spin_objects.specs.declared.unit.Check.{Check}
use Rattle.spin_objects.specs.declared.unit.Check.TheVariants as check

-- the handler is coded, or one of so many natives
abbrev pub IsBodyThere : ℕ → Body → Type 0
IsBodyThere natives (body.Coded sig act) = Unit {0}
IsBodyThere natives (body.Native native) = native < natives

-- the guard is coded, or one of so many natives
abbrev pub IsCheckThere : ℕ → Check → Type 0
IsCheckThere natives (check.Coded sig test) = Unit {0}
IsCheckThere natives (check.Native native) = native < natives

-- Each of these facts has one proof at most.
pub IsBodyThere-prop : (natives : ℕ) (b : Body) → IsProp (IsBodyThere natives b)
IsBodyThere-prop natives (body.Coded sig act) = Unit-prop
IsBodyThere-prop natives (body.Native native) = le_prop

pub IsCheckThere-prop : (natives : ℕ) (c : Check) → IsProp (IsCheckThere natives c)
IsCheckThere-prop natives (check.Coded sig test) = Unit-prop
IsCheckThere-prop natives (check.Native native) = le_prop
