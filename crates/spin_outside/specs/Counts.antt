-- What a call may do to an object's count of faults, or of absences.
use Rattle.std.specs.Prelude.{◌≡◌, ℕ, ◌+◌, ◌-◌, ◌^◌, ◌<◌, min, max, MatchResult, Result}
use Rattle.spin_outside.specs.declared.faults.FindFault.{FindFault}
use Rattle.spin_outside.specs.declared.faults.FindFault.TheVariants as find
use Rattle.spin_outside.specs.declared.faults.TakeFault.{TakeFault}
use Rattle.spin_outside.specs.declared.faults.TakeFault.TheVariants as taking

-- so many more than before, up to the greatest number of 64 bits, at which a count stands still
abbrev pub raised_by : ℕ → ℕ → ℕ
raised_by before more = max before (min (before + more) (2 ^ 64 - 1))

-- The count is greater than before.
abbrev pub Rose : ℕ → ℕ → Type 0
Rose before now = before < now

-- The call failed only where the count rose, and the count rose in no call that ended otherwise.
abbrev pub FailsByCount : {T E : Type 0} → ℕ → ℕ → Result T E → Type 0
FailsByCount before now result = MatchResult result (λ _. now ≡ before) (λ _. Rose before now)

-- Which count a refusal of `find` raises: `Failed` that of faults, `Absent` that of absences, each
-- its own alone.
abbrev pub RefusesByCount : ℕ → ℕ → ℕ → ℕ → FindFault → Type 0
RefusesByCount faults faults' absences absences' find.Absent = (faults' ≡ faults) × Rose absences absences'
RefusesByCount faults faults' absences absences' find.Failed = Rose faults faults' × (absences' ≡ absences)
RefusesByCount faults faults' absences absences' find.NoMemory = (faults' ≡ faults) × (absences' ≡ absences)

abbrev pub FindsByCount : {T : Type 0} → ℕ → ℕ → ℕ → ℕ → Result T FindFault → Type 0
FindsByCount faults faults' absences absences' result =
    MatchResult result
    (λ _. (faults' ≡ faults) × (absences' ≡ absences))
    (RefusesByCount faults faults' absences absences')

-- Which refusal of `read_up_to` raises the count of faults: `Failed` alone.
abbrev pub StopsByCount : ℕ → ℕ → TakeFault → Type 0
StopsByCount before now taking.Failed = Rose before now
StopsByCount before now taking.TooLarge = now ≡ before
StopsByCount before now taking.NoMemory = now ≡ before

abbrev pub TakesByCount : {T : Type 0} → ℕ → ℕ → Result T TakeFault → Type 0
TakesByCount before now result = MatchResult result (λ _. now ≡ before) (StopsByCount before now)
