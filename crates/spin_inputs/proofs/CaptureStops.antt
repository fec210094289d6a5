-- What the end of a call rests on whose capture wasn't opened, or not read whole.
use Rattle.std.proofs.Common.{◌≡◌, ◌∙◌, ℕ, Option, Some, None, List, refl, subst, arith, IfSome}
use Rattle.std.specs.Prelude.{Err}
use Rattle.spin_outside.specs.Counts.{Rose}
use Rattle.spin_outside.specs.Files.{File, IsWholeFile}
use Rattle.spin_outside.specs.Seen.{ShelfSeen}
use Rattle.spin_pcap.specs.declared.fault.BadRecord.{BadRecord}
use Rattle.spin_pcap.specs.declared.fault.BadRecord.TheVariants as bad
use Rattle.spin_pcap.specs.declared.fault.PcapFault.{PcapFault}
use Rattle.spin_pcap.specs.declared.fault.PcapFault.TheVariants as fault
use Rattle.spin_pcap.specs.Captures.{header_of}
use Rattle.spin_pcap.specs.Passing.{fault_number, FaultByCount, UnlessFailed}
use Rattle.spin_pcap.specs.Whole.{bad_at, IsRefused, IsStopped, BadByCount}
use Rattle.spin_inputs.specs.Captures.{HasBadHeader, IsBadAt, NoCaptureBy, NoWholeBy}
use Rattle.spin_inputs.specs.Ends.{end_at}
use Rattle.spin_inputs.specs.Holding.{HeaderRefuses}
use Rattle.spin_inputs.specs.Shelves.{ShelfFailed, ShelfStood}

-- ---- what the shelf is then

stood_still : (before found after : ShelfSeen) → ShelfStood before found → after.files ≡ found.files → after.absences ≡ found.absences → after.faults ≡ found.faults → ShelfStood before after
stood_still before found after stood files absences faults = record { files = files ∙ stood.files; faults = faults ∙ stood.faults; absences = absences ∙ stood.absences }

failed_then : (before found after : ShelfSeen) → ShelfStood before found → after.files ≡ found.files → after.absences ≡ found.absences → Rose found.faults after.faults → ShelfFailed before after
failed_then before found after stood files absences rose =
    record { files = files ∙ stood.files; faults = subst (λ n. Rose n after.faults) stood.faults rose; absences = absences ∙ stood.absences }

-- ---- the header

bad_header : (files : Option (List File)) (name : List ℕ) (left : Option (List ℕ)) (wrong : PcapFault) → IsWholeFile files name left
    → IfSome left (λ bytes. header_of bytes ≡ Err wrong) → HasBadHeader files (Some name) (fault_number wrong)
bad_header None name left wrong whole refused = tt
bad_header (Some held) name left wrong whole refused =
    let P : Option (List ℕ) → Type 0 = λ o. IfSome o (λ bytes. header_of bytes ≡ Err wrong) in
    record { bytes = whole.0; found = whole.1; wrong = wrong; refused = subst P whole.2 refused; fault_is = refl }

module _ (before found after : ShelfSeen) (name : List ℕ) (left : Option (List ℕ)) (stood : ShelfStood before found) (whole : IsWholeFile before.files name left)
    (files : after.files ≡ found.files) (absences : after.absences ≡ found.absences) where
  header_bad : (wrong : PcapFault) → IfSome left (λ bytes. header_of bytes ≡ Err wrong) → after.faults ≡ found.faults
      → (at : ℕ) → at ≡ 0 → ShelfStood before after × (at ≡ 0) × HasBadHeader before.files (Some name) (fault_number wrong)
  header_bad wrong refused same at first = (stood_still before found after stood files absences same, first, bad_header before.files name left wrong whole refused)

  pub header_stops : (wrong : PcapFault) → IfSome left (λ bytes. UnlessFailed wrong (header_of bytes ≡ Err wrong)) → FaultByCount wrong found.faults after.faults
      → NoCaptureBy before after (Some name) (end_at (bad_at 0 wrong))
  header_stops fault.ReadFault refused count = (failed_then before found after stood files absences count, tt)
  header_stops fault.BadMagic refused count = header_bad fault.BadMagic refused count 0 refl
  header_stops fault.BadVersion refused count = header_bad fault.BadVersion refused count 0 refl
  header_stops fault.BadLink refused count = header_bad fault.BadLink refused count 0 refl
  header_stops fault.Short refused count = header_bad fault.Short refused count 0 refl
  header_stops fault.TooLong refused count = header_bad fault.TooLong refused count 0 refl
  header_stops fault.TooManyRecords refused count = header_bad fault.TooManyRecords refused count 0 refl
  header_stops (fault.Spoilt first) refused count = header_bad (fault.Spoilt first) refused count 0 refl
  header_stops fault.NoMemory refused count = stood_still before found after stood files absences count

-- ---- the header of a capture in memory

pub held_stops : (bytes : List ℕ) (wrong : PcapFault) → UnlessFailed wrong (header_of bytes ≡ Err wrong) → FaultByCount wrong 0 0 → HeaderRefuses bytes (end_at (bad_at 0 wrong))
held_stops bytes fault.ReadFault refused count = absurd (let rose : Rose 0 0 = count in omega (arith, rose))
held_stops bytes fault.BadMagic refused count = (refl, fault.BadMagic, refl, refused)
held_stops bytes fault.BadVersion refused count = (refl, fault.BadVersion, refl, refused)
held_stops bytes fault.BadLink refused count = (refl, fault.BadLink, refl, refused)
held_stops bytes fault.Short refused count = (refl, fault.Short, refl, refused)
held_stops bytes fault.TooLong refused count = (refl, fault.TooLong, refl, refused)
held_stops bytes fault.TooManyRecords refused count = (refl, fault.TooManyRecords, refl, refused)
held_stops bytes (fault.Spoilt first) refused count = (refl, fault.Spoilt first, refl, refused)
held_stops bytes fault.NoMemory refused count = tt

-- ---- a capture that is read whole

bad_record : (files : Option (List File)) (name : List ℕ) (left : Option (List ℕ)) (at fault : ℕ) → IsWholeFile files name left
    → IfSome left (λ bytes. IsRefused bytes at fault) → IfSome files (λ held. IsBadAt held name at fault)
bad_record None name left at fault whole refused = tt
bad_record (Some held) name left at fault whole refused =
    let P : Option (List ℕ) → Type 0 = λ o. IfSome o (λ bytes. IsRefused bytes at fault) in
    record { bytes = whole.0; found = whole.1; refused = subst P whole.2 refused }

pub whole_stops : (before found after : ShelfSeen) (name : List ℕ) (left : Option (List ℕ)) (stop : BadRecord) → ShelfStood before found → IsWholeFile before.files name left
    → after.files ≡ found.files → after.absences ≡ found.absences → IfSome left (λ bytes. IsStopped bytes stop) → BadByCount stop found.faults after.faults
    → NoWholeBy before after (Some name) (end_at stop)
whole_stops before found after name left (bad.Capture at fault) stood whole files absences stopped count =
    (stood_still before found after stood files absences count, bad_record before.files name left at fault whole stopped)
whole_stops before found after name left bad.ReadFault stood whole files absences stopped count = (failed_then before found after stood files absences count, tt)
whole_stops before found after name left bad.NoMemory stood whole files absences stopped count = stood_still before found after stood files absences count
