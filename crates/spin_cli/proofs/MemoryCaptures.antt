-- What is known of a capture in memory whose header was read.
use Rattle.std.proofs.Common.{◌≡◌, ℕ, Option, Some, List, IfSome, arith, refl, sym, subst}
use Rattle.std.specs.Prelude.{Result, Ok, Err, drop}
use Rattle.spin_outside.specs.Counts.{Rose}
use Rattle.spin_pcap.specs.Captures.{IsBody, header_of}
use Rattle.spin_pcap.specs.Passing.{ReaderState}
use Rattle.spin_pcap.specs.declared.fault.PcapFault.{PcapFault}
use Rattle.spin_pcap.specs.declared.next.Next.{Next}
use Rattle.spin_pcap.specs.declared.order.Order.{Order}
use Rattle.spin_run.specs.Records.{AreLeftBy, AreRecords}
use Rattle.spin_inputs.specs.Held.{held_seen}
use Rattle.spin_inputs.specs.Holding.{IsBehind}
use Rattle.spin_inputs.specs.Captures.{AreRecordsIn}

pub good_not_bad : (x : Order) (wrong : PcapFault) (r : Result Order PcapFault) → r ≡ Ok x → r ≡ Err wrong → ⊥
good_not_bad x wrong r good bad = cc

one_order : (x y : Order) (r : Result Order PcapFault) → r ≡ Ok x → r ≡ Ok y → x ≡ y
one_order x y r a b = cc

-- the records behind the header are left for the reader
pub records_left : (bytes left : List ℕ) (reader : ReaderState) (frames : List (List ℕ)) (rest : Option (Result Next PcapFault))
    → IsBehind bytes left reader → AreRecordsIn bytes frames rest → AreRecords (Some reader) (held_seen left) frames rest
records_left bytes left reader frames rest behind are =
    let order : are.2 ≡ reader.order = one_order are.2 reader.order (header_of bytes) are.3.header behind.header in
    let body : IsBody reader.order reader.given (drop 24 bytes) frames are.0 =
    subst (λ given. IsBody reader.order given (drop 24 bytes) frames are.0) (sym behind.fresh.0) (subst (λ way. IsBody way 0 (drop 24 bytes) frames are.0) order are.3.body) in (
      are.0,
      are.1,
      subst (λ s. AreLeftBy s reader (Some left) frames are.0) (sym behind.fresh.1)
          (record { bytes = drop 24 bytes; told = subst (λ o. IfSome o (λ t. t ≡ drop 24 bytes)) (sym behind.behind) refl; body = body }),
    )

-- a source that never fails has no read that failed
pub never : Rose 0 0 → ⊥
never rose = omega (arith, rose)
