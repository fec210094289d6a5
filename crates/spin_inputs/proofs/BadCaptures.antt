-- A capture is a good one or a bad one, and no file is both.
use Rattle.std.proofs.Common.{◌≡◌, ◌⊎◌, ◌+◌, ℕ, None, List, length, refl, sym, subst, ◌∙◌, inl, inr}
use Rattle.std.specs.Prelude.{Result, Ok, Err}
use Rattle.spin_outside.specs.Files.{File, content}
use Rattle.spin_pcap.proofs.CaptureUniqueness.{one_reading}
use Rattle.spin_pcap.specs.Captures.{IsCapture, header_of}
use Rattle.spin_pcap.specs.declared.fault.PcapFault.{PcapFault}
use Rattle.spin_pcap.specs.declared.next.Next.{Next}
use Rattle.spin_pcap.specs.declared.order.Order.{Order}
use Rattle.spin_pcap.specs.Whole.{IsRefused}
use Rattle.spin_inputs.specs.Captures.{IsBadAt, IsBadCapture, IsCaptureFile}
use Rattle.spin_inputs.proofs.ReadingUniqueness.{good_header, headers_differ, some_is, some_not_none}

ok_not_err : (last : Next) (wrong : PcapFault) (r : Result Next PcapFault) → r ≡ Ok last → r ≡ Err wrong → ⊥
ok_not_err last wrong r a b = cc

good_not_bad : (x : Order) (wrong : PcapFault) (r : Result Order PcapFault) → r ≡ Ok x → r ≡ Err wrong → ⊥
good_not_bad x wrong r good bad = cc

-- no file is both a good capture and one with a bad rest
one_rest : (bytes : List ℕ) (order order' : Order) (frames frames' : List (List ℕ)) (last : Next) (wrong : PcapFault)
    → IsCapture bytes order frames (Ok last) → IsCapture bytes order' frames' (Err wrong) → ⊥
one_rest bytes order order' frames frames' last wrong good bad =
    ok_not_err last wrong (Ok last) refl (one_reading bytes order order' frames frames' (Ok last) (Err wrong) good bad).2

-- a good capture isn't a bad one
pub good_bad : (held : List File) (name : List ℕ) (frames : List (List ℕ)) (last : Next) → IsCaptureFile held name frames (Ok last) → IsBadCapture held name → ⊥
good_bad held name frames last good (inl header) = headers_differ held name header.0 (good_header held name frames (Ok last) good) header.1
good_bad held name frames last good (inr bad) =
    let same : good.bytes ≡ bad.2.bytes = some_is _ _ (sym good.found ∙ bad.2.found) in
    one_rest bad.2.bytes good.order bad.2.order frames bad.0 last bad.1 (subst (λ b. IsCapture b good.order frames (Ok last)) same good.capture) bad.2.capture

-- nor is it refused at a record
refused_good : (bytes : List ℕ) (order : Order) (frames : List (List ℕ)) (last : Next) (at fault : ℕ) → IsCapture bytes order frames (Ok last) → IsRefused bytes at fault → ⊥
refused_good bytes order frames last at fault good refused = go refused.2
  where
    go : ((at ≡ 0) × (header_of bytes ≡ Err refused.0)) ⊎ ((way : Order) × (given : List (List ℕ)) × (at ≡ length given + 1) × IsCapture bytes way given (Err refused.0)) → ⊥
    go (inl header) = good_not_bad order refused.0 (header_of bytes) good.header header.1
    go (inr body) = one_rest bytes order body.0 frames body.1 last refused.0 good body.3

pub good_bad_at : (held : List File) (name : List ℕ) (frames : List (List ℕ)) (last : Next) (at fault : ℕ) → IsCaptureFile held name frames (Ok last) → IsBadAt held name at fault → ⊥
good_bad_at held name frames last at fault good bad =
    let same : good.bytes ≡ bad.bytes = some_is _ _ (sym good.found ∙ bad.found) in
    refused_good bad.bytes good.order frames last at fault (subst (λ b. IsCapture b good.order frames (Ok last)) same good.capture) bad.refused

pub bad_lacks : (held : List File) (name : List ℕ) → content held name ≡ None → IsBadCapture held name → ⊥
bad_lacks held name lacking (inl header) = some_not_none _ (sym header.1.found ∙ lacking)
bad_lacks held name lacking (inr bad) = some_not_none _ (sym bad.2.found ∙ lacking)
