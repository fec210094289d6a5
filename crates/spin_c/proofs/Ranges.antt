-- The ranges of the bytes of sends.
use Rattle.std.proofs.Common.{◌≡◌, ◌∙◌, ◌+◌, ◌∷◌, ◌++◌, [], ap, arith, length, List, ℕ}
use Rattle.std.proofs.lemmas.Grind.{flat_map-append}
use Rattle.std.proofs.lemmas.List.{append-nil, length-append}
use Rattle.spin_endpoint.specs.Sends.{SentSeen}
use Rattle.spin_c.specs.Wholes.{bytes_sent, range_at, ranges_from}

-- a send behind others begins where their bytes end
pub ranges_more : (at : ℕ) (sends : List SentSeen) (sent : SentSeen)
    → ranges_from at (sends ++ sent ∷ []) ≡ ranges_from at sends ++ range_at (at + length (bytes_sent sends)) sent ∷ []
ranges_more at [] sent = ap (λ n. range_at n sent ∷ []) (omega arith)
ranges_more at (first ∷ sends) sent =
    let behind = at + length first.bytes in
    let one : behind + length (bytes_sent sends) ≡ at + length (bytes_sent (first ∷ sends)) = omega (arith, length-append first.bytes (bytes_sent sends)) in
    ap (λ rest. range_at at first ∷ rest) (ranges_more behind sends sent ∙ ap (λ n. ranges_from behind sends ++ range_at n sent ∷ []) one)

-- and its own bytes stand behind theirs
pub bytes_more : (sends : List SentSeen) (sent : SentSeen) → bytes_sent (sends ++ sent ∷ []) ≡ bytes_sent sends ++ sent.bytes
bytes_more sends sent = flat_map-append (λ (s : SentSeen). s.bytes) sends (sent ∷ []) ∙ ap (λ b. bytes_sent sends ++ b) (append-nil sent.bytes)
