-- Written headers are valid.
use Rattle.std.proofs.Common.{◌≡◌, ℕ, ◌+◌, ◌-◌, ◌<◌, ◌≤◌, ◌^◌, List, ◌++◌, length, Ok, refl, arith, ◌∙◌, ap}
use Rattle.std.proofs.lemmas.Bool.Decides.{nat_tests}
use Rattle.std.proofs.lemmas.Grind.{common_steps}
use Rattle.byteorder.specs.Endian.{big_bytes}
use Rattle.spin_headers.specs.declared.ipv4.Ipv4.{Ipv4}
use Rattle.spin_headers.specs.declared.udp.Udp.{Udp}
use Rattle.spin_headers.specs.Sums.{word_sum, word_total, folded, checksum_of}
use Rattle.spin_headers.specs.Headers.{ipv4_of, ipv4_header, ipv4_bytes, ipv4_payload, udp_of, udp_bytes, udp_datagram, udp_payload, pseudo_header, written_checksum}
use Rattle.spin_headers.proofs.SumLemmas.{folded_only, folded_keeps, total-append}

-- a sum and its complement
folded_whole : (n : ℕ) → folded (n + (65535 - folded n)) ≡ 65535
folded_whole n =
    let k = folded_keeps n (folded n) refl in
    folded_only (n + (65535 - folded n)) 65535 (omega arith) (omega arith) (omega arith) (λ h. omega arith)

-- the same for a complement that is never written as 0
folded_written : (n : ℕ) → folded (n + written_checksum (65535 - folded n)) ≡ 65535
folded_written n =
    let k = folded_keeps n (folded n) refl in
    let w = folded_whole n in
    folded_only (n + written_checksum (65535 - folded n)) 65535 (omega arith) (grind (arith, nat_tests)) (grind (arith, nat_tests)) (λ h. omega arith)

-- IPv4, RFC 791

-- the sum of a header, with its checksum taken out
ipv4_total : (ident ttl protocol source destination payload_len checksum : ℕ) → checksum < 65536
    → word_total (ipv4_bytes ident ttl protocol source destination payload_len checksum)
    ≡ word_total (ipv4_bytes ident ttl protocol source destination payload_len 0) + checksum
ipv4_total ident ttl protocol source destination payload_len checksum small = omega arith

ipv4_sum : (ident ttl protocol source destination payload_len : ℕ)
    → word_sum (ipv4_header ident ttl protocol source destination payload_len) ≡ 65535
ipv4_sum ident ttl protocol source destination payload_len =
    let bytes = ipv4_bytes ident ttl protocol source destination payload_len in
    ap folded (ipv4_total ident ttl protocol source destination payload_len (checksum_of (bytes 0)) (omega arith))
    ∙ folded_whole (word_total (bytes 0))

-- the bytes of a header for the payload are read as its fields, and the payload is what they carry
pub ipv4_valid : (ident ttl protocol source destination payload_len : ℕ) (out payload : List ℕ)
    → ident < 2 ^ 16 → ttl < 2 ^ 8 → protocol < 2 ^ 8 → source < 2 ^ 32 → destination < 2 ^ 32 → payload_len ≤ 65515
    → out ≡ ipv4_header ident ttl protocol source destination payload_len
    → length payload ≡ payload_len
    → let header : Ipv4 = record {
      header_len = 20;
      total_len = 20 + payload_len;
      ident = ident;
      ttl = ttl;
      protocol = protocol;
      source = source;
      destination = destination;
    } in
    (ipv4_of (out ++ payload) ≡ Ok header) × (ipv4_payload header (out ++ payload) ≡ payload)
unfolding ipv4_of
ipv4_valid ident ttl protocol source destination payload_len out payload i t p s d fits is len =
    let sum = ipv4_sum ident ttl protocol source destination payload_len in
    rw is (grind (arith, common_steps), grind (arith, common_steps))

-- UDP, RFC 768

-- what the checksum of a datagram covers, where that number stands in its place
abbrev covered : (source destination source_port destination_port : ℕ) → List ℕ → ℕ → List ℕ
covered source destination source_port destination_port payload checksum =
    pseudo_header source destination (8 + length payload) ++ udp_bytes source_port destination_port checksum payload

-- the sum of what is covered, with the checksum taken out
udp_total : (source destination source_port destination_port : ℕ) (payload : List ℕ) (checksum : ℕ) → checksum < 65536
    → word_total (covered source destination source_port destination_port payload checksum)
    ≡ word_total (covered source destination source_port destination_port payload 0) + checksum
udp_total source destination source_port destination_port payload checksum small =
    let len = 8 + length payload in
    let front = λ (n : ℕ). pseudo_header source destination len ++ big_bytes 2 source_port ++ big_bytes 2 destination_port ++ big_bytes 2 len ++ big_bytes 2 n in
    let with : word_total (covered source destination source_port destination_port payload checksum) ≡ word_total (front checksum) + word_total payload = total-append (front checksum) payload refl in
    let without : word_total (covered source destination source_port destination_port payload 0) ≡ word_total (front 0) + word_total payload = total-append (front 0) payload refl in
    omega arith

-- a datagram whose checksum is right is read as its fields
udp_read : (source destination source_port destination_port : ℕ) (payload : List ℕ) (checksum : ℕ)
    → source_port < 2 ^ 16 → destination_port < 2 ^ 16 → length payload ≤ 65507 → checksum < 65536
    → word_sum (covered source destination source_port destination_port payload checksum) ≡ 65535
    → udp_of (udp_bytes source_port destination_port checksum payload) source destination ≡ Ok (record {
      source_port = source_port;
      destination_port = destination_port;
      length = 8 + length payload;
    })
unfolding udp_of
udp_read source destination source_port destination_port payload checksum s d fits small sum = grind (arith, common_steps)

-- the datagram is read as its fields, and the payload is what it carries
pub udp_valid : (source destination source_port destination_port : ℕ) (payload out : List ℕ)
    → source_port < 2 ^ 16 → destination_port < 2 ^ 16 → length payload ≤ 65507
    → out ≡ udp_datagram source destination source_port destination_port payload
    → let header : Udp = record {
      source_port = source_port;
      destination_port = destination_port;
      length = 8 + length payload;
    } in
    (udp_of out source destination ≡ Ok header) × (udp_payload header out ≡ payload)
udp_valid source destination source_port destination_port payload out s d fits is =
    let bytes = covered source destination source_port destination_port payload in
    let checksum = written_checksum (checksum_of (bytes 0)) in
    let small : checksum < 65536 = grind (arith, nat_tests) in
    let sum : word_sum (bytes checksum) ≡ 65535 =
    ap folded (udp_total source destination source_port destination_port payload checksum small) ∙ folded_written (word_total (bytes 0)) in
    rw is (udp_read source destination source_port destination_port payload checksum s d fits small sum, grind (arith, common_steps))
