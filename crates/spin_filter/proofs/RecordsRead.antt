-- Records that are read off the front of what is left, one after another.
use Rattle.std.proofs.Common.{◌≡◌, ◌≤◌, ◌+◌, ℕ, suc, List, [], ◌∷◌, ◌++◌, length, take, drop, Option, Some, None, IfSome, refl, sym, ap, subst, ◌∙◌, arith, append_assoc}
use Rattle.std.specs.Prelude.{Result, Ok}
use Rattle.std.specs.Io.KnownBytes.{Consumes, IsAtEnd}
use Rattle.std.proofs.lemmas.List.{append-nil, length-append, length-take, length-drop, take-append-drop, drop-drop}
use Rattle.spin_pcap.specs.declared.limits.TheConstants.{MAX_CAPTURED}
use Rattle.spin_pcap.specs.declared.fault.PcapFault.{PcapFault}
use Rattle.spin_pcap.specs.declared.next.Next.{Next}
use Rattle.spin_pcap.specs.Captures.{captured_length, IsRest}
use Rattle.spin_pcap.specs.Passing.{left_for}
use Rattle.spin_pcap.proofs.WholeRecords.{number_at-front}
use Rattle.spin_pcap.specs.declared.order.Order.{Order}
use Rattle.spin_frames.specs.declared.records.Found.{Found}
use Rattle.spin_frames.specs.declared.records.Found.TheVariants as found
use Rattle.spin_frames.specs.Packets.{Packet, IsPacket, ArePackets, Finds}
use Rattle.spin_filter.specs.Stops.{StandsAt}

-- These records were read off the front of the bytes.
pub record HasRead (o : Order) (bytes : List ℕ) (packets : List Packet) (left : Option (List ℕ)) : Type 0 where
  pub rest : List ℕ
  pub told : left ≡ Some rest
  pub body : (more : List Packet) (ending : Result Next PcapFault) → ArePackets o rest more ending → ArePackets o bytes (packets ++ more) ending
  pub behind : (n number : ℕ) (packet : Packet) → number ≡ length packets + n → StandsAt o rest n packet → StandsAt o bytes number packet

pub read-none : (o : Order) (left : Option (List ℕ)) → IfSome left (λ bytes. HasRead o bytes [] left)
read-none o None = tt
read-none o (Some bytes) = record {
  rest = bytes;
  told = refl;
  body = λ more ending body. body;
  behind = λ n number packet is stands.
      let same : n ≡ number = omega (arith, is) in
      subst (λ (m : ℕ). StandsAt o bytes m packet) same stands;
}

-- the record at the front of what is held
abbrev pub front : ℕ → List ℕ → Packet
front size held = record { header = take 16 held; frame = take size (drop 16 held) }

front-is : (o : Order) (held rest : List ℕ) (size : ℕ) → captured_length o held ≡ size → size ≤ MAX_CAPTURED → 16 + size ≤ length held
    → IsPacket o (held ++ rest) (front size held) (drop (16 + size) held ++ rest)
front-is o held rest size says small there =
    let head : length (take 16 held) ≡ 16 = omega (arith, length-take 16 held) in
    let frame : length (take size (drop 16 held)) ≡ size = omega (arith, length-take size (drop 16 held), length-drop 16 held) in
    let body = drop 16 held in
    let skipped : drop size body ≡ drop (16 + size) held = drop-drop size 16 held in
    let parts : body ≡ take size body ++ drop (16 + size) held = sym (take-append-drop size body) ∙ ap (λ ys. take size body ++ ys) skipped in
    let cut : held ≡ (take 16 held ++ take size body) ++ drop (16 + size) held =
    sym (take-append-drop 16 held) ∙ ap (λ ys. take 16 held ++ ys) parts ∙ sym (append_assoc (take 16 held) (take size body) (drop (16 + size) held)) in
    record {
      size = head;
      says = sym (number_at-front o 8 4 (take 16 held) (drop 16 held) (omega (arith, head))) ∙ ap (λ ys. captured_length o ys) (take-append-drop 16 held) ∙ says ∙ sym frame;
      small = omega (arith, frame, small);
      whole = ap (λ ys. ys ++ rest) cut ∙ append_assoc (take 16 held ++ take size body) (drop (16 + size) held) rest;
    }

-- A read gave up nothing of what was left, and this then stands at the front of what is held.
pub record FindsAt (o : Order) (left : Option (List ℕ)) (answer : Result Found PcapFault) (held : List ℕ) (behind : Option (List ℕ)) : Type 0 where
  pub kept : Consumes left (left_for held behind) []
  pub finds : Finds o answer held behind

pub finds-as : (o : Order) {left behind : Option (List ℕ)} {held : List ℕ} {answer other : Found} → Consumes left (left_for held behind) [] → answer ≡ other → Finds o (Ok answer) held behind
    → FindsAt o left (Ok other) held behind
finds-as o {behind = behind} {held = held} kept is finds = record { kept = kept; finds = subst (λ (a : Found). Finds o (Ok a) held behind) is finds }

-- what a read that gives up nothing leaves
pub consumed : (left behind : Option (List ℕ)) (held rest : List ℕ) → left ≡ Some rest → Consumes left (left_for held behind) [] → (more : List ℕ) × (behind ≡ Some more) × (rest ≡ held ++ more)
consumed left None held rest told c = absurd (subst (λ (o : Option (List ℕ)). Consumes o None []) told c)
consumed left (Some more) held rest told c = (more, refl, subst (λ (o : Option (List ℕ)). Consumes o (Some (held ++ more)) []) told c)

-- one more record, which stands at the front of what is held after a read
pub read-more : (o : Order) (bytes : List ℕ) (packets : List Packet) (left behind : Option (List ℕ)) (held : List ℕ) (size : ℕ) → HasRead o bytes packets left
    → FindsAt o left (Ok (found.Record size)) held behind → HasRead o bytes (packets ++ front size held ∷ []) (left_for (drop (16 + size) held) behind)
read-more o bytes packets left behind held size h f =
    let c = consumed left behind held h.rest h.told f.kept in
    let next = drop (16 + size) held ++ c.0 in
    let own : IsPacket o h.rest (front size held) next = subst (λ (bs : List ℕ). IsPacket o bs (front size held) next) (sym c.2) (front-is o held c.0 size f.finds.0 f.finds.1 f.finds.2) in
    record {
      rest = next;
      told = ap (λ b. left_for (drop (16 + size) held) b) c.1;
      body = λ more ending body.
          subst (λ (ps : List Packet). ArePackets o bytes ps ending) (sym (append_assoc packets (front size held ∷ []) more))
          (h.body (front size held ∷ more) ending (next, own, body));
      behind = λ n number packet is stands.
          let later : number ≡ length packets + suc n = omega (arith, is, length-append packets (front size held ∷ [])) in
          h.behind (suc n) number packet later (front size held, next, own, stands);
    }

-- where the record stands that stands at the front of what is held after a read
pub read-stands : (o : Order) (bytes : List ℕ) (packets : List Packet) (left behind : Option (List ℕ)) (held : List ℕ) (size number : ℕ) → HasRead o bytes packets left
    → FindsAt o left (Ok (found.Record size)) held behind → number ≡ length packets → StandsAt o bytes number (front size held)
read-stands o bytes packets left behind held size number h f is =
    let c = consumed left behind held h.rest h.told f.kept in
    let next = drop (16 + size) held ++ c.0 in
    let own : IsPacket o h.rest (front size held) next = subst (λ (bs : List ℕ). IsPacket o bs (front size held) next) (sym c.2) (front-is o held c.0 size f.finds.0 f.finds.1 f.finds.2) in
    let same : number ≡ length packets + 0 = omega (arith, is) in
    h.behind 0 number (front size held) same (next, own)

-- what is left at the end is what is held
ended : (left : Option (List ℕ)) (more : List ℕ) → left ≡ Some more → IsAtEnd left → more ≡ []
ended left more is end = subst (λ (o : Option (List ℕ)). IsAtEnd o) is end

-- the capture ends behind the records
pub read-end : (o : Order) (bytes : List ℕ) (packets : List Packet) (left behind : Option (List ℕ)) (held : List ℕ) (ending : Result Next PcapFault) → HasRead o bytes packets left
    → Consumes left (left_for held behind) [] → IsAtEnd behind → IsRest o 0 held ending → ArePackets o bytes packets ending
read-end o bytes packets left behind held ending h kept end rest =
    let c = consumed left behind held h.rest h.told kept in
    let all : h.rest ≡ held = c.2 ∙ ap (λ ys. held ++ ys) (ended behind c.0 c.1 end) ∙ append-nil held in
    subst (λ (ps : List Packet). ArePackets o bytes ps ending) (append-nil packets)
    (h.body [] ending (subst (λ (bs : List ℕ). IsRest o 0 bs ending) (sym all) rest))
