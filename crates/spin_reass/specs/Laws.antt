-- Laws of joined captures, over the definitions alone.
use Rattle.std.specs.Prelude.{◌≡◌, ℕ, ◌<◌, ◌≤◌, ◌+◌, true, false, List, [], ◌∷◌, ◌++◌, length}
use Rattle.std.specs.Prelude.{take, drop, Some, ⊤, ◌⊎◌, Ok}
use Rattle.std.specs.List.{list_any}
use Rattle.spin_headers.specs.Headers.{ipv4_header}
use Rattle.spin_pcap.specs.declared.next.Next.{Next}
use Rattle.spin_pcap.specs.declared.order.Order.{Order}
use Rattle.spin_pcap.specs.declared.order.Order.TheVariants as order
use Rattle.spin_pcap.specs.Captures.{IsCapture}
use Rattle.spin_reass.specs.declared.limits.TheConstants.{MAX_OPEN}
use Rattle.spin_reass.specs.declared.piece.Key.{Key}
use Rattle.spin_reass.specs.declared.piece.Part.{Part}
use Rattle.spin_reass.specs.declared.piece.Piece.{Piece}
use Rattle.spin_reass.specs.Fragments.{piece_of, end_of, is_sound}
use Rattle.spin_reass.specs.JoinedCaptures.{joined_capture}
use Rattle.spin_reass.specs.Joining.{OpenDatagram, has_byte, same_key, has_key, joined_frames}

-- The two share no byte.
abbrev pub Apart : Part → Part → Type 0
Apart a b = (end_of a ≤ b.start) ⊎ (end_of b ≤ a.start)

-- A sound part of a datagram that carries these bytes: its bytes stand at its place, and it is last
-- exactly where they are the last ones.
pub record IsPartOf (bytes : List ℕ) (part : Part) : Type 0 where
  pub sound : is_sound part ≡ true
  pub within : end_of part ≤ length bytes
  pub is : part.bytes ≡ take (length part.bytes) (drop part.start bytes)
  pub last : part.last ≡ true → end_of part ≡ length bytes
  pub only : end_of part ≡ length bytes → part.last ≡ true

-- P holds of each of them.
abbrev pub Each : (Part → Type 0) → List Part → Type 0
Each P [] = ⊤
Each P (part ∷ parts) = P part × Each P parts

-- No two of them share a byte.
abbrev pub AreApart : List Part → Type 0
AreApart [] = ⊤
AreApart (part ∷ parts) = Each (λ other. Apart part other) parts × AreApart parts

-- the part is one of them
abbrev pub IsAmong : Part → List Part → Type 0
IsAmong part [] = ⊥
IsAmong part (one ∷ others) = (one ≡ part) ⊎ IsAmong part others

-- In some order they are the parts of a datagram that carries these bytes: they share none, and each
-- byte is in one of them.
pub record AreParts (bytes : List ℕ) (parts : List Part) : Type 0 where
  pub each : Each (IsPartOf bytes) parts
  pub apart : AreApart parts
  pub all : (at : ℕ) → at < length bytes → list_any (λ part. has_byte at part) parts ≡ true

-- What the frame carries a part of, if it does, is the datagram of another key, one of these.
abbrev pub IsOther : Key → List Key → List ℕ → Type 0
IsOther key others frame =
    (piece : Piece) → piece_of frame ≡ Some piece
    → (same_key piece.key key ≡ false)
    × (list_any (λ other. same_key other piece.key) others ≡ true)

-- The frames carry these parts of the datagram of that key, in this order, and else nothing but
-- parts of the others.
abbrev pub Carry : Key → List Key → List (List ℕ) → List Part → Type 0
Carry key others [] [] = ⊤
Carry key others [] (part ∷ parts) = ⊥
Carry key others (frame ∷ frames) [] = IsOther key others frame × Carry key others frames []
Carry key others (frame ∷ frames) (part ∷ parts) =
    (IsOther key others frame × Carry key others frames (part ∷ parts))
    ⊎ ((piece_of frame ≡ Some (record { key = key; part = part }))
    × Carry key others frames parts)

-- Frames carry the parts of a datagram of which none is open, in any order; between the first and
-- the last of them stand nothing but parts of fewer than 64 other datagrams. Then the last frame is
-- replaced by one with the whole datagram.
abbrev pub WholeInAnyOrder : Type 0
WholeInAnyOrder =
    (datagrams : List OpenDatagram) (key : Key) (others : List Key)
    (first last : List ℕ) (between : List (List ℕ))
    (bytes : List ℕ) (one end head : Part) (parts : List Part)
    → list_any (has_key key) datagrams ≡ false
    → length others < MAX_OPEN
    → piece_of first ≡ Some (record { key = key; part = one })
    → Carry key others between parts
    → piece_of last ≡ Some (record { key = key; part = end })
    → AreParts bytes (one ∷ (parts ++ end ∷ []))
    → IsAmong head (one ∷ (parts ++ end ∷ [])) → head.start ≡ 0
    → (before : List (List ℕ))
    × (joined_frames datagrams (first ∷ (between ++ last ∷ []))
    ≡ before ++ (take 14 last
    ++ ipv4_header key.ident head.ttl key.protocol key.source key.destination (length bytes)
    ++ bytes) ∷ [])

-- The joined capture of a good capture is a good capture: its records are the frames that take the
-- places of those, and its rest is answered as theirs is.
abbrev pub JoinedIsCapture : Type 0
JoinedIsCapture =
    (file : List ℕ) (way : Order) (frames : List (List ℕ)) (ending : Next)
    → IsCapture file way frames (Ok ending)
    → IsCapture (joined_capture frames ending) order.Little (joined_frames [] frames) (Ok ending)
