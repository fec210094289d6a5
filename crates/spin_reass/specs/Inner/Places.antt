-- The place of an open datagram.
use Rattle.std.specs.Prelude.{◌≡◌, ℕ, List, Some, position}
use Rattle.spin_reass.specs.declared.piece.Key.{Key}
use Rattle.spin_reass.specs.Joining.{OpenDatagram, has_key}

-- At that place stands the first datagram of the key.
abbrev pub IsAt : Key → ℕ → List OpenDatagram → Type 0
IsAt key at datagrams = position (has_key key) datagrams ≡ Some at
