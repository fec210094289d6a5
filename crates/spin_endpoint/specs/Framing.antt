-- How a piece stands in a file.
use Rattle.std.specs.Prelude.{◌≡◌, ℕ, List, Option, None, ◌++◌, length, IfSome, IsSomeAnd, ⊤}
use Rattle.std.specs.Int.{bytes_high_first}
use Rattle.std.specs.Io.KnownBytes.{Appends}
use Rattle.spin_endpoint.specs.Endpoints.{EndpointSeen}

-- its length in four bytes, the highest first, and then the piece
abbrev pub framed : List ℕ → List ℕ
framed piece = bytes_high_first 4 (length piece) ++ piece

-- an endpoint over a file tells no piece
abbrev pub file_seen : ℕ → ℕ → EndpointSeen
file_seen finishes faults = record { pieces = None; finishes = finishes; faults = faults }

-- A file is kept that has the framed piece more than before: the one that was kept, or one that was opened for it.
abbrev pub IsAppended : {F : Type 0} → (F → Option (List ℕ)) → Option F → Option F → List ℕ → Type 0
IsAppended {F} contents before after piece =
    IsSomeAnd after
    (λ new. (old : F) × IfSome before (λ kept. kept ≡ old) × Appends (contents old) (contents new) (framed piece))

-- A file is kept, where one was.
abbrev pub IsKept : {F : Type 0} → Option F → Option F → Type 0
IsKept {F} before after = IfSome before (λ _. IsSomeAnd after (λ _. ⊤))
