-- What contracts see of an endpoint that keeps its pieces in memory.
use Rattle.std.specs.Prelude.{ℕ, List, Bool, Some, ◌||◌, ◌&&◌, ◌+◌, ◌-◌, ◌++◌, ◌∷◌, [], not, nat_lt}
use Rattle.std.specs.Prelude.{nat_le, length, if◌then◌else◌}
use Rattle.spin_outside.specs.Calls.{CallsState, no_call, next_fails, counted}
use Rattle.spin_endpoint.specs.Endpoints.{EndpointSeen}

-- the pieces that were kept, and how many pieces and how many bytes there is still room for
pub record PiecesState : Type 0 where
  pub pieces : List (List ℕ)
  pub pieces_left : ℕ
  pub bytes_left : ℕ

-- no piece, and room for so many with so many bytes in all
abbrev pub no_piece : ℕ → ℕ → PiecesState
no_piece pieces bytes = record { pieces = []; pieces_left = pieces; bytes_left = bytes }

-- whether there is room for the piece
abbrev pub fits : PiecesState → List ℕ → Bool
fits kept piece = nat_lt 0 kept.pieces_left && nat_le (length piece) kept.bytes_left

-- the pieces, with one more
abbrev pub with_kept : PiecesState → List ℕ → PiecesState
with_kept kept piece = record {
  pieces = kept.pieces ++ piece ∷ [];
  pieces_left = kept.pieces_left - 1;
  bytes_left = kept.bytes_left - length piece;
}

-- the endpoint: what it keeps, its calls, how often it was finished, and its count of faults
pub record KeepState : Type 0 where
  pub kept : PiecesState
  pub calls : CallsState
  pub finishes : ℕ
  pub faults : ℕ

-- the endpoint with room for so many pieces with so many bytes in all, as it is made
abbrev pub empty_end : ℕ → ℕ → KeepState
empty_end pieces bytes = record {
  kept = no_piece pieces bytes;
  calls = no_call;
  finishes = 0;
  faults = 0;
}

abbrev pub keep_seen : KeepState → EndpointSeen
keep_seen end =
    record { pieces = Some end.kept.pieces; finishes = end.finishes; faults = end.faults }

-- The next `take` fails: its number is listed, or there is no room for the piece.
abbrev pub refuses : KeepState → List ℕ → Bool
refuses end piece = next_fails end.calls || not (fits end.kept piece)

-- the endpoint after a `take` of the piece
abbrev pub taken : KeepState → List ℕ → KeepState
taken end piece =
    if refuses end piece
    then record end { calls = counted end.calls; faults = end.faults + 1 }
    else record end { kept = with_kept end.kept piece; calls = counted end.calls }
