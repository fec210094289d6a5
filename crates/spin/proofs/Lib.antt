-- What proofs of a host cite: lemmas of the crates below, and the rows of types that cross to other threads.
pub mod ThreadCrossing
pub use Rattle.spin_seat.proofs.SeatAnswers
pub use Rattle.spin_seat.proofs.SeatPairs
pub use Rattle.spin_later.specs.contracts.party.Party as PartyRow
pub use Rattle.spin_values.specs.contracts.no_memory.NoMemory as NoMemoryRow
