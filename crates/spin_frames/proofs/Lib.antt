pub mod HeldRecords
