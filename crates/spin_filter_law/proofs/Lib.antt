pub mod EntryOrder
pub mod CommandEntries
pub mod SendOrder
pub mod RecordRuns
pub mod FilterRun
