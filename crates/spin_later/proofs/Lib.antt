pub mod TaskFilters
pub mod QueueSteps
pub mod PassSteps
pub mod NewPasses
pub mod ThreadCrossing
pub mod ZippedLists
pub mod WorkerLemmas
pub mod TaskUniqueness
