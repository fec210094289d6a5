pub mod RequirementCounts
pub mod IndexLemmas
pub mod LeaderLemmas
pub mod Positions
pub mod RequirementLemmas
pub mod CandidateWalks
