pub mod WalkLemmas
mod NotedItems
mod TurnedLists
mod NotedActs
mod NotedTurns
pub mod LeastOrders
pub mod BoundEvents
pub mod RisingRaises
pub mod RaiseTurns
pub mod JobCalls
pub mod RaiseLemmas
pub mod ReplyLemmas
pub mod JobCounts
pub mod RenamedRaises
pub mod RenamedReplies
