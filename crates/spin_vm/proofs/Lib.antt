pub mod RegionOrder
pub mod TraceLines
pub mod SpaceRegions
pub mod SpaceIsolation
pub mod WrittenTexts
pub mod Commands
pub mod TraceEnds
