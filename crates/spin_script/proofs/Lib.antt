mod LaneLineCounts
mod ListElements
mod DeclarationFaults
mod ReadLineSoundness
pub mod LastHandler
mod SectionOrder
mod LineSections
mod LineSoundness
pub mod LineCauses
pub mod AddedUnits
pub mod ScriptReading
pub mod BareScripts
pub mod BareLines
pub mod OutcomeUniqueness
pub mod WrittenParts
pub mod CanonicalText
pub mod WrittenLines
pub mod LineNumbers
pub mod LinePlaces
pub mod WritableScripts
pub mod WrittenDeeds
pub mod WrittenDeclarations
pub mod LineRuns
pub mod LineSwaps
pub mod CanonicalBlocks
pub mod CanonicalLines
pub mod CanonicalPlaces
pub mod CanonicalRoundTrip
pub mod CatalogueBodies
pub mod DeclaredUnits
pub mod TextDeclarations
pub mod LaneLines
pub mod SayableWords
mod SayableLines
mod OutcomeExistence
