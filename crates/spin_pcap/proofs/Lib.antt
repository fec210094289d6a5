pub mod WholeRecords
pub mod SourceBytes
pub mod CaptureUniqueness
pub mod FileHeaders
pub mod CaptureTotality
pub mod Making
pub mod Growing
pub mod CaptureRecords
