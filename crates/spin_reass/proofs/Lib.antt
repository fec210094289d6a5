pub mod CaptureLemmas
mod PartCovers
mod Frames
mod DatagramParts
mod AddedParts
mod GivenRecords
mod OpenDatagrams
mod PartOrder
mod DatagramPlaces
mod JoinedRecords
