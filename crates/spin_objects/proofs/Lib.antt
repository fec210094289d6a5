pub mod AddedItems
pub mod NativeLemmas
pub mod NumberedItems
pub mod MappedLists
