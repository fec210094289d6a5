pub mod DrawLemmas
pub mod ScriptText
pub mod LineOrder
pub mod ScriptLines
pub mod CaptureLemmas
