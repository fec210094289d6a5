pub mod FoundFiles
pub mod FileNames
pub mod FileLists
pub mod ReadLoops
pub mod WriteLoops
mod ToldAnswers
