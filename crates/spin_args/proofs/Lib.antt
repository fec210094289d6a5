pub mod CommandForms
pub mod CommandShape
pub mod PlainWalk
pub mod ArgumentParsing
