pub mod CheckCauses
pub mod CheckKnown
pub mod StandingNames
pub mod VmCauses
pub mod VmKnown
