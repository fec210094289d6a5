pub mod SumLemmas
pub mod WrittenHeaders
