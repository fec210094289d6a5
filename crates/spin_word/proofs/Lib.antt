pub mod RowFields
