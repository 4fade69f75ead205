pub mod ReadRows
pub mod RfcRows
