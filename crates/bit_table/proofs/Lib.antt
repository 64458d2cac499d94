pub mod OfComputing
pub mod OfResults
