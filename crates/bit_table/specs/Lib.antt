pub mod Computing
