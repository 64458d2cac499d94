pub mod Ltl
pub mod Temporal
pub mod Unfolded
pub mod Truth
pub mod Lasso
pub mod Equivalent
