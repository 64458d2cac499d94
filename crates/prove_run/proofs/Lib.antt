pub mod Answered
pub mod Certified
pub mod Closing
pub mod Finished
pub mod Going
pub mod Invariant
pub mod Results
