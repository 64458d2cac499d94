pub mod Encoding
pub mod Cone
pub mod Numbering
pub mod CnfMeaning
