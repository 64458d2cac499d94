pub mod OfLexemes
