pub mod OfSources
