mod Known
mod OfRun
