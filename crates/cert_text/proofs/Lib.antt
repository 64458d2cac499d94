mod Pieces
mod Readings
mod Scans
