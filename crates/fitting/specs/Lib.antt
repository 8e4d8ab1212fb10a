pub mod Counter
pub mod Disc
pub mod Panel
