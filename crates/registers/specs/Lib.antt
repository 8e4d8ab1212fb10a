pub mod Meaning
pub mod Faults
pub mod Dials
pub mod DialLaws
pub mod Pairs
pub mod PairLaws
