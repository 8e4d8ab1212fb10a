pub mod Asked
pub mod FromFn
mod Bounds
mod Chosen
