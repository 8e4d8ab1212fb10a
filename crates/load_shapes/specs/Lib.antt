pub mod Meaning
pub mod Weights
pub mod Faults
pub mod Days
pub mod Even
pub mod Layers
pub mod EvenLaws
pub mod LayerLaws
