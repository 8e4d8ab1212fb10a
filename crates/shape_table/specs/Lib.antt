pub mod First
pub mod Layout
pub mod InPlace
pub mod Told
pub mod FirstLaws
pub mod TableLaws
