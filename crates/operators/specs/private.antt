pub mod Numbered
pub mod Admitted
