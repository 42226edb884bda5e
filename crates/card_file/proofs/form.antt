pub mod Fields
mod Lines
