-- The laws of totals: other crates cite Laws.
mod Folds
mod Kept
mod Sums
mod Middle
mod Within
mod Numbers
mod Runs
mod Admitted
pub mod Laws
mod Samples
