-- Laws for the proofs of cells.
mod Arms
pub mod Signs
pub mod Singles
