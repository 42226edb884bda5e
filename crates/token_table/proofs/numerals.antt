-- What the proofs of the module share.
mod Forms
mod Scales
