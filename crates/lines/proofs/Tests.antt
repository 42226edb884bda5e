-- A test that cannot hold, for the crates above.
pub use Rattle.words.proofs.Tests.{false-true as no}
