-- For the contract of `read_more`: the bytes read lie in the window.
use Rattle.std.specs.Prelude.{ℕ, ◌+◌, ◌≤◌, ◌<◌}
use Rattle.replay.specs.declared.Got.{Got}
use Rattle.replay.specs.declared.Got.TheVariants.{Bytes, End, Failed}

pub data ReadInto (held size : ℕ) : Got → Type 0 where
  some : (n : ℕ) → 0 < n → held + n ≤ size → ReadInto held size (Bytes n)
  none : ReadInto held size End
  broken : ReadInto held size Failed
