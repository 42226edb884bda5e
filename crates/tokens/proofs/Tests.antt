-- A test that holds, taken apart: what it says of its byte, and of the digit that the byte stands for.
use mathlib.Core.Path.{◌≡◌, refl}
use mathlib.Core.Logic.{◌⊎◌, inl, inr}
use mathlib.Core.Bool.{Bool, true, false, ◌||◌, cond}
use Prim.Native.Nat.{ℕ, ◌-◌, ◌≤◌, ◌<◌}
use native.Mathlib.Omega.{arith}
use lib.Dec.{leb}
use borrow.Author.Tests.{leb-true, le-leb, lt-leb}
pub use Rattle.words.proofs.Tests.{both, false-true as no}
use Rattle.memory.specs.Names.{is_digit}
use Rattle.memory.proofs.names.Decimals.{digit-range}
use Rattle.tokens.specs.Bytes.{byte_between, is_hex}
use Rattle.tokens.specs.Numerals.{hex_digit}

-- by the two ways that a test can come out
pub by-test : {A : Type 0} (t : Bool) → (t ≡ true → A) → (t ≡ false → A) → A
by-test true f g = f refl
by-test false f g = g refl

-- what holds of each choice holds of the one that a test makes
pub choose : {A : Type 0} (P : A → Type 0) (t : Bool) (a b : A) → (t ≡ true → P a) → (t ≡ false → P b) → P (cond t a b)
choose P true a b f g = f refl
choose P false a b f g = g refl

pub either : (a b : Bool) → (a || b) ≡ true → (a ≡ true) ⊎ (b ≡ true)
either true b e = inl refl
either false b e = inr e

pub within : (lo hi c : ℕ) → byte_between lo hi c ≡ true → (lo ≤ c) × (c ≤ hi)
within lo hi c e =
    let h = both (leb lo c) (leb c hi) e in (leb-true lo c h.0, leb-true c hi h.1)

-- a hexadecimal digit lies in one of three ranges
pub data HexRange (c : ℕ) : Type 0 where
  ten : 48 ≤ c → c < 58 → HexRange c
  upper : 65 ≤ c → c ≤ 70 → HexRange c
  lower : 97 ≤ c → c ≤ 102 → HexRange c

pub hex-range : (c : ℕ) → is_hex c ≡ true → HexRange c
hex-range c e = go (either (is_digit c || byte_between 65 70 c) (byte_between 97 102 c) e)
  where
    first : (is_digit c ≡ true) ⊎ (byte_between 65 70 c ≡ true) → HexRange c
    first (inl d) = let h = digit-range c d in ten h.0 h.1
    first (inr u) = let h = within 65 70 c u in upper h.0 h.1

    go : ((is_digit c || byte_between 65 70 c) ≡ true) ⊎ (byte_between 97 102 c ≡ true) → HexRange c
    go (inl f) = first (either (is_digit c) (byte_between 65 70 c) f)
    go (inr l) = let h = within 97 102 c l in lower h.0 h.1

pub digit-small : (c : ℕ) → is_digit c ≡ true → c - 48 < 10
digit-small c e = omega (arith, digit-range c e)

pub hex-small : (c : ℕ) → is_hex c ≡ true → hex_digit c < 16
hex-small c e = go (hex-range c e)
  where
    go : HexRange c → hex_digit c < 16
    go (ten a b) = rw (le-leb c 57 (omega arith)) (omega arith)
    go (upper a b) = rw (lt-leb c 57 (omega arith), le-leb c 70 b) (omega arith)
    go (lower a b) = rw (lt-leb c 57 (omega arith), lt-leb c 70 (omega arith)) (omega arith)
