-- What holds of the two images and their conversions: proofs/Theorems.antt proves this record.
use Rattle.std.specs.Prelude.{◌≡◌, ◌≢◌, List, ℕ, ◌<◌, length, get_or}
use Rattle.words.specs.Laws.{Bytes}
use Rattle.values.specs.declared.Value.{Value}
use Rattle.values.specs.declared.Fault.{Fault}
use Rattle.memory.specs.declared.Bank.{Bank}
use Rattle.memory.specs.declared.Bank.TheVariants.{C}
use Rattle.memory.specs.Layout.{image_size, layout_of, packed}
use Rattle.memory.specs.Laws.{Holdable, LayoutLaws}
use Rattle.memory.specs.Environment.{memory_in}
use Rattle.memory.specs.Store.{with_flag_in, store_in, store_answer_in}
use Rattle.images.specs.Bytewise.{old_size, bytewise}
use Rattle.images.specs.Conversions.{Corresponds, packed_of, unpacked_of}

-- cells and flags are all of the new image
pub record SameCells (m n : List ℕ) : Type 0 where
  pub cells : (b : Bank) (i : ℕ) → i < (layout_of b).elements → packed.get m b i ≡ packed.get n b i
  pub flags : (f : Fault) → get_or m (packed.flag f) 0 ≡ get_or n (packed.flag f) 0

-- each bit's byte is 0 or 1
abbrev pub Digits : List ℕ → Type 0
Digits m = (k : ℕ) → k < 128 → get_or m k 0 < 2

pub record ImageTheorems : Type 0 where
  -- the old layout keeps the laws too
  pub old_laws : LayoutLaws bytewise
  -- corresponding images are one environment: to every formula, index and code, at every tick
  pub environment : (tick : ℕ) (m n : List ℕ) → Corresponds m n → memory_in bytewise tick m ≡ memory_in packed tick n
  -- a number that the cell can hold, put into it, leaves corresponding images
  pub put : (m n : List ℕ) (b : Bank) (i p : ℕ) → Corresponds m n → i < (layout_of b).elements → Holdable b p
      → Corresponds (bytewise.put m b i p) (packed.put n b i p)
  -- a store, and a flag, give the same answer and corresponding images
  pub stored : (m n : List ℕ) (b : Bank) (i : ℕ) (v : Value) → Corresponds m n
      → (store_answer_in bytewise m b i v ≡ store_answer_in packed n b i v) × Corresponds (store_in bytewise m b i v) (store_in packed n b i v)
  pub flagged : (m n : List ℕ) (f : Fault) → Corresponds m n → Corresponds (with_flag_in bytewise m f) (with_flag_in packed n f)
  -- "Each conversion gives the corresponding image, an old one with 0 or 1 for each bit."
  pub packs : (m : List ℕ) → length m ≡ old_size → Corresponds m (packed_of m)
  pub unpacks : (n : List ℕ) → length n ≡ image_size → Corresponds (unpacked_of n) n × Digits (unpacked_of n)
  -- there is one: "the corresponding image"
  pub only : (m n : List ℕ) → Corresponds m n → Bytes m → Bytes n → n ≡ packed_of m
  pub only_old : (m n : List ℕ) → Corresponds m n → Bytes m → Bytes n → Digits m → m ≡ unpacked_of n
  pub back : (n : List ℕ) → length n ≡ image_size → Bytes n → packed_of (unpacked_of n) ≡ n
  -- "Writing one C bit keeps its seven neighbours."
  pub neighbours : (n : List ℕ) (i j d : ℕ) → length n ≡ image_size → i < 64 → j < 64 → i ≢ j → d < 2 → packed.get (packed.put n C i d) C j ≡ packed.get n C j
  pub covered : (m n : List ℕ) → length m ≡ image_size → length n ≡ image_size → Bytes m → Bytes n → SameCells m n → m ≡ n
