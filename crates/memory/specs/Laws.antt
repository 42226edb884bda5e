-- What holds of reading and storing, for the layers above. `LayoutLaws` speaks of the numbers that cells hold, in an image of any layout; a layout that
-- keeps it keeps `MemoryLaws` (proofs/Rules.antt). proofs/Laws.antt proves both of the packed image, and `ByteLaws`.
use Rattle.std.specs.Prelude.{◌≡◌, ◌≢◌, ◌⊎◌, List, ℕ, ◌+◌, ◌%◌, ◌^◌, ◌≤◌, ◌<◌, T, ℤ, pos, Float, length, get_or, set, Ok}
use Rattle.reals.specs.Singles.{Single}
use Rattle.words.specs.Laws.{Bytes}
use Rattle.values.specs.declared.Value.{Value}
use Rattle.values.specs.declared.Value.TheVariants.{Int, Real}
use Rattle.values.specs.declared.Fault.{Fault}
use Rattle.values.specs.declared.Outcome.TheVariants.{Done}
use Rattle.values.specs.Integers.{in_range}
use Rattle.values.specs.Laws.{in_bits}
use Rattle.operators.specs.Laws.{Proper, OfKind, AllProper}
use Rattle.memory.specs.declared.Bank.{Bank}
use Rattle.memory.specs.declared.Bank.TheVariants.{X, C, «V», N, D, R}
use Rattle.memory.specs.Layout.{layout_of, flag_at, block_of, block_at, ImageLayout, has_cell_in, has_cell}
use Rattle.memory.specs.Cells.{bank_kind, cell_value, read_in, indexed_in}
use Rattle.memory.specs.Store.{encode_cell, with_flag_in, store_in, with_flag, store_image}

-- two cells that are not the same
abbrev pub Distinct : Bank → ℕ → Bank → ℕ → Type 0
Distinct b i c j = (b ≢ c) ⊎ (i ≢ j)

-- the banks of bits
pub data Bits : Bank → Type 0 where
  is_x : Bits X
  is_c : Bits C

-- how many numbers a cell of the bank can hold: a bit 0 and 1
abbrev pub modulus : Bank → ℕ
modulus X = 2
modulus C = 2
modulus «V» = 2 ^ 16
modulus N = 2 ^ 16
modulus D = 2 ^ 32
modulus R = 2 ^ 32

-- a number that can be put into a cell of the bank: into a bit 0 or 1, since another could reach its neighbour in a byte; into a word any, of which it
-- keeps the remainder
pub record Holdable (b : Bank) (n : ℕ) : Type 0 where
  pub bit : Bits b → n < 2

-- of an image of the layout's size: what is put into a cell is there, and every other cell and flag stays; so what is written to distinct places commutes
pub record LayoutLaws (F : ImageLayout) : Type 0 where
  pub get_put : (s : List ℕ) (b : Bank) (i n : ℕ) → length s ≡ F.size → i < (layout_of b).elements → Holdable b n → F.get (F.put s b i n) b i ≡ n % modulus b
  pub get_other : (s : List ℕ) (b : Bank) (i n : ℕ) (c : Bank) (j : ℕ) → length s ≡ F.size → i < (layout_of b).elements → j < (layout_of c).elements
      → Holdable b n → Distinct b i c j → F.get (F.put s b i n) c j ≡ F.get s c j
  pub get_flag : (s : List ℕ) (f : Fault) (c : Bank) (j : ℕ) → length s ≡ F.size → j < (layout_of c).elements → F.get (set s (F.flag f) 1) c j ≡ F.get s c j
  pub flag_put : (s : List ℕ) (b : Bank) (i n : ℕ) (f : Fault) → length s ≡ F.size → i < (layout_of b).elements
      → get_or (F.put s b i n) (F.flag f) 0 ≡ get_or s (F.flag f) 0
  pub put_put : (s : List ℕ) (b : Bank) (i n : ℕ) (c : Bank) (j m : ℕ) → length s ≡ F.size → i < (layout_of b).elements → j < (layout_of c).elements
      → Holdable b n → Holdable c m → Distinct b i c j → F.put (F.put s b i n) c j m ≡ F.put (F.put s c j m) b i n
  pub put_flag : (s : List ℕ) (b : Bank) (i n : ℕ) (f : Fault) → length s ≡ F.size → i < (layout_of b).elements
      → set (F.put s b i n) (F.flag f) 1 ≡ F.put (set s (F.flag f) 1) b i n
  -- the size stays, in an image of any; each flag has a byte of its own in the image
  pub put_length : (s : List ℕ) (b : Bank) (i n : ℕ) → length (F.put s b i n) ≡ length s
  pub flag_inside : (f : Fault) → F.flag f < F.size
  pub flag_apart : (f g : Fault) → F.flag f ≡ F.flag g → f ≡ g
  -- a cell's number fits its bytes
  pub get_below : (s : List ℕ) (b : Bank) (i : ℕ) → length s ≡ F.size → i < (layout_of b).elements → Bytes s → F.get s b i < 256 ^ (layout_of b).width

-- the values that a bank holds as they are
pub data Representable : Bank → Value → Type 0 where
  off : Representable C (Int (pos 0))
  on : Representable C (Int (pos 1))
  unsigned : (n : ℕ) → n < 2 ^ 16 → Representable «V» (Int (pos n))
  signed : (z : ℤ) → T (in_bits 16 z) → Representable N (Int z)
  integer : (z : ℤ) → T (in_range z) → Representable D (Int z)
  real : (x : Float) → Single x → Representable R (Real x)

pub record MemoryLaws (F : ImageLayout) : Type 0 where
  -- a store then read gives what the bank holds of the value; every other cell reads as before, and so after a flag is set
  pub read_stored : (s : List ℕ) (b : Bank) (i : ℕ) (v : Value) (p : ℕ) → T (has_cell_in F s b i) → Proper v → encode_cell b v ≡ Ok p
      → read_in F (store_in F s b i v) b i ≡ cell_value b p
  pub read_other : (s : List ℕ) (b : Bank) (i : ℕ) (c : Bank) (j : ℕ) (v : Value) → Distinct b i c j → read_in F (store_in F s b i v) c j ≡ read_in F s c j
  pub read_flagged : (s : List ℕ) (f : Fault) (c : Bank) (j : ℕ) → read_in F (with_flag_in F s f) c j ≡ read_in F s c j
  -- what a bank holds of a value can be put into its cells; the image keeps its length
  pub holdable : (b : Bank) (v : Value) (p : ℕ) → encode_cell b v ≡ Ok p → Holdable b p
  pub same_length : (s : List ℕ) (b : Bank) (i : ℕ) (v : Value) → length (store_in F s b i v) ≡ length s
  -- a cell of bytes reads a proper value of its bank's kind, or a fault
  pub read_proper : (s : List ℕ) (b : Bank) (i : ℕ) → Bytes s → AllProper (read_in F s b i)
  pub read-kind : (s : List ℕ) (b : Bank) (i : ℕ) → OfKind (bank_kind b) (read_in F s b i)
  -- and so does an index
  pub indexed_proper : (s : List ℕ) (b : Bank) (v : Value) → Bytes s → AllProper (indexed_in F s b v)
  pub indexed-kind : (s : List ℕ) (b : Bank) (v : Value) → OfKind (bank_kind b) (indexed_in F s b v)
  -- so a value that the bank holds as it is reads back as itself: an integer from D, a real from R
  pub read_back : (s : List ℕ) (b : Bank) (i : ℕ) (v : Value) → T (has_cell_in F s b i) → Representable b v → read_in F (store_in F s b i v) b i ≡ Done v
  -- a set flag is 1; every other flag is as before
  pub flag_set : (s : List ℕ) (f : Fault) → length s ≡ F.size → get_or (with_flag_in F s f) (F.flag f) 0 ≡ 1
  pub flag_other : (s : List ℕ) (f g : Fault) → g ≢ f → get_or (with_flag_in F s f) (F.flag g) 0 ≡ get_or s (F.flag g) 0
  -- stores to distinct cells commute, a store and a flag, and two flags, whatever is stored and whatever the image's size
  pub stores_commute : (s : List ℕ) (b : Bank) (i : ℕ) (v : Value) (c : Bank) (j : ℕ) (w : Value) → Distinct b i c j
      → store_in F (store_in F s b i v) c j w ≡ store_in F (store_in F s c j w) b i v
  pub store_flag_commute : (s : List ℕ) (b : Bank) (i : ℕ) (v : Value) (f : Fault) → with_flag_in F (store_in F s b i v) f ≡ store_in F (with_flag_in F s f) b i v
  pub flags_commute : (s : List ℕ) (f g : Fault) → with_flag_in F (with_flag_in F s f) g ≡ with_flag_in F (with_flag_in F s g) f

-- the byte k is one of those of the element's block
pub record InBlock (b : Bank) (i k : ℕ) : Type 0 where
  pub from : block_at b i ≤ k
  pub to : k < block_at b i + (layout_of b).width

-- the two elements are of one block: two bits of a byte, or the same element
pub record OneBlock (b : Bank) (i : ℕ) (c : Bank) (j : ℕ) : Type 0 where
  pub bank : b ≡ c
  pub block : block_of b i ≡ block_of c j

-- of the packed image, byte by byte
pub record ByteLaws : Type 0 where
  -- blocks that share a byte are one, and none has a flag's byte
  pub shared : (b : Bank) (i : ℕ) (c : Bank) (j k : ℕ) → i < (layout_of b).elements → j < (layout_of c).elements → InBlock b i k → InBlock c j k
      → OneBlock b i c j
  pub no_flag : (b : Bank) (i : ℕ) (f : Fault) → i < (layout_of b).elements → InBlock b i (flag_at f) → ⊥
  -- a store that is done changes the block's bytes only, a flag its own
  pub others_kept : (s : List ℕ) (b : Bank) (i : ℕ) (v : Value) (p k : ℕ) → encode_cell b v ≡ Ok p → T (has_cell s b i)
      → (InBlock b i k → ⊥) → get_or (store_image s b i v) k 0 ≡ get_or s k 0
  pub flag_rest : (s : List ℕ) (f : Fault) (k : ℕ) → k ≢ flag_at f → get_or (with_flag s f) k 0 ≡ get_or s k 0
