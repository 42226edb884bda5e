-- How the code has what the definitions speak of: a kind as a number, 0 for an integer, and the kinds of the values held as bits. For the contracts of
-- private functions, as Pass is; a reader believes Typing, Accepts, Stack and Safety.
use Rattle.std.specs.Prelude.{◌≡◌, Bool, true, false, cond, List, [], ◌∷◌, ℕ, zero, suc, ◌-◌, ◌/◌, ◌%◌, ◌<◌, eqb, ltb, length, get_or, Option, None, Some}
pub use Rattle.operators.specs.Kinds.{number_kind, kind_number}
use Rattle.memory.specs.Layout.{layout_of}
use Rattle.memory.specs.Cells.{bank_kind}
use Rattle.memory.specs.Numbers.{bank_numbered, bank_typed, bank_elements}
use Rattle.totals.specs.Totals.{range_within}
use Rattle.code.specs.declared.Instr.{Instr}
use Rattle.code.specs.Instructions.{range_bank, range_first, range_count}
use Rattle.verifier.specs.declared.packing.Held.{Held}
use Rattle.verifier.specs.declared.places.Brought.{Brought}
use Rattle.verifier.specs.declared.typing.Flow.{Flow}
use Rattle.verifier.specs.declared.typing.Flow.TheVariants.{Refused, Left, On}
use Rattle.verifier.specs.Typing.{Shape, Move, ill_typed, next, push_kind, move_of}
pub use Rattle.verifier.specs.Verdicts.{State, rejected, unreached, holds}
use Rattle.memory.specs.declared.Bank.{Bank}

-- ---- what an instruction leaves: the number of a kind, or more than 1 for nothing

-- a kind whose number is less than l
abbrev pub leaving_under : ℕ → ℕ → Shape → Move
leaving_under l n s = cond (ltb n l) (next (number_kind n ∷ s)) ill_typed

abbrev pub push_under : ℕ → ℕ → Shape → Move
push_under l n s = cond (ltb n l) (push_kind (number_kind n) s) ill_typed

-- a kind in the place of the last, or of the last two
abbrev pub replace_under : ℕ → ℕ → Shape → Move
replace_under l n [] = ill_typed
replace_under l n (k ∷ s) = leaving_under l n s

abbrev pub replace_two_under : ℕ → ℕ → Shape → Move
replace_two_under l n [] = ill_typed
replace_two_under l n (k ∷ []) = ill_typed
replace_two_under l n (k ∷ (j ∷ s)) = leaving_under l n s

-- either kind; without reals an integer alone
abbrev pub kind_limit : Bool → ℕ
kind_limit true = 2
kind_limit false = 1

abbrev pub leaving : ℕ → Shape → Move
leaving n s = leaving_under 2 n s

abbrev pub push_number : ℕ → Shape → Move
push_number n s = push_under 2 n s

-- an instruction that leaves it in the place of nothing, of a value of the kind k, or of two, j below k
pub record LeavesKind (i : Instr) (n : ℕ) : Type 0 where
  pub is : (s : Shape) → move_of i s ≡ push_number n s

pub record ReplacesKind (i : Instr) (k n : ℕ) : Type 0 where
  pub is : (s : Shape) → move_of i (number_kind k ∷ s) ≡ leaving n s

pub record ReplacesTwo (i : Instr) (j k n : ℕ) : Type 0 where
  pub is : (s : Shape) → move_of i (number_kind k ∷ (number_kind j ∷ s)) ≡ leaving n s

-- a load of an element leaves its bank's kind
abbrev pub element_typed : Option Bank → ℕ → ℕ
element_typed (Some b) i = cond (ltb i (layout_of b).elements) (kind_number (bank_kind b)) 2
element_typed None i = 2

-- the range of a word lies within its bank
abbrev pub within_bank : ℕ → Bool
within_bank w = range_within (bank_elements (bank_numbered (range_bank w))) (range_first w) (range_count w)

-- without reals a match over R is barred, whatever it leaves
abbrev pub bars_range : Bool → ℕ → Bool
bars_range true w = false
bars_range false w = eqb (bank_typed (bank_numbered (range_bank w))) 1

-- ---- kinds as bits

-- the kinds of the lowest h bits, the lowest first
abbrev pub bit_kinds : ℕ → ℕ → Shape
bit_kinds zero b = []
bit_kinds (suc h) b = number_kind (b % 2) ∷ bit_kinds h (b / 2)

abbrev pub kinds_of : Held → Shape
kinds_of w = bit_kinds w.height w.bits

-- the kinds below the last
abbrev pub below : Shape → Shape
below [] = []
below (k ∷ s) = s

-- the array has the last value's kind
pub record ArrayHolds (a : List ℕ) (w : Held) : Type 0 where
  pub whole : length a ≡ 128
  pub last : 0 < w.height → get_or a (w.height - 1) 0 ≡ w.bits % 2

-- ---- what flows on

abbrev pub state_of : Flow → State
state_of Refused = rejected
state_of Left = unreached
state_of (On w) = holds (kinds_of w)

-- and the array a, which keeps its length, has the last kind of what does
abbrev pub Carries : List ℕ → Flow → Type 0
Carries a Refused = length a ≡ 128
Carries a Left = length a ≡ 128
Carries a (On w) = ArrayHolds a w

-- f is the move m, which is no jump, and leaves the array a: as it was before, where the code is refused
pub data Leaves (before a : List ℕ) (f : Flow) : Move → Type 0 where
  stops : f ≡ Refused → a ≡ before → Leaves before a f ill_typed
  goes : {w : Held} → f ≡ On w → ArrayHolds a w → Leaves before a f (next (kinds_of w))

-- ---- what jumps brought to a place

abbrev pub state_if : Option Held → State
state_if None = unreached
state_if (Some w) = holds (kinds_of w)

-- one more than the height, or 0, and the kinds as bits
abbrev pub state_entry : ℕ → ℕ → State
state_entry zero b = unreached
state_entry (suc h) b = holds (bit_kinds h b)

abbrev pub brought_to : Brought → ℕ → State
brought_to t q = state_entry (get_or t.tops.now q 0) (get_or t.bits.now q 0)

-- nothing was brought, and there is a place for each of n instructions and for the end
pub record Blank (n : ℕ) (tops bits : List ℕ) : Type 0 where
  pub room : n < length tops
  pub sizes : length bits ≡ length tops
  pub no-tops : (q : ℕ) → get_or tops q 0 ≡ 0
  pub no-bits : (q : ℕ) → get_or bits q 0 ≡ 0
