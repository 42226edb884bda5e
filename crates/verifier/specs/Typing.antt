-- What each instruction takes and leaves, by kinds: docs/INSTRUCTIONS.md's columns.
use Rattle.std.specs.Prelude.{Bool, true, false, cond, List, [], ◌∷◌, ℕ, ltb, leb, length}
use Rattle.values.specs.declared.Kind.{Kind}
use Rattle.values.specs.declared.Kind.TheVariants.{Int, Real}
use Rattle.operators.specs.Kinds.{is_int, unary_kind, unary_takes, binary_kind, binary_takes}
use Rattle.memory.specs.Cells.{bank_kind}
use Rattle.totals.specs.Totals.{total_kind, match_kind}
use Rattle.code.specs.declared.Instr.{Instr}
use Rattle.code.specs.declared.Instr.TheVariants.{PushInt, PushReal, Load, LoadIndexed, Unary, Binary, Jump, JumpIf, Tick, Since, Total, Match, Unknown}
use Rattle.machine.specs.Machine.{max_height}

-- the kinds of the values held, the last pushed first
abbrev pub Shape : Type 0
Shape = List Kind

-- where an instruction can go: nowhere, since it cannot act on these kinds; to the next; over some; or to either
pub data Move : Type 0 where
  ill_typed : Move
  next : Shape → Move
  jump : ℕ → Shape → Move
  fork : ℕ → Shape → Move

-- "the height never exceeds 128"
abbrev pub has_room : Shape → Bool
has_room s = ltb (length s) max_height

abbrev pub push_kind : Kind → Shape → Move
push_kind k s = cond (has_room s) (next (k ∷ s)) ill_typed

unfoldable pub move_of : Instr → Shape → Move
move_of (PushInt z) s = push_kind Int s
move_of (PushReal x) s = push_kind Real s
move_of (Load b i) s = push_kind (bank_kind b) s
move_of (LoadIndexed b) [] = ill_typed
move_of (LoadIndexed b) (k ∷ s) = next (bank_kind b ∷ s)
move_of (Unary o) [] = ill_typed
move_of (Unary o) (k ∷ s) = cond (unary_takes o k) (next (unary_kind o k ∷ s)) ill_typed
move_of (Binary o) [] = ill_typed
move_of (Binary o) (k ∷ []) = ill_typed
move_of (Binary o) (k ∷ (j ∷ s)) = cond (binary_takes o j k) (next (binary_kind o j k ∷ s)) ill_typed
move_of (Jump d) s = jump d s
move_of (JumpIf t d) [] = ill_typed
move_of (JumpIf t d) (k ∷ s) = fork d s
move_of Tick s = push_kind Int s
move_of Since [] = ill_typed
move_of Since (k ∷ s) = cond (is_int k) (next (Int ∷ s)) ill_typed
move_of (Total o b i n) s = push_kind (total_kind o b) s
move_of (Match o b i n) [] = ill_typed
move_of (Match o b i n) (k ∷ s) = next (match_kind o b ∷ s)
move_of Unknown s = ill_typed

-- "every one is known ..., jumps go forward and stay within the code or at its end": m instructions follow
abbrev pub well_formed : ℕ → Instr → Bool
well_formed m (PushInt z) = true
well_formed m (PushReal x) = true
well_formed m (Load b i) = true
well_formed m (LoadIndexed b) = true
well_formed m (Unary o) = true
well_formed m (Binary o) = true
well_formed m (Jump d) = leb d m
well_formed m (JumpIf t d) = leb d m
well_formed m Tick = true
well_formed m Since = true
well_formed m (Total o b i n) = true
well_formed m (Match o b i n) = true
well_formed m Unknown = false
