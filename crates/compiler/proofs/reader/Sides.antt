-- A number or a cell that is the whole right side of an operator: what `expression` reads there.
use mathlib.Core.Path.{◌≡◌, refl, ap, ◌∙◌}
use mathlib.Core.Bool.{Bool, true, false, ◌||◌}
use mathlib.Core.List.{List}
use Prim.Native.Nat.{ℕ, ◌+◌, ◌-◌, ◌≤◌}
use native.Mathlib.Omega.{arith}
use lib.Dec.{eqb, leb}
use lib.ListN.{set}
use borrow.Author.Tests.{eqb-true, eqb-false, leb-true}
use Rattle.tokens.proofs.Tests.{both}
use Rattle.token_table.specs.private.Table.{word_class, word_operand, word_number, word_place, word_at, tokens_from, TokenWords}
use Rattle.grammar.specs.Tree.{clear}
use Rattle.code.specs.Encode.{join_word}
use Rattle.draft.specs.private.Results.{Done, read_of}
use Rattle.draft.specs.private.Words.{is_leaf, leaf_kind, leaf_opcode, group_in, is_alone}
use Rattle.compiler.proofs.reader.Looking.{Leaf, look, head_binds, no-operator, loose-operator, primary-there, is_leaf_lem}
use Rattle.compiler.proofs.reader.Steps.{being}
use Rattle.compiler.proofs.reader.Signing.{operand-leaf}
use Rattle.compiler.proofs.reader.Climbing.{Climbed, climb-starts, climb-stops}

module _ (g : ℕ) (s : List ℕ) (at : ℕ) (t : TokenWords s) (e : is_alone s at g ≡ true) where
  pub alone-leaf : {w : ℕ} → w ≡ word_at s at → Leaf s at (word_class w) (word_operand w) (word_number w) (word_place w)
  alone-leaf {w} word = is_leaf_lem (primary-there (look {s = s} {at = at} t word)) (ap is_leaf word ∙ (both (is_leaf (word_at s at)) _ e).0)

  -- no operator of a tighter group comes behind it
  stops : 1 ≤ g → head_binds (g - 1) (tokens_from s (at + 1)) ≡ false
  stops low = by (eqb (group_in (word_at s (at + 1))) 0) refl (both (is_leaf (word_at s at)) _ e).1
    where
      by : (b : Bool) → eqb (group_in (word_at s (at + 1))) 0 ≡ b → (b || leb g (group_in (word_at s (at + 1)))) ≡ true
          → head_binds (g - 1) (tokens_from s (at + 1)) ≡ false
      by true q h = no-operator (g - 1) (look {s = s} {at = at + 1} t refl) (eqb-true _ 0 q)
      by false q h =
          let tight : g ≤ group_in (word_at s (at + 1)) = leb-true g _ h in
          loose-operator (g - 1) (look {s = s} {at = at + 1} t refl) (eqb-false _ 0 q) (omega arith)

  pub side-reads : (d r : ℕ) {pc w : ℕ} {o o' : List ℕ} → 1 ≤ g → w ≡ word_at s at → read_of r ≡ Done (at + 1) (pc + 1) (leaf_kind w) clear
      → o' ≡ set o pc (join_word (leaf_opcode (word_class w) (word_operand w)) (word_number w)) → Climbed d (g - 1) s at pc o o' (read_of r)
  side-reads d r low word q c = being q (climb-stops d (g - 1) (climb-starts d (g - 1) (operand-leaf d (alone-leaf word) c)) (stops low))
