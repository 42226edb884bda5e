-- What a push and a replacement make of the kinds held, for each class of instruction.
use Rattle.std.specs.Prelude.{Option, Some, None}
use mathlib.Core.Path.{◌≡◌, refl, ap, ◌∙◌}
use mathlib.Core.Bool.{Bool, true, false, cond}
use mathlib.Core.List.{List, [], ◌∷◌}
use Prim.Native.Nat.{ℕ, zero, suc, ◌/◌, ◌%◌, ◌≤◌, ◌<◌}
use native.Mathlib.Omega.{arith}
use lib.Dec.{eqb}
use borrow.Author.Tests.{lt-ltb, le-ltb}
use Rattle.values.specs.declared.Kind.{Kind}
use Rattle.operators.specs.Tables.{unary_of, binary_of}
use Rattle.memory.specs.Numbers.{bank_numbered}
use Rattle.totals.specs.Totals.{good_range}
use Rattle.totals.specs.Numbers.{match_of}
use Rattle.code.specs.declared.Instr.{Instr}
use Rattle.code.specs.declared.Instr.TheVariants.{LoadIndexed, Unary, Binary, Since, Match, Unknown}
use Rattle.code.specs.declared.Class.TheVariants as Class
use Rattle.code.specs.Instructions.{load_indexed, apply_since, range_bank, range_first, range_count, over_range, word_of}
use Rattle.code.specs.private.Classes.{number_of, of_bank, of_unary, of_binary, of_match, instr_in}
use Rattle.verifier.specs.declared.packing.Held.{Held}
use Rattle.verifier.specs.declared.typing.Flow.TheVariants.{Refused, On}
use Rattle.verifier.specs.Typing.{Shape, Move, ill_typed, next, move_of}
use Rattle.verifier.specs.private.Shapes.{
  number_kind,
  push_under,
  replace_under,
  replace_two_under,
  kind_limit,
  ReplacesKind,
  ReplacesTwo,
  bit_kinds,
  kinds_of,
  below,
  ArrayHolds,
  Leaves,
  stops,
  goes,
}
use Rattle.verifier.specs.private.Pass.{all_admitted, admitted_move}
use Rattle.verifier.proofs.Admitted.{Silent, none-admitted, below-admitted, leaves-replaced}
use Rattle.verifier.proofs.Bits.{bits-length}
use Rattle.totals.specs.declared.MatchOp.{MatchOp}
use Rattle.operators.specs.declared.BinaryOp.{BinaryOp}
use Rattle.memory.specs.declared.Bank.{Bank}
use Rattle.operators.specs.declared.UnaryOp.{UnaryOp}

-- ---- a kind below the limit l, or not: in the place of nothing, of the last and of the last two

module _ (l n : ℕ) where
  pub unpushed : {a : List ℕ} (s : Shape) → l ≤ n → Leaves a a Refused (push_under l n s)
  unpushed s u = rw (le-ltb n l u) (stops refl refl)

  pub unreplaced : {a : List ℕ} (s : Shape) → l ≤ n → Leaves a a Refused (replace_under l n s)
  unreplaced [] u = stops refl refl
  unreplaced (k ∷ s) u = rw (le-ltb n l u) (stops refl refl)

  pub unreplaced-two : {a : List ℕ} (s : Shape) → l ≤ n → Leaves a a Refused (replace_two_under l n s)
  unreplaced-two [] u = stops refl refl
  unreplaced-two (k ∷ []) u = stops refl refl
  unreplaced-two (k ∷ (j ∷ s)) u = rw (le-ltb n l u) (stops refl refl)

  module _ (h b : ℕ) where
    pub full : {a : List ℕ} → n < l → 128 ≤ h → Leaves a a Refused (push_under l n (bit_kinds h b))
    full u t = rw (lt-ltb n l u, bits-length h b, le-ltb h 128 t) (stops refl refl)

    pushed-is : n < l → h < 128 → push_under l n (bit_kinds h b) ≡ next (number_kind n ∷ bit_kinds h b)
    pushed-is u t = rw (lt-ltb n l u, bits-length h b, lt-ltb h 128 t)

  pub none : {a : List ℕ} (h b : ℕ) → h < 1 → Leaves a a Refused (replace_under l n (bit_kinds h b))
  none zero b t = stops refl refl
  none (suc h) b t = absurd (omega arith)

  pub few : {a : List ℕ} (h b : ℕ) → h < 2 → Leaves a a Refused (replace_two_under l n (bit_kinds h b))
  few zero b t = stops refl refl
  few (suc zero) b t = stops refl refl
  few (suc (suc h)) b t = absurd (omega arith)

  module _ (u : n < l) where
    replaced-is : (h b : ℕ) → 0 < h → replace_under l n (bit_kinds h b) ≡ next (number_kind n ∷ below (bit_kinds h b))
    replaced-is zero b t = absurd (omega arith)
    replaced-is (suc h) b t = rw (lt-ltb n l u)

    two-is : (h b : ℕ) → 1 < h → replace_two_under l n (bit_kinds h b) ≡ next (number_kind n ∷ below (below (bit_kinds h b)))
    two-is zero b t = absurd (omega arith)
    two-is (suc zero) b t = absurd (omega arith)
    two-is (suc (suc h)) b t = rw (lt-ltb n l u)

  -- what is left has the kinds of r
  module _ {before a : List ℕ} (r : Held) (k : ArrayHolds a r) (u : n < l) where
    left : {m : Move} {s : Shape} → m ≡ next s → kinds_of r ≡ s → Leaves before a (On r) m
    left e f = rw (e, ← f) (goes refl k)

    module _ (h b : ℕ) where
      pub pushes : h < 128 → kinds_of r ≡ number_kind n ∷ bit_kinds h b → Leaves before a (On r) (push_under l n (bit_kinds h b))
      pushes t = left (pushed-is h b u t)

      pub replaces : 0 < h → kinds_of r ≡ number_kind n ∷ below (bit_kinds h b) → Leaves before a (On r) (replace_under l n (bit_kinds h b))
      replaces t = left (replaced-is u h b t)

      pub replaces-two : {s : Shape} → 1 < h → s ≡ below (bit_kinds h b) → kinds_of r ≡ number_kind n ∷ below s
          → Leaves before a (On r) (replace_two_under l n (bit_kinds h b))
      replaces-two t e f = left (two-is u h b t) (f ∙ ap (λ s. number_kind n ∷ below s) e)

-- ---- the limit of kinds, found to be x

pub under-two : (reals : Bool) (n : ℕ) → n < kind_limit reals → n < 2
under-two true n u = u
under-two false n u = omega arith

pub under-limit : (n : ℕ) {x l : ℕ} → x ≡ l → n < x → n < l
under-limit n e u = omega arith

pub from-limit : (n : ℕ) {x l : ℕ} → x ≡ l → x ≤ n → l ≤ n
from-limit n e u = omega arith

-- ---- an instruction that takes one value, or two

module _ (reals : Bool) {i : Instr} {n : ℕ} (q : Silent reals n i) where
  pub one-taken : (h b : ℕ) → all_admitted reals (bit_kinds h b) ≡ true → move_of i [] ≡ ill_typed → ReplacesKind i (b % 2) n
      → admitted_move reals i (bit_kinds h b) ≡ replace_under (kind_limit reals) n (bit_kinds h b)
  one-taken zero b d e t = none-admitted reals i [] e
  one-taken (suc h) b d e t = leaves-replaced reals i _ n (bit_kinds h (b / 2)) (t.is _) (below-admitted reals _ (bit_kinds h (b / 2)) d) q

  pub two-taken : (h b : ℕ) → all_admitted reals (bit_kinds h b) ≡ true → move_of i [] ≡ ill_typed → ((k : Kind) → move_of i (k ∷ []) ≡ ill_typed)
      → ReplacesTwo i (b / 2 % 2) (b % 2) n
      → admitted_move reals i (bit_kinds h b) ≡ replace_two_under (kind_limit reals) n (bit_kinds h b)
  two-taken zero b d e f t = none-admitted reals i [] e
  two-taken (suc zero) b d e f t = none-admitted reals i _ (f _)
  two-taken (suc (suc h)) b d e f t = leaves-replaced reals i _ n (bit_kinds h (b / 2 / 2)) (t.is _)
      (below-admitted reals _ (bit_kinds h (b / 2 / 2)) (below-admitted reals _ (number_kind (b / 2 % 2) ∷ bit_kinds h (b / 2 / 2)) d)) q

module _ (reals : Bool) (i : Instr) where
  pub one-missing : (h b : ℕ) → h < 1 → move_of i [] ≡ ill_typed → admitted_move reals i (bit_kinds h b) ≡ ill_typed
  one-missing zero b l e = none-admitted reals i [] e
  one-missing (suc h) b l e = absurd (omega arith)

  pub two-missing : (h b : ℕ) → h < 2 → move_of i [] ≡ ill_typed → ((k : Kind) → move_of i (k ∷ []) ≡ ill_typed)
      → admitted_move reals i (bit_kinds h b) ≡ ill_typed
  two-missing zero b l e f = none-admitted reals i [] e
  two-missing (suc zero) b l e f = none-admitted reals i _ (f _)
  two-missing (suc (suc h)) b l e f = absurd (omega arith)

-- ---- short of a value

module _ (w : ℕ) where
  none-word : (b : Bool) (i : Instr) (s : Shape) → move_of i s ≡ ill_typed → move_of (cond b i Unknown) s ≡ ill_typed
  unfolding move_of
  none-word true i s e = e
  none-word false i s e = refl

  indexed-empty : (b : Option Bank) → move_of (of_bank load_indexed b w) [] ≡ ill_typed
  unfolding move_of
  indexed-empty (Some b) = none-word (eqb w 0) (LoadIndexed b) [] refl
  indexed-empty None = refl

  unary-empty : (o : Option UnaryOp) → move_of (of_unary o w) [] ≡ ill_typed
  unfolding move_of
  unary-empty (Some o) = none-word (eqb w 0) (Unary o) [] refl
  unary-empty None = refl

  since-empty : move_of (apply_since w) [] ≡ ill_typed
  unfolding move_of
  since-empty = none-word (eqb w 0) Since [] refl

  match-empty : (u : Option MatchOp) → move_of (of_match u w) [] ≡ ill_typed
  unfolding move_of
  match-empty (Some o) = by (bank_numbered (range_bank w))
    where
      by : (b : Option Bank) → move_of (over_range (Match o) b (range_first w) (range_count w)) [] ≡ ill_typed
      by (Some b) = none-word (good_range b (range_first w) (range_count w)) (Match o b (range_first w) (range_count w)) [] refl
      by None = refl
  match-empty None = refl

  binary-empty : (o : Option BinaryOp) → move_of (of_binary o w) [] ≡ ill_typed
  unfolding move_of
  binary-empty (Some o) = none-word (eqb w 0) (Binary o) [] refl
  binary-empty None = refl

  binary-one : (o : (Option BinaryOp)) (k : Kind) → move_of (of_binary o w) (k ∷ []) ≡ ill_typed
  unfolding move_of
  binary-one (Some o) k = none-word (eqb w 0) (Binary o) (k ∷ []) refl
  binary-one None k = refl

module _ (n : ℕ) where
  pub indexed-short : move_of (instr_in Class.LoadIndexed n) [] ≡ ill_typed
  indexed-short = indexed-empty (word_of n) (bank_numbered (number_of n))

  pub unary-short : move_of (instr_in Class.Unary n) [] ≡ ill_typed
  unary-short = unary-empty (word_of n) (unary_of (number_of n))

  pub since-short : move_of (instr_in Class.Since n) [] ≡ ill_typed
  since-short = since-empty (word_of n)

  pub match-short : move_of (instr_in Class.Match n) [] ≡ ill_typed
  match-short = match-empty (word_of n) (match_of (number_of n))

  pub binary-short : move_of (instr_in Class.Binary n) [] ≡ ill_typed
  binary-short = binary-empty (word_of n) (binary_of (number_of n))

  pub binary-few : (k : Kind) → move_of (instr_in Class.Binary n) (k ∷ []) ≡ ill_typed
  binary-few = binary-one (word_of n) (binary_of (number_of n))
