-- Unary operators, the last first: one more behind what was read.
use mathlib.Core.Path.{◌≡◌, refl, ap, subst}
use mathlib.Core.Bool.{true}
use mathlib.Core.List.{List}
use Prim.Native.Nat.{ℕ, suc, ◌+◌}
use native.Mathlib.Omega.{arith}
use Rattle.operators.specs.Kinds.{unary_kind, unary_takes}
use Rattle.token_table.specs.private.Table.{word_place, word_at}
use Rattle.grammar.specs.Tree.{unless, earlier, wrong_kind_at}
use Rattle.code.specs.declared.Instr.TheVariants.{Unary}
use Rattle.draft.specs.private.Results.{Read, Done, is_done, read_next, read_end, read_kind, read_wrong, read_of}
use Rattle.draft.specs.private.Words.{unary_at, prefix_number}
use Rattle.draft.specs.private.Draft.{put_instr, Unaries, none, more}
use Rattle.draft.proofs.results.Fields.{done-is, done_next}

along : {s o a b : List ℕ} {first k : ℕ} {r x y : Read} → Unaries s first o r k a x → a ≡ b → x ≡ y → Unaries s first o r k b y
along {s} {o} {b = b} {first} {k} {r} {x} u p q = subst (Unaries s first o r k b) q (subst (λ z. Unaries s first o r k z x) p u)

-- the operators from i on are behind what was read, in a draft and with a result like these
pub record Signed (s : List ℕ) (first : ℕ) (o : List ℕ) (r i : ℕ) (o' : List ℕ) (r' : ℕ) : Type 0 where
  pub done : is_done (read_of r') ≡ true
  pub end : read_end r' + i ≡ read_end r + first
  pub under : Unaries s first o (read_of r) i o' (read_of r')

module _ {s o : List ℕ} {first r : ℕ} where
  pub signed-none : is_done (read_of r) ≡ true → Signed s first o r first o r
  signed-none d = record { done = d; end = refl; under = none }

  pub signed-more : {o' o'' : List ℕ} {i k w r' r'' : ℕ} → i ≡ suc k → Signed s first o r i o' r' → w ≡ word_at s k
      → read_of r'' ≡ Done (read_next r') (read_end r' + 1) (unary_kind (unary_at (prefix_number w)) (read_kind r'))
      (earlier (unless (unary_takes (unary_at (prefix_number w)) (read_kind r')) (wrong_kind_at (word_place w))) (read_wrong r'))
      → o'' ≡ put_instr o' (read_end r') (Unary (unary_at (prefix_number w))) → Signed s first o r k o'' r''
  signed-more {o'} {r' = r'} {r''} e x v p q =
      let u = subst (λ n. Unaries s first o (read_of r) n o' (read_of r')) e x.under in
      let f = (done_next r'' p).1 in
      record {
        done = ap is_done p;
        end = omega (arith, x.end);
        under = along (more (rw (done-is r' x.done) at u)) (cc) (cc);
      }
