-- From a place to the next: each way through `jump`, `fork` and `step`, and the verdict at the end.
use mathlib.Core.Path.{◌≡◌, refl, sym, ap, ◌∙◌}
use mathlib.Core.Bool.{Bool, true, false, cond, true≢false}
use mathlib.Core.List.{List, [], ◌∷◌}
use Prim.Native.Nat.{ℕ, zero, suc, ◌+◌, ◌-◌, ◌/◌, ◌%◌, ◌≤◌, ◌<◌}
use native.Mathlib.Omega.{arith}
use lib.Dec.{leb}
use lib.ListN.{length}
use Rattle.std.specs.Prelude.{Option, None, Some, is_some}
use Rattle.values.specs.declared.Kind.{Kind}
use Rattle.code.specs.declared.Instr.{Instr}
use Rattle.code.specs.declared.Instr.TheVariants.{Jump, JumpIf, Unknown}
use Rattle.code.specs.declared.Class.{Class}
use Rattle.code.specs.Reals.{reads_real}
use Rattle.code.specs.Instructions.{push_int, opcode_of, instruction_of, fetched, decode_at}
use Rattle.code.specs.private.Classes.{class_of, instr_in}
use Rattle.code.proofs.Parts.{decode-fetched}
use Rattle.verifier.specs.declared.packing.Held.{Held}
use Rattle.verifier.specs.declared.typing.Flow.{Flow}
use Rattle.verifier.specs.declared.typing.Flow.TheVariants.{Refused}
use Rattle.verifier.specs.Typing.{Shape, Move, ill_typed, jump, fork, move_of}
use Rattle.verifier.specs.Profile.{all_int, held_after, move_in, well_formed_in}
use Rattle.verifier.specs.private.Shapes.{State, rejected, unreached, holds, kind_limit, push_under, replace_under, replace_two_under, LeavesKind}
use Rattle.verifier.specs.private.Shapes.{ReplacesKind, ReplacesTwo, number_kind, bit_kinds, kinds_of, below, state_of, state_if, Carries, Leaves, stops, goes}
use Rattle.verifier.specs.private.Pass as Pass
use Rattle.verifier.specs.private.Pass.{verdict_of, Skipping, Merges, Steps, stuck, strays, leaps, forks, leap_clash, fork_clash}
use Rattle.verifier.specs.private.Pass.{admits, all_admitted, admitted_move}
use Rattle.verifier.proofs.Moves.{upto, goes-known, unknown-moves, known_in}
use Rattle.verifier.proofs.Admitted.{stays, both, barred-move, jumping, below-admitted, Silent, leaves-pushed}
use Rattle.verifier.proofs.kinds.Standing.{in-class}
use Rattle.verifier.proofs.Held.{one-taken, two-taken, one-missing, two-missing}

-- ---- an instruction that is no jump

pub carried : {before a : List ℕ} {f : Flow} {m : Move} → length before ≡ 128 → Leaves before a f m → Carries a f
carried whole (stops r e) = rw r (ap length e ∙ whole)
carried whole (goes r k) = rw r k

module _ {i : Instr} {k p : ℕ} {s : Shape} {before : ℕ → State} {lent a : List ℕ} {f : Flow} where
  pub typed-steps : (reals : Bool) {m : Move} → admitted_move reals i s ≡ m → Leaves lent a f m → Steps reals i k p s before (state_of f) before
  typed-steps true e (stops r _) = rw r (stuck e)
  typed-steps true e (goes r _) = rw r (Pass.goes (goes-known i s k e) e)
  typed-steps false e l = by (admits false i (held_after (move_of i s))) refl e l
    where
      by : (b : Bool) {m : Move} → admits false i (held_after (move_of i s)) ≡ b → cond b (move_of i s) ill_typed ≡ m → Leaves lent a f m
          → Steps false i k p s before (state_of f) before
      by true q e (stops r _) = rw r (stuck (rw e))
      by true q e (goes {w} r _) =
          let x = both (reads_real i) (all_int (kinds_of w)) (ap (λ m. admits false i (held_after m)) (sym e) ∙ q) in
          rw r (Pass.goes (known_in i k (goes-known i s k e) x.0) (stays i s e x.1))
      by false q e (stops r _) = rw r (barred-move refl q)
      by false q e (goes r _) = cc

module _ {i : Instr} {n k p : ℕ} {before : ℕ → State} {lent a : List ℕ} {f : Flow} (reals : Bool) (w : Held) (d : all_admitted reals (kinds_of w) ≡ true)
    (q : Silent reals n i) where
  -- an instruction that leaves the number n of a kind
  pub pushed-steps : LeavesKind i n → Leaves lent a f (push_under (kind_limit reals) n (kinds_of w)) → Steps reals i k p (kinds_of w) before (state_of f) before
  pushed-steps t = typed-steps reals (leaves-pushed reals i (kinds_of w) n (t.is (kinds_of w)) d q)

  -- in the place of the last value
  pub replaced-steps : move_of i [] ≡ ill_typed → ReplacesKind i (w.bits % 2) n → Leaves lent a f (replace_under (kind_limit reals) n (kinds_of w))
      → Steps reals i k p (kinds_of w) before (state_of f) before
  replaced-steps e t = typed-steps reals (one-taken reals q w.height w.bits d e t)

  -- and in the place of the last two
  pub replaced-two-steps : move_of i [] ≡ ill_typed → ((k : Kind) → move_of i (k ∷ []) ≡ ill_typed) → ReplacesTwo i (w.bits / 2 % 2) (w.bits % 2) n
      → Leaves lent a f (replace_two_under (kind_limit reals) n (kinds_of w)) → Steps reals i k p (kinds_of w) before (state_of f) before
  replaced-two-steps e g t = typed-steps reals (two-taken reals q w.height w.bits d e g t)

-- short of the values that it takes
module _ (reals : Bool) (i : Instr) {k p : ℕ} {before : ℕ → State} (w : Held) where
  short : admitted_move reals i (kinds_of w) ≡ ill_typed → Steps reals i k p (kinds_of w) before rejected before
  short e = typed-steps {lent = []} {a = []} {f = Refused} reals e (stops refl refl)

  pub one-short : w.height < 1 → move_of i [] ≡ ill_typed → Steps reals i k p (kinds_of w) before rejected before
  one-short l e = short (one-missing reals i w.height w.bits l e)

  pub two-short : w.height < 2 → move_of i [] ≡ ill_typed → ((k : Kind) → move_of i (k ∷ []) ≡ ill_typed)
      → Steps reals i k p (kinds_of w) before rejected before
  two-short l e f = short (two-missing reals i w.height w.bits l e f)

pub int-leaves : (w : ℕ) → LeavesKind (push_int w) 0
unfolding move_of
int-leaves w = record { is = λ s. refl }

none_moves : (reals : Bool) (s : Shape) → move_in reals Unknown s ≡ ill_typed
none_moves true s = unknown-moves s
none_moves false s = rw (unknown-moves s)

pub none-steps : (reals : Bool) (s : Shape) {k p : ℕ} {before : ℕ → State} → Steps reals Unknown k p s before rejected before
none-steps reals s = stuck (none_moves reals s)

-- from the class c of the number n of the eight bytes, which is k
pub steps-by : {reals : Bool} (n : ℕ) {c : Class} (k : Class) {m p : ℕ} {s : Shape} {before : ℕ → State} {x : State} {after : ℕ → State}
    → c ≡ class_of (opcode_of n) → c ≡ k → Steps reals (instr_in k n) m p s before x after → Steps reals (instruction_of n) m p s before x after
steps-by n k e q h = rw (in-class n k e q) h

-- ---- a jump over d, where m instructions follow

leap-is : (d : ℕ) (s : Shape) → move_of (Jump d) s ≡ jump d s
unfolding move_of
leap-is d s = refl

fork-is : (t : Bool) (d h b : ℕ) → 0 < h → move_of (JumpIf t d) (bit_kinds h b) ≡ fork d (below (bit_kinds h b))
unfolding move_of
fork-is t d zero b l = absurd (omega arith)
fork-is t d (suc h) b l = refl

forked : (t : Bool) (d : ℕ) (w : Held) {r : Shape} → 0 < w.height → r ≡ below (kinds_of w) → move_of (JumpIf t d) (kinds_of w) ≡ fork d r
forked t d w l e = fork-is t d w.height w.bits l ∙ ap (fork d) (sym e)

module _ (d m : ℕ) {p : ℕ} {before : ℕ → State} where
  module _ {s : Shape} where
    pub leap-strays : leb d m ≡ false → Steps true (Jump d) m p s before rejected before
    leap-strays e = strays e

    module _ {after : ℕ → State} {b : Bool} where
      pub leap-lands : leb d m ≡ true → b ≡ true → Merges s (p + d) before b after → Steps true (Jump d) m p s before unreached after
      leap-lands e y k = leaps refl e (leap-is d s) (rw y at k)

      pub leap-fails : b ≡ false → Merges s (p + d) before b after → Steps true (Jump d) m p s before rejected after
      leap-fails y k = leap_clash (leap-is d s) (rw y at k)

  -- a jump on a value, which is taken
  module _ (t : Bool) (h : Held) where
    pub fork-short : h.height < 1 → Steps true (JumpIf t d) m p (kinds_of h) before rejected before
    unfolding move_of
    fork-short l = let e : h.height ≡ 0 = omega arith in rw e (stuck refl)

    pub fork-strays : leb d m ≡ false → Steps true (JumpIf t d) m p (kinds_of h) before rejected before
    fork-strays e = strays e

    module _ (some : 0 < h.height) {r : Shape} (o : r ≡ below (kinds_of h)) where
      module _ {after : ℕ → State} {b : Bool} where
        pub fork-lands : leb d m ≡ true → b ≡ true → Merges r (p + d) before b after → Steps true (JumpIf t d) m p (kinds_of h) before (holds r) after
        fork-lands e y k = forks e (forked t d h some o) (rw y at k)

        pub fork-fails : b ≡ false → Merges r (p + d) before b after → Steps true (JumpIf t d) m p (kinds_of h) before rejected after
        fork-fails y k = fork_clash (forked t d h some o) (rw y at k)

-- ---- with reals or without

jump-ints : (reals : Bool) (d : ℕ) (s : Shape) → all_admitted reals s ≡ true → reals ≡ false → all_int (held_after (move_of (Jump d) s)) ≡ true
unfolding move_of
jump-ints true d s e r = absurd (true≢false r)
jump-ints false d s e r = e

fork-ints : (reals : Bool) (t : Bool) (d : ℕ) (s : Shape) → all_admitted reals s ≡ true → reals ≡ false
    → all_int (held_after (move_of (JumpIf t d) s)) ≡ true
unfolding move_of
fork-ints true t d s e r = absurd (true≢false r)
fork-ints false t d [] e r = refl
fork-ints false t d (k ∷ s) e r = below-admitted false k s e

module _ (reals : Bool) {k p : ℕ} {s : Shape} {before : ℕ → State} {o : State} {after : ℕ → State} (e : all_admitted reals s ≡ true) where
  pub jump-steps : {d : ℕ} → Steps true (Jump d) k p s before o after → Steps reals (Jump d) k p s before o after
  jump-steps {d} = jumping reals (jump-ints reals d s e) refl

  pub fork-steps : {t : Bool} {d : ℕ} → Steps true (JumpIf t d) k p s before o after → Steps reals (JumpIf t d) k p s before o after
  fork-steps {t} {d} = jumping reals (fork-ints reals t d s e) refl

-- ---- places that nothing comes to

pub absent : (o : Option Held) {b : Bool} {x : State} → b ≡ is_some o → b ≡ false → state_if o ≡ x → x ≡ unreached
absent None e f g = sym g
absent (Some w) e f g = cc

module _ {reals : Bool} {code : List ℕ} {n : ℕ} {brought : ℕ → State} where
  pub skipping-more : {p r : ℕ} → Skipping reals code n brought p r → r < n → brought r ≡ unreached
      → well_formed_in reals (n - suc r) (decode_at code r) ≡ true → Skipping reals code n brought p (r + 1)
  skipping-more {p} {r} k l e f = record {
    onward = omega (arith, k.onward);
    within = omega arith;
    none = λ q g h. upto (λ q. p ≤ q → brought q ≡ unreached) r (λ q h g. k.none q g h) (λ _. e) q (omega arith) g;
    each = λ q g h. upto (λ q. p ≤ q → well_formed_in reals (n - suc q) (decode_at code q) ≡ true) r (λ q h g. k.each q g h) (λ _. f) q (omega arith) g;
  }

-- the number w of an instruction says whether it stands
pub stands_at : (reals : Bool) (code : List ℕ) (n p : ℕ) {w : ℕ} {b : Bool} → w ≡ fetched code p → b ≡ well_formed_in reals (n - p - 1) (instruction_of w)
    → b ≡ well_formed_in reals (n - suc p) (decode_at code p)
stands_at reals code n p e f =
    let l : n - p - 1 ≡ n - suc p = omega arith in
    f ∙ rw (decode-fetched code p, ← e, l)

-- ---- the end

module _ (w : Held) where
  pub end-one : {x : ℕ} → x ≡ w.bits % 2 → w.height ≡ 1 → Some (number_kind x) ≡ verdict_of (holds (kinds_of w))
  end-one o e = rw (e, ← o)

  pub end-other : (w.height ≡ 1 → ⊥) → None ≡ verdict_of (holds (kinds_of w))
  end-other n = go w.height w.bits n
    where
      go : (h b : ℕ) → (h ≡ 1 → ⊥) → None ≡ verdict_of (holds (bit_kinds h b))
      go zero b n = refl
      go (suc zero) b n = absurd (n refl)
      go (suc (suc h)) b n = refl
