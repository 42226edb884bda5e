-- The profile's check accepts exactly the accepted code that holds only integers and has no instruction that reads R.
use mathlib.Core.Path.{◌≡◌, refl, sym, ap, ◌∙◌, subst}
use mathlib.Core.Bool.{Bool, true, false, cond}
use mathlib.Core.List.{List}
use Prim.Native.Nat.{ℕ, suc, ◌-◌, ◌<◌}
use lib.ListN.{length}
use Rattle.values.specs.declared.Kind.{Kind}
use Rattle.code.specs.declared.Instr.{Instr}
use Rattle.verifier.specs.Typing.{Shape, Move, ill_typed, next, jump, fork, move_of}
use Rattle.verifier.specs.Accepts.{MovesTo, next_place, jump_target, not_taken, instr_at, Reached, start, onward, Accepts}
use Rattle.verifier.specs.Profile.{all_int, held_after, move_in, ReachedIn, AcceptsIn}
use Rattle.verifier.specs.Profile as In
use Rattle.verifier.proofs.Moves.{able, known-full, known_in}
pub use Rattle.verifier.proofs.Moves.{held}
use Rattle.verifier.proofs.Admitted.{ints-reached}
use Rattle.profile_code.specs.Theorems.{HoldsIntegers, NoReader}

-- ---- moves

-- one that can act leads somewhere
somewhere : (p : ℕ) (m : Move) → (m ≡ ill_typed → ⊥) → (q : ℕ) × MovesTo p m q (held_after m)
somewhere p ill_typed n = absurd (n refl)
somewhere p (next r) n = (_, next_place)
somewhere p (jump d r) n = (_, jump_target)
somewhere p (fork d r) n = (_, not_taken)

-- where the profile has a move it is the full box's
pub same_move : (i : Instr) (s : Shape) → (move_in false i s ≡ ill_typed → ⊥) → move_in false i s ≡ move_of i s
same_move i s n = by (all_int (held_after (move_of i s))) n
  where
    by : (b : Bool) → (cond b (move_of i s) ill_typed ≡ ill_typed → ⊥) → cond b (move_of i s) ill_typed ≡ move_of i s
    by true n = refl
    by false n = absurd (n refl)

-- ---- what is reached in the profile is reached

below : (c : List Instr) {p : ℕ} {s : Shape} → ReachedIn false c p s → Reached c p s
below c In.start = start
below c (In.onward {p} {q} {s} {r} d h w) = onward (below c d) h (subst (λ (m : Move). MovesTo p m q r) (same_move (instr_at c p) s (able w)) w)

-- ---- from the profile's check to the full one

module _ (c : List Instr) (k : Kind) (a : AcceptsIn false c k) where
  reaches : {p : ℕ} {s : Shape} → Reached c p s → ReachedIn false c p s
  reaches start = In.start
  reaches (onward {p} {q} {s} {r} d h w) =
      In.onward (reaches d) h (subst (λ (m : Move). MovesTo p m q r) (sym (same_move (instr_at c p) s (a.acts p s (reaches d) h))) w)

  pub integers : HoldsIntegers c
  integers p s d = ints-reached (reaches d)

  pub no_reader : NoReader c
  no_reader p h = (known-full (instr_at c p) (length c - suc p) (a.each p h)).1

  pub acts-in : (p : ℕ) (s : Shape) → Reached c p s → p < length c → move_in false (instr_at c p) s ≡ ill_typed → ⊥
  acts-in p s d h = a.acts p s (reaches d) h

  pub accepted : Accepts c k
  accepted = record {
    some = a.some;
    few = a.few;
    each = λ p h. (known-full (instr_at c p) (length c - suc p) (a.each p h)).0;
    acts = λ p s d h e. acts-in p s d h (ap (λ (m : Move). cond (all_int (held_after m)) m ill_typed) e);
    one = λ p s r d e. a.one p s r (reaches d) (reaches e);
    ended = below c a.ended;
  }

-- ---- and back

module _ (c : List Instr) (k : Kind) (a : Accepts c k) (ints : HoldsIntegers c) (none : NoReader c) where
  moves-in : (p : ℕ) (s : Shape) → Reached c p s → p < length c → move_in false (instr_at c p) s ≡ move_of (instr_at c p) s
  moves-in p s d h =
      let w = somewhere p (move_of (instr_at c p) s) (a.acts p s d h) in
      ap (λ (b : Bool). cond b (move_of (instr_at c p) s) ill_typed) (ints w.0 (held_after (move_of (instr_at c p) s)) (onward d h w.1))

  above : {p : ℕ} {s : Shape} → Reached c p s → ReachedIn false c p s
  above start = In.start
  above (onward {p} {q} {s} {r} d h w) = In.onward (above d) h (subst (λ (m : Move). MovesTo p m q r) (sym (moves-in p s d h)) w)

  pub in-profile : AcceptsIn false c k
  in-profile = record {
    some = a.some;
    few = a.few;
    each = λ p h. known_in (instr_at c p) (length c - suc p) (a.each p h) (none p h);
    acts = λ p s d h e. a.acts p s (below c d) h (sym (moves-in p s (below c d) h) ∙ e);
    one = λ p s r d e. a.one p s r (below c d) (below c e);
    ended = above a.ended;
  }
