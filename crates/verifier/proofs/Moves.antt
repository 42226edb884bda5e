-- Tests and places: whether two are the same, and where a move leads, which is forward, and within the code where each instruction stands.
use mathlib.Core.Path.{◌≡◌, refl, sym, ap, ◌∙◌, subst}
use mathlib.Core.Bool.{Bool, true, false, not, ◌&&◌, cond, false≢true}
use mathlib.Core.List.{List, [], ◌∷◌}
use Prim.Native.Nat.{ℕ, suc, ◌+◌, ◌-◌, ◌≤◌, ◌<◌}
use native.Mathlib.Omega.{arith}
use lib.Dec.{T, leb→le, eqb}
use lib.ListN.{length, drop, length-drop}
use lib.Seq.{drop-cons}
use borrow.Author.Tests.{leb-true, eqb-true, eqb-false, not-true}
use Rattle.values.specs.declared.Kind.{Kind}
use Rattle.operators.specs.Kinds.{is_int, unary_takes, binary_takes}
use Rattle.code.specs.declared.Instr.{Instr}
use Rattle.code.specs.declared.Instr.TheVariants.{PushInt, PushReal, Load, LoadIndexed, Unary, Binary, Jump, JumpIf, Tick, Since, Total, Match, Unknown}
use Rattle.code.specs.Reals.{reads_real}
use Rattle.machine.specs.Machine.{max_height}
use Rattle.verifier.specs.Typing.{Shape, Move, ill_typed, next, jump, fork, has_room, push_kind, move_of, well_formed}
use Rattle.verifier.specs.Accepts.{MovesTo, next_place, jump_target, not_taken, taken, instr_at}
use Rattle.verifier.specs.Profile.{all_int, held_after, move_in, well_formed_in}

-- a place is another, or it is not
pub compare : {X : Type 0} (q t : ℕ) → (q ≡ t → X) → ((q ≡ t → ⊥) → X) → X
compare {X} q t f g = go (eqb q t) refl
  where
    go : (b : Bool) → eqb q t ≡ b → X
    go true e = f (eqb-true q t e)
    go false e = g (eqb-false q t e)

-- what holds below p, and of p, holds below the next
pub upto : (X : ℕ → Type 0) (p : ℕ) → ((q : ℕ) → q < p → X q) → X p → (q : ℕ) → q < suc p → X q
upto X p f x q l = compare q p (λ e. subst X (sym e) x) (λ n. f q (omega arith))

-- ---- a test that lets a move through

pub allowed : (b : Bool) (s : Shape) → (cond b (next s) ill_typed ≡ ill_typed → ⊥) → T b
allowed true s n = tt
allowed false s n = absurd (n refl)

pub has_room_lem : (k : Kind) (s : Shape) → (push_kind k s ≡ ill_typed → ⊥) → length s < max_height
has_room_lem k s n =
    let t = allowed (has_room s) (k ∷ s) n in
    omega (arith, leb→le)

-- ---- a move

pub able : {p q : ℕ} {m : Move} {r : Shape} → MovesTo p m q r → m ≡ ill_typed → ⊥
able next_place e = cc
able jump_target e = cc
able not_taken e = cc
able taken e = cc

-- what it holds there is what it leaves
pub held : {p q : ℕ} {m : Move} {r : Shape} → MovesTo p m q r → held_after m ≡ r
held next_place = refl
held jump_target = refl
held not_taken = refl
held taken = refl

pub forward : {p q : ℕ} {m : Move} {r : Shape} → MovesTo p m q r → p < q
forward next_place = omega arith
forward jump_target = omega arith
forward not_taken = omega arith
forward taken = omega arith

-- how many instructions a move can skip
abbrev pub span : Move → ℕ
span ill_typed = 0
span (next r) = 0
span (jump d r) = d
span (fork d r) = d

pub reach : {p q : ℕ} {m : Move} {r : Shape} → MovesTo p m q r → q ≤ suc p + span m
reach next_place = omega arith
reach jump_target = omega arith
reach not_taken = omega arith
reach taken = omega arith

flat : (b : Bool) (r : Shape) (k : ℕ) → span (cond b (next r) ill_typed) ≤ k
flat true r k = omega arith
flat false r k = omega arith

pub spanned : (i : Instr) (s : Shape) (k : ℕ) → well_formed k i ≡ true → span (move_of i s) ≤ k
unfolding move_of
spanned (PushInt z) s k e = flat (has_room s) _ k
spanned (PushReal x) s k e = flat (has_room s) _ k
spanned (Load b i) s k e = flat (has_room s) _ k
spanned (LoadIndexed b) [] k e = omega arith
spanned (LoadIndexed b) (x ∷ s) k e = omega arith
spanned (Unary o) [] k e = omega arith
spanned (Unary o) (x ∷ s) k e = flat (unary_takes o x) _ k
spanned (Binary o) [] k e = omega arith
spanned (Binary o) (x ∷ []) k e = omega arith
spanned (Binary o) (x ∷ (y ∷ s)) k e = flat (binary_takes o y x) _ k
spanned (Jump d) s k e = leb-true d k e
spanned (JumpIf t d) [] k e = omega arith
spanned (JumpIf t d) (x ∷ s) k e = leb-true d k e
spanned Tick s k e = flat (has_room s) _ k
spanned Since [] k e = omega arith
spanned Since (x ∷ s) k e = flat (is_int x) _ k
spanned (Total o b i n) s k e = flat (has_room s) _ k
spanned (Match o b i n) [] k e = omega arith
spanned (Match o b i n) (x ∷ s) k e = omega arith
spanned Unknown s k e = omega arith

-- an instruction that goes on to the next is known
pub goes-known : (i : Instr) (s : Shape) {r : Shape} (k : ℕ) → move_of i s ≡ next r → well_formed k i ≡ true
unfolding move_of
goes-known (PushInt z) s k e = refl
goes-known (PushReal x) s k e = refl
goes-known (Load b i) s k e = refl
goes-known (LoadIndexed b) s k e = refl
goes-known (Unary o) s k e = refl
goes-known (Binary o) s k e = refl
goes-known (Jump d) s k e = cc
goes-known (JumpIf t d) [] k e = cc
goes-known (JumpIf t d) (x ∷ s) k e = cc
goes-known Tick s k e = refl
goes-known Since s k e = refl
goes-known (Total o b i n) s k e = refl
goes-known (Match o b i n) s k e = refl
goes-known Unknown s k e = cc

pub unknown-moves : (s : Shape) → move_of Unknown s ≡ ill_typed
unfolding move_of
unknown-moves s = refl

-- ---- with reals or without

-- what is known without reals is known, and does not read R
pub known-full : (i : Instr) (k : ℕ) → well_formed_in false k i ≡ true → (well_formed k i ≡ true) × (reads_real i ≡ false)
known-full i k = by (well_formed k i) (reads_real i)
  where
    by : (b r : Bool) → (b && not r) ≡ true → (b ≡ true) × (r ≡ false)
    by true r e = (refl, not-true r e)
    by false r e = absurd (false≢true e)

-- and what is no instruction is not
pub unknown-not : (k : ℕ) (i : Instr) → well_formed k i ≡ true → i ≡ Unknown → ⊥
unknown-not k i t e = false≢true (sym (ap (well_formed k) e) ∙ t)

pub known_in : (i : Instr) (k : ℕ) → well_formed k i ≡ true → reads_real i ≡ false → well_formed_in false k i ≡ true
known_in i k e f = rw (e, f)

spanned-in : (reals : Bool) (i : Instr) (s : Shape) (k : ℕ) → well_formed_in reals k i ≡ true → span (move_in reals i s) ≤ k
spanned-in true i s k e = spanned i s k e
spanned-in false i s k e = by (all_int (held_after (move_of i s)))
  where
    by : (b : Bool) → span (cond b (move_of i s) ill_typed) ≤ k
    by true = spanned i s k (known-full i k e).0
    by false = omega arith

pub within : (reals : Bool) (i : Instr) (s : Shape) {n p q : ℕ} {r : Shape} → p < n → well_formed_in reals (n - suc p) i ≡ true
    → MovesTo p (move_in reals i s) q r → q ≤ n
within reals i s {n} {p} l e w = omega (arith, reach w, spanned-in reals i s (n - suc p) e)

-- ---- places in the code

-- the first instruction of what is left is the one at p
pub record Split (i : Instr) (left c : List Instr) (p : ℕ) : Type 0 where
  pub inside : p < length c
  pub first : i ≡ instr_at c p
  pub rest : left ≡ drop (suc p) c

pub split : (i : Instr) (left c : List Instr) (p : ℕ) → i ∷ left ≡ drop p c → Split i left c p
split i left c p e =
    let h : p < length c = omega (arith, ap length e, length-drop p c) in
    let q : i ∷ left ≡ instr_at c p ∷ drop (suc p) c = e ∙ drop-cons c p Unknown h in
    record { inside = h; first = cc; rest = cc }
