-- The runs whose value goes somewhere, with reals or without: they count little, and give no infinity, no NaN and, without reals, no real.
use mathlib.Core.Path.{◌≡◌, refl, sym, ap, subst, ◌∙◌}
use mathlib.Core.Logic.{◌⊎◌, inl, inr}
use mathlib.Core.Bool.{Bool, true, false, not, ◌||◌, cond}
use mathlib.Core.List.{List, [], ◌∷◌}
use Prim.Native.Nat.{ℕ, suc, ◌+◌, ◌≤◌}
use native.Mathlib.Omega.{arith}
use lib.Dec.{ltb}
use lib.ListN.{length}
use lib.Ieee.Bits.{is_true}
use lib.Ieee.Scale.{finite}
use Rattle.words.specs.Laws.{Bytes}
use Rattle.values.specs.declared.Value.{Value}
use Rattle.operators.specs.Laws.{Proper, int, real}
use Rattle.memory.specs.declared.Bank.{Bank}
use Rattle.memory.specs.Store.{is_finite}
use Rattle.memory.specs.Environment.{memory_at}
use Rattle.profile.specs.Parts.{real_bank, real_value}
use Rattle.profile.proofs.Tests.{false-true, not-true}
use Rattle.code.specs.declared.Instr.{Instr}
use Rattle.code.specs.Instructions.{instructions}
use Rattle.code.proofs.Parts.{decode-length}
use Rattle.machine.specs.declared.Ended.{Ended}
use Rattle.machine.specs.declared.Ended.TheVariants as Ended
use Rattle.machine.specs.declared.Ran.{Ran}
use Rattle.machine.specs.Machine.{range_cells, ranges_of, runs_at}
use Rattle.machine.specs.Profile.{runs_in}
use Rattle.machine.proofs.Profile.{profile-runs}
use Rattle.machine.proofs.Properness.{ProperEnd, value as proper-value, fault as proper-fault, stuck as proper-stuck, runs-proper}
use Rattle.verifier.proofs.Safe.{safe}
use Rattle.delivery.specs.Profile.{unstorable}
use Rattle.delivery.specs.private.Bounds.{most_begun, FiniteEnd, value, fault, stuck, Storable, StorableEnd}

-- ---- counts

one_more : (t : Bool) (a b : ℕ) → a ≤ b → cond t 1 0 + a ≤ suc b
one_more true a b h = omega (arith, h)
one_more false a b h = omega (arith, h)

few-ranges : (c : List Instr) → ranges_of c ≤ length c
few-ranges [] = omega arith
few-ranges (i ∷ c) = one_more (ltb 0 (range_cells i)) (ranges_of c) (length c) (few-ranges c)

-- no more begun than instructions and cells of their ranges
few-full : (code : List ℕ) (n tick : ℕ) (m : List ℕ) → n ≤ 2048 → (runs_at tick code n m).count ≤ most_begun
few-full code n tick m h = omega (arith, safe.counts_code (memory_at tick m) code n, few-ranges (instructions code n), decode-length code 0 n)

module _ (reals : Bool) (code : List ℕ) (n : ℕ) where
  pub few-begun : (tick : ℕ) (m : List ℕ) → n ≤ 2048 → (runs_in reals tick code n m).count ≤ most_begun
  few-begun tick m h = by (profile-runs.either reals (memory_at tick m) (instructions code n) 0 [])
    where
      by : (runs_in reals tick code n m ≡ runs_at tick code n m)
          ⊎ (((runs_in reals tick code n m).end ≡ Ended.Stuck) × ((runs_in reals tick code n m).count ≤ (runs_at tick code n m).count))
          → (runs_in reals tick code n m).count ≤ most_begun
      by (inl e) = subst (λ (x : Ran). x.count ≤ most_begun) (sym e) (few-full code n tick m h)
      by (inr s) = omega (arith, s.1, few-full code n tick m h)

-- ---- the end of a run

finite-value : {v : Value} → Proper v → is_finite v ≡ true
finite-value (int z h) = refl
finite-value (real x s) = is_true (finite x) s.real

finite-end : {e : Ended} → ProperEnd e → FiniteEnd e
finite-end (proper-value p) = value (finite-value p)
finite-end proper-fault = fault
finite-end proper-stuck = stuck

module _ {x : Ran} (reals : Bool) (code : List ℕ) (n tick : ℕ) (m : List ℕ) (f : x ≡ runs_in reals tick code n m) where
  ended : x.end ≡ (runs_in reals tick code n m).end
  ended = ap (λ (x : Ran). x.end) f

  pub few-counted : n ≤ 2048 → x.count ≤ most_begun
  few-counted h = omega (arith, ap (λ (x : Ran). x.count) f, few-begun reals code n tick m h)

  -- whatever bytes the code and the memory are
  pub runs-finite : Bytes code → Bytes m → FiniteEnd x.end
  runs-finite b h = by (profile-runs.either reals (memory_at tick m) (instructions code n) 0 [])
    where
      by : (runs_in reals tick code n m ≡ runs_at tick code n m)
          ⊎ (((runs_in reals tick code n m).end ≡ Ended.Stuck) × ((runs_in reals tick code n m).count ≤ (runs_at tick code n m).count)) → FiniteEnd x.end
      by (inl e) = subst (λ (x : Ran). FiniteEnd x.end) (sym (f ∙ e)) (finite-end (runs-proper code n tick m b h))
      by (inr s) = subst FiniteEnd (sym (ended ∙ s.0)) stuck

pub given-finite : {e : Ended} {v : Value} → FiniteEnd e → e ≡ Ended.Done v → is_finite v ≡ true
given-finite {v = v} (value {v = w} h) q = let z : w ≡ v = cc in subst (λ v. is_finite v ≡ true) z h
given-finite fault q = let z : ◌≡◌ {A = ℕ} 0 1 = cc in absurd (omega arith)
given-finite stuck q = let z : ◌≡◌ {A = ℕ} 0 1 = cc in absurd (omega arith)

-- ---- without reals integers go to banks of integers

pub storable : (reals : Bool) (b : Bank) (v : Value) → (reals || not (real_bank b)) ≡ true → unstorable reals v ≡ false → Storable reals b v
storable true b v h e = refl
storable false b v h e = rw (not-true (real_bank b) h, e) refl

pub storable-end : {x : Ran} (reals : Bool) (b : Bank) (code : List ℕ) (n tick : ℕ) (m : List ℕ) → x ≡ runs_in reals tick code n m
    → (reals || not (real_bank b)) ≡ true → StorableEnd reals b x.end
storable-end true b code n tick m f h v q = refl
storable-end false b code n tick m f h v q =
    storable false b v h (profile-runs.integer tick code n m v (sym (ap (λ (x : Ran). x.end) f) ∙ q))

-- the bank, and the value as an index
pub storable-bank : (reals : Bool) (b : Bank) (v : Value) → Storable reals b v → (reals || not (real_bank b)) ≡ true
storable-bank true b v h = refl
storable-bank false b v h = by (real_bank b) h
  where
    by : (r : Bool) → not (r || real_value v) ≡ true → not r ≡ true
    by true h = h
    by false h = refl

pub storable-index : (reals : Bool) (b : Bank) (v : Value) → Storable reals b v → (reals || not (real_value v)) ≡ true
storable-index true b v h = refl
storable-index false b v h = by (real_bank b) h
  where
    by : (r : Bool) → not (r || real_value v) ≡ true → not (real_value v) ≡ true
    by true h = false-true h
    by false h = h
