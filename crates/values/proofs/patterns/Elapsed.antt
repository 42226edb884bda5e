-- The tick less x: the one pattern that gives the tick when the pattern of x is added to it.
use Rattle.std.proofs.Common.{◌≡◌, ℕ, zero, suc, ◌+◌, ◌-◌, ◌%◌, ◌^◌, ◌<◌, Bool, true, false, cond, ltb, ℤ, pos, negsuc, ◌-ℤ◌, sym, refl, ap, ◌∙◌, arith, w32, SFits, to_z, of_z, ltb-false, ltb-true, lt-ltb}
use mir.ValLaws.{to_z-of_z}
use Rattle.values.specs.Patterns.{low_bits, signed_of, since_int}
use Rattle.values.proofs.patterns.Readings.{low_signed}

less : (t d : ℕ) (x : ℤ) → d < 2 ^ 32 → (d + low_bits 32 x) % 2 ^ 32 ≡ t → d ≡ low_bits 32 (pos t -ℤ x)
less t d (pos zero) h e = omega arith
less t d (pos (suc n)) h e = by (ltb t (suc n)) refl
  where
    by : (b : Bool) → ltb t (suc n) ≡ b → d ≡ low_bits 32 (cond b (negsuc (suc n - suc t)) (pos (t - suc n)))
    by true q = let l = ltb-true t (suc n) q in omega arith
    by false q = let l = ltb-false t (suc n) q in omega arith
less t d (negsuc n) h e = omega arith

-- the code's two calls: p is the pattern of x, and d the wrapped difference
pub since-read : (t d p : ℕ) (x : ℤ) → SFits w32 x → d < 2 ^ 32 → p ≡ low_bits 32 (to_z w32 (of_z w32 x)) → (d + p) % 2 ^ 32 ≡ t
    → signed_of 32 d ≡ since_int t x
since-read t d p x F h e q =
    ap (signed_of 32) (less t d x h (ap (λ (n : ℕ). (d + n) % 2 ^ 32) (sym (e ∙ ap (low_bits 32) (to_z-of_z w32 x F))) ∙ q))

-- a time below 2 ^ 31 is its own signed reading
pub elapsed : (s d : ℕ) → s < 2 ^ 32 → d < 2 ^ 31 → since_int ((s + d) % 2 ^ 32) (signed_of 32 s) ≡ pos d
elapsed s d h l =
    let below : d < 2 ^ 32 = omega arith in
    let turned : (d + low_bits 32 (signed_of 32 s)) % 2 ^ 32 ≡ (s + d) % 2 ^ 32 = rw (low_signed 32 s h) (omega arith) in
    sym (ap (signed_of 32) (less ((s + d) % 2 ^ 32) d (signed_of 32 s) below turned)) ∙ rw (lt-ltb d (2 ^ 31) l)
