-- `rounded` meets its contract: the leading zeros say how many digits are dropped, and the rest is one law.
use mathlib.Core.Path.{◌≡◌, refl}
use Prim.Native.Nat.{ℕ, ◌-◌, ◌*◌, ◌^◌, ◌≤◌}
use native.Mathlib.Omega.{arith}
use lib.Count.{count_leading_zeros}
use lib.Dec.{lit<}
use lib.Pow.{pow_pos, pow-lt}
use Rattle.literals.specs.private.MixedNumbers.{numerator, Normalized}
use Rattle.literals.proofs.MixedNumbers.{none}
use Rattle.literals.proofs.Encodings.{Zeros, zeros, half_is, kept-le, encoded}
use Rattle.literals.proofs.rounded.Goals as goal
use Rattle.literals.proofs.rounded.Goals.{Start}

-- the digits of the number
shape : (c : Start) → Zeros c.args.x.number.whole (count_leading_zeros 64 c.args.x.number.whole)
shape c = zeros _ c.requires.0 c.requires.1

-- the number is some n, doubled
normal : (c : Start) (n : ℕ) → n * 2 ^ c.args.x.shift ≡ numerator c.args.x.number.b c.args.x.number.a c.args.x.number
    → Normalized c.args.x.number.b c.args.x.number.a n c.args.x.number c.args.x.shift
normal c n e =
    let p = c.requires in
    let x = c.args.x.number in
    record { represents = record { b-is = refl; a-is = refl; low = x.low_below; high = x.high_below; is = e }; wide = p.0; fits = p.1; few = p.3 }

-- itself, not doubled
undoubled : (c : Start) → Normalized c.args.x.number.b c.args.x.number.a (numerator c.args.x.number.b c.args.x.number.a c.args.x.number) c.args.x.number 0
undoubled c =
    let p = c.requires in
    record { represents = (none c.args.x.number p.1).represents; wide = p.0; fits = p.1; few = lit< tt }

pub overflow_sub-dropped : goal.overflow_sub-dropped
overflow_sub-dropped c = (shape (goal.at.overflow_sub-dropped c).Start).few

pub overflow_sub-dropped-2 : goal.overflow_sub-dropped-2
overflow_sub-dropped-2 c = (shape (goal.at.overflow_sub-dropped-2 c).Start).digits.some

pub nearest-digits-requires : goal.nearest-digits-requires
nearest-digits-requires c =
    let s = (goal.at.nearest-digits-requires c).Start in
    let k = 40 - count_leading_zeros 64 s.args.x.number.whole in
    let few : k ≤ 24 = (shape s).digits.most in
    rw (half_is k few) (pow_pos (k - 1), pow-lt {j = 48} (omega arith), s.requires.1)

pub overflow_cast-result : goal.overflow_cast-result
overflow_cast-result c =
    let s = (goal.at.overflow_cast-result c).Start in
    let kept : c.nearest-digits.result ≤ 2 ^ 24 =
    kept-le (undoubled s) (shape s).digits s.requires.2 (half_is _ (shape s).digits.most) c.nearest-digits.ensures in
    record { fits = omega (arith, kept) }

pub overflow_add-result-3 : goal.overflow_add-result-3
overflow_add-result-3 c =
    let s = (goal.at.overflow_add-result-3 c).Start in
    let kept : c.nearest-digits.result ≤ 2 ^ 24 =
    kept-le (undoubled s) (shape s).digits s.requires.2 (half_is _ (shape s).digits.most) c.nearest-digits.ensures in
    record { fits = omega (arith, kept, (shape s).digits.most, s.requires.2) }

pub returns : goal.returns
returns c =
    let s = (goal.at.returns c).Start in
    record { is = λ n e. encoded (normal s n e) (shape s).digits s.requires.2 (half_is _ (shape s).digits.most) c.nearest-digits.ensures }
