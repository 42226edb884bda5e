-- Code without an instruction that reads R reads no cell of it.
use mathlib.Core.Path.{◌≡◌, refl, sym, ap, ◌∙◌}
use mathlib.Core.Bool.{Bool, true, false, ◌&&◌, ◌||◌}
use mathlib.Core.List.{List, [], ◌∷◌}
use Prim.Native.Nat.{ℕ, suc, ◌+◌}
use native.Mathlib.Omega.{arith}
use lib.Dec.{eqb, ltb, leb}
use borrow.Author.Tests.{eqb-true}
use Rattle.memory.specs.declared.Bank.{Bank}
use Rattle.memory.specs.declared.Bank.TheVariants.{X, C, «V», N, D, R}
use Rattle.memory.specs.Numbers.{bank_number}
use Rattle.code.specs.declared.Instr.{Instr}
use Rattle.code.specs.declared.Instr.TheVariants.{PushInt, PushReal, Load, LoadIndexed, Unary, Binary, Jump, JumpIf, Tick, Since, Total, Match, Unknown}
use Rattle.read_set.specs.Cells.{same_bank, instr_cells, code_cells}
use Rattle.profile.specs.Parts.{real_bank}
use Rattle.code.specs.Reals.{reads_real}
use Rattle.profile_code.specs.Theorems.{NoReader}
use Rattle.profile.proofs.Tests.{false-true, both}

-- the real bank is the last
by_number : (b : Bank) → real_bank b ≡ eqb (bank_number b) (bank_number R)
by_number X = refl
by_number C = refl
by_number «V» = refl
by_number N = refl
by_number D = refl
by_number R = refl

same-real : (b c : Bank) → same_bank b c ≡ true → real_bank c ≡ real_bank b
same-real b c e = by_number c ∙ ap (λ (n : ℕ). eqb n (bank_number R)) (sym (eqb-true (bank_number b) (bank_number c) e)) ∙ sym (by_number b)

instr-reads : (i : Instr) → reads_real i ≡ false → (b : Bank) (j : ℕ) → instr_cells i b j ≡ true → real_bank b ≡ false
instr-reads (PushInt z) n b j e = false-true e
instr-reads (PushReal x) n b j e = false-true e
instr-reads (Load c i) n b j e = same-real c b (both (same_bank c b) (eqb i j) e).0 ∙ n
instr-reads (LoadIndexed c) n b j e = same-real c b e ∙ n
instr-reads (Unary o) n b j e = false-true e
instr-reads (Binary o) n b j e = false-true e
instr-reads (Jump d) n b j e = false-true e
instr-reads (JumpIf t d) n b j e = false-true e
instr-reads Tick n b j e = false-true e
instr-reads Since n b j e = false-true e
instr-reads (Total o c i m) n b j e = same-real c b (both (same_bank c b) (leb i j && ltb j (i + m)) e).0 ∙ n
instr-reads (Match o c i m) n b j e = same-real c b (both (same_bank c b) (leb i j && ltb j (i + m)) e).0 ∙ n
instr-reads Unknown n b j e = false-true e

either : {A : Type 0} (x y : Bool) → (x || y) ≡ true → (x ≡ true → A) → (y ≡ true → A) → A
either true y e f g = f refl
either false y e f g = g e

pub reads_integers : (c : List Instr) → NoReader c → (b : Bank) (i : ℕ) → code_cells c b i ≡ true → real_bank b ≡ false
reads_integers [] n b i e = false-true e
reads_integers (j ∷ c) n b i e =
    either (instr_cells j b i) (code_cells c b i) e (λ h. instr-reads j (n 0 (omega arith)) b i h)
    (λ h. reads_integers c (λ p l. n (suc p) (omega (arith, l))) b i h)
