-- Sums G to K of paper 01's sheet, and IF with a branch that would fault.
use mathlib.Core.Path.{◌≡◌, refl}
use mathlib.Core.Bool.{false}
use mathlib.Core.List.{[]}
use Prim.Native.Nat.{ℕ}
use lib.IntN.{ℤ, pos, negsuc}
use Rattle.reals.specs.declared.ArithOp.TheVariants.{Div}
use Rattle.values.specs.declared.Fault.TheVariants.{OutOfRange}
use Rattle.values.specs.declared.Value.TheVariants.{Int}
use Rattle.values.specs.declared.BitOp.TheVariants.{And}
use Rattle.values.specs.declared.ShiftOp.TheVariants.{RightZero}
use Rattle.values.specs.declared.CompareOp.TheVariants.{Eq}
use Rattle.values.specs.declared.Outcome.{Outcome}
use Rattle.values.specs.declared.Outcome.TheVariants as Outcome
use Rattle.operators.specs.declared.UnaryOp.TheVariants.{Neg}
use Rattle.operators.specs.declared.BinaryOp.TheVariants.{Arith, Power, Shift, Compare, Bits}
use Rattle.memory.specs.declared.Bank.TheVariants.{D}
use Rattle.memory.specs.Environment.{Environment}
use Rattle.totals.specs.declared.TotalOp.TheVariants.{Sum}
use Rattle.totals.specs.Totals.{total_over}
use Rattle.machine.specs.declared.Ended.TheVariants as Ended
use Rattle.machine.specs.Machine.{exec}
use Rattle.grammar.specs.Tree.{Tree, literal, unary, binary, logic, choice, tick, since, total, tree_kind}
use Rattle.grammar.specs.Eval.{eval}
use Rattle.tree_code.specs.Code.{code_of}

-- a tree is worth an integer, and its code gives that integer in so many instructions, whatever the memory holds
record Worth (t : Tree) (z : ℤ) (n : ℕ) : Type 0 where
  value : (E : Environment) → eval E t ≡ Outcome.Done (Int z)
  run : (E : Environment) → exec E (code_of t) 0 [] ≡ record { end = Ended.Done (Int z); count = n }

abbrev int : ℕ → ℤ → Tree
int p z = literal p (Int z)

-- `2**3**2`
g : Worth (binary 4 Power (binary 1 Power (int 0 (pos 2)) (int 3 (pos 3))) (int 6 (pos 2))) (pos 64) 5
unfolding eval exec code_of
g = record { value = λ E. refl; run = λ E. refl }

-- `-2**2`
h : Worth (binary 2 Power (unary 0 Neg (int 1 (pos 2))) (int 4 (pos 2))) (pos 4) 4
unfolding eval exec code_of
h = record { value = λ E. refl; run = λ E. refl }

-- `6 & 2 == 2`
i : Worth (binary 2 (Bits And) (int 0 (pos 6)) (binary 6 (Compare Eq) (int 4 (pos 2)) (int 9 (pos 2)))) (pos 0) 5
unfolding eval exec code_of
i = record { value = λ E. refl; run = λ E. refl }

-- `0xFFFFFFF8 >>> 28`
j : Worth (binary 11 (Shift RightZero) (int 0 (negsuc 7)) (int 15 (pos 28))) (pos 15) 3
unfolding eval exec code_of
j = record { value = λ E. refl; run = λ E. refl }

-- `0 && 1/0`
k : Worth (logic 2 false (int 0 (pos 0)) (binary 6 (Arith Div) (int 5 (pos 1)) (int 7 (pos 0)))) (pos 0) 3
unfolding eval exec code_of
k = record { value = λ E. refl; run = λ E. refl }

-- `IF(1, 5, 1/0)`
unused-branch : Worth (choice 0 (int 3 (pos 1)) (int 6 (pos 5)) (binary 10 (Arith Div) (int 9 (pos 1)) (int 11 (pos 0)))) (pos 5) 4
unfolding eval exec code_of tree_kind
unused-branch = record { value = λ E. refl; run = λ E. refl }

-- `SINCE(5)` at the tick 0, `TICKms()` at the last tick, and `SINCE(x)` across the turn: 5 after x
since-5 : (E : Environment) → E.tick ≡ 0 → eval E (since 0 (int 6 (pos 5))) ≡ Outcome.Done (Int (negsuc 4))
unfolding eval
since-5 E e = rw e

last-tick : (E : Environment) → E.tick ≡ 4294967295 → eval E tick ≡ Outcome.Done (Int (negsuc 0))
unfolding eval
last-tick E e = rw e

timed : (E : Environment) → E.tick ≡ 2 → exec E (code_of (since 0 (int 6 (negsuc 2)))) 0 [] ≡ record { end = Ended.Done (Int (pos 5)); count = 2 }
unfolding exec code_of
timed E e = rw e

-- a memory whose every cell reads the same
abbrev everywhere : Outcome → Environment
everywhere r = record { cell = λ b i. r; tick = 0 }

-- `SUMR(D0, 2)`: one for the instruction and one for each cell; a cell that faults is counted, and none behind it is begun
summed : exec (everywhere (Outcome.Done (Int (pos 3)))) (code_of (total 9 Sum D 0 (pos 2))) 0 [] ≡ record { end = Ended.Done (Int (pos 6)); count = 3 }
unfolding exec code_of total_over
summed = refl

faulted : exec (everywhere (Outcome.Stopped OutOfRange)) (code_of (total 9 Sum D 0 (pos 2))) 0 [] ≡ record { end = Ended.Stopped OutOfRange; count = 2 }
unfolding exec code_of total_over
faulted = refl
