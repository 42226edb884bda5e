-- What is told of an operator, a bank or a function by its number, where the number is one.
use mathlib.Core.Path.{◌≡◌, refl}
use mathlib.Core.List.{List, [], ◌∷◌}
use Prim.Native.Nat.{ℕ, zero, suc, ◌%◌, ◌<◌}
use native.Mathlib.Nat.{not-suc-le-zero, le_of_suc-le-suc}
use native.Mathlib.Omega.{arith}
use lib.Dec.{ltb}
use lib.ListN.{length, get_or}
use borrow.Author.Tests.{lt-ltb}
use Rattle.reals.specs.declared.ArithOp.TheVariants.{Add}
use Rattle.values.specs.declared.Kind.{Kind}
use Rattle.values.specs.declared.Kind.TheVariants.{Int, Real}
use Rattle.operators.specs.declared.BinaryOp.TheVariants as B
use Rattle.operators.specs.Tables.{binary_ops, unary_of, binary_of}
use Rattle.operators.specs.Kinds.{is_int, join, number_kind, kind_number, typed, unary_kind, unary_takes, binary_kind, binary_takes, unary_typed, binary_typed}
use Rattle.operators.proofs.Typed.{kind-small, typed-taken, typed-kind}
use Rattle.memory.specs.Cells.{bank_kind}
use Rattle.memory.specs.Numbers.{bank_numbered, bank_typed}
use Rattle.tokens.specs.Words.{function_at}
use Rattle.grammar.specs.Symbols.{Form, plain, clock, ranged, matched, of_one, of_two, of_choice, of_since, form_of}
use Rattle.grammar.specs.Functions.{form_number, operator_number, function_form, function_operator}
use Rattle.code.proofs.Numbers.{unary-below, binary-below, total-below, match-below}
use Rattle.draft.specs.private.Words.{unary_at, binary_at, bank_at}

pub number-kind : (k : Kind) → number_kind (kind_number k) ≡ k
number-kind Int = refl
number-kind Real = refl

pub joined-kind : {a b j k : Kind} {r : ℕ} → a ≡ j → b ≡ k → r ≡ kind_number (join a b) → (number_kind r ≡ join j k) × (r < 2)
joined-kind {j = j} {k} d e q = rw (q, d, e) (number-kind (join j k), kind-small (join j k))

pub bank-kind : (n : ℕ) → n < 6 → {m r : ℕ} → m ≡ n → r ≡ bank_typed (bank_numbered m) → (number_kind r ≡ bank_kind (bank_at n)) × (r < 2)
bank-kind n h e q = rw (q, e, lt-ltb n 6 h) (number-kind (bank_kind (bank_at n)), kind-small (bank_kind (bank_at n)))

-- ---- what operators make of kinds
pub unary-typed : (n : ℕ) → n < 8 → {m r : ℕ} {j k : Kind} → m ≡ n → j ≡ k → r ≡ unary_typed (unary_of m) j
    → (ltb r 2 ≡ unary_takes (unary_at n) k) × (number_kind (r % 2) ≡ unary_kind (unary_at n) k)
unary-typed n h {k = k} e d q =
    let o = unary_at n in
    rw (q, e, d, lt-ltb n 8 h) (typed-taken (unary_takes o k) (unary_kind o k), typed-kind (unary_takes o k) (unary_kind o k))

pub integer-typed : {r : ℕ} {j k : Kind} → j ≡ k → r ≡ typed (is_int j) Int → ltb r 2 ≡ is_int k
integer-typed {k = k} d q = rw (q, d) (typed-taken (is_int k) Int)

same-default : {A : Type 0} (l : List A) (d e : A) (n : ℕ) → n < length l → get_or l n d ≡ get_or l n e
same-default [] d e n h = absurd (not-suc-le-zero h)
same-default (a ∷ l) d e zero h = refl
same-default (a ∷ l) d e (suc n) h = same-default l d e n (le_of_suc-le-suc h)

pub binary-typed : (n : ℕ) → n < 20 → {m r : ℕ} {i j k l : Kind} → m ≡ n → i ≡ k → j ≡ l → r ≡ binary_typed (binary_of m) i j
    → (ltb r 2 ≡ binary_takes (binary_at n) k l) × (number_kind (r % 2) ≡ binary_kind (binary_at n) k l)
binary-typed n h {k = k} {l} e d b q =
    let o = binary_at n in
    rw (q, e, d, b, lt-ltb n 20 h, same-default binary_ops (B.Arith Add) B.Power n h)
    (typed-taken (binary_takes o k l) (binary_kind o k l), typed-kind (binary_takes o k l) (binary_kind o k l))

-- ---- the operators of functions
one-operator : (x : Form) → form_number x ≡ 1 → operator_number x < 8
one-operator (plain (of_one o)) e = unary-below o
one-operator (plain (of_two o)) e = absurd (omega arith)
one-operator (plain of_choice) e = absurd (omega arith)
one-operator (plain of_since) e = absurd (omega arith)
one-operator clock e = absurd (omega arith)
one-operator (ranged o) e = absurd (omega arith)
one-operator (matched o) e = absurd (omega arith)

two-operator : (x : Form) → form_number x ≡ 2 → operator_number x < 20
two-operator (plain (of_one o)) e = absurd (omega arith)
two-operator (plain (of_two o)) e = binary-below o
two-operator (plain of_choice) e = absurd (omega arith)
two-operator (plain of_since) e = absurd (omega arith)
two-operator clock e = absurd (omega arith)
two-operator (ranged o) e = absurd (omega arith)
two-operator (matched o) e = absurd (omega arith)

pub unary-function : (f : ℕ) → function_form f ≡ 1 → function_operator f < 8
unary-function f e = one-operator (form_of (function_at f)) e

pub binary-function : (f : ℕ) → function_form f ≡ 2 → function_operator f < 20
binary-function f e = two-operator (form_of (function_at f)) e

-- ---- the totals of functions
total-operator : (x : Form) → form_number x ≡ 6 → operator_number x < 4
total-operator (plain (of_one o)) e = absurd (omega arith)
total-operator (plain (of_two o)) e = absurd (omega arith)
total-operator (plain of_choice) e = absurd (omega arith)
total-operator (plain of_since) e = absurd (omega arith)
total-operator clock e = absurd (omega arith)
total-operator (ranged o) e = total-below o
total-operator (matched o) e = absurd (omega arith)

match-operator : (x : Form) → form_number x ≡ 7 → operator_number x < 12
match-operator (plain (of_one o)) e = absurd (omega arith)
match-operator (plain (of_two o)) e = absurd (omega arith)
match-operator (plain of_choice) e = absurd (omega arith)
match-operator (plain of_since) e = absurd (omega arith)
match-operator clock e = absurd (omega arith)
match-operator (ranged o) e = absurd (omega arith)
match-operator (matched o) e = match-below o

pub total-function : (f : ℕ) → function_form f ≡ 6 → function_operator f < 4
total-function f e = total-operator (form_of (function_at f)) e

pub match-function : (f : ℕ) → function_form f ≡ 7 → function_operator f < 12
match-function f e = match-operator (form_of (function_at f)) e
