-- A value that is given is an integer of 32 bits or a finite single: of any code, and so of a formula, whose code is bytes like any other.
use mathlib.Core.Path.{◌≡◌, subst}
use mathlib.Core.List.{List, [], ◌∷◌, ◌++◌}
use Prim.Native.Nat.{ℕ, zero, suc, ◌≤◌, ◌<◌}
use native.Mathlib.Omega.{arith}
use lib.Dec.{lit<}
use lib.ListN.{length, set, replicate, length-replicate}
use lib.Seq.{sets}
use Rattle.words.specs.Words.{bytes_of}
use Rattle.words.specs.Laws.{Bytes}
use Rattle.words.proofs.Laws.{word_laws}
use Rattle.operators.specs.Laws.{Proper}
use Rattle.memory.specs.Environment.{memory_at}
use Rattle.grammar.specs.Tree.{Tree}
use Rattle.grammar.specs.Eval.{eval}
use Rattle.text.specs.Judge.{accepted}
use Rattle.text.specs.Theorems.{AcceptedFormula}
use Rattle.machine.specs.declared.Ended.{Ended}
use Rattle.machine.specs.Machine.{runs_at, end_of}
use Rattle.machine.proofs.Properness.{ProperEnd, value, fault, stuck, runs-proper}
use Rattle.tree_code.specs.Code.{code_of}
use Rattle.compiler.specs.Compile.{encode_all, coded_bytes}
use Rattle.draft.specs.private.Draft.{code_words, word_bytes}
use Rattle.compiler.proofs.Bytes.{words-encoded}
use Rattle.promises.specs.Terms.{Finite}
use Rattle.operations.proofs.Requests.{run-tree}
use Rattle.promises.proofs.Texts.{is-formula}

-- ---- any code

finite-end : (e : Ended) → ProperEnd e → Finite e
finite-end e (value {v = w} p) v q = let z : w ≡ v = cc in subst Proper z p
finite-end e fault v q = let z : ◌≡◌ {A = ℕ} 0 1 = cc in absurd (omega arith)
finite-end e stuck v q = let z : ◌≡◌ {A = ℕ} 0 1 = cc in absurd (omega arith)

pub finite_code : (code : List ℕ) (n tick : ℕ) (m : List ℕ) → Bytes code → Bytes m → Finite (runs_at tick code n m).end
finite_code code n tick m b h = finite-end (runs_at tick code n m).end (runs-proper code n tick m b h)

-- ---- compiled code is bytes

appended : (s t : List ℕ) → Bytes s → Bytes t → Bytes (s ++ t)
appended [] t b c k = c k
appended (x ∷ s) t b c zero = b 0
appended (x ∷ s) t b c (suc k) = appended s t (λ j. b (suc j)) c k

one_set : (s : List ℕ) (i x : ℕ) → Bytes s → x < 256 → Bytes (set s i x)
one_set [] i x b h k = b k
one_set (y ∷ s) zero x b h zero = h
one_set (y ∷ s) zero x b h (suc k) = b (suc k)
one_set (y ∷ s) (suc i) x b h zero = b 0
one_set (y ∷ s) (suc i) x b h (suc k) = one_set s i x (λ j. b (suc j)) h k

all_set : (s : List ℕ) (i : ℕ) (bs : List ℕ) → Bytes s → Bytes bs → Bytes (sets s i bs)
all_set s i [] b c = b
all_set s i (x ∷ bs) b c = all_set (set s i x) (suc i) bs (one_set s i x b (c 0)) (λ j. c (suc j))

of_words : (ws : List ℕ) → Bytes (word_bytes ws)
unfolding word_bytes
of_words [] k = lit< tt
of_words (w ∷ ws) k = appended (bytes_of 8 w) (word_bytes ws) (word_laws.bytes 8 w) (of_words ws) k

zeros : (n : ℕ) → Bytes (replicate n 0)
zeros zero k = lit< tt
zeros (suc n) zero = lit< tt
zeros (suc n) (suc k) = zeros n k

enough : (n : ℕ) → n ≤ length (replicate {A = ℕ} n 0)
enough n = omega (arith, length-replicate {A = ℕ} n 0)

-- ---- a formula

pub finite : {text : List ℕ} {t : Tree} (tick : ℕ) (m : List ℕ) → AcceptedFormula text t → Bytes m → Finite (end_of (eval (memory_at tick m) t))
finite {text} {t} tick m a h =
    let code : List ℕ = replicate 16384 0 in
    let long : 16384 ≤ length code = enough 16384 in
    let same = run-tree 0 text t (is-formula a) tick m code long in
    let bytes = all_set code 0 (encode_all (code_of t)) (zeros 16384) (subst Bytes (words-encoded (code_of t)) (of_words (code_words (code_of t)))) in
    subst Finite same (finite_code (coded_bytes code (accepted t)) (length (code_of t)) tick m bytes h)
