-- The list of what compile and compile_target leave is the formula's; and what is said of a set is said of its list.
use Rattle.std.specs.Prelude.{Option, Some, None}
use mathlib.Core.Path.{◌≡◌, refl, sym, ap, ◌∙◌}
use mathlib.Core.Bool.{Bool, true, false, ◌||◌, cond}
use mathlib.Core.List.{List, [], ◌∷◌}
use Prim.Native.Nat.{ℕ, ◌≤◌}
use native.Mathlib.Omega.{arith}
use lib.Dec.{ltb}
use lib.IntN.{pos}
use lib.ListN.{length}
use borrow.Author.Tests.{ltb-false, le-ltb}
use Rattle.values.specs.declared.Value.TheVariants.{Int}
use Rattle.memory.specs.declared.Bank.{Bank}
use Rattle.memory.specs.Layout.{packed}
use Rattle.memory.specs.Names.{letter_bank, target_rule}
use Rattle.grammar.specs.Tree.{Tree}
use Rattle.text.specs.Judge.{Judgement, accepted, refused, judge}
use Rattle.text.specs.Targets.{Target, to_cell, to_indexed, no_target, stored_bank, target_of, index_text}
use Rattle.code.specs.declared.Instr.{Instr}
use Rattle.code.specs.Instructions.{decode_from, instructions}
use Rattle.tree_code.specs.Code.{code_of}
use Rattle.read_set.specs.Cells.{Cells, union, code_cells, cell_list, read_by}
use Rattle.read_laws.specs.Formulas.{tree_cells, target_cells}
use Rattle.read_laws.specs.Theorems.{AgreeOn, AgreeOnListed}
use Rattle.read_laws.proofs.Laws.{read-theorems}
use Rattle.compiler.specs.Compile.{compiling, coded_bytes}
use Rattle.compiler.proofs.Theorems.{compile-theorems-from}
use Rattle.read_laws.proofs.Environments.{or_left}
use Rattle.targets.specs.Found.{by_letter, by_name, found_to_run, index_bytes}
use Rattle.targets.proofs.Theorems.{indexed}
use Rattle.delivery.specs.declared.Answer.TheVariants.{Done, Refused}
use Rattle.operations.specs.Operations.{done_with, compile_answer, target_answer, compile_target_answer, compile_target_code, evaluate_answer, run_answer}
use Rattle.operations.specs.Operations.{request, request_answer}
use Rattle.read_answers.specs.Answers.{found_cells, run_cells, request_cells}
use Rattle.read_answers.proofs.Runs.{ran, evaluated}
use Rattle.read_answers.proofs.Requests.{answer}

-- ---- to agree on more cells is to agree on fewer
fewer : (f g : Cells) (m m' : List ℕ) → ((b : Bank) (i : ℕ) → g b i ≡ true → f b i ≡ true) → AgreeOn packed f m m' → AgreeOn packed g m m'
fewer f g m m' h a = record { size = a.size; size' = a.size'; cells = λ b i e. a.cells b i (h b i e) }

either : (s t u : Bool) → (t ≡ true → u ≡ true) → (s || t) ≡ true → (s || u) ≡ true
either true t u h e = refl
either false t u h e = h e

nowhere : {b : Bool} → false ≡ true → b ≡ true
nowhere e = let z : ◌≡◌ {A = ℕ} 0 1 = cc in absurd (omega arith)

-- a run reads no more of an index code than k instructions of it read
found-fewer : (index : List ℕ) (k : ℕ) (target : List ℕ) (b : Bank) (i : ℕ) → found_cells index (found_to_run k target) b i ≡ true
    → code_cells (instructions index k) b i ≡ true
found-fewer index k [] b i e = nowhere e
found-fewer index k (c ∷ []) b i e = by (stored_bank (letter_bank c)) e
  where
    by : (l : Option Bank) → found_cells index (by_letter k l) b i ≡ true → code_cells (instructions index k) b i ≡ true
    by (Some x) q = q
    by None q = nowhere q
found-fewer index k (c ∷ (d ∷ cs)) b i e = by (target_rule (c ∷ d ∷ cs)) e
  where
    by : (x : (Option (Bank × ℕ))) → found_cells index (by_name x) b i ≡ true → code_cells (instructions index k) b i ≡ true
    by (Some (y, j)) q = nowhere q
    by None q = nowhere q

module _ (tick : ℕ) (m m' : List ℕ) where
  pub ran_listed : (code : List ℕ) (n : ℕ) (target index : List ℕ) (k : ℕ) → AgreeOnListed packed (read_by code n index k) m m'
      → run_answer tick code n target index k m ≡ run_answer tick code n target index k m'
  ran_listed code n target index k a =
      let mine = code_cells (instructions code n) in
      let its = code_cells (instructions index k) in
      ran tick code n target index k m m'
      (fewer (union mine its) (run_cells code n target index k) m m'
      (λ b i. either (mine b i) (found_cells index (found_to_run k target) b i) (its b i) (found-fewer index k target b i))
      (read-theorems.agree_listed packed (union mine its) m m' a))

  pub evaluated_listed : (code : List ℕ) (n : ℕ) (index : List ℕ) (k : ℕ) → AgreeOnListed packed (read_by code n index k) m m'
      → evaluate_answer tick code n m ≡ evaluate_answer tick code n m'
  evaluated_listed code n index k a =
      let mine = code_cells (instructions code n) in
      let its = code_cells (instructions index k) in
      evaluated tick code n m m'
      (fewer (union mine its) mine m m' (λ b i. or_left (mine b i) (its b i)) (read-theorems.agree_listed packed (union mine its) m m' a))

  pub answer_listed : (target text code index : List ℕ) → AgreeOnListed packed (cell_list (request_cells (request target text m code index))) m m'
      → request_answer tick m (request target text m code index) ≡ request_answer tick m' (request target text m' code index)
  answer_listed target text code index a =
      answer tick target text code index m m' (read-theorems.agree_listed packed (request_cells (request target text m code index)) m m' a)

-- ---- what the buffers hold
cells_of : (c : List Instr) (t : Tree) → c ≡ code_of t → (b : Bank) (i : ℕ) → code_cells c b i ≡ tree_cells t b i
cells_of c t e b i = ap (λ (l : List Instr). code_cells l b i) e ∙ read-theorems.code t b i

-- the answer's number of instructions, where there is room
counts : (code text : List ℕ) (t : Tree) (n : ℕ) → judge text ≡ accepted t → compile_answer (compiling (length code) text) ≡ done_with n
    → (16384 ≤ length code) × (n ≡ length (code_of t))
counts code text t n e = by (ltb (length code) 16384) refl
  where
    done : (j : Judgement) → j ≡ accepted t → compile_answer j ≡ done_with n → n ≡ length (code_of t)
    done (accepted u) q a = let same : u ≡ t = cc in let z : length (code_of u) ≡ n = cc in sym z ∙ ap (λ (w : Tree). length (code_of w)) same
    done (refused x p) q a = let z : ◌≡◌ {A = ℕ} 0 1 = cc in absurd (omega arith)

    by : (x : Bool) → ltb (length code) 16384 ≡ x → compile_answer (cond x (refused 10 0) (judge text)) ≡ done_with n
        → (16384 ≤ length code) × (n ≡ length (code_of t))
    by true q a = let z : ◌≡◌ {A = ℕ} 0 1 = cc in absurd (omega arith)
    by false q a = (ltb-false (length code) 16384 q, done (judge text) e a)

pub coded-cells : (code text : List ℕ) (t : Tree) → judge text ≡ accepted t → 16384 ≤ length code
    → (b : Bank) (i : ℕ) → code_cells (instructions (coded_bytes code (accepted t)) (length (code_of t))) b i ≡ tree_cells t b i
coded-cells code text t e room =
    cells_of (instructions (coded_bytes code (accepted t)) (length (code_of t))) t ((compile-theorems-from 0).there text code t e room)

code-cells : (code text : List ℕ) (t : Tree) (n : ℕ) → judge text ≡ accepted t → compile_answer (compiling (length code) text) ≡ done_with n
    → (b : Bank) (i : ℕ) → code_cells (instructions (coded_bytes code (compiling (length code) text)) n) b i ≡ tree_cells t b i
code-cells code text t n e a b i =
    let w = counts code text t n e a in
    let judged : compiling (length code) text ≡ accepted t = rw (le-ltb (length code) 16384 w.0) e in
    ap (λ (j : Judgement). code_cells (instructions (coded_bytes code j) n) b i) judged
    ∙ ap (λ (k : ℕ). code_cells (instructions (coded_bytes code (accepted t)) k) b i) w.1 ∙ coded-cells code text t e w.0 b i

no_cells : (s : List ℕ) (c : Bank) (j : ℕ) → code_cells (instructions s 0) c j ≡ false
unfolding decode_from
no_cells s c j = refl

module _ (index target : List ℕ) (k : ℕ) (b : Bank) (i : ℕ) where
  of-target : (g : Target) → target_of target ≡ g → 16384 ≤ length index → target_answer g ≡ Done (Int (pos 0)) k b i
      → (c : Bank) (j : ℕ) → code_cells (instructions (index_bytes index g) k) c j ≡ target_cells g c j
  of-target (to_cell x y) e room a c j =
      let none : k ≡ 0 = cc in
      ap (λ (n : ℕ). code_cells (instructions index n) c j) none ∙ no_cells index c j
  of-target (to_indexed x u) e room a c j =
      let count : k ≡ length (code_of u) = cc in
      cells_of (instructions (coded_bytes index (accepted u)) k) u
      (ap (instructions (coded_bytes index (accepted u))) count ∙ (compile-theorems-from 1).there (index_text target) index u (indexed target e).judged room) c j
  of-target no_target e room a c j = let z : ◌≡◌ {A = ℕ} 0 1 = cc in absurd (omega arith)

  pub index-cells : compile_target_answer index target ≡ Done (Int (pos 0)) k b i
      → (c : Bank) (j : ℕ) → code_cells (instructions (compile_target_code index target) k) c j ≡ target_cells (target_of target) c j
  index-cells = by (ltb (length index) 16384) refl
    where
      by : (x : Bool) → ltb (length index) 16384 ≡ x → cond x (Refused 10 0) (target_answer (target_of target)) ≡ Done (Int (pos 0)) k b i
          → (c : Bank) (j : ℕ) → code_cells (instructions (cond x index (index_bytes index (target_of target))) k) c j ≡ target_cells (target_of target) c j
      by true q a c j = let z : ◌≡◌ {A = ℕ} 0 1 = cc in absurd (omega arith)
      by false q a c j = of-target (target_of target) refl (ltb-false (length index) 16384 q) a c j

pub of_formula : (text target code index : List ℕ) (t : Tree) (n k : ℕ) (b : Bank) (i : ℕ) → judge text ≡ accepted t
    → compile_answer (compiling (length code) text) ≡ done_with n → compile_target_answer index target ≡ Done (Int (pos 0)) k b i
    → read_by (coded_bytes code (compiling (length code) text)) n (compile_target_code index target) k
    ≡ cell_list (union (tree_cells t) (target_cells (target_of target)))
of_formula text target code index t n k b i e a f =
    let mine = code_cells (instructions (coded_bytes code (compiling (length code) text)) n) in
    let its = code_cells (instructions (compile_target_code index target) k) in
    read-theorems.same_list (union mine its) (union (tree_cells t) (target_cells (target_of target)))
    (λ c j. ap (λ (x : Bool). x || its c j) (code-cells code text t n e a c j)
    ∙ ap (λ (x : Bool). tree_cells t c j || x) (index-cells index target k b i f c j))
