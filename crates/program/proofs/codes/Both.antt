-- What compiling both texts answers and leaves is what compile-and-run is asked for. Assumes nothing.
use mathlib.Core.Path.{◌≡◌, refl, sym, ap, ◌∙◌}
use mathlib.Core.List.{List}
use Prim.Native.Nat.{ℕ}
use native.Mathlib.Omega.{arith}
use lib.IntN.{pos}
use lib.ListN.{length}
use borrow.Author.Tests.{le-ltb}
use Rattle.values.specs.declared.Value.{Value}
use Rattle.values.specs.declared.Value.TheVariants.{Int}
use Rattle.memory.specs.declared.Bank.{Bank}
use Rattle.memory.specs.declared.Bank.TheVariants.{X}
use Rattle.text.specs.Judge.{Judgement, accepted, refused, judge}
use Rattle.text.specs.Targets.{Target, to_cell, to_indexed, no_target, target_of}
use Rattle.tree_code.specs.Code.{code_of}
use Rattle.compiler.specs.Compile.{compiling, coded_bytes}
use Rattle.targets.specs.Found.{index_bytes}
use Rattle.delivery.specs.declared.Answer.{Answer}
use Rattle.delivery.specs.declared.Answer.TheVariants.{Done, Refused}
use Rattle.operations.specs.Operations.{stores, compile_answer, target_answer, compile_target_answer, compile_target_code, of_text, of_target}
use Rattle.program.specs.Cases.{zeros}
use Rattle.program.specs.Codes.{blank_request, BothCompiled, Stops}
use Rattle.program.proofs.Answers.{NotDone, text-judged, index-room, target-judged, target_first}
use Rattle.program.proofs.Sizes.{zeros-length}

-- the value of a compiled target is integer 0
zero-value : (g : Target) {v : Value} {k : ℕ} {b : Bank} {i : ℕ} → target_answer g ≡ Done v k b i → v ≡ Int (pos 0)
zero-value (to_cell b i) e = cc
zero-value (to_indexed b t) e = cc
zero-value no_target e = let y : ◌≡◌ {A = ℕ} 0 1 = cc in absurd (omega arith)

module _ (target text : List ℕ) {index : List ℕ} (zi : index ≡ zeros 16384) {a : Answer} (q : a ≡ compile_target_answer index target) where
  answered : a ≡ target_answer (target_of target)
  answered = target-judged target zi q

  first : (g : Target) → target_of target ≡ g → blank_request target text ≡ of_target text (zeros 16384) (zeros 16384) g
  first g e = target_first target text ∙ ap (of_target text (zeros 16384) (zeros 16384)) e

  pub bad_target : NotDone a → Stops target text a
  bad_target d = by (target_of target) refl
    where
      by : (g : Target) → target_of target ≡ g → Stops target text a
      by (to_cell b i) e = absurd (d (Int (pos 0)) 0 b i (answered ∙ ap target_answer e))
      by (to_indexed b t) e = absurd (d (Int (pos 0)) (length (code_of t)) b 0 (answered ∙ ap target_answer e))
      by no_target e = record { answer = 2; place = 0; is = answered ∙ ap target_answer e; asked = first no_target e }

  -- with a good target
  module _ {v : Value} {k : ℕ} {b : Bank} {i : ℕ} (d : a ≡ Done v k b i) {code : List ℕ} (zc : code ≡ zeros 16384)
      {c : Answer} (p : c ≡ compile_answer (compiling (length code) text)) where
    room : compiling (length code) text ≡ judge text
    room = text-judged code text (sym (ap length zc ∙ zeros-length 16384))

    judged : c ≡ compile_answer (judge text)
    judged = p ∙ ap compile_answer room

    of-goal : (g : Target) → target_of target ≡ g → (j : Judgement) → judge text ≡ j
        → blank_request target text ≡ of_text (zeros 16384) (zeros 16384) g j
    of-goal (to_cell x y) e j f = first (to_cell x y) e ∙ ap (of_text (zeros 16384) (zeros 16384) (to_cell x y)) f
    of-goal (to_indexed x t) e j f = first (to_indexed x t) e ∙ ap (of_text (zeros 16384) (zeros 16384) (to_indexed x t)) f
    of-goal no_target e j f =
        let same : Done v k b i ≡ Refused 2 0 = sym d ∙ answered ∙ ap target_answer e in
        let z : ◌≡◌ {A = ℕ} 0 1 = cc in
        absurd (omega arith)

    pub bad_text : NotDone c → Stops target text c
    bad_text n = by (judge text) refl
      where
        by : (j : Judgement) → judge text ≡ j → Stops target text c
        by (accepted t) f = absurd (n (Int (pos 0)) (length (code_of t)) X 0 (judged ∙ ap compile_answer f))
        by (refused x y) f = record { answer = x; place = y; is = judged ∙ ap compile_answer f; asked = of-goal (target_of target) refl (refused x y) f }

    pub both : {u : Value} {n : ℕ} {l : Bank} {j : ℕ} → c ≡ Done u n l j → {code' index' : List ℕ}
        → code' ≡ coded_bytes code (compiling (length code) text) → index' ≡ compile_target_code index target
        → BothCompiled target text code' index' (record { code = n; index = k; bank = b })
    both {u} {n} {l} {j} e {code'} {index'} wc wi = by (judge text) refl
      where
        index_is : index' ≡ index_bytes (zeros 16384) (target_of target)
        index_is = wi ∙ rw (le-ltb (length index) 16384 (index-room zi)) (ap (λ (x : List ℕ). index_bytes x (target_of target)) zi)

        told : target_answer (target_of target) ≡ Done (Int (pos 0)) k b i
        told =
            let good = sym answered ∙ d in
            good ∙ ap (λ (x : Value). Done x k b i) (zero-value (target_of target) good)

        by : (x : Judgement) → judge text ≡ x → BothCompiled target text code' index' (record { code = n; index = k; bank = b })
        by (accepted t) f =
            let g = target_of target in
            let code_is : code' ≡ coded_bytes (zeros 16384) (accepted t) =
            wc ∙ ap (coded_bytes code) (room ∙ f) ∙ ap (λ (x : List ℕ). coded_bytes x (accepted t)) zc in
            let same : Done u n l j ≡ compile_answer (accepted t) = sym e ∙ judged ∙ ap compile_answer f in
            record {
              tree = t;
              asked = of-goal g refl (accepted t) f ∙ ap (λ (x : List ℕ). stores g t x (index_bytes (zeros 16384) g)) (sym code_is)
                  ∙ ap (λ (x : List ℕ). stores g t code' x) (sym index_is);
              judged = f;
              code_is = code_is;
              count = cc;
              index_is = index_is;
              element = i;
              told = told;
            }
        by (refused x y) f =
            let same : Done u n l j ≡ Refused x y = sym e ∙ judged ∙ ap compile_answer f in
            let z : ◌≡◌ {A = ℕ} 0 1 = cc in
            absurd (omega arith)
