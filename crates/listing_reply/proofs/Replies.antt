-- What is put is what compile-and-run is asked for.
use Rattle.std.specs.Prelude.{Option, Some}
use mathlib.Core.Path.{◌≡◌, refl, sym, ap, ◌∙◌}
use mathlib.Core.List.{List, [], ◌∷◌, ◌++◌}
use Prim.Native.Nat.{ℕ, ◌≤◌, ◌<◌}
use native.Mathlib.Omega.{arith}
use lib.IntN.{pos}
use lib.ListN.{length}
use borrow.Author.Tests.{eq-eqb, ne_eqb}
use Rattle.words.specs.Ascii.{ascii, byte}
use Rattle.values.specs.declared.Value.TheVariants.{Int}
use Rattle.memory.specs.declared.Bank.{Bank}
use Rattle.grammar.specs.Tree.{Tree, tree_kind}
use Rattle.text.specs.Judge.{accepted, judge_from}
use Rattle.text.specs.Targets.{Target, to_cell, to_indexed, no_target, target_of, index_text}
use Rattle.code.specs.declared.Instr.{Instr}
use Rattle.verifier.specs.Verdicts.{verdict}
use Rattle.verifier.proofs.Verdicts.{verdict-laws}
use Rattle.tree_code.specs.Code.{code_of}
use Rattle.compiler.specs.Compile.{coded_bytes}
use Rattle.compiler.proofs.Theorems.{compile-theorems-from}
use Rattle.targets.specs.Found.{index_bytes}
use Rattle.targets.proofs.Theorems.{indexed}
use Rattle.lines.specs.Printing.{letter_byte}
use Rattle.code_listing.specs.Listing.{lines_from, listing_room, verdict_listed, listed}
use Rattle.delivery.specs.declared.Answer.{Answer}
use Rattle.delivery.specs.declared.Answer.TheVariants.{Done}
use Rattle.operations.specs.Operations.{report_of, target_answer}
use Rattle.program.specs.declared.codes.Counts.{Counts}
use Rattle.program.specs.Cases.{zeros}
use Rattle.program.specs.Codes.{BothCompiled, Stops}
use Rattle.program.proofs.Sizes.{zeros-length}
use Rattle.listing_reply.specs.Reply.{index_lines, refusal_text, request_text, listing_text}
use Rattle.listing_reply.specs.private.Parts.{code_text, index_part}
use Rattle.values.specs.declared.Kind.{Kind}

room : 16384 ≤ length (zeros 16384)
room = omega (arith, zeros-length 16384)

-- ---- compiled code is accepted, so its listing is its lines
module _ (d : ℕ) (s : List ℕ) (t : Tree) (e : judge_from d s ≡ accepted t) where
  code_is : code_text (coded_bytes (zeros 16384) (accepted t)) (length (code_of t)) ≡ lines_from 0 (code_of t)
  unfolding code_text
  code_is =
      let good : verdict (code_of t) ≡ Some (tree_kind t) = (verdict-laws.exact (code_of t)
      (tree_kind t)).1 ((compile-theorems-from d).demand s t e).accepted in
      ap (λ (c : List Instr). (listed listing_room c).text) ((compile-theorems-from d).there s (zeros 16384) t e room)
      ∙ ap (λ (v : (Option Kind)). (verdict_listed (code_of t) v).text) good

  some-code : 0 < length (code_of t)
  some-code = ((compile-theorems-from d).demand s t e).accepted.some

-- ---- the index's part
index_is : (target : List ℕ) (g : Target) → target_of target ≡ g → {k : ℕ} {b : Bank} {i : ℕ} → target_answer g ≡ Done (Int (pos 0)) k b i
    → index_part (index_bytes (zeros 16384) g) k b ≡ index_lines g
unfolding index_part
index_is target (to_cell c j) e {k} {b} d =
    let none : k ≡ 0 = cc in
    rw (eq-eqb k 0 none)
index_is target (to_indexed c u) e {k} {b} d =
    let count : k ≡ length (code_of u) = cc in
    let bank : b ≡ c = cc in
    let judged = (indexed target e).judged in
    rw (ne_eqb k 0 (λ w. omega (arith, some-code 1 (index_text target) u judged, count)))
    (ap (λ (x : Bank). (ascii "index=" ++ (letter_byte x ∷ byte "\n" ∷ [])) ++ code_text (coded_bytes (zeros 16384) (accepted u)) k) bank
    ∙ ap (λ (s : List ℕ). (ascii "index=" ++ (letter_byte c ∷ byte "\n" ∷ [])) ++ s)
    (ap (code_text (coded_bytes (zeros 16384) (accepted u))) count ∙ code_is 1 (index_text target) u judged))
index_is target no_target e d = let y : ◌≡◌ {A = ℕ} 0 1 = cc in absurd (omega arith)

-- ---- both
module _ {target text code index : List ℕ} {n : Counts} (s : BothCompiled target text code index n) where
  its : code_text code n.code ≡ lines_from 0 (code_of s.tree)
  its =
      ap (λ (c : List ℕ). code_text c n.code) s.code_is ∙ ap (code_text (coded_bytes (zeros 16384) (accepted s.tree))) s.count
      ∙ code_is 0 text s.tree s.judged

  index_its : index_part index n.index n.bank ≡ index_lines (target_of target)
  index_its = ap (λ (c : List ℕ). index_part c n.index n.bank) s.index_is ∙ index_is target (target_of target) refl s.told

  pub both : code_text code n.code ++ index_part index n.index n.bank ≡ listing_text target text
  unfolding listing_text request_text
  both =
      ap (λ (x : List ℕ). x ++ index_part index n.index n.bank) its ∙ ap (λ (x : List ℕ). lines_from 0 (code_of s.tree) ++ x) index_its
      ∙ sym (ap request_text s.asked)

pub refusal : {target text : List ℕ} {a : Answer} → Stops target text a → refusal_text (report_of a) ≡ listing_text target text
unfolding listing_text request_text
refusal s = ap (λ (x : Answer). refusal_text (report_of x)) s.is ∙ sym (ap request_text s.asked)
