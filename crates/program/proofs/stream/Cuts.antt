-- A line of which only the first bytes are kept does to a case what the whole line does, as far as the reply goes. Assumes nothing.
use Rattle.std.specs.Prelude.{Option, Some, None}
use mathlib.Core.Path.{◌≡◌, refl, sym, ap, ◌∙◌}
use mathlib.Core.Bool.{Bool, true, false, ◌&&◌, cond, and-false}
use mathlib.Core.List.{List, [], ◌∷◌, ◌++◌}
use Prim.Native.Nat.{ℕ, zero, suc, ◌-◌, ◌≤◌, ◌<◌, min}
use native.Mathlib.Omega.{arith}
use lib.Dec.{eqb, ltb}
use lib.ListN.{length, take, drop, length-drop}
use lib.Seq.{take-nil, take-take, take_all, length-take-le}
use borrow.Author.Tests.{ltb-true, ltb-false, lt-leb}
use Rattle.memory.specs.declared.Bank.{Bank}
use Rattle.memory.specs.Layout.{image_size}
use Rattle.memory.specs.Names.{named_rule}
use Rattle.tokens.specs.Bytes.{run_len}
use Rattle.tokens.specs.Symbols.{equal_bytes}
use Rattle.text.specs.Judge.{refused, judge_from, judge}
use Rattle.text.specs.Targets.{Target, to_cell, to_indexed, no_target, indexed_target, target_of}
use Rattle.operations.specs.Operations.{report_of, Request, stops, of_text, of_target, request_answer, request_memory}
use Rattle.lines.specs.Forms.{cell_pattern}
use Rattle.lines.specs.Lines.{except, key_length}
use Rattle.program.specs.declared.case.Case.{Case}
use Rattle.program.specs.Cases.{put_form, set_cell, target_key, expr_key, keyed, after_line, zeros}
use Rattle.program.specs.Reply.{report_text, stored_text, program_tick, reply_to}
use Rattle.program.specs.Stream.{kept_bytes, asked_for}
use Rattle.lines.proofs.Long.{short-name, no_name, no_target_lem, no_value}
use Rattle.lines.proofs.Tests.{no}
use Rattle.program.proofs.case.Effects.{key-line, no_key}

-- two cases have the same memory, target and formula, or refusals
pub record Agrees (s t : Case) : Type 0 where
  pub memory : s.memory ≡ t.memory
  pub target : target_of s.target ≡ target_of t.target
  pub text : judge s.text ≡ judge t.text

pub itself : (s : Case) → Agrees s s
itself s = record { memory = refl; target = refl; text = refl }

-- ---- they ask for the same, and have one reply
of-target : (a b : List ℕ) → judge a ≡ judge b → (g : Target) → of_target a (zeros 16384) (zeros 16384) g ≡ of_target b (zeros 16384) (zeros 16384) g
of-target a b e (to_cell c i) = ap (of_text (zeros 16384) (zeros 16384) (to_cell c i)) e
of-target a b e (to_indexed c t) = ap (of_text (zeros 16384) (zeros 16384) (to_indexed c t)) e
of-target a b e no_target = refl

abbrev printed : List ℕ → Request → List ℕ
printed m q = report_text (report_of (request_answer program_tick m q)) ++ stored_text (request_memory program_tick m q) (request_answer program_tick m q)

abbrev guarded : List ℕ → Request → Request
guarded m q =
    let room = ltb (length (zeros 16384)) 16384 in
    cond (eqb (length m) image_size) (cond room (stops 10 0) (cond room (stops 10 0) q)) (stops 1 0)

pub same-request : (m : List ℕ) (s t : Case) → Agrees s t → asked_for s m ≡ asked_for t m
same-request m s t a =
    ap (guarded m) (of-target s.text t.text a.text (target_of s.target) ∙ ap (of_target t.text (zeros 16384) (zeros 16384)) a.target)

pub same-reply : (s t : Case) → Agrees s t → reply_to s ≡ reply_to t
same-reply s t a = ap (printed s.memory) (same-request s.memory s t a) ∙ ap (λ (x : List ℕ). printed x (asked_for t x)) a.memory

-- ---- a long target is none
no-long-target : (s : List ℕ) → 1024 < length s → target_of s ≡ no_target
unfolding target_of indexed_target
no-long-target s h = rw (no_target_lem s (omega arith), lt-leb (length s) 1024 h)

-- ---- a long expression is refused whatever it says
no-formula : (s : List ℕ) → 1024 < length s → judge s ≡ refused 3 0
unfolding judge_from
no-formula s h = rw (lt-leb (length s) 1024 h, and-false)

-- ---- lists
drop-take : (m n : ℕ) (l : List ℕ) → drop m (take n l) ≡ take (n - m) (drop m l)
drop-take zero n l =
    let e : n - 0 ≡ n = omega arith in rw e
drop-take (suc m) zero l =
    let e : 0 - suc m ≡ 0 = omega arith in rw e
drop-take (suc m) (suc n) [] = sym (take-nil (suc n - suc m))
drop-take (suc m) (suc n) (x ∷ l) =
    let e : suc n - suc m ≡ n - m = omega arith in rw e (drop-take m n l)

run_step : (t : Bool) (n a b : ℕ) → a ≡ min n b → cond t (suc a) 0 ≡ min (suc n) (cond t (suc b) 0)
run_step true n a b e = omega arith
run_step false n a b e = omega arith

run_take : (p : ℕ → Bool) (n : ℕ) (l : List ℕ) → run_len p (take n l) ≡ min n (run_len p l)
run_take p zero l = omega arith
run_take p (suc n) [] = omega arith
run_take p (suc n) (c ∷ l) = run_step (p c) n (run_len p (take n l)) (run_len p l) (run_take p n l)

run-within : (p : ℕ → Bool) (l : List ℕ) → run_len p l ≤ length l
run-within p [] = omega arith
run-within p (c ∷ l) = by (p c) (run-within p l)
  where
    by : (t : Bool) → run_len p l ≤ length l → cond t (suc (run_len p l)) 0 ≤ suc (length l)
    by true h = omega arith
    by false h = omega arith

differ : (a b : List ℕ) → (length a ≡ length b → ⊥) → equal_bytes a b ≡ false
differ [] [] n = absurd (n refl)
differ [] (d ∷ b) n = refl
differ (c ∷ a) [] n = refl
differ (c ∷ a) (d ∷ b) n = rw (differ a b (λ e. n (ap suc e)), and-false)

same_length : (a b : List ℕ) → equal_bytes a b ≡ true → length a ≡ length b
same_length [] [] e = refl
same_length [] (d ∷ b) e = no e
same_length (c ∷ a) [] e = no e
same_length (c ∷ a) (d ∷ b) e = ap suc (same_length a b (by (eqb c d) e))
  where
    by : (t : Bool) → (t && equal_bytes a b) ≡ true → equal_bytes a b ≡ true
    by true f = f
    by false f = no f

-- ---- a choice that both make
either : (b : Bool) {x y u v : Case} → (b ≡ true → Agrees x u) → (b ≡ false → Agrees y v) → Agrees (cond b x y) (cond b u v)
either true f g = f refl
either false f g = g refl

-- two values under a key come to the same
record Like (key v w : List ℕ) : Type 0 where
  target : equal_bytes key target_key ≡ true → target_of v ≡ target_of w
  text : equal_bytes key expr_key ≡ true → judge v ≡ judge w
  form : (b : Bank) {i : ℕ} → named_rule key ≡ Some (b, i) → cell_pattern b v ≡ cell_pattern b w

module _ (s t : Case) (a : Agrees s t) where
  set-cell : (key v w : List ℕ) → Like key v w → (n : (Option (Bank × ℕ))) → named_rule key ≡ n → set_cell s.memory v n ≡ set_cell t.memory w n
  set-cell key v w k (Some (b, i)) e = ap (λ (m : List ℕ). put_form m b i (cell_pattern b v)) a.memory ∙ ap (put_form t.memory b i) (k.form b e)
  set-cell key v w k None e = a.memory

  line : (key v w : List ℕ) → Like key v w → Agrees (keyed s key v) (keyed t key w)
  unfolding keyed
  line key v w k =
      either (equal_bytes key target_key) (λ e. record { memory = a.memory; target = k.target e; text = a.text })
      (λ _. either (equal_bytes key expr_key) (λ e. record { memory = a.memory; target = a.target; text = k.text e })
      (λ _. record { memory = set-cell key v w k (named_rule key) refl; target = a.target; text = a.text }))

  same_line : (l : List ℕ) → Agrees (after_line s l) (after_line t l)
  unfolding after_line
  same_line l =
      let k = key_length l in
      let like : Like (take k l) (drop (suc k) l) (drop (suc k) l) = record { target = λ _. refl; text = λ _. refl; form = λ b e. refl } in
      either (ltb k (length l)) (λ _. line (take k l) (drop (suc k) l) (drop (suc k) l) like) (λ _. a)

  -- ---- a line of which not all is kept
  module _ (l : List ℕ) (long : kept_bytes < length l) where
    abbrev k : ℕ
    k = key_length l

    kept : length (take kept_bytes l) ≡ kept_bytes
    kept = length-take-le kept_bytes l (omega arith)

    -- the key is
    module _ (h : k < kept_bytes) where
      cut-key : key_length (take kept_bytes l) ≡ k
      cut-key = run_take (except 61) kept_bytes l ∙ omega arith

      cut : after_line s (take kept_bytes l) ≡ keyed s (take k l) (take (kept_bytes - suc k) (drop (suc k) l))
      cut =
          key-line s (take kept_bytes l) (sym cut-key) (omega (arith, kept))
          ∙ ap (λ (w : List ℕ). keyed s w (drop (suc k) (take kept_bytes l))) (take-take k kept_bytes l (omega arith))
          ∙ ap (keyed s (take k l)) (drop-take (suc k) kept_bytes l)

      uncut : after_line t l ≡ keyed t (take k l) (drop (suc k) l)
      uncut = key-line t l refl (omega arith)

      name : length (take k l) ≡ k
      name = length-take-le k l (omega arith)

      rest : length (drop (suc k) l) ≡ length l - suc k
      rest = length-drop (suc k) l

      front : length (take (kept_bytes - suc k) (drop (suc k) l)) ≡ kept_bytes - suc k
      front = length-take-le (kept_bytes - suc k) (drop (suc k) l) (omega (arith, rest))

      like : Like (take k l) (take (kept_bytes - suc k) (drop (suc k) l)) (drop (suc k) l)
      like =
          record {
            target =
                λ e. let z = same_length (take k l) target_key e in no-long-target _ (omega (arith, front, name))
                ∙ sym (no-long-target _ (omega (arith, rest, name)));
            text = λ e. let z = same_length (take k l) expr_key e in no-formula _ (omega (arith, front, name)) ∙ sym (no-formula _ (omega (arith, rest, name)));
            form = λ b e. let z = short-name (take k l) e in no_value b _ (omega (arith, front, name)) ∙ sym (no_value b _ (omega (arith, rest, name)));
          }

      key-kept : Agrees (after_line s (take kept_bytes l)) (after_line t l)
      key-kept = rw (cut, uncut) (line (take k l) _ _ like)

    -- not even the key is: no line of that kind sets anything
    module _ (h : kept_bytes ≤ k) where
      lost-key : key_length (take kept_bytes l) ≡ kept_bytes
      lost-key = run_take (except 61) kept_bytes l ∙ omega arith

      skipped : after_line s (take kept_bytes l) ≡ s
      skipped = no_key s (take kept_bytes l) (sym lost-key) (omega (arith, kept))

      far : length (take k l) ≡ k
      far = length-take-le k l (run-within (except 61) l)

      nothing : keyed t (take k l) (drop (suc k) l) ≡ t
      unfolding keyed
      nothing =
          rw (
            differ (take k l) target_key (λ e. omega (arith, far)),
            differ (take k l) expr_key (λ e. omega (arith, far)),
            no_name (take k l) (omega (arith, far)),
          )

      ignored : after_line t l ≡ t
      unfolding after_line
      ignored = rw nothing (by (ltb k (length l)))
        where
          by : (b : Bool) → cond b t t ≡ t
          by true = refl
          by false = refl

      key-lost : Agrees (after_line s (take kept_bytes l)) (after_line t l)
      key-lost = rw (skipped, ignored) a

    cut_line : Agrees (after_line s (take kept_bytes l)) (after_line t l)
    cut_line = by (ltb k kept_bytes) refl
      where
        by : (b : Bool) → ltb k kept_bytes ≡ b → Agrees (after_line s (take kept_bytes l)) (after_line t l)
        by true e = key-kept (ltb-true k kept_bytes e)
        by false e = key-lost (ltb-false k kept_bytes e)

  pub kept_line : (l : List ℕ) → Agrees (after_line s (take kept_bytes l)) (after_line t l)
  kept_line l = by (ltb kept_bytes (length l)) refl
    where
      by : (b : Bool) → ltb kept_bytes (length l) ≡ b → Agrees (after_line s (take kept_bytes l)) (after_line t l)
      by true e = cut_line l (ltb-true kept_bytes (length l) e)
      by false e = rw (take_all kept_bytes l (ltb-false kept_bytes (length l) e)) (same_line l)
