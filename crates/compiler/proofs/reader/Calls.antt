-- A law for each way through `call`, `pair`, `arguments`, `clock` and `branches`.
use mathlib.Core.Path.{◌≡◌, refl, sym, ap, subst, fun_ext, ◌∙◌}
use mathlib.Core.Bool.{true, false}
use mathlib.Core.List.{List}
use Prim.Native.Nat.{ℕ, zero, suc, ◌+◌, ◌-◌, ◌*◌, ◌≤◌}
use native.Mathlib.Omega.{arith}
use lib.ListN.{length}
use Rattle.values.specs.declared.Kind.{Kind}
use Rattle.values.specs.declared.Kind.TheVariants as K
use Rattle.values.specs.declared.ChoiceOp.TheVariants as Choose
use Rattle.values.specs.declared.CompareOp.TheVariants as C'
use Rattle.operators.specs.declared.UnaryOp.{UnaryOp}
use Rattle.operators.specs.declared.UnaryOp.TheVariants as U
use Rattle.operators.specs.declared.BinaryOp.{BinaryOp}
use Rattle.operators.specs.declared.BinaryOp.TheVariants as B
use Rattle.operators.specs.Kinds.{is_int, join, unary_kind, unary_takes, binary_kind, binary_takes}
use Rattle.operators.specs.Tables.{unary_number, binary_number}
use Rattle.totals.specs.declared.TotalOp.{TotalOp}
use Rattle.totals.specs.declared.TotalOp.TheVariants as T'
use Rattle.totals.specs.declared.MatchOp.{MatchOp}
use Rattle.totals.specs.declared.MatchOp.TheVariants as M'
use Rattle.totals.specs.Numbers.{total_number, match_number}
use Rattle.tokens.specs.declared.Function.{Function}
use Rattle.tokens.specs.declared.Function.TheVariants as F
use Rattle.tokens.specs.Scan.{Tok}
use Rattle.tokens.specs.Words.{function_at}
use Rattle.token_table.specs.private.Table.{word_operand, word_place, word_at, tokens_from, TokenWords}
use Rattle.grammar.specs.Tree.{Tree, choice, tick, matching, Diagnostic, clear, earlier, unless, wrong_kind_at}
use Rattle.grammar.specs.Symbols.{loosest, open_paren, close_paren, comma, Callee, of_one, of_two, of_choice, of_since, Form, plain, clock, ranged}
use Rattle.grammar.specs.Symbols.{matched, form_of, Arguments, one, more, argument, call_tree}
use Rattle.grammar.specs.Functions.{form_number, operator_number, function_form}
use Rattle.grammar.specs.Parse.{Result, ok, and_then, expect, expect_range, call_body, expression, arguments}
use Rattle.code.specs.declared.Instr.TheVariants.{Unary, Binary, JumpIf, Tick, Since}
use Rattle.tree_code.specs.Code.{branch_tail}
use Rattle.tree_code.proofs.Laws.{tail-short}
use Rattle.draft.specs.private.Results.{Read, Done, Bad, read_next, read_end, read_kind, read_wrong}
use Rattle.draft.specs.private.Words.{unary_at, binary_at, function_op, function_pair, is_mark}
use Rattle.draft.specs.private.Draft.{put_instr, chosen_code}
use Rattle.draft.specs.private.Ranges.{total_at, match_at, function_total, function_match}
use Rattle.compiler.specs.private.Reading.{DraftHolds, SameResult, same_done, same_bad, Span, span_done, span_bad, ReaderAgrees, then_symbol}
use Rattle.compiler.specs.private.Reading.{arguments_of, call_of, Arguing, Matching, Branches}
use Rattle.compiler.proofs.reader.Looking.{head_is, look, mark, There, there}
use Rattle.compiler.proofs.reader.Binding.{Stopped, span-earlier, span-stopped, bind_done, bind_stopped, expect-past, expect-other, and-then}
use Rattle.compiler.proofs.reader.Binding.{then-then, enter-inside}
use Rattle.compiler.proofs.reader.Meaning.{means-tick, means-since, means-unary, means-binary, means-choice}
use Rattle.compiler.proofs.reader.Ranging.{Totalled}
use Rattle.compiler.proofs.reader.Steps.{Enclosed, Bounds, bounds}

-- ---- the parser's lists of arguments, put one behind another
last_step : (f d : ℕ) (ts : List Tok) (K : Arguments → List Tok → Result Tree)
    → and_then (arguments (suc f) d 0 ts) K ≡ and_then (then_symbol close_paren (expression f d loosest ts)) (λ t q. K (one t) q)
unfolding arguments
last_step f d ts K =
    ap (λ (z : Result Arguments). and_then z K) (sym (and-then close_paren (expression f d loosest ts) (λ t q. ok (one t) q)))
    ∙ then-then (then_symbol close_paren (expression f d loosest ts)) (λ t q. ok (one t) q) K

more-step : (f d m : ℕ) (ts : List Tok) (K : Arguments → List Tok → Result Tree)
    → and_then (arguments (suc f) d (suc m) ts) K ≡ and_then (then_symbol comma (expression f d loosest ts))
    (λ t q. and_then (arguments f d m q) (λ us z. K (more t us) z))
unfolding arguments
more-step f d m ts K =
    ap (λ (z : Result Arguments). and_then z K) (sym (and-then comma (expression f d loosest ts)
    (λ t q. and_then (arguments f d m q) (λ us z. ok (more t us) z))))
    ∙ then-then (then_symbol comma (expression f d loosest ts)) (λ t q. and_then (arguments f d m q) (λ us z. ok (more t us) z)) K
    ∙ ap (λ (k : Tree → List Tok → Result Tree). and_then (then_symbol comma (expression f d loosest ts)) k)
    (fun_ext (λ t. fun_ext (λ q. then-then (arguments f d m q) (λ us z. ok (more t us) z) K)))

-- ---- the last argument, and one with others behind it, each if it was read and if not
module _ (d : ℕ) {s : List ℕ} {at pc pc' : ℕ} {o o₁ o₂ o₃ : List ℕ} (K : Arguments → List Tok → Result Tree) where
  last-stops : {r : Read} → Enclosed close_paren d s at pc' o₁ o₂ r → Stopped r → (f : ℕ) → (length s - at) * 8 + 4 ≤ f
      → SameResult pc o o₃ s r (and_then (arguments f d 0 (tokens_from s at)) K)
  last-stops x h zero le = absurd (omega arith)
  last-stops x h (suc f) le = rw (last_step f d (tokens_from s at) K) (bind_stopped (λ t q. K (one t) q) h (x.same f (omega arith)))

  last_goes : {j e : ℕ} {k : Kind} {w : Diagnostic} {r : Read} → Enclosed close_paren d s at pc' o₁ o₂ (Done j e k w)
      → ((t : Tree) → DraftHolds pc' o₁ o₂ e k w t → SameResult pc o o₃ s r (K (one t) (tokens_from s j)))
      → (f : ℕ) → (length s - at) * 8 + 4 ≤ f → SameResult pc o o₃ s r (and_then (arguments f d 0 (tokens_from s at)) K)
  last_goes x g zero le = absurd (omega arith)
  last_goes x g (suc f) le = rw (last_step f d (tokens_from s at) K) (bind_done (λ t q. K (one t) q) (x.same f (omega arith)) g)

  more-stops : (m : ℕ) {r : Read} → Enclosed comma d s at pc' o₁ o₂ r → Stopped r → (f : ℕ) → (length s - at) * 8 + 4 ≤ f
      → SameResult pc o o₃ s r (and_then (arguments f d (suc m) (tokens_from s at)) K)
  more-stops m x h zero le = absurd (omega arith)
  more-stops m x h (suc f) le =
      rw (more-step f d m (tokens_from s at) K) (bind_stopped (λ t q. and_then (arguments f d m q) (λ us z. K (more t us) z)) h (x.same f (omega arith)))

  more-goes : (m : ℕ) {j e : ℕ} {k : Kind} {w : Diagnostic} {r : Read} → Enclosed comma d s at pc' o₁ o₂ (Done j e k w)
      → ((t : Tree) → DraftHolds pc' o₁ o₂ e k w t → (f : ℕ) → (length s - j) * 8 + 4 ≤ f
      → SameResult pc o o₃ s r (and_then (arguments f d m (tokens_from s j)) (λ us z. K (more t us) z)))
      → (f : ℕ) → (length s - at) * 8 + 4 ≤ f → SameResult pc o o₃ s r (and_then (arguments f d (suc m) (tokens_from s at)) K)
  more-goes m x g zero le = absurd (omega arith)
  more-goes m x g (suc f) le =
      let b = bounds x.span in
      rw (more-step f d m (tokens_from s at) K)
      (bind_done (λ t q. and_then (arguments f d m q) (λ us z. K (more t us) z)) (x.same f (omega arith)) (λ t i. g t i f (omega arith)))

-- ---- from the parenthesis of a call to what stands behind it
pub call-inside : (w d : ℕ) {s : List ℕ} {at pc : ℕ} {o o' : List ℕ} {r : Read} → TokenWords s → is_mark open_paren (word_at s at) ≡ true → (d ≡ 0 → ⊥)
    → Arguing w (d - 1) s at pc o o' r → ReaderAgrees (λ n ts. call_of (function_at (word_operand w)) (word_place w) d n ts) 0 s at pc o o' r
call-inside w d {s} {at} {pc} {o} {o'} {r} t i z x = record { span = x.span; same = go }
  where
    h : There open_paren s at
    h = there open_paren s at t i

    go : (n : ℕ) → (length s - at) * 8 + 0 ≤ n → SameResult pc o o' s r (call_of (function_at (word_operand w)) (word_place w) d n (tokens_from s at))
    go n le = rw (enter-inside d (λ e q. arguments_of (function_at (word_operand w)) (word_place w) e n q) h.splits z)
        (x.same n (omega (arith, h.splits.within)))

-- ---- functions by the form of their calls: operators that functions apply take either kind
data Calls : Form → Type 0 where
  one-call : (o : UnaryOp) → unary_at (unary_number o) ≡ o → ((k : Kind) → unary_takes o k ≡ true) → Calls (plain (of_one o))
  two-call : (o : BinaryOp) → binary_at (binary_number o) ≡ o → ((a b : Kind) → binary_takes o a b ≡ true) → Calls (plain (of_two o))
  choice-call : Calls (plain of_choice)
  since-call : Calls (plain of_since)
  clock-call : Calls clock
  total-call : (o : TotalOp) → total_at (total_number o) ≡ o → Calls (ranged o)
  match-call : (o : MatchOp) → match_at (match_number o) ≡ o → Calls (matched o)

total-back : (o : TotalOp) → total_at (total_number o) ≡ o
total-back T'.Sum = refl
total-back T'.Average = refl
total-back (T'.Choice Choose.Max) = refl
total-back (T'.Choice Choose.Min) = refl

match_back : (o : MatchOp) → match_at (match_number o) ≡ o
match_back (M'.Count C'.Lt) = refl
match_back (M'.Count C'.Gt) = refl
match_back (M'.Count C'.Le) = refl
match_back (M'.Count C'.Ge) = refl
match_back (M'.Count C'.Eq) = refl
match_back (M'.Count C'.Ne) = refl
match_back (M'.Sum C'.Lt) = refl
match_back (M'.Sum C'.Gt) = refl
match_back (M'.Sum C'.Le) = refl
match_back (M'.Sum C'.Ge) = refl
match_back (M'.Sum C'.Eq) = refl
match_back (M'.Sum C'.Ne) = refl

calls : (g : Function) → Calls (form_of g)
calls F.Abs = one-call U.Abs refl (λ k. refl)
calls F.ToReal = one-call U.ToReal refl (λ k. refl)
calls F.ToInt = one-call U.Trunc refl (λ k. refl)
calls F.Trunc = one-call U.Trunc refl (λ k. refl)
calls F.Round = one-call U.Round refl (λ k. refl)
calls F.Frac = one-call U.Frac refl (λ k. refl)
calls F.Max = two-call (B.Choice Choose.Max) refl (λ a b. refl)
calls F.Min = two-call (B.Choice Choose.Min) refl (λ a b. refl)
calls F.If = choice-call
calls F.TickMs = clock-call
calls F.Since = since-call
calls (F.Total o) = total-call o (total-back o)
calls (F.Match o) = match-call o (match_back o)

-- a call of one argument, and of two, as the number of the operator says
abbrev One : Form → Type 0
One x = (x ≡ plain (of_one (unary_at (operator_number x)))) × ((k : Kind) → unary_takes (unary_at (operator_number x)) k ≡ true)

abbrev Two : Form → Type 0
Two x = (x ≡ plain (of_two (binary_at (operator_number x)))) × ((a b : Kind) → binary_takes (binary_at (operator_number x)) a b ≡ true)

one_form : {x : Form} → Calls x → form_number x ≡ 1 → One x
one_form (one-call o back any) e = rw back (refl, any)
one_form (two-call o back any) e = absurd (omega arith)
one_form choice-call e = absurd (omega arith)
one_form since-call e = absurd (omega arith)
one_form clock-call e = absurd (omega arith)
one_form (total-call o back) e = absurd (omega arith)
one_form (match-call o back) e = absurd (omega arith)

two-form : {x : Form} → Calls x → form_number x ≡ 2 → Two x
two-form (one-call o back any) e = absurd (omega arith)
two-form (two-call o back any) e = rw back (refl, any)
two-form choice-call e = absurd (omega arith)
two-form since-call e = absurd (omega arith)
two-form clock-call e = absurd (omega arith)
two-form (total-call o back) e = absurd (omega arith)
two-form (match-call o back) e = absurd (omega arith)

since-form : {x : Form} → Calls x → form_number x ≡ 4 → x ≡ plain of_since
since-form (one-call o back any) e = absurd (omega arith)
since-form (two-call o back any) e = absurd (omega arith)
since-form choice-call e = absurd (omega arith)
since-form since-call e = refl
since-form clock-call e = absurd (omega arith)
since-form (total-call o back) e = absurd (omega arith)
since-form (match-call o back) e = absurd (omega arith)

clock-form : {x : Form} → Calls x → form_number x ≡ 5 → x ≡ clock
clock-form (one-call o back any) e = absurd (omega arith)
clock-form (two-call o back any) e = absurd (omega arith)
clock-form choice-call e = absurd (omega arith)
clock-form since-call e = absurd (omega arith)
clock-form clock-call e = refl
clock-form (total-call o back) e = absurd (omega arith)
clock-form (match-call o back) e = absurd (omega arith)

total-form : {x : Form} → Calls x → form_number x ≡ 6 → x ≡ ranged (total_at (operator_number x))
total-form (one-call o back any) e = absurd (omega arith)
total-form (two-call o back any) e = absurd (omega arith)
total-form choice-call e = absurd (omega arith)
total-form since-call e = absurd (omega arith)
total-form clock-call e = absurd (omega arith)
total-form (total-call o back) e = rw back refl
total-form (match-call o back) e = absurd (omega arith)

match-form : {x : Form} → Calls x → form_number x ≡ 7 → x ≡ matched (match_at (operator_number x))
match-form (one-call o back any) e = absurd (omega arith)
match-form (two-call o back any) e = absurd (omega arith)
match-form choice-call e = absurd (omega arith)
match-form since-call e = absurd (omega arith)
match-form clock-call e = absurd (omega arith)
match-form (total-call o back) e = absurd (omega arith)
match-form (match-call o back) e = rw back refl

-- the numbers of the forms that are asked for before IF's
abbrev Other : ℕ → Type 0
Other r = ((r ≡ 1 → ⊥) × (r ≡ 2 → ⊥) × (r ≡ 4 → ⊥)) × ((r ≡ 5 → ⊥) × (r ≡ 6 → ⊥) × (r ≡ 7 → ⊥))

choice-form : {x : Form} → Calls x → Other (form_number x) → x ≡ plain of_choice
choice-form (one-call o back any) n = absurd (n.0.0 refl)
choice-form (two-call o back any) n = absurd (n.0.1 refl)
choice-form choice-call n = refl
choice-form since-call n = absurd (n.0.2 refl)
choice-form clock-call n = absurd (n.1.0 refl)
choice-form (total-call o back) n = absurd (n.1.1 refl)
choice-form (match-call o back) n = absurd (n.1.2 refl)

-- as the code asks for the form
pub choice-of : (f : ℕ) {r : ℕ} → r ≡ function_form f → Other r → form_of (function_at f) ≡ plain of_choice
choice-of f {r} e n = choice-form (calls (function_at f)) (subst Other e n)

-- ---- nothing but the parenthesis
abbrev pub Clock : List ℕ → ℕ → ℕ → List ℕ → List ℕ → Read → Type 0
Clock s at pc o o' r = ReaderAgrees (λ n ts. expect close_paren ts (λ q. ok tick q)) 4 s at pc o o' r

module _ {s : List ℕ} {at pc : ℕ} {o : List ℕ} (t : TokenWords s) where
  pub clock-done : {o' : List ℕ} → is_mark close_paren (word_at s at) ≡ true → o' ≡ put_instr o pc Tick
      → Clock s at pc o o' (Done (at + 1) (pc + 1) K.Int clear)
  clock-done m q =
      let h = there close_paren s at t m in
      record {
        span = span_done {j = at + 1} {e = pc + 1} (omega arith) (omega (arith, h.splits.within)) (omega arith) (omega arith);
        same = λ n le. rw (expect-past (λ z. ok tick z) h.splits) (same_done (means-tick q) refl);
      }

  pub clock-other : at ≤ length s → is_mark close_paren (word_at s at) ≡ false → Clock s at pc o o (Bad at)
  clock-other l m =
      let h : head_is close_paren (tokens_from s at) ≡ false = sym (mark (look {s = s} {at = at} t refl) close_paren) ∙ m in
      record { span = span_bad l; same = λ n le. rw (expect-other close_paren (tokens_from s at) (λ z. ok tick z) h) (same_bad refl) }

-- ---- what stands behind the parenthesis of a call, whose name has the word w and the number f
pub arguing-as : {w d : ℕ} {s : List ℕ} {at pc : ℕ} {o o' : List ℕ} {x y : Read} → x ≡ y → Arguing w d s at pc o o' y → Arguing w d s at pc o o' x
arguing-as {w} {d} {s} {at} {pc} {o} {o'} e h = subst (Arguing w d s at pc o o') (sym e) h

value-stops : (d : ℕ) (K : Tree → List Tok → Result Tree) {s : List ℕ} {at pc : ℕ} {o o₁ : List ℕ} {r : Read} → Enclosed comma d s at pc o o₁ r → Stopped r
    → (n : ℕ) → (length s - at) * 8 + 4 ≤ n → SameResult pc o o₁ s r (and_then (expression n d loosest (tokens_from s at)) (λ t q. expect comma q (λ z. K t z)))
value-stops d K {s} {at} x stop n le = rw (← and-then comma (expression n d loosest (tokens_from s at)) K) (bind_stopped K stop (x.same n (omega arith)))

abbrev made_of : ℕ → Callee → Arguments → List Tok → Result Tree
made_of p c us q = ok (call_tree c p us) q

module _ (f w d : ℕ) (number : f ≡ word_operand w) {s : List ℕ} {at pc : ℕ} {o : List ℕ} where
  -- the call is of the form x
  of-form : (x : Form) {o₁ : List ℕ} {r : Read} → form_of (function_at f) ≡ x → Span s at pc r
      → ((n : ℕ) → (length s - (at + 1)) * 8 + 4 ≤ n → SameResult pc o o₁ s r
      (call_body x (word_place w) (λ m q. arguments n d m q) (λ q. expression n d loosest q) (tokens_from s (at + 1)))) → Arguing w d s at pc o o₁ r
  of-form x e b g = record { span = b; same = λ n le. rw (ap (λ (i : ℕ). form_of (function_at i)) (sym number) ∙ e) (g n le) }

  -- one argument: of an operator, or of SINCE
  pub only-stopped : {o₁ : List ℕ} {r : Read} → function_form f ≡ 1 → Enclosed close_paren d s (at + 1) pc o o₁ r → Stopped r → Arguing w d s at pc o o₁ r
  only-stopped h x stop =
      let c = of_one (function_op f) in
      of-form (plain c) (one_form (calls (function_at f)) h).0 (span-stopped stop x.span) (last-stops d (made_of (word_place w) c) x stop)

  pub only-done : {o₁ o₂ : List ℕ} {j e : ℕ} {k : Kind} {v : Diagnostic} → function_form f ≡ 1 → Enclosed close_paren d s (at + 1) pc o o₁ (Done j e k v)
      → o₂ ≡ put_instr o₁ e (Unary (function_op f))
      → Arguing w d s at pc o o₂ (Done j (e + 1) (unary_kind (function_op f) k) v)
  only-done {o₁} {o₂} {j} {e} {k} {v} h x q =
      of-form (plain (of_one (function_op f))) (one_form (calls (function_at f)) h).0 (reach (bounds x.span))
      (last_goes d (made_of (word_place w) (of_one (function_op f))) x done)
    where
      reach : Bounds s (at + 1) pc j e → Span s at pc (Done j (e + 1) (unary_kind (function_op f) k) v)
      reach b = span_done {j = j} {e = e + 1} (omega arith) b.within (omega arith) (omega arith)

      done : (u : Tree) → DraftHolds pc o o₁ e k v u → SameResult pc o o₂ s (Done j (e + 1) (unary_kind (function_op f) k) v)
          (ok (call_tree (of_one (function_op f)) (word_place w) (one u)) (tokens_from s j))
      done u m =
          let y = rw ((one_form (calls (function_at f)) h).1 k) at (means-unary m (word_place w) (function_op f) q) in
          same_done y refl

  pub since-stopped : {o₁ : List ℕ} {r : Read} → function_form f ≡ 4 → Enclosed close_paren d s (at + 1) pc o o₁ r → Stopped r → Arguing w d s at pc o o₁ r
  since-stopped h x stop = of-form (plain of_since) (since-form (calls (function_at f)) h) (span-stopped stop x.span)
      (last-stops d (made_of (word_place w) of_since) x stop)

  pub since-done : {o₁ o₂ : List ℕ} {j e : ℕ} {k : Kind} {v : Diagnostic} → function_form f ≡ 4 → Enclosed close_paren d s (at + 1) pc o o₁ (Done j e k v)
      → o₂ ≡ put_instr o₁ e Since
      → Arguing w d s at pc o o₂ (Done j (e + 1) K.Int (earlier (unless (is_int k) (wrong_kind_at (word_place w))) v))
  since-done {o₁} {o₂} {j} {e} {k} {v} h x q =
      of-form (plain of_since) (since-form (calls (function_at f)) h) (reach (bounds x.span))
      (last_goes d (made_of (word_place w) of_since) x (λ u m. same_done (means-since m (word_place w) q) refl))
    where
      reach : Bounds s (at + 1) pc j e → Span s at pc (Done j (e + 1) K.Int (earlier (unless (is_int k) (wrong_kind_at (word_place w))) v))
      reach b = span_done {j = j} {e = e + 1} (omega arith) b.within (omega arith) (omega arith)

  -- no argument
  pub clock-reads : {o₁ : List ℕ} {r : Read} → function_form f ≡ 5 → Clock s (at + 1) pc o o₁ r → Arguing w d s at pc o o₁ r
  clock-reads h x = of-form clock (clock-form (calls (function_at f)) h) (span-earlier (omega arith) x.span) x.same

  -- a range
  pub total-reads : {o₁ : List ℕ} {r : Read} → function_form f ≡ 6 → Totalled f s (at + 1) pc o o₁ r → Arguing w d s at pc o o₁ r
  total-reads h x = of-form (ranged (function_total f)) (total-form (calls (function_at f)) h) (span-earlier (omega arith) x.span) x.same

  -- a value, and a range
  pub value-stopped : {o₁ : List ℕ} {r : Read} → function_form f ≡ 7 → Enclosed comma d s (at + 1) pc o o₁ r → Stopped r → Arguing w d s at pc o o₁ r
  value-stopped h x stop =
      of-form (matched (function_match f)) (match-form (calls (function_at f)) h) (span-stopped stop x.span)
      (value-stops d (λ t q. expect_range q (λ b i p z. matching p (function_match f) t b i z)) x stop)

  pub match-reads : {o₁ o₂ : List ℕ} {r : Read} (c : ℕ) → function_form f ≡ 7
      → Enclosed comma d s (at + 1) pc o o₁ (Done (read_next c) (read_end c) (read_kind c) (read_wrong c)) → Matching f s c o₁ o₂ r → Arguing w d s at pc o o₂ r
  match-reads {o₁} {o₂} {r} c h x y = of-form (matched (function_match f)) (match-form (calls (function_at f)) h) (reach (bounds x.span)) go
    where
      K : Tree → List Tok → Result Tree
      K t q = expect_range q (λ b i p z. matching p (function_match f) t b i z)

      reach : Bounds s (at + 1) pc (read_next c) (read_end c) → Span s at pc r
      reach b = y.span at pc (omega (arith, b.ahead)) b.rises (omega (arith, b.slack))

      go : (n : ℕ) → (length s - (at + 1)) * 8 + 4 ≤ n → SameResult pc o o₂ s r
          (and_then (expression n d loosest (tokens_from s (at + 1))) (λ t q. expect comma q (λ z. K t z)))
      go n le = rw (← and-then comma (expression n d loosest (tokens_from s (at + 1))) K) (bind_done K (x.same n (omega arith)) (λ t m. y.same pc o t m))

  -- two arguments
  pub first-stopped : {o₁ : List ℕ} {r : Read} → function_form f ≡ 2 → Enclosed comma d s (at + 1) pc o o₁ r → Stopped r → Arguing w d s at pc o o₁ r
  first-stopped h x stop =
      let c = of_two (function_pair f) in
      of-form (plain c) (two-form (calls (function_at f)) h).0 (span-stopped stop x.span) (more-stops d (made_of (word_place w) c) 0 x stop)

  module _ {o₁ : List ℕ} {j e : ℕ} {k : Kind} {v : Diagnostic} (h : function_form f ≡ 2) (x : Enclosed comma d s (at + 1) pc o o₁ (Done j e k v)) where
    pub second-stopped : {o₂ : List ℕ} {r : Read} → Enclosed close_paren d s j e o₁ o₂ r → Stopped r → Arguing w d s at pc o o₂ r
    second-stopped y stop =
        let c = of_two (function_pair f) in
        of-form (plain c) (two-form (calls (function_at f)) h).0 (span-stopped stop y.span)
        (more-goes d (made_of (word_place w) c) 0 x (λ u m. last-stops d (λ us q. made_of (word_place w) c (more u us) q) y stop))

    pub second-done : {o₂ o₃ : List ℕ} {j' e' : ℕ} {k' : Kind} {v' : Diagnostic} → Enclosed close_paren d s j e o₁ o₂ (Done j' e' k' v')
        → o₃ ≡ put_instr o₂ e' (Binary (function_pair f))
        → Arguing w d s at pc o o₃ (Done j' (e' + 1) (binary_kind (function_pair f) k k') (earlier v v'))
    second-done {o₂} {o₃} {j'} {e'} {k'} {v'} y q =
        of-form (plain (of_two (function_pair f))) (two-form (calls (function_at f)) h).0 (reach (bounds x.span) (bounds y.span))
        (more-goes d (made_of (word_place w) (of_two (function_pair f))) 0 x
        (λ u m. last_goes d (λ us q. made_of (word_place w) (of_two (function_pair f)) (more u us) q) y (done u m)))
      where
        reach : Bounds s (at + 1) pc j e → Bounds s j e j' e' → Span s at pc (Done j' (e' + 1) (binary_kind (function_pair f) k k') (earlier v v'))
        reach a b = span_done {j = j'} {e = e' + 1} (omega arith) b.within (omega arith) (omega arith)

        done : (u : Tree) → DraftHolds pc o o₁ e k v u → (z : Tree) → DraftHolds e o₁ o₂ e' k' v' z
            → SameResult pc o o₃ s (Done j' (e' + 1) (binary_kind (function_pair f) k k') (earlier v v'))
            (ok (call_tree (of_two (function_pair f)) (word_place w) (more u (one z))) (tokens_from s j'))
        done u m z n =
            let y = rw ((two-form (calls (function_at f)) h).1 k k') at (means-binary m (word_place w) (function_pair f) n q) in
            same_done y refl

  -- the condition of IF, and its branches
  module _ (h : form_of (function_at f) ≡ plain of_choice) where
    pub condition-stopped : {o₁ : List ℕ} {r : Read} → Enclosed comma d s (at + 1) pc o o₁ r → Stopped r → Arguing w d s at pc o o₁ r
    condition-stopped x stop = of-form (plain of_choice) h (span-stopped stop x.span) (more-stops d (made_of (word_place w) of_choice) 1 x stop)

    pub choice-reads : {o₁ o₂ : List ℕ} {r : Read} (c : ℕ) → Enclosed comma d s (at + 1) pc o o₁ (Done (read_next c) (read_end c) (read_kind c) (read_wrong c))
        → Branches d s c o₁ o₂ r → Arguing w d s at pc o o₂ r
    choice-reads {o₁} {o₂} {r} c x y =
        of-form (plain of_choice) h (reach (bounds x.span)) (more-goes d (made_of (word_place w) of_choice) 1 x
        (λ u m n le. y.same pc o u m (word_place w) n le))
      where
        reach : Bounds s (at + 1) pc (read_next c) (read_end c) → Span s at pc r
        reach b = y.span at pc (omega arith) b.rises (omega arith)

-- ---- the branches of IF behind its condition
pub branches-as : {d : ℕ} {s : List ℕ} {c : ℕ} {o o' : List ℕ} {x y : Read} → x ≡ y → Branches d s c o o' y → Branches d s c o o' x
branches-as {d} {s} {c} {o} {o'} e h = subst (Branches d s c o o') (sym e) h

module _ (d c : ℕ) {s : List ℕ} {o o₁ : List ℕ} where
  pub branch-stopped : {r : Read} → Enclosed comma d s (read_next c) (read_end c + 1) o o₁ r → Stopped r → Branches d s c o o₁ r
  branch-stopped x stop = record {
    span = λ at pc a b l. span-stopped stop x.span;
    same =
        λ pc o₀ t m p. more-stops d (λ us q. ok (choice p t (argument 0 us) (argument 1 us)) q) 0 x stop;
  }

  module _ {j e : ℕ} {k : Kind} {w : Diagnostic} (x : Enclosed comma d s (read_next c) (read_end c + 1) o o₁ (Done j e k w)) {o₂ o₃ : List ℕ} where
    pub other-stopped : {r : Read} → Enclosed close_paren d s j (e + 1) o₂ o₃ r → Stopped r → Branches d s c o o₃ r
    other-stopped y stop = record {
      span = λ at pc a b l. span-stopped stop y.span;
      same = λ pc o₀ t m p. more-goes d (λ us q. ok (choice p t (argument 0 us) (argument 1 us)) q) 0 x
          (λ u n. last-stops d (λ us q. ok (choice p t u (argument 0 us)) q) y stop);
    }

    pub other-done : {o₄ : List ℕ} {j' e' : ℕ} {k' : Kind} {w' : Diagnostic} → o₂ ≡ put_instr o₁ (read_end c) (JumpIf false (e - read_end c))
        → Enclosed close_paren d s j (e + 1) o₂ o₃ (Done j' e' k' w') → o₄ ≡ chosen_code o₃ e e' k k'
        → Branches d s c o o₄ (Done j' (e' + length (branch_tail k k')) (join k k') (earlier (read_wrong c) (earlier w w')))
    other-done {o₄} {j'} {e'} {k'} {w'} q y v = record {
      span = λ at pc a b l. reach at pc a b l (bounds x.span) (bounds y.span);
      same = λ pc o₀ t m p. more-goes d (λ us q. ok (choice p t (argument 0 us) (argument 1 us)) q) 0 x
          (λ u n. last_goes d (λ us q. ok (choice p t u (argument 0 us)) q) y (λ a i. same_done (means-choice p m n q i v) refl));
    }
      where
        reach : (at pc : ℕ) → at ≤ read_next c → pc ≤ read_end c → read_end c + 8 * at + 8 ≤ pc + 8 * read_next c → Bounds s (read_next c) (read_end c + 1) j e
            → Bounds s j (e + 1) j' e'
            → Span s at pc (Done j' (e' + length (branch_tail k k')) (join k k') (earlier (read_wrong c) (earlier w w')))
        reach at pc g h l a b = span_done {j = j'} {e = e' + length (branch_tail k k')} (omega arith) b.within (omega arith) (omega (arith, tail-short k k'))
