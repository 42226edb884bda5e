-- What is answered for what was read of the whole table.
use Rattle.std.specs.Prelude.{Ok, Err}
use mathlib.Core.Path.{◌≡◌, refl, sym, ap, subst, ◌∙◌}
use mathlib.Core.Bool.{true, false}
use mathlib.Core.List.{List, [], ◌∷◌}
use Prim.Native.Nat.{ℕ, ◌+◌, ◌-◌, ◌*◌, ◌≤◌, ◌<◌}
use native.Mathlib.Omega.{arith}
use lib.ListN.{length}
use borrow.Author.Tests.{lt-ltb, le-ltb}
use Rattle.tokens.specs.declared.Token.{Token}
use Rattle.tokens.specs.Scan.{Tok}
use Rattle.token_table.specs.private.Table.{word_class, word_place, word_at, listed, tokens_from, TokenWords}
use Rattle.grammar.specs.Tree.{Tree, clear, at, diagnostic_of}
use Rattle.grammar.specs.Symbols.{loosest}
use Rattle.grammar.specs.Parse.{Result, ok, bad, deep, most_open, expression, parse_from}
use Rattle.grammar.proofs.Laws.{parse-is}
use Rattle.token_table.proofs.Laws.{tok}
use Rattle.text.specs.Judge.{place_of, judge_parse}
use Rattle.tree_code.specs.Code.{code_of}
use Rattle.draft.specs.private.Results.{Read, Done, Bad, Deep, is_done, refusal, place_part, answer_part, diagnosed, read_next, read_end, read_kind}
use Rattle.draft.specs.private.Results.{read_wrong, read_of}
use Rattle.draft.specs.private.Words.{place_at}
use Rattle.draft.specs.private.Draft.{put_code}
use Rattle.compiler.specs.private.Reading.{SameResult, same_done, same_bad, same_deep, Judged}
use Rattle.compiler.proofs.Answers.{turned_down, taken-up}
use Rattle.draft.proofs.results.Fields.{done-is, next-is, deep_is}
use Rattle.compiler.proofs.reader.Looking.{look, place_in, place-there, some-there, none-there}
use Rattle.compiler.proofs.reader.Climbing.{Climbed}
use Rattle.token_table.specs.Refusals as Refusals

same : (d room : ℕ) → room ≡ most_open - d → {table o o' : List ℕ} {r : Read} → Climbed room loosest table 0 0 o o' r
    → SameResult 0 o o' table r (parse_from d (listed table))
same d room e {table} {o} {o'} {r} x =
    let w = listed table in
    let f = length w * 4 + 2 + ((length table - 0) * 8 + 3) in
    subst (SameResult 0 o o' table r) (ap (λ (k : ℕ). expression f k loosest w) e ∙ parse-is d f w (omega arith)) (x.same f (omega arith))

placed_at : (size p : ℕ) (s : List ℕ) (ts : List Tok) {z : List Tok} → length s ≡ size → p ≡ place_in size ts → z ≡ ts → p ≡ place_of s z
placed_at size p s ts e h z = h ∙ go ts ∙ ap (place_of s) (sym z)
  where
    go : (ts : List Tok) → place_in size ts ≡ place_of s ts
    go [] = sym e
    go (x ∷ xs) = refl

-- ---- each result of the parser
module _ (s : List ℕ) {o o' : List ℕ} where
  told-bad : {a p : ℕ} (z : List Tok) → a ≡ 7 → p ≡ place_of s z → Judged (judge_parse s (bad z)) o o' (Err (Refusals.refusal a p))
  unfolding judge_parse
  told-bad z e d = turned_down (rw (e, d) refl)

  told-deep : {a p : ℕ} (z : List Tok) → a ≡ 8 → p ≡ place_of s z → Judged (judge_parse s (deep z)) o o' (Err (Refusals.refusal a p))
  unfolding judge_parse
  told-deep z e d = turned_down (rw (e, d) refl)

  told_more : {p : ℕ} (u : Tree) {z : List Tok} {y : Tok} {ys : List Tok} → z ≡ y ∷ ys → p ≡ y.place → Judged (judge_parse s (ok u z)) o o' (Err (Refusals.refusal 7 p))
  unfolding judge_parse
  told_more u e d = turned_down (rw (e, d) refl)

  told-wrong : {p a : ℕ} (u : Tree) {z : List Tok} → z ≡ [] → diagnostic_of u ≡ at p a → Judged (judge_parse s (ok u z)) o o' (Err (Refusals.refusal a p))
  unfolding judge_parse
  told-wrong u e d = turned_down (rw (e, d) refl)

  told-done : {n : ℕ} (u : Tree) {z : List Tok} → z ≡ [] → diagnostic_of u ≡ clear → n ≡ length (code_of u) → o' ≡ put_code o 0 (code_of u)
      → Judged (judge_parse s (ok u z)) o o' (Ok n)
  unfolding judge_parse
  told-done u e d l c = taken-up u (rw (e, d) refl) l c

-- ---- what was read of the table
module _ (d room : ℕ) (behind : room ≡ most_open - d) (table : List ℕ) {o o' : List ℕ} (r : ℕ) (t : TokenWords table)
    (x : Climbed room loosest table 0 0 o o' (read_of r)) where
  abbrev Whole : Result Tree → Type 0
  Whole q = SameResult 0 o o' table (Done (read_next r) (read_end r) (read_kind r) (read_wrong r)) q

  whole : is_done (read_of r) ≡ true → Whole (parse_from d (listed table))
  whole done = subst (λ (y : Read). SameResult 0 o o' table y (parse_from d (listed table))) (done-is r done) (same d room behind x)

  -- no expression, or brackets too deep
  pub refused-way : (size : ℕ) {a i p : ℕ} → is_done (read_of r) ≡ false → a ≡ refusal (read_of r) → i ≡ read_next r → p ≡ place_at size (word_at table i)
      → (s : List ℕ) → length s ≡ size → Judged (judge_parse s (parse_from d (listed table))) o o' (Err (Refusals.refusal a p))
  refused-way size {a} {i} {p} stop q n z s l = go (read_of r) refl (same d room behind x)
    where
      place : p ≡ place_in size (tokens_from table (read_next r))
      place = z ∙ ap (λ (j : ℕ). place_at size (word_at table j)) n ∙ place-there size (look {s = table} {at = read_next r} t refl)

      go : {q : Result Tree} (y : Read) → read_of r ≡ y → SameResult 0 o o' table y q → Judged (judge_parse s q) o o' (Err (Refusals.refusal a p))
      go (Done j e k w) m h = let b = ap is_done m in let z : ◌≡◌ {A = ℕ} 0 1 = cc in absurd (omega arith)
      go (Bad j) m (same_bad {r = z} c) = told-bad s z (q ∙ ap refusal m)
          (placed_at size p s (tokens_from table (read_next r)) l place (c ∙ ap (tokens_from table) (sym (next-is r m))))
      go (Deep j) m (same_deep {r = z} c) = told-deep s z (q ∙ ap refusal m)
          (placed_at size p s (tokens_from table (read_next r)) l place (c ∙ ap (tokens_from table) (sym (deep_is r m))))

  module _ (done : is_done (read_of r) ≡ true) {i w : ℕ} (n : i ≡ read_next r) (word : w ≡ word_at table i) where
    -- a token behind the expression
    pub more-way : {p : ℕ} → (word_class w ≡ 0 → ⊥) → p ≡ word_place w → (s : List ℕ)
        → Judged (judge_parse s (parse_from d (listed table))) o o' (Err (Refusals.refusal 7 p))
    more-way {p} z q s = let (u, h) = some-there (look {s = table} {at = i} t word) z in go h.split (whole done)
      where
        go : {q : Result Tree} {u : Token} {us : List Tok} → tokens_from table i ≡ tok u (word_place w) ∷ us → Whole q
            → Judged (judge_parse s q) o o' (Err (Refusals.refusal 7 p))
        go h (same_done {t = v} m c) = told_more s v (c ∙ ap (tokens_from table) (sym n) ∙ h) q

    module _ (z : word_class w ≡ 0) where
      ended : tokens_from table (read_next r) ≡ []
      ended = ap (tokens_from table) (sym n) ∙ none-there (look {s = table} {at = i} t word) z

      pub wrong-way : {n p a : ℕ} → diagnosed n ≡ read_wrong r → n < 1048576 → p ≡ place_part n → a ≡ answer_part n → (s : List ℕ)
          → Judged (judge_parse s (parse_from d (listed table))) o o' (Err (Refusals.refusal a p))
      wrong-way {n} {p} {a} q lt e f s = go (whole done)
        where
          go : {q : Result Tree} → Whole q → Judged (judge_parse s q) o o' (Err (Refusals.refusal a p))
          go (same_done {t = v} m c) = told-wrong s v (c ∙ ended) (m.wrong ∙ sym q ∙ rw (lt-ltb n 1048576 lt, e, f))

      pub done-way : {n e : ℕ} → diagnosed n ≡ read_wrong r → 1048576 ≤ n → e ≡ read_end r → (s : List ℕ)
          → Judged (judge_parse s (parse_from d (listed table))) o o' (Ok e)
      done-way {n} {e} q le ends s = go (whole done)
        where
          go : {q : Result Tree} → Whole q → Judged (judge_parse s q) o o' (Ok e)
          go (same_done {t = v} m c) = told-done s v (c ∙ ended) (m.wrong ∙ sym q ∙ rw (le-ltb n 1048576 le)) (omega (arith, m.ends)) m.code
