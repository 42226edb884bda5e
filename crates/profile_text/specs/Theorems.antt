-- What the profile takes and refuses (paper 02, Ask 12: "a profile that accepts exactly the formulas in which no part is real"), and that with reals all is
-- as it was. proofs/Theorems.antt proves the record.
use Rattle.std.specs.Prelude.{◌≡◌, ◌↔◌, Bool, true, false, List, ◌∷◌, ◌++◌, ℕ, ◌≤◌, ℤ, Option}
use Rattle.values.specs.declared.Kind.TheVariants.{Int}
use Rattle.operators.specs.declared.UnaryOp.{UnaryOp}
use Rattle.operators.specs.declared.BinaryOp.{BinaryOp}
use Rattle.memory.specs.declared.Bank.{Bank}
use Rattle.totals.specs.declared.MatchOp.{MatchOp}
use Rattle.tokens.specs.Scan.{Tok, tokens, scan}
use Rattle.grammar.specs.Tree.{Tree, indexed, unary, binary, logic, choice, since, matching, at, tree_kind, diagnostic_of}
use Rattle.grammar.specs.Grammar.{Formula}
use Rattle.grammar.specs.Parse.{most_open}
use Rattle.text.specs.Judge.{accepted, refused, judge_from}
use Rattle.text.specs.Targets.{to_cell, to_indexed, target_of, indexed_by}
use Rattle.text.specs.Theorems.{Sized}
use Rattle.profile.specs.Parts.{real_bank}
use Rattle.profile_text.specs.Tokens.{real_token, no_real}
use Rattle.profile_text.specs.Trees.{integer_only}
use Rattle.profile_text.specs.Judge.{judge_in}
use Rattle.profile_text.specs.Targets.{taken_target, target_in, bank_in}

-- u is t, or stands in it
pub data PartOf (u : Tree) : Tree → Type 0 where
  all : PartOf u u
  index : {b : Bank} {t : Tree} → PartOf u t → PartOf u (indexed b t)
  operand : {p : ℕ} {o : UnaryOp} {t : Tree} → PartOf u t → PartOf u (unary p o t)
  left : {p : ℕ} {o : BinaryOp} {t v : Tree} → PartOf u t → PartOf u (binary p o t v)
  right : {p : ℕ} {o : BinaryOp} {t v : Tree} → PartOf u v → PartOf u (binary p o t v)
  decides : {p : ℕ} {d : Bool} {t v : Tree} → PartOf u t → PartOf u (logic p d t v)
  otherwise : {p : ℕ} {d : Bool} {t v : Tree} → PartOf u v → PartOf u (logic p d t v)
  condition : {p : ℕ} {c t v : Tree} → PartOf u c → PartOf u (choice p c t v)
  if_true : {p : ℕ} {c t v : Tree} → PartOf u t → PartOf u (choice p c t v)
  if_false : {p : ℕ} {c t v : Tree} → PartOf u v → PartOf u (choice p c t v)
  moment : {p : ℕ} {t : Tree} → PartOf u t → PartOf u (since p t)
  compared : {p : ℕ} {o : MatchOp} {t : Tree} {b : Bank} {i : ℕ} {n : ℤ} → PartOf u t → PartOf u (matching p o t b i n)

-- the text has 1 to 1,024 bytes, all of them are tokens, and the first real one stands at p
pub record FirstRealAt (s : List ℕ) (p : ℕ) : Type 0 where
  pub sized : Sized s
  pub before : List Tok
  pub first : Tok
  pub after : List Tok
  pub scanned : scan s ≡ tokens (before ++ first ∷ after)
  pub none_before : no_real before ≡ true
  pub is_real : real_token first.token ≡ true
  pub there : p ≡ first.place

pub record ProfileTexts : Type 0 where
  -- with reals nothing changes
  pub full : (d : ℕ) (s : List ℕ) → judge_in true d s ≡ judge_from d s
  pub full_target : (s : List ℕ) → target_in true s ≡ target_of s
  -- a formula has a real token exactly if some part of it is real
  pub tokens_tree : (w : List Tok) (t : Tree) → Formula w t → no_real w ≡ integer_only t
  -- "accepts exactly the formulas in which no part is real"
  pub accepts : (d : ℕ) (s : List ℕ) (t : Tree) → d ≤ most_open
      → judge_in false d s ≡ accepted t ↔ ((judge_from d s ≡ accepted t) × (integer_only t ≡ true))
  -- without a real token the judgement is the full box's, a refusal and its place too
  pub plain : (d : ℕ) (s : List ℕ) → ((w : List Tok) → scan s ≡ tokens w → no_real w ≡ true) → judge_in false d s ≡ judge_from d s
  -- "19, at the first real token, looked for just before 7": after 3, 4, 5 and the 6 of a token, before 7, 8, 9 and the 6 of a range
  pub nineteen : (d : ℕ) (s : List ℕ) (p : ℕ) → d ≤ most_open → judge_in false d s ≡ refused 19 p ↔ FirstRealAt s p
  -- "no part is real"
  pub whole : (t u : Tree) → integer_only t ≡ true → PartOf u t → (integer_only u ≡ true) × (tree_kind u ≡ Int)
  -- "an R target, or one with a real part in its index, is 2": no others of the full box's
  pub taken_cell : (s : List ℕ) (b : Bank) (i : ℕ) → target_in false s ≡ to_cell b i ↔ ((target_of s ≡ to_cell b i) × (real_bank b ≡ false))
  pub taken_indexed : (s : List ℕ) (b : Bank) (t : Tree)
      → target_in false s ≡ to_indexed b t ↔ ((target_of s ≡ to_indexed b t) × ((real_bank b ≡ false) × (integer_only t ≡ true)))
  -- a target's index is taken exactly if the profile accepts it, with its bracket open before it
  pub index_judged : (reals : Bool) (l : (Option Bank)) (s : List ℕ)
      → taken_target reals (indexed_by l (judge_from 1 s)) ≡ indexed_by (bank_in reals l) (judge_in reals 1 s)
  -- no operand is of a wrong kind: what such a tree shows to be wrong is a count, and 9 is no answer of the profile
  pub late_six : (t : Tree) (p a : ℕ) → integer_only t ≡ true → diagnostic_of t ≡ at p a → a ≡ 6
  pub never_nine : (d : ℕ) (s : List ℕ) (p : ℕ) → d ≤ most_open → judge_in false d s ≡ refused 9 p → ⊥
