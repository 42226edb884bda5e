-- The loop over binary operators: what was written so far, climbed on from here, is what the whole expression says.
use mathlib.Core.Path.{◌≡◌, refl, sym, ap, subst, ◌∙◌}
use mathlib.Core.Bool.{false, and-false}
use mathlib.Core.List.{List, [], ◌∷◌, ◌++◌, append_assoc}
use Prim.Native.Nat.{ℕ, ◌+◌, ◌-◌, ◌≤◌, ◌<◌}
use native.Mathlib.Omega.{arith}
use lib.ListN.{length}
use borrow.Author.Tests.{lt-leb}
use Rattle.words.specs.Ascii.{ascii}
use Rattle.tokens.specs.declared.Token.{Token}
use Rattle.tokens.specs.declared.Token.TheVariants.{Number, Cell, Letter, Name, Symbol}
use Rattle.tokens.specs.Symbols.{symbol_bytes}
use Rattle.tokens.specs.Scan.{Tok}
use Rattle.token_table.specs.private.Table.{word_operand, word_place, word_at, tokens_from}
use Rattle.grammar.specs.Tree.{Tree}
use Rattle.grammar.specs.Grammar.{tok}
use Rattle.grammar.specs.Symbols.{group as token_group, group_number, infix_tree}
use Rattle.draft.specs.private.Words.{group_in}
use Rattle.draft.proofs.Marks.{few-groups}
use Rattle.format_laws.specs.Formatted.{lexeme, parenthesized, is_infix, is_other_infix, infix_text, top, formatted}
use Rattle.format_writer.specs.private.Scratch.{Counted}
use Rattle.format_writer.specs.private.Spelling.{StandsAt}
use Rattle.format_writer.proofs.Holding.{starts-behind}
use Rattle.formatter.specs.private.Walk.{Position, SaysExpression, SaysOperand, Some, Formats}
use Rattle.formatter.proofs.Words.{group-head, head_group}
use Rattle.formatter.proofs.Spelt.{symbol-spelt}
use Rattle.formatter.proofs.Climbing.{infixed, Climbs, Started, started, head_binds, stopped, Operated, operated}
use Rattle.formatter.proofs.Steps.{Here, here}
use Rattle.formatter.proofs.Pieces.{held-as, Encloses, Appends}

-- what was written up to j is a tree's text, from which the rest climbs on
pub record Climbed (l : ℕ) (s table buf out : List ℕ) (n j e h : ℕ) (x : List ℕ) (g : ℕ) (r : List Tok) : Type 0 where
  pub tree : Tree
  pub onward : Climbs l s tree (tokens_from table j) x g r
  pub top : h ≡ top tree
  pub text : Appends buf n out e (formatted s tree)

pub record Climbing (l : ℕ) (s table : List ℕ) (at : ℕ) (buf out : List ℕ) (n j e h : ℕ) : Type 0 where
  pub ahead : at < j
  pub within : j ≤ length table
  pub counted : Counted e buf
  pub position : Position s table j
  pub climbs : (x : List ℕ) (g : ℕ) (r : List Tok) → SaysExpression l s (tokens_from table at) x g r → Climbed l s table buf out n j e h x g r

-- ---- the first operand
pub operand-some : (l : ℕ) (s : List ℕ) (ts : List Tok) → Some (SaysExpression l s ts) → Some (SaysOperand s ts)
operand-some l s ts k = let m = started l s ts k.is in record { text = formatted s m.first; group = top m.first; left = m.left; is = m.operand }

pub climb-starts : {l : ℕ} {s table : List ℕ} {at : ℕ} {buf out : List ℕ} {n j e h : ℕ} → Position s table at
    → Formats (SaysOperand s (tokens_from table at)) s table at buf out n j e h → Climbing l s table at buf out n j e h
climb-starts {l} {s} {table} {at} {buf} {out} {n} {j} {e} {h} p f =
    record {
      ahead = f.ahead;
      within = f.within;
      counted = f.counted;
      position = record { words = p.words; typed = f.typed };
      climbs =
          λ x g r m. go (started l s (tokens_from table at) m);
    }
  where
    go : {x : List ℕ} {g : ℕ} {r : List Tok} → Started l s (tokens_from table at) x g r → Climbed l s table buf out n j e h x g r
    go {x} {g} {r} m =
        let v = f.writes (formatted s m.first) (top m.first) m.left m.operand in
        record { tree = m.first; onward = subst (λ (ts : List Tok). Climbs l s m.first ts x g r) (sym v.next) m.onward; top = v.top; text = v.text }

-- ---- no operator comes next
no-group : (l : ℕ) (ts : List Tok) → head_group ts ≡ 0 → head_binds l ts ≡ false
no-group l [] e = refl
no-group l (x ∷ xs) e = rw e

loose-group : (l : ℕ) (ts : List Tok) → l < head_group ts → head_binds l ts ≡ false
loose-group l [] e = refl
loose-group l (x ∷ xs) e = rw (lt-leb (token_group x.token) l e, and-false)

module _ {l : ℕ} {s table : List ℕ} {at : ℕ} {buf out : List ℕ} {n j e h : ℕ} (c : Climbing l s table at buf out n j e h) {w g : ℕ}
    (word : w ≡ word_at table j) (group : g ≡ group_in w) where
  group-is : g ≡ head_group (tokens_from table j)
  group-is = group ∙ ap group_in word ∙ group-head table j c.position.words

  climb-stops : head_binds l (tokens_from table j) ≡ false → Formats (SaysExpression l s (tokens_from table at)) s table at buf out n j e h
  climb-stops b =
      record {
        ahead = c.ahead;
        within = c.within;
        counted = c.counted;
        typed = c.position.typed;
        writes = λ x g r m. let v = c.climbs x g r m in let k = stopped l s v.tree (tokens_from table j) b v.onward in
            record { next = k.left; top = v.top ∙ sym k.group; text = λ o z. held-as (ap (λ (u : List ℕ). o ++ u) (sym k.text)) (v.text o z) };
      }

  pub loop-none : g ≡ 0 → Formats (SaysExpression l s (tokens_from table at)) s table at buf out n j e h
  loop-none z = climb-stops (no-group l (tokens_from table j) (sym group-is ∙ z))

  pub loop-loose : l < g → Formats (SaysExpression l s (tokens_from table at)) s table at buf out n j e h
  loop-loose z = climb-stops (loose-group l (tokens_from table j) (subst (λ (i : ℕ). l < i) group-is z))

  -- ---- an operator
  module _ (z : g ≡ 0 → ⊥) (high : g ≤ l) where
    record Found : Type 0 where
      number : ℕ
      place : ℕ
      left : List Tok
      is : tokens_from table j ≡ tok (Symbol number) place ∷ left
      few : number < 20
      tier : group_number number ≡ g
      spot : Here s table j (tok (Symbol number) place) left

    found : Found
    found = go (tokens_from table j) refl
      where
        of-token : (u : Token) (p : ℕ) (xs : List Tok) → tokens_from table j ≡ tok u p ∷ xs → g ≡ token_group u → Found
        of-token (Number v) p xs q k = absurd (z k)
        of-token (Cell b i) p xs q k = absurd (z k)
        of-token (Letter b) p xs q k = absurd (z k)
        of-token (Name f) p xs q k = absurd (z k)
        of-token (Symbol m) p xs q k = record {
          number = m;
          place = p;
          left = xs;
          is = q;
          few = few-groups m (λ y. z (k ∙ y));
          tier = sym k;
          spot =
              here s table j c.position q;
        }

        go : (ts : List Tok) → tokens_from table j ≡ ts → Found
        go [] q = absurd (z (group-is ∙ ap head_group q))
        go (x ∷ xs) q = of-token x.token x.place xs q (group-is ∙ ap head_group q)

    pub operator-stands : StandsAt s (word_place w) (word_operand w)
    operator-stands = subst (λ (i : ℕ). StandsAt s (word_place i) (word_operand i)) (sym word) found.spot.stands

    pub operator-within : j < length table
    operator-within = found.spot.within

    pub right-position : Position s table (j + 1)
    right-position = found.spot.next

    right : {x : List ℕ} {k : ℕ} {r : List Tok} (v : Climbed l s table buf out n j e h x k r)
        → Operated l s v.tree found.number found.place found.left x k r
    right {x} {k} {r} v =
        operated l s v.tree found.number found.place found.left (omega (arith, found.tier, z)) (omega (arith, found.tier, high))
        (subst (λ (ts : List Tok). Climbs l s v.tree ts x k r) found.is v.onward)

    right-says : {x : List ℕ} {k : ℕ} {r : List Tok} (v : Climbed l s table buf out n j e h x k r)
        (m : Operated l s v.tree found.number found.place found.left x k r)
        → SaysExpression (g - 1) s (tokens_from table (j + 1)) (formatted s m.right) (top m.right) m.left
    right-says v m =
        subst (λ (ts : List Tok). SaysExpression (g - 1) s ts (formatted s m.right) (top m.right) m.left) (sym found.spot.left)
        (subst (λ (i : ℕ). SaysExpression (i - 1) s found.left (formatted s m.right) (top m.right) m.left) found.tier m.says)

    pub right-some : Some (SaysExpression l s (tokens_from table at)) → Some (SaysExpression (g - 1) s (tokens_from table (j + 1)))
    right-some k =
        let v = c.climbs k.text k.group k.left k.is in
        let m = right v in
        record { text = formatted s m.right; group = top m.right; left = m.left; is = right-says v m }

    -- the left operand, the operator, the right one
    module _ {out₁ out₂ out₃ out₄ : List ℕ} {e₁ e₂ j₃ e₃ h₃ e₄ : ℕ} (l₁ : length out ≡ length buf) (l₂ : length out₂ ≡ length buf)
        (l₃ : length out₃ ≡ length buf)
        (a : Encloses (is_other_infix g h) out n e out₁ e₁) (b : Appends out₁ e₁ out₂ e₂ (ascii " " ++ (lexeme s (word_place w) ++ ascii " ")))
        (f : Formats (SaysExpression (g - 1) s (tokens_from table (j + 1))) s table (j + 1) out₂ out₃ e₂ j₃ e₃ h₃) (ct : Counted e₄ out₃)
        (d : Encloses (is_infix h₃) out₃ e₂ e₃ out₄ e₄) where
      spelt : lexeme s (word_place w) ≡ symbol_bytes found.number
      spelt = ap (λ (i : ℕ). lexeme s (word_place i)) word ∙ ap (lexeme s) found.spot.place
          ∙ symbol-spelt s found.number found.place found.spot.end found.spot.typed

      joined : {x : List ℕ} {k : ℕ} {r : List Tok} → Climbed l s table buf out n j e h x k r → Climbed l s table buf out₄ n j₃ e₄ g x k r
      joined {x} {k} {r} v =
          let m = right v in
          let y = f.writes (formatted s m.right) (top m.right) m.left (right-says v m) in
          let i = infixed s found.number found.place v.tree m.right found.few in
          let t = formatted s v.tree in
          let u = formatted s m.right in
          let op = ascii " " ++ (lexeme s (word_place w) ++ ascii " ") in
          let q = parenthesized (is_other_infix g h) t in
          let same : (o : List ℕ) → o ++ q ++ op ++ parenthesized (is_infix h₃) u ≡ o
          ++ formatted s (infix_tree found.number found.place v.tree m.right) =
          λ o. append_assoc (o ++ q) op (parenthesized (is_infix h₃) u) ∙ append_assoc o q (op ++ parenthesized (is_infix h₃) u)
          ∙ ap (λ (z : List ℕ). o ++ (q ++ z)) (ap (λ (z : List ℕ). ascii " " ++ (z ++ ascii " ") ++ parenthesized (is_infix h₃) u) spelt ∙ ap
          (λ (z : List ℕ). ascii " " ++ z) (append_assoc (symbol_bytes found.number) (ascii " ") (parenthesized (is_infix h₃) u)))
          ∙ ap (λ (z : List ℕ). o ++ z) (
          ap (λ (i : ℕ). parenthesized (is_other_infix i h) t ++ (ascii " " ++ (symbol_bytes found.number ++ (ascii " " ++ parenthesized (is_infix h₃) u))))
          (sym found.tier)
          ∙ ap (λ (i : ℕ). parenthesized (is_other_infix (group_number found.number) i) t ++
          (ascii " " ++ (symbol_bytes found.number ++ (ascii " " ++ parenthesized (is_infix h₃) u)))) v.top
          ∙ ap (λ (i : ℕ). infix_text found.number (top v.tree) t i u) y.top
          ∙ sym i.text) in
          record {
            tree = infix_tree found.number found.place v.tree m.right;
            onward = subst (λ (ts : List Tok). Climbs l s (infix_tree found.number found.place v.tree m.right) ts x k r) (sym y.next) m.onward;
            top = sym (i.group ∙ found.tier);
            text = λ o z.
                let h₁ = a o t (starts-behind z out l₁) (v.text o z) in
                let h₂ = b (o ++ q) h₁ in
                let h₄ = y.text (o ++ q ++ op) h₂ in
                held-as (same o) (d (o ++ q ++ op) u (starts-behind h₂ out₃ (l₃ ∙ sym l₂)) h₄);
          }

      pub climb-goes-on : Climbing l s table at buf out₄ n j₃ e₄ g
      climb-goes-on =
          record {
            ahead = omega (arith, c.ahead, f.ahead);
            within = f.within;
            counted = omega (arith, ct, l₃);
            position = record { words = c.position.words; typed = f.typed };
            climbs = λ x k r m. joined (c.climbs x k r m);
          }
