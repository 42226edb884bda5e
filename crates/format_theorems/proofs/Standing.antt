-- The tokens of a text stand in it: at the place of each that is no symbol, `lexeme` gives its spelling.
use mathlib.Core.Path.{◌≡◌, refl, sym, subst, ◌∙◌}
use mathlib.Core.Bool.{true}
use mathlib.Core.List.{List, [], ◌∷◌, ◌++◌}
use Prim.Native.Nat.{ℕ, ◌+◌}
use lib.ListN.{length, drop}
use Rattle.tokens.specs.declared.Token.{Token}
use Rattle.tokens.specs.declared.Token.TheVariants.{Number, Cell, Letter, Name, Symbol}
use Rattle.tokens.specs.Scan.{Tok, Scan, tokens, wrong, cons_token}
use Rattle.tokens.specs.Theorems.{Scans, token, stop}
use Rattle.tokens.specs.Theorems as T
use Rattle.grammar.specs.Grammar.{tok}
use Rattle.format_laws.specs.Formatted.{lexeme}
use Rattle.format_theorems.proofs.Lexemes.{is_no_symbol, Spells, spells, lexeme-is}
use Rattle.format_theorems.proofs.Lexed.{behind}

pub data Standing (s : List ℕ) : List Tok → Type 0 where
  none : Standing s []
  sign : {n p : ℕ} {z : List Tok} → Standing s z → Standing s (tok (Symbol n) p ∷ z)
  spelled : {x : Token} {p : ℕ} {z : List Tok} → is_no_symbol x ≡ true → Spells x (lexeme s p) → Standing s z → Standing s (tok x p ∷ z)

pub front : {s : List ℕ} (w v : List Tok) → Standing s (w ++ v) → Standing s w
front [] v h = none
front (x ∷ w) v (sign h) = sign (front w v h)
front (x ∷ w) v (spelled n e h) = spelled n e (front w v h)

pub back : {s : List ℕ} (w v : List Tok) → Standing s (w ++ v) → Standing s v
back [] v h = h
back (x ∷ w) v (sign h) = back w v h
back (x ∷ w) v (spelled n e h) = back w v h

-- the rest behind one token
pub rest : {s : List ℕ} {x : Tok} {z : List Tok} → Standing s (x ∷ z) → Standing s z
rest (sign h) = h
rest (spelled n e h) = h

data Stood (s : List ℕ) : Scan → Type 0 where
  good : {ts : List Tok} → Standing s ts → Stood s (tokens ts)
  bad : {a p : ℕ} → Stood s (wrong a p)

stands : {s : List ℕ} {z : List Tok} (x : Token) (p : ℕ) → (is_no_symbol x ≡ true → Spells x (lexeme s p)) → Standing s z → Standing s (tok x p ∷ z)
stands (Number v) p f h = spelled refl (f refl) h
stands (Cell b i) p f h = spelled refl (f refl) h
stands (Letter b) p f h = spelled refl (f refl) h
stands (Name g) p f h = spelled refl (f refl) h
stands (Symbol n) p f h = sign h

stands-first : {s : List ℕ} {z : Scan} (x : Token) (p : ℕ) → (is_no_symbol x ≡ true → Spells x (lexeme s p)) → Stood s z → Stood s (cons_token (tok x p) z)
stands-first x p f (good h) = good (stands x p f h)
stands-first x p f bad = bad

stood : {p : ℕ} {u : List ℕ} {z : Scan} → Scans p u z → (s : List ℕ) → drop p s ≡ u → Stood s z
stood (T.end e) s q = good none
stood {p} (token {t = t} b w r v e l h) s q =
    let there : drop (p + length b) s ≡ w ++ r = behind s p b (w ++ r) (q ∙ v) in
    stands-first t (p + length b) (λ n. subst (Spells t) (sym (lexeme-is s (p + length b) w r l n there)) (spells l refl n))
    (stood h s (behind s (p + length b) w r there))
stood (stop b w r v e l) s q = bad

pub standing : (s : List ℕ) (ts : List Tok) → Scans 0 s (tokens ts) → Standing s ts
standing s ts h = go (stood h s refl)
  where
    go : Stood s (tokens ts) → Standing s ts
    go (good k) = k
