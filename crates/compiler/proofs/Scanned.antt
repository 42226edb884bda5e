-- The tokens of a text, one lexeme after another: each is known, and together they take no more bytes than the text has.
use mathlib.Core.Path.{◌≡◌, refl, subst}
use mathlib.Core.List.{List, [], ◌∷◌}
use Prim.Native.Nat.{ℕ, ◌+◌, ◌≤◌}
use native.Mathlib.Omega.{arith}
use lib.ListN.{length}
use Rattle.tokens.specs.declared.Token.{Token}
use Rattle.tokens.specs.Scan.{Lexeme, Found, Wrong, End, lexeme_at, Tok, Scan, tokens, wrong, cons_token, scan}
use Rattle.tokens.proofs.Laws.{found, rest, at-found, at-wrong, at-end}
use Rattle.tokens.proofs.Known.{Known, known}
use Rattle.grammar.specs.Grammar.{tok}
use Rattle.tree_code.specs.Demand.{least_bytes}
use Rattle.compiler.proofs.Each.{Each, none, some}
use Rattle.compiler.proofs.Least.{long}

-- every token is one that a text can have
abbrev pub AllKnown : List Tok → Type 0
AllKnown w = Each (λ (x : Tok). Known x.token) w

-- the tokens w are those of the lexemes from a position on
data Lexemes (s : List ℕ) : ℕ → List Tok → Type 0 where
  last : {at : ℕ} → Lexemes s at []
  then : {at p e : ℕ} {t : Token} {w : List Tok} → lexeme_at s at ≡ Found t p e → Lexemes s e w → Lexemes s at (tok t p ∷ w)

lexemes : (s : List ℕ) (at : ℕ) (w : List Tok) → rest s at ≡ tokens w → Lexemes s at w
lexemes s at [] q = last
lexemes s at (x ∷ w) q = by (lexeme_at s at) refl (λ e. lexemes s e w)
  where
    no : {a p : ℕ} → rest s at ≡ wrong a p → Lexemes s at (x ∷ w)
    no r = let z : ◌≡◌ {A = ℕ} 0 1 = cc in absurd (omega arith)

    ended : rest s at ≡ tokens [] → Lexemes s at (x ∷ w)
    ended r = let z : ◌≡◌ {A = ℕ} 0 1 = cc in absurd (omega arith)

    onward : (t : Token) (p e : ℕ) → lexeme_at s at ≡ Found t p e → (r : Scan) → rest s e ≡ r → rest s at ≡ cons_token (tok t p) r
        → (rest s e ≡ tokens w → Lexemes s e w) → Lexemes s at (x ∷ w)
    onward t p e m (tokens v) c d ih =
        let first : tok t p ≡ x = cc in
        let others : rest s e ≡ tokens w = cc in
        subst (λ (y : Tok). Lexemes s at (y ∷ w)) first (then m (ih others))
    onward t p e m (wrong a b) c d ih = no d

    by : (l : Lexeme) → lexeme_at s at ≡ l → ((e : ℕ) → rest s e ≡ tokens w → Lexemes s e w) → Lexemes s at (x ∷ w)
    by (Found t p e) m ih = onward t p e m (rest s e) refl (at-found s at m) (ih e)
    by (Wrong a p) m ih = no (at-wrong s at m)
    by End m ih = ended (at-end s at m)

all_known : {s : List ℕ} {at : ℕ} {w : List Tok} → Lexemes s at w → AllKnown w
all_known last = none
all_known {s} (then {at = at} m l) = some (known s at m) (all_known l)

all-bytes : {s : List ℕ} {at : ℕ} {w : List Tok} → Lexemes s at w → at ≤ length s → at + least_bytes w ≤ length s
unfolding least_bytes
all-bytes last h = omega arith
all-bytes {s} (then {at = at} m l) h = let f = found s at m in omega (arith, long s at m, all-bytes l f.inside)

module _ (s : List ℕ) (w : List Tok) (q : scan s ≡ tokens w) where
  pub known-tokens : AllKnown w
  known-tokens = all_known (lexemes s 0 w q)

  pub least : least_bytes w ≤ length s
  least = omega (arith, all-bytes (lexemes s 0 w q) (omega arith))
