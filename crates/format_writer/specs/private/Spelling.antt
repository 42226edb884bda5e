-- For the contracts of functions that no reader calls: tokens as they are typed.
use Rattle.std.specs.Prelude.{◌≡◌, List, ℕ}
use Rattle.tokens.specs.declared.Token.{Token}
use Rattle.tokens.specs.declared.Token.TheVariants.{Symbol}
use Rattle.tokens.specs.Scan.{Found, lexeme_at}

-- the token t stands at the place p of the text s, and ends at e
abbrev pub Stands : List ℕ → Token → ℕ → ℕ → Type 0
Stands s t p e = lexeme_at s p ≡ Found t p e

-- a token that stands there; n is its number if it is a symbol
pub record StandsAt (s : List ℕ) (p n : ℕ) : Type 0 where
  pub token : Token
  pub end : ℕ
  pub stands : Stands s token p end
  pub number : (m : ℕ) → token ≡ Symbol m → m ≡ n
