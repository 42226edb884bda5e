-- Real tokens (paper 02, Ask 12): "no R bank, real literals, TOREAL, FRAC or AVGR", wherever they stand.
use Rattle.std.specs.Prelude.{Bool, true, false, not, ◌&&◌, cond, List, [], ◌∷◌, ℕ}
use Rattle.tokens.specs.declared.Function.{Function}
use Rattle.tokens.specs.declared.Function.TheVariants.{Abs, ToReal, ToInt, Trunc, Round, Frac, Max, Min, If, TickMs, Since, Total, Match}
use Rattle.tokens.specs.declared.Token.{Token}
use Rattle.tokens.specs.declared.Token.TheVariants.{Number, Cell, Letter, Name, Symbol}
use Rattle.tokens.specs.Scan.{Tok}
use Rattle.grammar.specs.Tree.{Diagnostic, clear, at}
use Rattle.profile.specs.Parts.{real_bank, real_value, real_total}

abbrev pub real_function : Function → Bool
real_function Abs = false
real_function ToReal = true
real_function ToInt = false
real_function Trunc = false
real_function Round = false
real_function Frac = true
real_function Max = false
real_function Min = false
real_function If = false
real_function TickMs = false
real_function Since = false
real_function (Total o) = real_total o
real_function (Match o) = false

-- an R cell, the first of a range too; the letter R; a real literal; TOREAL, FRAC, AVGR
abbrev pub real_token : Token → Bool
real_token (Number v) = real_value v
real_token (Cell b i) = real_bank b
real_token (Letter b) = real_bank b
real_token (Name f) = real_function f
real_token (Symbol n) = false

unfoldable pub no_real : List Tok → Bool
no_real [] = true
no_real (x ∷ xs) = not (real_token x.token) && no_real xs

-- "19, at the first real token"
abbrev pub real_at : ℕ → Diagnostic
real_at p = at p 19

unfoldable pub first_real : List Tok → Diagnostic
first_real [] = clear
first_real (x ∷ xs) = cond (real_token x.token) (real_at x.place) (first_real xs)
