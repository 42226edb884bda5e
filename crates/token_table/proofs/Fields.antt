-- What the fields of a word hold, for `pack` and for the law that it is undone.
use Rattle.std.specs.Prelude.{Some}
use mathlib.Core.Path.{◌≡◌, refl}
use Prim.Native.Nat.{ℕ, ◌<◌}
use native.Mathlib.Omega.{arith}
use lib.Dec.{T, lit<}
use lib.Ieee.{Float, nan, inf, fin}
use lib.Ieee.Scale.{finite}
use Rattle.values.specs.declared.Value.TheVariants.{Real}
use Rattle.values.specs.declared.ChoiceOp.TheVariants as Choose
use Rattle.values.specs.declared.CompareOp.TheVariants as Compare
use Rattle.operators.specs.Laws.{Proper}
use Rattle.memory.specs.declared.Bank.{Bank}
use Rattle.memory.specs.declared.Bank.TheVariants.{X, C, «V», N, D, R}
use Rattle.memory.specs.Cells.{finite_or_fault}
use Rattle.memory.specs.Numbers.{bank_numbered, bank_number}
use Rattle.totals.specs.declared.TotalOp.TheVariants as T'
use Rattle.totals.specs.declared.MatchOp.TheVariants as M'
use Rattle.tokens.specs.declared.Function.{Function}
use Rattle.tokens.specs.declared.Function.TheVariants.{Abs, ToReal, ToInt, Trunc, Round, Frac, Max, Min, If, TickMs, Since, Total, Match}
use Rattle.tokens.specs.declared.Token.{Token}
use Rattle.tokens.specs.declared.Token.TheVariants.{Number}
use Rattle.tokens.proofs.Known.{Known}
use Rattle.token_table.specs.private.Table.{Entry, FunctionOf, function_number, function_numbered, pack_fields, word_class, word_operand, word_number}
use Rattle.token_table.specs.private.Table.{word_place, real_entry, Sound}

-- ---- sound tokens
-- a token of a text is sound
pub known-sound : {t : Token} → Known t → Sound t
known-sound (Known.number _ (Proper.int z h)) = Sound.int z h
known-sound (Known.number _ (Proper.real x h)) = Sound.real x h
known-sound (Known.cell b i h) = Sound.cell b i h
known-sound (Known.letter b) = Sound.letter b
known-sound (Known.name f) = Sound.name f
known-sound (Known.sign n h) = Sound.symbol n h

-- ---- the fields of a word
pub record Parts (w c o n p : ℕ) : Type 0 where
  pub class : word_class w ≡ c
  pub operand : word_operand w ≡ o
  pub number : word_number w ≡ n
  pub place : word_place w ≡ p

pub parts : (class operand number place : ℕ) → class < 256 → operand < 256 → place < 65536
    → Parts (pack_fields class operand number place) class operand number place
parts class operand number place h k l = record { class = omega arith; operand = omega arith; number = omega arith; place = omega arith }

-- ---- operands and their numbers
pub bank : (b : Bank) → (bank_number b < 256) × (bank_numbered (bank_number b) ≡ Some b)
bank X = (lit< tt, refl)
bank C = (lit< tt, refl)
bank «V» = (lit< tt, refl)
bank N = (lit< tt, refl)
bank D = (lit< tt, refl)
bank R = (lit< tt, refl)

pub function : (f : Function) → (function_number f < 256) × (function_numbered (function_number f) ≡ FunctionOf.Is f)
function Abs = (lit< tt, refl)
function ToReal = (lit< tt, refl)
function ToInt = (lit< tt, refl)
function Trunc = (lit< tt, refl)
function Round = (lit< tt, refl)
function Frac = (lit< tt, refl)
function Max = (lit< tt, refl)
function Min = (lit< tt, refl)
function If = (lit< tt, refl)
function TickMs = (lit< tt, refl)
function Since = (lit< tt, refl)
function (Total T'.Sum) = (lit< tt, refl)
function (Total T'.Average) = (lit< tt, refl)
function (Total (T'.Choice Choose.Max)) = (lit< tt, refl)
function (Total (T'.Choice Choose.Min)) = (lit< tt, refl)
function (Match (M'.Count Compare.Eq)) = (lit< tt, refl)
function (Match (M'.Count Compare.Ne)) = (lit< tt, refl)
function (Match (M'.Count Compare.Ge)) = (lit< tt, refl)
function (Match (M'.Count Compare.Gt)) = (lit< tt, refl)
function (Match (M'.Count Compare.Le)) = (lit< tt, refl)
function (Match (M'.Count Compare.Lt)) = (lit< tt, refl)
function (Match (M'.Sum Compare.Eq)) = (lit< tt, refl)
function (Match (M'.Sum Compare.Ne)) = (lit< tt, refl)
function (Match (M'.Sum Compare.Ge)) = (lit< tt, refl)
function (Match (M'.Sum Compare.Gt)) = (lit< tt, refl)
function (Match (M'.Sum Compare.Le)) = (lit< tt, refl)
function (Match (M'.Sum Compare.Lt)) = (lit< tt, refl)

pub finite-real : (x : Float) (p : ℕ) → T (finite x) → real_entry (finite_or_fault x) p ≡ Entry.Is (Number (Real x)) p
finite-real nan p h = absurd h
finite-real (inf s) p h = absurd h
finite-real (fin s m e) p h = refl
