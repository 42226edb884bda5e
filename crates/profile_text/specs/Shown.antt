-- Texts and targets in the profile, each with what becomes of it: every real token alone, and beside what else is wrong. proofs/Shown.antt computes them.
use Rattle.std.specs.Prelude.{◌≡◌, Bool, true, false, List, [], ◌∷◌, ◌++◌, ℕ, replicate}
use Prim.Native.String.{String}
use Rattle.words.specs.Ascii.{ascii, byte}
use Rattle.text.specs.Judge.{Judgement, accepted, refused}
use Rattle.text.specs.Targets.{Target, to_cell, to_indexed, no_target}
use Rattle.profile_text.specs.Judge.{judge_in}
use Rattle.profile_text.specs.Targets.{target_in}

-- a text and its refusal with the place; a formula; a text that is no target; a target
pub data Sample : Type 0 where
  refuses : String → ℕ → ℕ → Sample
  takes : String → Sample
  no_target_lem : String → Sample
  target : String → Sample

abbrev pub is_formula : Judgement → Bool
is_formula (accepted t) = true
is_formula (refused a p) = false

abbrev pub is_target : Target → Bool
is_target (to_cell b i) = true
is_target (to_indexed b t) = true
is_target no_target = false

abbrev pub Holds : Sample → Type 0
Holds (refuses text a p) = judge_in false 0 (ascii text) ≡ refused a p
Holds (takes text) = is_formula (judge_in false 0 (ascii text)) ≡ true
Holds (no_target_lem text) = is_target (target_in false (ascii text)) ≡ false
Holds (target text) = is_target (target_in false (ascii text)) ≡ true

abbrev pub AllShown : List Sample → Type 0
AllShown [] = Unit {0}
AllShown (s ∷ ss) = Holds s × AllShown ss

-- a real token alone
abbrev pub alone : List Sample
alone =
    refuses "R0" 19 0
    ∷ refuses "R" 19 0
    ∷ refuses "2.5" 19 0
    ∷ refuses "1E2" 19 0
    ∷ refuses "TOREAL(1)" 19 0
    ∷ refuses "FRAC(1)" 19 0
    ∷ refuses "AVGR(D0, 2)" 19 0
    ∷ []

-- behind 7, 8, a kind and a count: 19; behind 4, 5 and 6: these
abbrev pub behind : List Sample
behind =
    refuses "+ ) R0" 19 4
    ∷ refuses "(((((((((1))))))))) + R0" 19 22
    ∷ refuses "1.5 & 1" 19 0
    ∷ refuses "SUMR(R0, 0)" 19 5
    ∷ refuses "SUMR(D0,0)+R0" 19 11
    ∷ refuses "SUMR(D0, 2.0)" 19 9
    ∷ refuses "COUNTIFGT(0, R0, 3)" 19 13
    ∷ refuses "D[R0] + R1" 19 2
    ∷ refuses "R0 ? 1" 4 3
    ∷ refuses "R0 + 2147483648" 5 5
    ∷ refuses "R256" 6 0
    ∷ refuses "" 3 0
    ∷ refuses "SUMR(D0, 0)" 6 9
    ∷ refuses "1 +" 7 3
    ∷ []

abbrev pub good : List Sample
good =
    takes "TRUNC(D0) + TOINT(1) + ROUND(N2)"
    ∷ takes "TICKms() - SINCE(D0)"
    ∷ takes "COUNTIFGT(V0, D0, 3) + SUMR(N0, 2)"
    ∷ takes "IF(X1, D[V0], 7 / 2)"
    ∷ []

abbrev pub targets : List Sample
targets =
    no_target_lem "R0"
    ∷ no_target_lem "R[0]"
    ∷ no_target_lem "D[R0]"
    ∷ no_target_lem "D[1.0]"
    ∷ no_target_lem "D[TOREAL(1)]"
    ∷ no_target_lem "X0"
    ∷ target "D0"
    ∷ target "D[V0 + 1]"
    ∷ []

-- 3 is looked for first: a real token, and 1,023 blanks behind it, one too many with R0
abbrev pub long : List ℕ
long = ascii "R0" ++ replicate 1023 (byte " ")
