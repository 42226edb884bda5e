-- Classes of bytes and longest runs (paper 01): "Spaces and tabs separate." "A word is the longest run of letters and digits that starts with a letter"; "A
-- numeral is the longest run of letters, digits and dots that starts with a digit".
use Rattle.std.specs.Prelude.{Bool, true, ◌&&◌, ◌||◌, cond, List, [], ◌∷◌, ℕ, suc, eqb, leb}
use Rattle.memory.specs.Names.{is_digit}
use Rattle.words.specs.Ascii.{byte}

abbrev pub byte_between : ℕ → ℕ → ℕ → Bool
byte_between lo hi c = leb lo c && leb c hi

abbrev pub is_letter : ℕ → Bool
is_letter c = byte_between (byte "A") (byte "Z") c || byte_between (byte "a") (byte "z") c

abbrev pub is_space : ℕ → Bool
is_space c = eqb c (byte " ") || eqb c (byte "\t")

abbrev pub is_word : ℕ → Bool
is_word c = is_letter c || is_digit c

-- with the dot
abbrev pub is_run : ℕ → Bool
is_run c = is_word c || eqb c (byte ".")

abbrev pub is_hex : ℕ → Bool
is_hex c = is_digit c || byte_between (byte "A") (byte "F") c || byte_between (byte "a") (byte "f") c

-- how many of the first bytes pass a test
abbrev pub run_len : (ℕ → Bool) → List ℕ → ℕ
run_len p [] = 0
run_len p (c ∷ cs) = cond (p c) (suc (run_len p cs)) 0

abbrev pub all : (ℕ → Bool) → List ℕ → Bool
all p [] = true
all p (c ∷ cs) = p c && all p cs
