-- For the contracts of private functions: an input that comes in pieces, and what is kept of it. `StreamLaws` says that however the input is cut, what is
-- kept gives the reply to the whole of it.
use Rattle.std.specs.Prelude.{◌≡◌, cond, List, [], ◌∷◌, ◌++◌, ℕ, ◌≤◌, eqb, length, take}
use Rattle.memory.specs.Layout.{image_size}
use Rattle.program.specs.declared.case.Case.{Case}
use Rattle.program.specs.declared.case.Lengths.{Lengths}
use Rattle.program.specs.declared.stream.Progress.{Progress}
use Rattle.operations.specs.Operations.{Request, request}
use Rattle.program.specs.Cases.{empty_case, zeros, after_line, case_of}
use Rattle.program.specs.Reply.{reply_to, reply, write_text, written_length, HasPrefix}
use Rattle.words.specs.Ascii.{byte}

-- how much of a line is kept: `target=` and 1,025 bytes, by which a target, and so an expression, is known to be over 1,024. No line as long as that sets a
-- cell.
abbrev pub kept_bytes : ℕ
kept_bytes = 1032

-- before the first byte
abbrev pub no_progress : Progress
no_progress = record { case = empty_case (zeros image_size); line = [] }

-- byte 10 ends the line; any other belongs to it
abbrev pub after_byte : Progress → ℕ → Progress
after_byte p c =
    cond (eqb c (byte "\n")) (record { case = after_line p.case p.line; line = [] })
    (record { case = p.case; line = take kept_bytes (p.line ++ (c ∷ [])) })

abbrev pub after_bytes : Progress → List ℕ → Progress
after_bytes p [] = p
after_bytes p (c ∷ cs) = after_bytes (after_byte p c) cs

-- at the input's end a last line without its byte 10 counts
abbrev pub case_at_end : Progress → Case
case_at_end p = after_line p.case p.line

-- what compile-and-run is asked for, with two code buffers of zero bytes
abbrev pub asked_for : Case → List ℕ → Request
asked_for s m = request s.target s.text m (zeros 16384) (zeros 16384)

pub record StreamLaws : Type 0 where
  -- two pieces one after the other are one piece
  pub append : (p : Progress) (a b : List ℕ) → after_bytes p (a ++ b) ≡ after_bytes (after_bytes p a) b
  -- and what is kept asks for what the whole input asks for, on any memory
  pub asked : (input m : List ℕ) → asked_for (case_at_end (after_bytes no_progress input)) m ≡ asked_for (case_of input) m
  -- so it is enough for the reply
  pub exact : (input : List ℕ) → reply_to (case_at_end (after_bytes no_progress input)) ≡ reply input

-- ---- in buffers of the caller's own
abbrev pub case_in : List ℕ → List ℕ → List ℕ → Lengths → Case
case_in m t x n = record { memory = m; target = take n.target t; text = take n.text x }

-- the lengths lie within the buffers
pub record LengthsInside (t x : List ℕ) (n : Lengths) : Type 0 where
  pub target : n.target ≤ length t
  pub text : n.text ≤ length x

-- ---- what is read, and what is replied
-- the case that some input leaves
pub record Received (c : Case) : Type 0 where
  pub input : List ℕ
  pub held : c ≡ case_at_end (after_bytes no_progress input)

-- the reply to a case goes to the front of a lent slice, and 64 bytes have room for it
pub record Replies (s : Case) (out : List ℕ) (n : ℕ) (new : List ℕ) : Type 0 where
  pub count : n ≡ written_length out (reply_to s)
  pub bytes : new ≡ write_text out (reply_to s)
  pub short : length (reply_to s) ≤ 64
  pub there : HasPrefix n new
