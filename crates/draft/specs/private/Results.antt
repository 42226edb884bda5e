-- For the contracts of private functions: what reading returns, packed into one word of 64 bits. Only the functions of the module `results` see the bits.
use Rattle.std.specs.Prelude.{Bool, true, false, cond, ℕ, ◌+◌, ◌/◌, ◌%◌, ◌^◌, eqb, ltb}
use Rattle.values.specs.declared.Kind.{Kind}
use Rattle.operators.specs.Kinds.{number_kind}
use Rattle.grammar.specs.Tree.{Diagnostic, clear, at}

-- where in the table and in the draft reading got to, the kind of what was read and what is wrong with it;
-- where the first token is that no formula has there; or an opener met with eight still open
pub data Read : Type 0 where
  Done : ℕ → ℕ → Kind → Diagnostic → Read
  Bad : ℕ → Read
  Deep : ℕ → Read

abbrev pub is_done : Read → Bool
is_done (Done j e k w) = true
is_done (Bad i) = false
is_done (Deep i) = false

-- one token further
abbrev pub further : Read → Read
further (Done j e k w) = Done (j + 1) e k w
further (Bad i) = Bad (i + 1)
further (Deep i) = Deep (i + 1)

-- the answer of a refusal
abbrev pub refusal : Read → ℕ
refusal (Done j e k w) = 7
refusal (Bad i) = 7
refusal (Deep i) = 8

-- a diagnostic as a number: place times 16 plus answer, so the earlier diagnostic is the lesser number; from 2^20 on there is none
abbrev pub place_part : ℕ → ℕ
place_part n = n / 16

abbrev pub answer_part : ℕ → ℕ
answer_part n = n % 16

abbrev pub diagnosed : ℕ → Diagnostic
diagnosed n = cond (ltb n 1048576) (at (place_part n) (answer_part n)) clear

-- 16 bits of a position, 16 of an end, 1 of a kind, 2 of a status, 29 of a diagnostic
unfoldable pub read_next : ℕ → ℕ
read_next r = r % 65536

unfoldable pub read_end : ℕ → ℕ
read_end r = r / 65536 % 65536

unfoldable pub read_kind : ℕ → Kind
read_kind r = number_kind (r / 2 ^ 32 % 2)

unfoldable pub read_wrong : ℕ → Diagnostic
read_wrong r = diagnosed (r / 2 ^ 35)

unfoldable pub read_of : ℕ → Read
unfolding read_next read_end read_kind read_wrong
read_of r =
    cond (eqb (r / 2 ^ 33 % 4) 0) (Done (read_next r) (read_end r) (read_kind r) (read_wrong r))
    (cond (eqb (r / 2 ^ 33 % 4) 1) (Bad (read_next r)) (Deep (read_next r)))
