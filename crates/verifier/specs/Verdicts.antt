-- The check as a function of the instructions: one pass from the first to the last, with what is known of each place. What a reader believes is `Accepts`;
-- proofs/Verdicts.antt proves `VerdictLaws`, that the function says the same, so that a contract can be an equation.
use Rattle.std.specs.Prelude.{◌≡◌, ◌↔◌, Bool, true, false, ◌&&◌, cond, List, [], ◌∷◌, ℕ, suc, ◌+◌, eqb, leb, length, Option, Some, None}
use Rattle.std.specs.Bool.{beq}
use Rattle.values.specs.declared.Kind.{Kind}
use Rattle.operators.specs.Kinds.{is_int}
use Rattle.code.specs.declared.Instr.{Instr}
use Rattle.code.specs.Instructions.{instructions}
use Rattle.verifier.specs.Typing.{Shape, Move, ill_typed, next, jump, fork, move_of, well_formed}
use Rattle.verifier.specs.Accepts.{Accepts, CorrectVerdict}

-- what is known of a place: the code is not accepted; the place is not reached as yet; it is reached with these kinds
pub data State : Type 0 where
  rejected : State
  unreached : State
  holds : Shape → State

-- of each place
abbrev pub States : Type 0
States = ℕ → State

unfoldable pub same_shape : Shape → Shape → Bool
same_shape [] [] = true
same_shape [] (k ∷ r) = false
same_shape (j ∷ s) [] = false
same_shape (j ∷ s) (k ∷ r) = beq (is_int j) (is_int k) && same_shape s r

-- "each place reached has one height and one list of kinds": a place is reached with the kinds s
abbrev pub join_state : Shape → State → State
join_state s rejected = rejected
join_state s unreached = holds s
join_state s (holds r) = cond (same_shape s r) (holds r) rejected

abbrev pub join_at : Shape → ℕ → States → States
join_at s q f p = cond (eqb p q) (join_state s (f p)) (f p)

-- "every place that its instruction can go to: the next, a jump's, or for a jump on a value both", from the place p
abbrev pub propagate : ℕ → Move → States → States
propagate p ill_typed f = λ q. rejected
propagate p (next s) f = join_at s (suc p) f
propagate p (jump d s) f = join_at s (suc p + d) f
propagate p (fork d s) f = join_at s (suc p) (join_at s (suc p + d) f)

-- what the instruction at p, which is reached or not, makes known
abbrev pub transfer : ℕ → Instr → State → States → States
transfer p i rejected f = λ q. rejected
transfer p i unreached f = f
transfer p i (holds s) f = propagate p (move_of i s) f

-- over the instructions left, the first of them at p, to what is known of the end
unfoldable pub dataflow : List Instr → ℕ → States → State
dataflow [] p f = f p
dataflow (i ∷ left) p f = cond (well_formed (length left) i) (dataflow left (suc p) (transfer p i (f p) f)) rejected

-- "the end has one value"
abbrev pub verdict_of : State → Option Kind
verdict_of rejected = None
verdict_of unreached = None
verdict_of (holds []) = None
verdict_of (holds (k ∷ [])) = Some k
verdict_of (holds (k ∷ (j ∷ s))) = None

-- the first place is reached with nothing held
abbrev pub entry_states : States
entry_states = join_at [] 0 (λ p. unreached)

-- "code of 1 to 2,048 instructions": none end with no value
abbrev pub verdict : List Instr → Option Kind
verdict c = cond (leb (length c) 2048) (verdict_of (dataflow c 0 entry_states)) None

abbrev pub is_accepted : Option Kind → Bool
is_accepted (Some k) = true
is_accepted None = false

pub record VerdictLaws : Type 0 where
  pub exact : (c : List Instr) (k : Kind) → verdict c ≡ Some k ↔ Accepts c k
  -- the kind at the end is the only one
  pub unique : (c : List Instr) (j k : Kind) → Accepts c j → Accepts c k → j ≡ k
  -- the check's contract is an equation
  pub determined : (code : List ℕ) (n : ℕ) (v : Option Kind) → CorrectVerdict code n v → v ≡ verdict (instructions code n)
