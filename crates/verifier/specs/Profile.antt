-- The check in the full box (reals true) and in the profile (false). Paper 02, Ask 12: "Code checked for the profile holds only integers and has no
-- instruction that reads R, else 15". A push of a real that is never reached holds nothing; a load of R is refused, reached or not.
use Rattle.std.specs.Prelude.{◌≡◌, ◌↔◌, Bool, true, false, not, ◌&&◌, cond, List, [], ◌∷◌, ℕ, suc, ◌-◌, ◌≤◌, ◌<◌, leb, length, Option, Some, None}
use Rattle.values.specs.declared.Kind.{Kind}
use Rattle.operators.specs.Kinds.{is_int}
use Rattle.code.specs.declared.Instr.{Instr}
use Rattle.code.specs.Instructions.{instructions}
use Rattle.code.specs.Reals.{reads_real}
use Rattle.verifier.specs.Typing.{Shape, Move, ill_typed, next, jump, fork, move_of, well_formed}
use Rattle.verifier.specs.Accepts.{MovesTo, instr_at, Accepts}
use Rattle.verifier.specs.Verdicts.{State, rejected, unreached, holds, States, propagate, verdict_of, entry_states, verdict}

abbrev pub all_int : Shape → Bool
all_int [] = true
all_int (k ∷ s) = is_int k && all_int s

-- what is held after a move
abbrev pub held_after : Move → Shape
held_after ill_typed = []
held_after (next s) = s
held_after (jump d s) = s
held_after (fork d s) = s

-- "holds only integers"
abbrev pub move_in : Bool → Instr → Shape → Move
move_in true i s = move_of i s
move_in false i s = cond (all_int (held_after (move_of i s))) (move_of i s) ill_typed

-- "and has no instruction that reads R": m instructions follow
abbrev pub well_formed_in : Bool → ℕ → Instr → Bool
well_formed_in true m i = well_formed m i
well_formed_in false m i = well_formed m i && not (reads_real i)

pub data ReachedIn (reals : Bool) (c : List Instr) : ℕ → Shape → Type 0 where
  start : ReachedIn reals c 0 []
  onward : {p q : ℕ} {s r : Shape} → ReachedIn reals c p s → p < length c → MovesTo p (move_in reals (instr_at c p) s) q r → ReachedIn reals c q r

-- the code is accepted, and ends with a value of the kind k
pub record AcceptsIn (reals : Bool) (c : List Instr) (k : Kind) : Type 0 where
  pub some : 0 < length c
  pub few : length c ≤ 2048
  pub each : (p : ℕ) → p < length c → well_formed_in reals (length c - suc p) (instr_at c p) ≡ true
  pub acts : (p : ℕ) (s : Shape) → ReachedIn reals c p s → p < length c → move_in reals (instr_at c p) s ≡ ill_typed → ⊥
  pub one : (p : ℕ) (s r : Shape) → ReachedIn reals c p s → ReachedIn reals c p r → s ≡ r
  pub ended : ReachedIn reals c (length c) (k ∷ [])

-- the check of n instructions is right
pub record CorrectVerdictIn (reals : Bool) (code : List ℕ) (n : ℕ) (v : (Option Kind)) : Type 0 where
  pub sound : (k : Kind) → v ≡ Some k → AcceptsIn reals (instructions code n) k
  pub complete : (k : Kind) → AcceptsIn reals (instructions code n) k → v ≡ Some k

-- ---- the check as a function of the instructions, as Verdicts has it with reals

abbrev pub transfer_in : Bool → ℕ → Instr → State → States → States
transfer_in reals p i rejected f = λ q. rejected
transfer_in reals p i unreached f = f
transfer_in reals p i (holds s) f = propagate p (move_in reals i s) f

unfoldable pub dataflow_in : Bool → List Instr → ℕ → States → State
dataflow_in reals [] p f = f p
dataflow_in reals (i ∷ left) p f = cond (well_formed_in reals (length left) i) (dataflow_in reals left (suc p) (transfer_in reals p i (f p) f)) rejected

abbrev pub verdict_in : Bool → List Instr → Option Kind
verdict_in reals c = cond (leb (length c) 2048) (verdict_of (dataflow_in reals c 0 entry_states)) None

-- proofs/Profile.antt proves the record
pub record ProfileVerdicts : Type 0 where
  -- with reals nothing changes
  pub full : (c : List Instr) (k : Kind) → AcceptsIn true c k ↔ Accepts c k
  pub full_verdict : (c : List Instr) → verdict_in true c ≡ verdict c
  -- the check as a function says the same
  pub exact : (reals : Bool) (c : List Instr) (k : Kind) → verdict_in reals c ≡ Some k ↔ AcceptsIn reals c k
  -- so a contract can be an equation
  pub determined : (reals : Bool) (code : List ℕ) (n : ℕ) (v : Option Kind) → CorrectVerdictIn reals code n v → v ≡ verdict_in reals (instructions code n)
