-- What a step of the pass does to what it knows, whatever the arrays: for the contracts of private functions.
use Rattle.std.specs.Prelude.{◌≡◌, Bool, true, false, not, ◌&&◌, cond, List, ℕ, suc, ◌+◌, ◌-◌, ◌≤◌, ◌<◌}
use Rattle.code.specs.declared.Instr.{Instr}
use Rattle.code.specs.Instructions.{decode_at}
use Rattle.code.specs.Reals.{reads_real}
use Rattle.code.specs.declared.Instr.TheVariants.{Jump}
use Rattle.verifier.specs.Typing.{Shape, Move, ill_typed, next, jump, fork, move_of}
use Rattle.verifier.specs.Profile.{all_int, held_after, move_in, well_formed_in}
pub use Rattle.verifier.specs.Verdicts.{verdict_of}
use Rattle.verifier.specs.private.Shapes.{State, rejected, unreached, holds}

pub record Agrees (b : Bool) (s r : Shape) : Type 0 where
  pub yes : b ≡ true → s ≡ r
  pub no : b ≡ false → s ≡ r → ⊥

-- what flows into a place, and what jumps brought there, are one thing
pub data Joins : State → State → State → Type 0 where
  alone : {o : State} → Joins o unreached o
  takes : {s : Shape} → Joins unreached (holds s) (holds s)
  agrees : {s : Shape} → Joins (holds s) (holds s) (holds s)
  differs : {s r : Shape} → (s ≡ r → ⊥) → Joins (holds s) (holds r) rejected

-- a jump brings the kinds s to the place t: what jumps brought before and after it, and whether it is the same that they brought there
pub data Merges (s : Shape) (t : ℕ) (before : ℕ → State) : Bool → (ℕ → State) → Type 0 where
  adds : {after : ℕ → State} → before t ≡ unreached → after t ≡ holds s → ((q : ℕ) → (q ≡ t → ⊥) → after q ≡ before q) → Merges s t before true after
  has : before t ≡ holds s → Merges s t before true before
  clashes : {x : Shape} → before t ≡ holds x → (s ≡ x → ⊥) → Merges s t before false before

-- from the kinds s held at a place to what flows from it into the next, p, where k instructions follow
pub data Steps (reals : Bool) (i : Instr) (k p : ℕ) (s : Shape) (before : ℕ → State) : State → (ℕ → State) → Type 0 where
  stuck : move_in reals i s ≡ ill_typed → Steps reals i k p s before rejected before
  strays : well_formed_in reals k i ≡ false → Steps reals i k p s before rejected before
  goes : {r : Shape} → well_formed_in reals k i ≡ true → move_in reals i s ≡ next r → Steps reals i k p s before (holds r) before
  leaps : {d : ℕ} {after : ℕ → State} → i ≡ Jump d → well_formed_in reals k i ≡ true → move_in reals i s ≡ jump d s → Merges s (p + d) before true after
      → Steps reals i k p s before unreached after
  forks : {r : Shape} {d : ℕ} {after : ℕ → State} → well_formed_in reals k i ≡ true → move_in reals i s ≡ fork d r → Merges r (p + d) before true after
      → Steps reals i k p s before (holds r) after
  leap_clash : {r : Shape} {d : ℕ} {after : ℕ → State} → move_in reals i s ≡ jump d r → Merges r (p + d) before false after
      → Steps reals i k p s before rejected after
  fork_clash : {r : Shape} {d : ℕ} {after : ℕ → State} → move_in reals i s ≡ fork d r → Merges r (p + d) before false after
      → Steps reals i k p s before rejected after

-- an instruction that is known, and leaves the kinds s: in the profile it does not read R, and they are integers
abbrev pub admits : Bool → Instr → Shape → Bool
admits true i s = true
admits false i s = not (reads_real i) && all_int s

-- and no instruction acts on others than these
abbrev pub all_admitted : Bool → Shape → Bool
all_admitted true s = true
all_admitted false s = all_int s

-- what an instruction does where that is admitted
abbrev pub admitted_move : Bool → Instr → Shape → Move
admitted_move reals i s = cond (admits reals i (held_after (move_of i s))) (move_of i s) ill_typed

-- from a place p that nothing flows into to r: jumps come to none between them, and each instruction is known
pub record Skipping (reals : Bool) (code : List ℕ) (n : ℕ) (brought : ℕ → State) (p r : ℕ) : Type 0 where
  pub onward : p ≤ r
  pub within : r ≤ n
  pub none : (q : ℕ) → p ≤ q → q < r → brought q ≡ unreached
  pub each : (q : ℕ) → p ≤ q → q < r → well_formed_in reals (n - suc q) (decode_at code q) ≡ true

-- and r has a jump, or is the end, or its instruction is not known
pub record Skips (reals : Bool) (code : List ℕ) (n : ℕ) (brought : ℕ → State) (p r : ℕ) : Type 0 where
  pub way : Skipping reals code n brought p r
  pub last : brought r ≡ unreached → r < n → well_formed_in reals (n - suc r) (decode_at code r) ≡ false
