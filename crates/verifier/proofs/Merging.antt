-- What jumps brought to a place, whether what flows into it agrees, and a jump that merges the kinds held into it: each way through `agree` and `merge`.
use mathlib.Core.Path.{◌≡◌, refl, sym, ap, ◌∙◌}
use mathlib.Core.Bool.{Bool, true, false, cond}
use mathlib.Core.List.{List}
use Prim.Native.Nat.{ℕ, ◌+◌, ◌<◌}
use native.Mathlib.Numerals.{add-one}
use lib.ListN.{length, get_or, set}
use lib.Seq.{get_or-set_same, get_or-set_other}
use Rattle.verifier.specs.Typing.{Shape}
use Rattle.verifier.specs.private.Shapes.{State, rejected, unreached, holds, bit_kinds, state_entry}
use Rattle.verifier.specs.private.Pass.{Agrees, Joins, alone, agrees, differs, Merges, adds, has, clashes}

module _ {x : State} {s r : Shape} (e : holds r ≡ x) where
  pub agrees-same : (b : Bool) → Agrees b s r → Joins (holds s) x (cond b (holds s) rejected)
  agrees-same true a = rw (← e, a.yes refl) agrees
  agrees-same false a = rw (← e) (differs (a.no refl))

pub merges-same : {before : ℕ → State} {t : ℕ} {s r : Shape} (b : Bool) → holds r ≡ before t → Agrees b s r → Merges s t before b before
merges-same true e a = has (sym e ∙ ap holds (sym (a.yes refl)))
merges-same false e a = clashes (sym e) (a.no refl)

pub agrees-none : {x : State} (s : Shape) → unreached ≡ x → Joins (holds s) x (holds s)
agrees-none s e = rw (← e) alone

-- the tops and the bits of each place, and a jump that brings h bits to the place t, to which none came
module _ (tops bits : List ℕ) (t h b : ℕ) (inside : t < length tops) (inside-bits : t < length bits) where
  pub merges-none : unreached ≡ state_entry (get_or tops t 0) (get_or bits t 0)
      → Merges (bit_kinds h b) t (λ q. state_entry (get_or tops q 0) (get_or bits q 0)) true
      (λ q. state_entry (get_or (set tops t (h + 1)) q 0) (get_or (set bits t b) q 0))
  merges-none e = adds (sym e)
      (rw (get_or-set_same tops t (h + 1) 0 inside, get_or-set_same bits t b 0 inside-bits, add-one h))
      (λ q n. rw (get_or-set_other tops t q (h + 1) 0 n, get_or-set_other bits t q b 0 n))
