-- What is left of both rooms, part after part: one law for each way through `measure`; and rooms that need no measuring. Assumes nothing.
use mathlib.Core.Path.{◌≡◌, refl, sym, ap, subst, ◌∙◌}
use mathlib.Core.Bool.{Bool, true, false, ◌&&◌, and-false}
use mathlib.Core.List.{List, []}
use Prim.Native.Nat.{ℕ, ◌+◌, ◌*◌, ◌-◌, ◌≤◌, ◌<◌}
use native.Mathlib.Omega.{arith}
use lib.Dec.{leb}
use lib.ListN.{length, take, drop, length-append}
use borrow.Author.Tests.{le-leb, lt-leb}
use Rattle.std.specs.Prelude.{Result}
use Rattle.card_laws.specs.Formulas.{formula_answer}
use Rattle.salvage_laws.specs.Salvage.{Part, kept_bytes, named_bytes, salvaged, fits}
use Rattle.salvage_laws.proofs.Theorems.{salvage-theorems}
use Rattle.card_salvage.specs.private.Steps.{last_in, kept_of, kept_size, name_of}
use Rattle.card_salvage.proofs.outputs.Taken.{parts_left, none_left, Taken}

both-fit : (f : List ℕ) {room other : ℕ} → length (kept_bytes (salvaged formula_answer f)) ≤ room → length (named_bytes (salvaged formula_answer f)) ≤ other
    → true ≡ fits room other (salvaged formula_answer f)
both-fit f {room} {other} h k =
    let kept : List ℕ = kept_bytes (salvaged formula_answer f) in
    let named : List ℕ = named_bytes (salvaged formula_answer f) in
    sym (ap (λ (b : Bool). b && leb (length named) other) (le-leb (length kept) room h) ∙ le-leb (length named) other k)

-- enough for every file of this size
pub roomy : (f : List ℕ) {room other : ℕ} → length f < 1000000 → length f ≤ room → 6 * length f + 64 ≤ other
    → true ≡ fits room other (salvaged formula_answer f)
roomy f u h k = both-fit f (omega (arith, salvage-theorems.shorter f)) (omega (arith, salvage-theorems.names f u))

-- what is left of each room, with what is left for it, makes the whole
pub record Rooms (f : List ℕ) (room other left named-left at last : ℕ) : Type 0 where
  pub kept : left + length (kept_bytes (salvaged formula_answer f)) ≡ room + length (kept_bytes (parts_left f last at))
  pub named : named-left + length (named_bytes (salvaged formula_answer f)) ≡ other + length (named_bytes (parts_left f last at))

pub start : (f : List ℕ) (room other : ℕ) → Rooms f room other room other 0 0
start f room other = record { kept = refl; named = refl }

kept_next : {f : List ℕ} {last at end : ℕ} {a : Result ℕ ℕ} → Taken f last at end a
    → length (kept_bytes (parts_left f last at)) ≡ kept_size a (end - at) + length (kept_bytes (parts_left f (last_in last a) end))
kept_next {f} {last} {at} {end} {a} t =
    ap length t.kept ∙ length-append (kept_of a (take (end - at) (drop at f))) (kept_bytes (parts_left f (last_in last a) end))
    ∙ ap (λ (n : ℕ). n + length (kept_bytes (parts_left f (last_in last a) end))) (sym t.size)

named-next : {f : List ℕ} {last at end : ℕ} {a : Result ℕ ℕ} → Taken f last at end a
    → length (named_bytes (parts_left f last at)) ≡ length (name_of a at (end - at)) + length (named_bytes (parts_left f (last_in last a) end))
named-next {f} {last} {at} {end} {a} t = ap length t.named ∙ length-append (name_of a at (end - at)) (named_bytes (parts_left f (last_in last a) end))

module _ {f : List ℕ} {room other left named-left at last : ℕ} (r : Rooms f room other left named-left at last) where
  abbrev kept-bytes : List ℕ
  kept-bytes = kept_bytes (salvaged formula_answer f)

  abbrev named-bytes : List ℕ
  named-bytes = named_bytes (salvaged formula_answer f)

  pub no_room : {end n : ℕ} {a : Result ℕ ℕ} → Taken f last at end a → n ≡ kept_size a (end - at) → left < n → false ≡ fits room other (salvaged formula_answer f)
  no_room t e h =
      sym (ap (λ (b : Bool). b && leb (length named-bytes) other) (lt-leb (length kept-bytes) room (omega (arith, r.kept, kept_next t, e))))

  pub no-room-named : {end n : ℕ} {a : Result ℕ ℕ} → Taken f last at end a → n ≡ length (name_of a at (end - at)) → named-left < n
      → false ≡ fits room other (salvaged formula_answer f)
  no-room-named t e h =
      sym (ap (λ (b : Bool). leb (length kept-bytes) room && b) (lt-leb (length named-bytes) other (omega (arith, r.named, named-next t, e)))
      ∙ and-false (leb (length kept-bytes) room))

  pub next : {end n m : ℕ} {a : Result ℕ ℕ} → Taken f last at end a → n ≡ kept_size a (end - at) → m ≡ length (name_of a at (end - at)) → n ≤ left
      → m ≤ named-left
      → {last' : ℕ} → last' ≡ last_in last a → Rooms f room other (left - n) (named-left - m) end last'
  next {end} {n} {m} {a} t e d h k {last'} l =
      subst (Rooms f room other (left - n) (named-left - m) end) (sym l)
      (record { kept = omega (arith, r.kept, kept_next t, e); named = omega (arith, r.named, named-next t, d) })

  pub end : length f ≤ at → true ≡ fits room other (salvaged formula_answer f)
  end h =
      let n : parts_left f last at ≡ [] = none_left f last at h in
      let k : length (kept_bytes (parts_left f last at)) ≡ 0 = ap (λ (ps : List Part). length (kept_bytes ps)) n in
      let m : length (named_bytes (parts_left f last at)) ≡ 0 = ap (λ (ps : List Part). length (named_bytes ps)) n in
      both-fit f (omega (arith, r.kept, k)) (omega (arith, r.named, m))
