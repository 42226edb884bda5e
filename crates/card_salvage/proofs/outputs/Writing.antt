-- Both outputs, part after part: what stands in the buffers and what is left make the whole. Assumes nothing.
use mathlib.Core.Path.{◌≡◌, refl, sym, ap, subst, ◌∙◌}
use mathlib.Core.List.{List, [], ◌∷◌, ◌++◌, append-nil, append_assoc}
use Prim.Native.Nat.{ℕ, ◌+◌, ◌-◌, ◌≤◌}
use native.Mathlib.Omega.{arith}
use lib.ListN.{length, take, drop, length-append}
use lib.Seq.{length-sets}
use Rattle.std.specs.Prelude.{Result}
use Rattle.words.specs.Ascii.{ascii}
use Rattle.lines.specs.Printing.{decimal_text}
use Rattle.lines.specs.private.Steps.{Puts}
use Rattle.lines.proofs.Stores.{then, as-text}
use Rattle.card_laws.specs.Formulas.{formula_answer}
use Rattle.salvage_laws.specs.Salvage.{kept_bytes, named_bytes, name_lines, salvaged}
use Rattle.card_salvage.specs.private.Steps.{last_in, kept_of, name_of}
use Rattle.card_salvage.proofs.outputs.Taken.{parts_left, none_left, Taken}

-- one output: the text before `rest` stands at the front of the buffer
pub record Put (old now : List ℕ) (at : ℕ) (whole rest : List ℕ) : Type 0 where
  pub done : List ℕ
  pub put : Puts old 0 now at done
  pub is : whole ≡ done ++ rest

put-start : (old whole : List ℕ) → Put old old 0 whole whole
put-start old whole = record { done = []; put = record { bytes = refl; end = refl }; is = refl }

put-long : {old now whole rest : List ℕ} {at : ℕ} → Put old now at whole rest → length now ≡ length old
put-long {old} p = ap length p.put.bytes ∙ length-sets old 0 p.done

put-room : {old now whole rest : List ℕ} {at : ℕ} (p : Put old now at whole rest) (s r : List ℕ) → rest ≡ s ++ r → length whole ≤ length old
    → at + length s ≤ length now
put-room {rest = rest} p s r e h = omega (arith, put-long p, p.put.end, ap length p.is, length-append p.done rest, ap length e, length-append s r)

put_next : {old now new whole rest : List ℕ} {at at' : ℕ} (p : Put old now at whole rest) (s r : List ℕ) → rest ≡ s ++ r → Puts now at new at' s
    → Put old new at' whole r
put_next p s r e q = record { done = p.done ++ s; put = then p.put q; is = p.is ∙ ap (λ (l : List ℕ). p.done ++ l) e ∙ sym (append_assoc p.done s r) }

put-end : {old now whole rest : List ℕ} {at : ℕ} → Put old now at whole rest → rest ≡ [] → Puts old 0 now at whole
put-end p e = as-text (sym (p.is ∙ ap (λ (l : List ℕ). p.done ++ l) e ∙ append-nil p.done)) p.put

-- ---- both
pub record Writing (f old old' now now' : List ℕ) (kept_at named-at at last : ℕ) : Type 0 where
  pub kept : Put old now kept_at (kept_bytes (salvaged formula_answer f)) (kept_bytes (parts_left f last at))
  pub named : Put old' now' named-at (named_bytes (salvaged formula_answer f)) (named_bytes (parts_left f last at))

pub start : (f old old' : List ℕ) → Writing f old old' old old' 0 0 0 0
start f old old' = record { kept = put-start old (kept_bytes (salvaged formula_answer f)); named = put-start old' (named_bytes (salvaged formula_answer f)) }

module _ {f old old' now now' : List ℕ} {kept_at named-at at last : ℕ} (w : Writing f old old' now now' kept_at named-at at last) where
  pub long : length now ≡ length old
  long = put-long w.kept

  pub named-long : length now' ≡ length old'
  named-long = put-long w.named

  module _ {end : ℕ} {a : Result ℕ ℕ} (t : Taken f last at end a) where
    pub room : length (kept_bytes (salvaged formula_answer f)) ≤ length old → kept_at + length (kept_of a (take (end - at) (drop at f))) ≤ length now
    room h = put-room w.kept (kept_of a (take (end - at) (drop at f))) (kept_bytes (parts_left f (last_in last a) end)) t.kept h

    pub named-room : length (named_bytes (salvaged formula_answer f)) ≤ length old' → named-at + length (name_of a at (end - at)) ≤ length now'
    named-room h = put-room w.named (name_of a at (end - at)) (named_bytes (parts_left f (last_in last a) end)) t.named h

    pub next : {new new' : List ℕ} {kept-at' named-at' last' : ℕ} → Puts now kept_at new kept-at' (kept_of a (take (end - at) (drop at f)))
        → Puts now' named-at new' named-at' (name_of a at (end - at))
        → last' ≡ last_in last a → Writing f old old' new new' kept-at' named-at' end last'
    next {new} {new'} {kept-at'} {named-at'} {last'} p q l =
        subst (Writing f old old' new new' kept-at' named-at' end) (sym l)
        (record {
          kept = put_next w.kept (kept_of a (take (end - at) (drop at f))) (kept_bytes (parts_left f (last_in last a) end)) t.kept p;
          named = put_next w.named (name_of a at (end - at)) (named_bytes (parts_left f (last_in last a) end)) t.named q;
        })

  pub kept_whole : length f ≤ at → Puts old 0 now kept_at (kept_bytes (salvaged formula_answer f))
  kept_whole h = put-end w.kept (ap kept_bytes (none_left f last at h))

  pub named-whole : length f ≤ at → Puts old' 0 now' named-at (named_bytes (salvaged formula_answer f))
  named-whole h = put-end w.named (ap named_bytes (none_left f last at h))

-- ---- the three lines of a name
pub lines_of : (first size a : ℕ)
    → (((((ascii "first=" ++ decimal_text first) ++ (10 ∷ ascii "length=")) ++ decimal_text size) ++ (10 ∷ ascii "answer=")) ++ decimal_text a) ++
    (10 ∷ []) ≡ name_lines first size a
unfolding name_lines
lines_of first size a =
    let x : List ℕ = ascii "first=" ++ decimal_text first in
    let z : List ℕ = decimal_text a ++ (10 ∷ []) in
    append_assoc ((((x ++ (10 ∷ ascii "length=")) ++ decimal_text size)) ++ (10 ∷ ascii "answer=")) (decimal_text a) (10 ∷ [])
    ∙ append_assoc ((x ++ (10 ∷ ascii "length=")) ++ decimal_text size) (10 ∷ ascii "answer=") z
    ∙ append_assoc (x ++ (10 ∷ ascii "length=")) (decimal_text size) ((10 ∷ ascii "answer=") ++ z)
    ∙ append_assoc x (10 ∷ ascii "length=") (decimal_text size ++ ((10 ∷ ascii "answer=") ++ z))
