-- Where a part ends, byte after byte: one law for each way through `card_begins`, `ends_at` and `part_end`. Assumes nothing.
use mathlib.Core.Path.{◌≡◌, refl, sym, ap, subst, ◌∙◌}
use mathlib.Core.Bool.{Bool, true, false, ◌&&◌, cond}
use mathlib.Core.List.{List, [], ◌∷◌, ◌++◌, append_assoc}
use Prim.Native.Nat.{ℕ, suc, ◌+◌, ◌-◌, ◌≤◌, ◌<◌}
use native.Mathlib.Numerals.{add-one}
use native.Mathlib.Omega.{arith}
use lib.ListN.{length, take, drop, get_or, length-take, length-drop, drop_of_length-le}
use lib.Seq.{take-suc, drop-cons, get_or-drop}
use borrow.Author.Tests.{eq-eqb, ne_eqb}
use Rattle.tokens.specs.Symbols.{equal_bytes}
use Rattle.tokens.proofs.Same.{equal as same_bytes}
use Rattle.card_laws.specs.Lines.{begins}
use Rattle.card_laws.specs.Cards.{card_key}
use Rattle.salvage_laws.specs.Cut.{onto_first}
use Rattle.salvage_laws.specs.Salvage.{card_follows, parts}
use Rattle.card_salvage.specs.private.Steps.{PartTo}

-- ---- a card line at a place
pub too_short : (f : List ℕ) (at : ℕ) → length f - at < 5 → false ≡ begins card_key (drop at f)
too_short f at h = by (begins card_key (drop at f)) refl
  where
    by : (t : Bool) → begins card_key (drop at f) ≡ t → false ≡ t
    by false q = refl
    by true q = absurd (omega (arith, ap length (same_bytes card_key (take 5 (drop at f)) q), length-take 5 (drop at f), length-drop at f))

pub key-there : (f : List ℕ) (at : ℕ) {t : Bool} → t ≡ equal_bytes card_key (take (at + 5 - at) (drop at f)) → t ≡ begins card_key (drop at f)
key-there f at e = let n : at + 5 - at ≡ 5 = omega arith in e ∙ ap (λ (k : ℕ). equal_bytes card_key (take k (drop at f))) n

-- ---- a part that ends behind a byte
pub no_end : (c : ℕ) (s : List ℕ) → (c ≡ 10 → ⊥) → false ≡ card_follows c s
no_end c s n = sym (ap (λ (t : Bool). t && begins card_key s) (ne_eqb c 10 n))

pub line-end : (c : ℕ) (s : List ℕ) {t : Bool} → c ≡ 10 → t ≡ begins card_key s → t ≡ card_follows c s
line-end c s e q = q ∙ sym (ap (λ (t : Bool). t && begins card_key s) (eq-eqb c 10 e))

-- ---- the byte i lies in the part that begins at a place: what is a part from i on is one with the bytes before it
pub record Within (f : List ℕ) (at i : ℕ) : Type 0 where
  pub order : at ≤ i
  pub inside : i < length f
  pub rest : (p : List ℕ) (ps : List (List ℕ)) → parts (drop i f) ≡ p ∷ ps → parts (drop at f) ≡ (take (i - at) (drop at f) ++ p) ∷ ps

pub start : (f : List ℕ) (at : ℕ) → at < length f → Within f at at
start f at h =
    let n : at - at ≡ 0 = omega arith in
    record { order = omega arith; inside = h; rest = λ p ps e. e ∙ ap (λ (k : ℕ). (take k (drop at f) ++ p) ∷ ps) (sym n) }

-- what is left at i: a byte, and what is left behind it
cut-here : (f : List ℕ) (i : ℕ) → i < length f → (t : Bool) → t ≡ card_follows (get_or f i 0) (drop (i + 1) f)
    → parts (drop i f) ≡ cond t ((get_or f i 0 ∷ []) ∷ parts (drop (i + 1) f)) (onto_first (get_or f i 0) (parts (drop (i + 1) f)))
cut-here f i h t e =
    let d : drop i f ≡ get_or f i 0 ∷ drop (i + 1) f = drop-cons f i 0 h ∙ ap (λ (k : ℕ). get_or f i 0 ∷ drop k f) (sym (add-one i)) in
    ap parts d ∙ ap (λ (x : Bool). cond x ((get_or f i 0 ∷ []) ∷ parts (drop (i + 1) f)) (onto_first (get_or f i 0) (parts (drop (i + 1) f)))) (sym e)

module _ (f : List ℕ) (at i : ℕ) (w : Within f at i) where
  -- the bytes before i, and that at i
  one_more : take (i - at) (drop at f) ++ (get_or f i 0 ∷ []) ≡ take (i + 1 - at) (drop at f)
  one_more =
      let n : i + 1 - at ≡ suc (i - at) = omega (arith, w.order) in
      let k : at + (i - at) ≡ i = omega (arith, w.order) in
      let c : get_or (drop at f) (i - at) 0 ≡ get_or f i 0 = get_or-drop at f (i - at) 0 ∙ ap (λ (j : ℕ). get_or f j 0) k in
      sym (ap (λ (j : ℕ). take j (drop at f)) n ∙ take-suc (drop at f) (i - at) 0 (omega (arith, length-drop at f, w.order, w.inside))
      ∙ ap (λ (b : ℕ). take (i - at) (drop at f) ++ (b ∷ [])) c)

  pub next : i + 1 < length f → false ≡ card_follows (get_or f i 0) (drop (i + 1) f) → Within f at (i + 1)
  next h e =
      record {
        order = omega (arith, w.order);
        inside = h;
        rest = λ p ps q. w.rest (get_or f i 0 ∷ p) ps (cut-here f i w.inside false e ∙ ap (onto_first (get_or f i 0)) q)
            ∙ ap (λ (l : List ℕ). l ∷ ps) (sym (append_assoc (take (i - at) (drop at f)) (get_or f i 0 ∷ []) p) ∙ ap (λ (l : List ℕ). l ++ p) one_more);
      }

  ends-here : parts (drop i f) ≡ (get_or f i 0 ∷ []) ∷ parts (drop (i + 1) f) → PartTo f at (i + 1)
  ends-here e =
      record {
        order = omega (arith, w.order);
        inside = omega (arith, w.inside);
        cuts = w.rest (get_or f i 0 ∷ []) (parts (drop (i + 1) f)) e ∙ ap (λ (l : List ℕ). l ∷ parts (drop (i + 1) f)) one_more;
      }

  pub ends : true ≡ card_follows (get_or f i 0) (drop (i + 1) f) → PartTo f at (i + 1)
  ends e = ends-here (cut-here f i w.inside true e)

  pub file-ends : length f ≤ i + 1 → PartTo f at (length f)
  file-ends h = let e : i + 1 ≡ length f = omega (arith, w.inside) in subst (PartTo f at) e (ends-here (cut-here f i w.inside (card_follows (get_or f i 0) (drop (i + 1) f)) refl ∙ by (card_follows (get_or f i 0) (drop (i + 1) f))))
    where
      none : drop (i + 1) f ≡ []
      none = drop_of_length-le f {i = i + 1} h

      by : (t : Bool) → cond t ((get_or f i 0 ∷ []) ∷ parts (drop (i + 1) f)) (onto_first (get_or f i 0) (parts (drop (i + 1) f))) ≡ (get_or f i 0 ∷ [])
          ∷ parts (drop (i + 1) f)
      by true = refl
      by false = ap (λ (l : List ℕ). onto_first (get_or f i 0) (parts l)) none ∙ sym (ap (λ (l : List ℕ). (get_or f i 0 ∷ []) ∷ parts l) none)
