-- How a file is cut: the parts make the file, a card's bytes before `card=` or the end are one part, and what ends with a line end before those is cut as
-- if it stood alone. Assumes nothing.
use mathlib.Core.Path.{◌≡◌, refl, sym, ap, subst, ◌∙◌}
use mathlib.Core.Bool.{Bool, true, false, ◌&&◌, cond, and-false}
use mathlib.Core.List.{List, [], ◌∷◌, ◌++◌, append_assoc}
use Prim.Native.Nat.{ℕ, zero, suc, ◌+◌, ◌≤◌, ◌<◌}
use native.Mathlib.Omega.{arith}
use lib.Dec.{eqb}
use lib.ListN.{length, take}
use borrow.Author.Tests.{ne_eqb, not-true, eqb-false}
use Rattle.tokens.specs.Symbols.{equal_bytes}
use Rattle.tokens.specs.Bytes.{all}
use Rattle.tokens.proofs.Tests.{both}
use Rattle.lines.specs.Lines.{except}
use Rattle.lines.specs.Printing.{decimal_text}
use Rattle.card_laws.specs.Verdicts.{Verdict}
use Rattle.card_laws.specs.Lines.{ended, Lacks, begins}
use Rattle.card_laws.specs.Cards.{Card, card, number_of, card_key, target_key, expr_key, check_key, card_line, check_text, card_bytes, cards_bytes}
use Rattle.card_laws.specs.Reading.{GoodCard, good_card, Valid, none, next}
use Rattle.card_laws.specs.Theorems.{JudgeLaws}
use Rattle.card_laws.proofs.Cards.{bytes-before, check-lacks, number-there}
use Rattle.salvage_laws.specs.Cut.{onto_first, cut, joined}
use Rattle.salvage_laws.specs.Salvage.{card_follows, parts}

-- ---- the parts make the file
onto-joined : (c : ℕ) (ps : List (List ℕ)) → joined (onto_first c ps) ≡ c ∷ joined ps
onto-joined c [] = refl
onto-joined c (p ∷ ps) = refl

pub cut-joined : (ends : ℕ → List ℕ → Bool) (s : List ℕ) → joined (cut ends s) ≡ s
cut-joined ends [] = refl
cut-joined ends (c ∷ cs) = go (ends c cs) (cut-joined ends cs)
  where
    go : (x : Bool) → joined (cut ends cs) ≡ cs → joined (cond x ((c ∷ []) ∷ cut ends cs) (onto_first c (cut ends cs))) ≡ c ∷ cs
    go true i = ap (λ (l : List ℕ). c ∷ l) i
    go false i = onto-joined c (cut ends cs) ∙ ap (λ (l : List ℕ). c ∷ l) i

-- ---- bytes before the first part
abbrev onto_all : List ℕ → List (List ℕ) → List (List ℕ)
onto_all [] ps = ps
onto_all (c ∷ l) ps = onto_first c (onto_all l ps)

onto-all : (l p : List ℕ) (ps : List (List ℕ)) → onto_all l (p ∷ ps) ≡ (l ++ p) ∷ ps
onto-all [] p ps = refl
onto-all (c ∷ l) p ps = ap (onto_first c) (onto-all l p ps)

no_end : (c : ℕ) (s : List ℕ) → (c ≡ 10 → ⊥) → card_follows c s ≡ false
no_end c s n = rw (ne_eqb c 10 n)

inside : (l r : List ℕ) → Lacks 10 l → parts (l ++ r) ≡ onto_all l (parts r)
inside [] r h = refl
inside (c ∷ l) r h =
    let b = both (except 10 c) (all (except 10) l) h in
    ap (λ (x : Bool). cond x ((c ∷ []) ∷ parts (l ++ r)) (onto_first c (parts (l ++ r)))) (no_end c (l ++ r) (eqb-false c 10 (not-true (eqb c 10) b.0)))
    ∙ ap (onto_first c) (inside l r b.1)

-- a line before another of the same part
line-more : (l s p : List ℕ) (ps : List (List ℕ)) → Lacks 10 l → begins card_key s ≡ false → parts s ≡ p ∷ ps → parts (ended l s) ≡ ended l p ∷ ps
line-more l s p ps h b e =
    inside l (10 ∷ s) h
    ∙ ap (onto_all l) (ap (λ (x : Bool). cond x ((10 ∷ []) ∷ parts s) (onto_first 10 (parts s))) b ∙ ap (onto_first 10) e)
    ∙ onto-all l (10 ∷ p) ps

-- what may follow a card
pub data Follows : List ℕ → Type 0 where
  nothing : Follows []
  another : {r : List ℕ} → begins card_key r ≡ true → Follows r

line-last : (l r : List ℕ) → Lacks 10 l → Follows r → parts (ended l r) ≡ ended l [] ∷ parts r
line-last l r h w = inside l (10 ∷ r) h ∙ ap (onto_all l) (go w) ∙ onto-all l (10 ∷ []) (parts r)
  where
    go : {r : List ℕ} → Follows r → parts (10 ∷ r) ≡ (10 ∷ []) ∷ parts r
    go nothing = refl
    go (another {r = r} b) = ap (λ (x : Bool). cond x ((10 ∷ []) ∷ parts r) (onto_first 10 (parts r))) b

module _ (formula : List ℕ → List ℕ → Verdict) (laws : JudgeLaws formula) where
  pub card-part : {last : ℕ} {c : Card} (r : List ℕ) → GoodCard formula last c → Follows r → parts (card_bytes c ++ r) ≡ card_bytes c ∷ parts r
  card-part r (good_card {n} {t} {e} h b a) w =
      let k : List ℕ = check_key ++ check_text t e in
      ap parts (bytes-before (card n t e) r)
      ∙ line-more (card_line n) (ended (target_key ++ t) (ended (expr_key ++ e) (ended k r))) (ended (target_key ++ t) (ended (expr_key ++ e) (ended k [])))
      (parts r) (number-there n (omega arith) b).1 refl
      (line-more (target_key ++ t) (ended (expr_key ++ e) (ended k r)) (ended (expr_key ++ e) (ended k [])) (parts r) (laws.target_line t e a) refl
      (line-more (expr_key ++ e) (ended k r) (ended k []) (parts r) (laws.expr_line t e a) refl (line-last k r (check-lacks t e) w)))

  pub cards-follow : {last : ℕ} {ks : List Card} {s : List ℕ} → Valid formula last ks → Follows s → Follows (cards_bytes ks ++ s)
  cards-follow none w = w
  cards-follow (next {c = card n t e} g v) w = another refl

-- ---- cut as if it stood alone
begins-within : (key : List ℕ) → Lacks 10 key → (x r r' : List ℕ) → begins key (x ++ 10 ∷ r) ≡ begins key (x ++ 10 ∷ r')
begins-within [] h x r r' = refl
begins-within (c ∷ key) h [] r r' =
    let b = both (except 10 c) (all (except 10) key) h in
    let n : eqb c 10 ≡ false = not-true (eqb c 10) b.0 in
    ap (λ (x : Bool). x && equal_bytes key (take (length key) r)) n ∙ ap (λ (x : Bool). x && equal_bytes key (take (length key) r')) (sym n)
begins-within (c ∷ key) h (d ∷ x) r r' = ap (λ (b : Bool). eqb c d && b) (begins-within key (both (except 10 c) (all (except 10) key) h).1 x r r')

pub data Some : List (List ℕ) → Type 0 where
  some : (p : List ℕ) (ps : List (List ℕ)) → Some (p ∷ ps)

pub onto-some : (c : ℕ) (ps : List (List ℕ)) → Some (onto_first c ps)
onto-some c [] = some (c ∷ []) []
onto-some c (p ∷ ps) = some (c ∷ p) ps

parts-some : (c : ℕ) (cs : List ℕ) → Some (parts (c ∷ cs))
parts-some c cs = go (card_follows c cs)
  where
    go : (x : Bool) → Some (cond x ((c ∷ []) ∷ parts cs) (onto_first c (parts cs)))
    go true = some (c ∷ []) (parts cs)
    go false = onto-some c (parts cs)

ended_some : (p : List ℕ) → Some (parts (p ++ 10 ∷ []))
ended_some [] = parts-some 10 []
ended_some (c ∷ p) = parts-some c (p ++ 10 ∷ [])

pub onto-append : (c : ℕ) {ps : List (List ℕ)} (qs : List (List ℕ)) → Some ps → onto_first c (ps ++ qs) ≡ onto_first c ps ++ qs
onto-append c qs (some p ps) = refl

pub parts-append : (q : List ℕ) {r : List ℕ} → Follows r → parts (ended q [] ++ r) ≡ parts (ended q []) ++ parts r
parts-append [] nothing = refl
parts-append [] (another {r = r} b) = ap (λ (x : Bool). cond x ((10 ∷ []) ∷ parts r) (onto_first 10 (parts r))) b
parts-append (c ∷ q) {r} w =
    ap (λ (x : Bool). cond x ((c ∷ []) ∷ parts (ended q [] ++ r)) (onto_first c (parts (ended q [] ++ r)))) same
    ∙ go (card_follows c (ended q [])) (parts-append q w)
  where
    same : card_follows c (ended q [] ++ r) ≡ card_follows c (ended q [])
    same = ap (card_follows c) (append_assoc q (10 ∷ []) r) ∙ ap (λ (b : Bool). eqb c 10 && b) (begins-within card_key refl q r [])

    go : (x : Bool) → parts (ended q [] ++ r) ≡ parts (ended q []) ++ parts r
        → cond x ((c ∷ []) ∷ parts (ended q [] ++ r)) (onto_first c (parts (ended q [] ++ r)))
        ≡ cond x ((c ∷ []) ∷ parts (ended q [])) (onto_first c (parts (ended q []))) ++ parts r
    go true i = ap (λ (l : List (List ℕ)). (c ∷ []) ∷ l) i
    go false i = ap (onto_first c) i ∙ onto-append c (parts r) (ended_some q)

pub begins-append : (key s r : List ℕ) → begins key s ≡ true → begins key (s ++ r) ≡ true
begins-append [] s r b = refl
begins-append (k ∷ key) [] r b = let z : ◌≡◌ {A = ℕ} 0 1 = cc in absurd (omega arith)
begins-append (k ∷ key) (c ∷ s) r b = let h = both (eqb k c) (begins key s) b in rw h.0 (begins-append key s r h.1)
