-- What is written is good cards, and good cards are written. Assumes nothing.
use mathlib.Core.Path.{◌≡◌, refl, sym, ap, ◌∙◌}
use mathlib.Core.Bool.{Bool, true, false, ◌&&◌, cond}
use mathlib.Core.List.{List, [], ◌∷◌}
use Prim.Native.Nat.{ℕ, zero, suc, ◌+◌, ◌≤◌, ◌<◌}
use native.Mathlib.Omega.{arith}
use lib.Dec.{ltb}
use lib.ListN.{length}
use borrow.Author.Tests.{lt-ltb, le-ltb, ltb-true, ltb-false}
use Rattle.std.specs.Prelude.{Ok, Err}
use Rattle.tokens.proofs.Tests.{both}
use Rattle.card_laws.specs.Lines.{lacks}
use Rattle.card_laws.specs.Cards.{Card, card, number_of, card_bytes, cards_bytes}
use Rattle.card_laws.specs.Verdicts.{Verdict}
use Rattle.card_laws.specs.Reading.{good, read_cards, GoodCard, good_card, Valid, none, next}
use Rattle.card_laws.specs.Writing.{CardsWritten, done, unwritten, writable, unless_here, card_verdict, write_from, write_cards}
use Rattle.card_laws.specs.Theorems.{JudgeLaws, Written}
use Rattle.card_laws.proofs.Reading.{back}

module _ (formula : List ℕ → List ℕ → Verdict) where
  pub verdict-good : (last : ℕ) (c : Card) → card_verdict formula last c ≡ Ok tt → GoodCard formula last c
  verdict-good last (card n t e) h = go (writable (card n t e)) refl (ltb last n) refl h
    where
      go : (x : Bool) → writable (card n t e) ≡ x → (y : Bool) → ltb last n ≡ y → cond x (cond y (formula t e) (Err 18)) (Err 16) ≡ Ok tt
          → GoodCard formula last (card n t e)
      go false p y q w = let z : ◌≡◌ {A = ℕ} 0 1 = cc in absurd (omega arith)
      go true p false q w = let z : ◌≡◌ {A = ℕ} 0 1 = cc in absurd (omega arith)
      go true p true q w =
          let small = ltb-true n 65 (both (lacks 10 t && lacks 10 e && ltb 0 n) (ltb n 65) p).1 in
          good_card (ltb-true last n q) (omega arith) w

  pub good-verdict : JudgeLaws formula → {last : ℕ} {c : Card} → GoodCard formula last c → card_verdict formula last c ≡ Ok tt
  good-verdict laws {last} (good_card {n} {t} {e} h b a) =
      rw (laws.target_line t e a, laws.expr_line t e a, lt-ltb 0 n (omega arith), lt-ltb n 65 (omega arith), lt-ltb last n h) a

  pub record Through (last : ℕ) (cs : List Card) (s s' : List ℕ) : Type 0 where
    pub same : s ≡ s'
    pub valid : Valid formula last cs

  pub from_is : (last at : ℕ) (cs : List Card) (s s' : List ℕ) → write_from formula last at cs s ≡ done s' → Through last cs s s'
  from_is last at [] s s' h = record { same = cc; valid = none }
  from_is last at (c ∷ cs) s s' h = go (card_verdict formula last c) refl h (λ w. from_is (number_of c) (at + length (card_bytes c)) cs s s' w)
    where
      go : (v : Verdict) → card_verdict formula last c ≡ v → unless_here v at (write_from formula (number_of c) (at + length (card_bytes c)) cs s) ≡ done s'
          → (write_from formula (number_of c) (at + length (card_bytes c)) cs s ≡ done s' → Through (number_of c) cs s s') → Through last (c ∷ cs) s s'
      go (Ok _) q w ih = let i : Through (number_of c) cs s s' = ih w in record { same = i.same; valid = next (verdict-good last c q) i.valid }
      go (Err a) q w ih = let z : ◌≡◌ {A = ℕ} 0 1 = cc in absurd (omega arith)

  module _ (laws : JudgeLaws formula) where
    from-there : {last : ℕ} {cs : List Card} (at : ℕ) (s : List ℕ) → Valid formula last cs → write_from formula last at cs s ≡ done s
    from-there at s none = refl
    from-there at s (next {c = c} {cs = cs} g v) =
        ap (λ (x : Verdict). unless_here x at (write_from formula (number_of c) (at + length (card_bytes c)) cs s)) (good-verdict laws g)
        ∙ from-there (at + length (card_bytes c)) s v

    pub written : (room : ℕ) (cs : List Card) (s : List ℕ) → write_cards formula room cs ≡ done s → Written formula room cs s
    written room cs s h = go (ltb room (length (cards_bytes cs))) refl h
      where
        go : (x : Bool) → ltb room (length (cards_bytes cs)) ≡ x → cond x (unwritten 10 0) (write_from formula 0 0 cs (cards_bytes cs)) ≡ done s
            → Written formula room cs s
        go true q w = let z : ◌≡◌ {A = ℕ} 0 1 = cc in absurd (omega arith)
        go false q w =
            let i : Through 0 cs (cards_bytes cs) s = from_is 0 0 cs (cards_bytes cs) s w in
            let e : s ≡ cards_bytes cs = sym i.same in
            record {
              bytes = e;
              fits = omega (arith, ltb-false room (length (cards_bytes cs)) q, ap length e);
              valid = i.valid;
              reads = ap (read_cards formula) e ∙ back formula laws cs i.valid;
            }

    pub writes : (room : ℕ) (cs : List Card) → Valid formula 0 cs → length (cards_bytes cs) ≤ room → write_cards formula room cs ≡ done (cards_bytes cs)
    writes room cs v h =
        ap (λ (x : Bool). cond x (unwritten 10 0) (write_from formula 0 0 cs (cards_bytes cs))) (le-ltb room (length (cards_bytes cs)) h)
        ∙ from-there 0 (cards_bytes cs) v
