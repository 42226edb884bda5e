-- A card's two checked lines with one byte replaced are no more the two checked lines of a card with the right check. Assumes nothing.
use mathlib.Core.Path.{◌≡◌, refl, sym, ap, subst, ◌∙◌}
use mathlib.Core.List.{List, [], ◌∷◌, ◌++◌, append_assoc}
use Prim.Native.Nat.{ℕ, zero, suc, ◌+◌, ◌≤◌, ◌<◌}
use native.Mathlib.Omega.{arith}
use native.Mathlib.Decide.{ℕ_discrete}
use lib.ListN.{length, length-append}
use Rattle.card_laws.specs.Lines.{ended, Lacks}
use Rattle.card_laws.specs.Cards.{target_key, expr_key, check_key, card_key, check_of, checked_lines}
use Rattle.card_laws.proofs.Lines.{lacks-append, lacks-left, lacks-right, lacks-tail, lacks-cons, SameLine, same_line}
use Rattle.card_laws.proofs.Cards.{ended-append}
use Rattle.card_laws.proofs.Weights.{changed}

-- ---- where a byte y of a line a and what follows it stands: p before it, q behind it
pub data Place (a r p q : List ℕ) (y : ℕ) : Type 0 where
  inside : (q' : List ℕ) → a ≡ p ++ y ∷ q' → q ≡ ended q' r → Place a r p q y
  at-end : p ≡ a → y ≡ 10 → q ≡ r → Place a r p q y
  beyond : (p' : List ℕ) → p ≡ ended a p' → r ≡ p' ++ y ∷ q → Place a r p q y

pub placed : (a r p q : List ℕ) (y : ℕ) → ended a r ≡ p ++ y ∷ q → Place a r p q y
placed [] r [] q y e = at-end refl (cc) (cc)
placed [] r (c ∷ p) q y e = let h : 10 ≡ c = cc in beyond p (cc) (cc)
placed (d ∷ a) r [] q y e = let h : d ≡ y = cc in inside a (cc) (cc)
placed (d ∷ a) r (c ∷ p) q y e = go (placed a r p q y (cc))
  where
    go : Place a r p q y → Place (d ∷ a) r (c ∷ p) q y
    go (inside q' u v) = let h : d ≡ c = cc in inside q' (cc) v
    go (at-end u v w) = let h : d ≡ c = cc in at-end (cc) v w
    go (beyond p' u v) = let h : d ≡ c = cc in beyond p' (cc) v

-- ---- what may follow a card: nothing, or bytes that begin as a card does
pub data Follows : List ℕ → Type 0 where
  nothing : Follows []
  another : (r : List ℕ) → Follows (card_key ++ r)

differ : {c d : ℕ} {s t : List ℕ} → (c ≡ d → ⊥) → c ∷ s ≡ d ∷ t → ⊥
differ {c} {d} n e = n (cc)

no-check-line : {r : List ℕ} (k s : List ℕ) → Follows r → r ≡ ended (check_key ++ k) s → ⊥
no-check-line k s nothing e = let z : ◌≡◌ {A = ℕ} 0 1 = cc in omega arith
no-check-line k s (another r) e = let z : ◌≡◌ {A = ℕ} 97 104 = cc in omega arith

same_key : (key s t : List ℕ) → key ++ s ≡ key ++ t → s ≡ t
same_key [] s t e = e
same_key (c ∷ key) s t e = same_key key s t (cc)

-- t, e, k are the card's own target, expression and check; t', e', k' what is read of the changed bytes
module _ (t e k r t' e' k' r' : List ℕ) (lt : Lacks 10 t) (le : Lacks 10 e) (lk : Lacks 10 k) (lt' : Lacks 10 t') (le' : Lacks 10 e') (lk' : Lacks 10 k')
    (no_k : Lacks 107 e) (follows : Follows r) (short : length (checked_lines t e) ≤ 2062)
    (check : ℕ → List ℕ) (exact : (m n : ℕ) → m < 65521 → n < 65521 → check m ≡ check n → m ≡ n)
    (right : k ≡ check (check_of (checked_lines t e))) (right' : k' ≡ check (check_of (checked_lines t' e'))) where
  abbrev a : List ℕ
  a = target_key ++ t

  abbrev b : List ℕ
  b = expr_key ++ e

  abbrev c : List ℕ
  c = check_key ++ k

  abbrev Reads : List ℕ → Type 0
  Reads s = s ≡ ended (target_key ++ t') (ended (expr_key ++ e') (ended (check_key ++ k') r'))

  -- the changed bytes as three lines
  record Three (l m n : List ℕ) : Type 0 where
    first : l ≡ target_key ++ t'
    second : m ≡ expr_key ++ e'
    third : n ≡ check_key ++ k'

  three : (l m n s : List ℕ) → Lacks 10 l → Lacks 10 m → Lacks 10 n → Reads (ended l (ended m (ended n s))) → Three l m n
  three l m n s f g h w =
      let one = same_line l (target_key ++ t') (ended m (ended n s)) (ended (expr_key ++ e') (ended (check_key ++ k') r')) f lt' w in
      let two = same_line m (expr_key ++ e') (ended n s) (ended (check_key ++ k') r') g le' one.rest in
      let tri = same_line n (check_key ++ k') s r' h lk' two.rest in
      record { first = one.line; second = two.line; third = tri.line }

  -- the same number of lines as before: the checks differ
  module _ (p q : List ℕ) (x y : ℕ) (n : x ≡ y → ⊥) (bx : x < 256) (by : y < 256) (old : checked_lines t e ≡ p ++ y ∷ q) where
    equal-lines : (l m : List ℕ) → p ++ x ∷ q ≡ ended l (ended m []) → Lacks 10 l → Lacks 10 m → Reads (ended l (ended m (ended c r))) → ⊥
    equal-lines l m new f g w =
        let h : Three l m c = three l m c r f g lk w in
        let same : k ≡ k' = same_key check_key k k' h.third in
        let lines : p ++ x ∷ q ≡ checked_lines t' e' = new ∙ ap (λ (z : List ℕ). ended z (ended m [])) h.first
        ∙ ap (λ (z : List ℕ). ended (target_key ++ t') (ended z [])) h.second in
        let sums : check_of (checked_lines t' e') ≡ check_of (checked_lines t e) = exact _ _ (omega arith) (omega arith) (sym right' ∙ sym same ∙ right) in
        changed p q x y (omega (arith, short, ap length old, length-append p (y ∷ q))) n bx by (ap check_of lines ∙ sums ∙ ap check_of old)

    -- a byte of the first line, not its end
    in-first : (q' : List ℕ) → a ≡ p ++ y ∷ q' → q ≡ ended q' (ended b []) → Reads (ended (p ++ x ∷ q') (ended b (ended c r))) → ⊥
    in-first q' u v w = go (ℕ_discrete x 10)
      where
        fa : Lacks 10 (p ++ y ∷ q')
        fa = subst (Lacks 10) u lt

        fq : Lacks 10 q'
        fq = lacks-tail 10 y q' (lacks-right 10 p (y ∷ q') fa)

        go : Dec (x ≡ 10) → ⊥
        go (yes z) =
            let w' : Reads (ended p (ended q' (ended b (ended c r)))) = sym (append_assoc p (10 ∷ q') (10 ∷ ended b (ended c r)))
            ∙ subst (λ (i : ℕ). Reads (ended (p ++ i ∷ q') (ended b (ended c r)))) z w in
            differ (λ i. omega arith) (three p q' b (ended c r) (lacks-left 10 p (y ∷ q') fa) fq le w').third
        go (no z) =
            equal-lines (p ++ x ∷ q') b (ap (λ (l : List ℕ). p ++ x ∷ l) v ∙ sym (append_assoc p (x ∷ q') (10 ∷ ended b [])))
            (lacks-append 10 p (x ∷ q') (lacks-left 10 p (y ∷ q') fa) (lacks-cons 10 x q' z fq)) le w

    -- a byte of the second line, not its end
    in-second : (p' q' : List ℕ) → p ≡ ended a p' → b ≡ p' ++ y ∷ q' → q ≡ ended q' [] → Reads (ended a (ended (p' ++ x ∷ q') (ended c r))) → ⊥
    in-second p' q' i u v w = go (ℕ_discrete x 10)
      where
        fb : Lacks 10 (p' ++ y ∷ q')
        fb = subst (Lacks 10) u le

        fq : Lacks 10 q'
        fq = lacks-tail 10 y q' (lacks-right 10 p' (y ∷ q') fb)

        kq : Lacks 107 q'
        kq = lacks-tail 107 y q' (lacks-right 107 p' (y ∷ q') (subst (Lacks 107) u no_k))

        has-k : (s : List ℕ) → Lacks 107 (check_key ++ s) → ⊥
        has-k s h = let z : ◌≡◌ {A = ℕ} 0 1 = cc in omega arith

        go : Dec (x ≡ 10) → ⊥
        go (yes z) =
            let w' : Reads (ended a (ended p' (ended q' (ended c r)))) =
            ap (λ (l : List ℕ). ended a l) (sym (append_assoc p' (10 ∷ q') (10 ∷ ended c r)))
            ∙ subst (λ (j : ℕ). Reads (ended a (ended (p' ++ j ∷ q') (ended c r)))) z w in
            has-k k' (subst (Lacks 107) (three a p' q' (ended c r) lt (lacks-left 10 p' (y ∷ q') fb) fq w').third kq)
        go (no z) =
            let new : p ++ x ∷ q ≡ ended a (ended (p' ++ x ∷ q') []) =
            ap (λ (l : List ℕ). l ++ x ∷ q) i ∙ ended-append a p' (x ∷ q) ∙ ap (λ (l : List ℕ). ended a (p' ++ x ∷ l)) v
            ∙ ap (ended a) (sym (append_assoc p' (x ∷ q') (10 ∷ []))) in
            equal-lines a (p' ++ x ∷ q') new lt (lacks-append 10 p' (x ∷ q') (lacks-left 10 p' (y ∷ q') fb) (lacks-cons 10 x q' z fq)) w

    -- the first line's end
    first-end : y ≡ 10 → Reads (ended (a ++ x ∷ b) (ended c r)) → ⊥
    first-end z w =
        let m : x ≡ 10 → ⊥ = λ i. n (i ∙ sym z) in
        let one = same_line (a ++ x ∷ b) (target_key ++ t') (ended c r) (ended (expr_key ++ e') (ended (check_key ++ k') r'))
        (lacks-append 10 a (x ∷ b) lt (lacks-cons 10 x b m le)) lt' w in
        differ (λ i. omega arith) (same_line c (expr_key ++ e') r (ended (check_key ++ k') r') lk le' one.rest).line

    -- the second line's end
    second-end : y ≡ 10 → Reads (ended a (ended (b ++ x ∷ c) r)) → ⊥
    second-end z w =
        let m : x ≡ 10 → ⊥ = λ i. n (i ∙ sym z) in
        let one = same_line a (target_key ++ t') (ended (b ++ x ∷ c) r) (ended (expr_key ++ e') (ended (check_key ++ k') r')) lt lt' w in
        let two = same_line (b ++ x ∷ c) (expr_key ++ e') r (ended (check_key ++ k') r')
        (lacks-append 10 b (x ∷ c) le (lacks-cons 10 x c m lk)) le' one.rest in
        no-check-line k' r' follows two.rest

    never : (l : List ℕ) (d : ℕ) (s : List ℕ) → [] ≡ l ++ d ∷ s → ⊥
    never [] d s w = let z : ◌≡◌ {A = ℕ} 0 1 = cc in omega arith
    never (i ∷ l) d s w = let z : ◌≡◌ {A = ℕ} 0 1 = cc in omega arith

    pub refuted : Reads ((p ++ x ∷ q) ++ ended c r) → ⊥
    refuted w = go (placed a (ended b []) p q y old)
      where
        lower : (p' : List ℕ) → p ≡ ended a p' → Place b [] p' q y → ⊥
        lower p' i (inside q' u v) =
            let s : (p ++ x ∷ q) ++ ended c r ≡ ended a (ended (p' ++ x ∷ q') (ended c r)) =
            ap (λ (l : List ℕ). (l ++ x ∷ q) ++ ended c r) i ∙ ap (λ (l : List ℕ). l ++ ended c r) (ended-append a p' (x ∷ q))
            ∙ ended-append a (p' ++ x ∷ q) (ended c r)
            ∙ ap (ended a) (ap (λ (l : List ℕ). (p' ++ x ∷ l) ++ ended c r) v ∙ append_assoc p' (x ∷ ended q' []) (ended c r)
            ∙ ap (λ (l : List ℕ). p' ++ x ∷ l) (ended-append q' [] (ended c r))
            ∙ sym (append_assoc p' (x ∷ q') (10 ∷ ended c r))) in
            in-second p' q' i u v (sym s ∙ w)
        lower p' i (at-end u v j) =
            let s : (p ++ x ∷ q) ++ ended c r ≡ ended a (ended (b ++ x ∷ c) r) =
            ap (λ (l : List ℕ). (l ++ x ∷ q) ++ ended c r) i ∙ ap (λ (l : List ℕ). l ++ ended c r) (ended-append a p' (x ∷ q))
            ∙ ended-append a (p' ++ x ∷ q) (ended c r)
            ∙ ap (ended a) (ap (λ (l : List ℕ). (l ++ x ∷ q) ++ ended c r) u ∙ ap (λ (l : List ℕ). (b ++ x ∷ l) ++ ended c r) j
            ∙ append_assoc b (x ∷ []) (ended c r) ∙ sym (append_assoc b (x ∷ c) (10 ∷ r))) in
            second-end v (sym s ∙ w)
        lower p' i (beyond p'' u v) = never p'' y q v

        go : Place a (ended b []) p q y → ⊥
        go (inside q' u v) =
            let s : (p ++ x ∷ q) ++ ended c r ≡ ended (p ++ x ∷ q') (ended b (ended c r)) =
            ap (λ (l : List ℕ). (p ++ x ∷ l) ++ ended c r) v ∙ append_assoc p (x ∷ ended q' (ended b [])) (ended c r)
            ∙ ap (λ (l : List ℕ). p ++ x ∷ l) (ended-append q' (ended b []) (ended c r) ∙ ap (ended q') (ended-append b [] (ended c r)))
            ∙ sym (append_assoc p (x ∷ q') (10 ∷ ended b (ended c r))) in
            in-first q' u v (sym s ∙ w)
        go (at-end u v j) =
            let s : (p ++ x ∷ q) ++ ended c r ≡ ended (a ++ x ∷ b) (ended c r) =
            ap (λ (l : List ℕ). (l ++ x ∷ q) ++ ended c r) u ∙ ap (λ (l : List ℕ). (a ++ x ∷ l) ++ ended c r) j ∙ append_assoc a (x ∷ ended b []) (ended c r)
            ∙ ap (λ (l : List ℕ). a ++ x ∷ l) (ended-append b [] (ended c r)) ∙ sym (append_assoc a (x ∷ b) (10 ∷ ended c r)) in
            first-end v (sym s ∙ w)
        go (beyond p' u v) = lower p' u (placed b [] p' q y v)
