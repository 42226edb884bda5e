-- The theorems of the salvage: `again` is `intact` of `whole`.
use mathlib.Core.Path.{◌≡◌, refl, sym, ap, subst, ◌∙◌}
use mathlib.Core.Logic.{◌⊎◌, ⊎_elim}
use mathlib.Core.Bool.{Bool, true, false, ◌&&◌, cond, and-false}
use mathlib.Core.List.{List, [], ◌∷◌, ◌++◌, append_assoc, append-nil}
use Prim.Native.Nat.{ℕ, zero, suc, ◌+◌, ◌≤◌, ◌<◌}
use native.Mathlib.Omega.{arith}
use lib.Dec.{leb}
use borrow.Author.Tests.{le-leb, lt-leb}
use lib.ListN.{length, take, drop, length-append}
use lib.Seq.{drop-append_seam, take-append_seam}
use Rattle.card_laws.specs.Verdicts.{Verdict}
use Rattle.card_laws.specs.Lines.{ended, begins}
use Rattle.card_laws.specs.Cards.{Card, card, number_of, card_key, check_text, card_bytes, cards_bytes, Form, formed, out, card_form}
use Rattle.card_laws.specs.Reading.{CardRead, taken, refused, judged, good, read_cards, GoodCard, good_card, Valid, none, next}
use Rattle.card_laws.specs.Theorems.{JudgeLaws}
use Rattle.card_laws.specs.Formulas.{formula_answer}
use Rattle.card_laws.proofs.Cards.{form-is, form-card, judged-is, judged-there, from-form, Stands}
use Rattle.card_laws.proofs.Reading.{sound, back}
use Rattle.card_laws.proofs.Formulas.{judge-laws}
use Rattle.salvage_laws.specs.Cut.{joined}
use Rattle.salvage_laws.specs.Salvage.{card_follows, parts, exact_form, PartAnswer, keeps, leaves, answer_of, last_kept, Part, part, part_bytes}
use Rattle.salvage_laws.specs.Salvage.{all_bytes, kept_before, kept_bytes, card_before, kept_cards, name_lines, named_before, named_bytes, fits}
use Rattle.salvage_laws.specs.Salvage.{rescued, unfit, part_answer, classify_parts, salvaged, salvage}
use Rattle.salvage_laws.specs.Theorems.{Placed, over, then, Untouched, Spared, Among, no_more, kept_card, left_out, last_number, SalvageTheorems}
use Rattle.salvage_laws.proofs.Names.{names}
use Rattle.salvage_laws.proofs.Parts.{Follows, nothing, another, cut-joined, card-part, cards-follow, parts-append, begins-append}

module _ (formula : List ℕ → List ℕ → Verdict) (laws : JudgeLaws formula) where
  abbrev classify : ℕ → ℕ → List (List ℕ) → List Part
  classify = classify_parts formula

  classify-bytes : (last at : ℕ) (ps : List (List ℕ)) → all_bytes (classify last at ps) ≡ joined ps
  classify-bytes last at [] = refl
  classify-bytes last at (p ∷ ps) = ap (λ (l : List ℕ). p ++ l) (classify-bytes (last_kept last (part_answer formula last p)) (at + length p) ps)

  classify-placed : (last at : ℕ) (ps : List (List ℕ)) → Placed at (classify last at ps)
  classify-placed last at [] = over
  classify-placed last at (p ∷ ps) = then (classify-placed (last_kept last (part_answer formula last p)) (at + length p) ps)

  cover : (f : List ℕ) → all_bytes (salvaged formula f) ≡ f
  cover f = classify-bytes 0 0 (parts f) ∙ cut-joined card_follows f

  -- ---- a kept part is a good card
  record GoodPart (last : ℕ) (p : List ℕ) (c : Card) : Type 0 where
    bytes : p ≡ card_bytes c
    good : GoodCard formula last c

  keeps-good : (last : ℕ) (p : List ℕ) (c : Card) → part_answer formula last p ≡ keeps c → GoodPart last p c
  unfolding judged
  keeps-good last p c h = go (card_form p) refl h
    where
      judge-it : (n : ℕ) (t e k : List ℕ) → card_form p ≡ formed n t e k [] → (x : CardRead) → judged formula last (formed n t e k []) ≡ x
          → answer_of x ≡ keeps c → GoodPart last p c
      judge-it n t e k q (refused a) u w = absurd (let z : ◌≡◌ {A = ℕ} 0 1 = cc in omega arith)
      judge-it n t e k q (taken c' r) u w =
          let ec : c' ≡ c = cc in
          let j = judged-is formula last n t e k [] c' r u in
          let i : Stands formula last p c' r = from-form formula last p n t e k [] c' r (form-is p n t e k [] q) j in
          let b : p ≡ card_bytes c' = i.bytes ∙ ap (λ (l : List ℕ). card_bytes c' ++ l) (sym j.rest) ∙ append-nil (card_bytes c') in
          subst (GoodPart last p) ec (record { bytes = b; good = i.good })

      go : (f : Form) → card_form p ≡ f → answer_of (judged formula last (exact_form f)) ≡ keeps c → GoodPart last p c
      go out q w = absurd (let z : ◌≡◌ {A = ℕ} 0 1 = cc in omega arith)
      go (formed n t e k []) q w = judge-it n t e k q (judged formula last (formed n t e k [])) refl w
      go (formed n t e k (d ∷ r)) q w =
          let none : answer_of (judged formula last out) ≡ keeps c = w in
          absurd (let z : ◌≡◌ {A = ℕ} 0 1 = cc in omega arith)

  good-keeps : {last : ℕ} {c : Card} → GoodCard formula last c → part_answer formula last (card_bytes c) ≡ keeps c
  good-keeps {last} (good_card {n} {t} {e} h b a) =
      let f : card_form (card_bytes (card n t e)) ≡ formed n t e (check_text t e) [] =
      ap card_form (sym (append-nil (card_bytes (card n t e)))) ∙ form-card n t e [] (omega arith) b (laws.target_line t e a) (laws.expr_line t e a) in
      ap (λ (x : Form). answer_of (judged formula last (exact_form x))) f ∙ ap answer_of (judged-there formula last n t e [] h a)

  -- ---- the kept parts are good cards in turn
  record Booked (last : ℕ) (ps : List Part) : Type 0 where
    bytes : kept_bytes ps ≡ cards_bytes (kept_cards ps)
    valid : Valid formula last (kept_cards ps)

  booked : (last at : ℕ) (ps : List (List ℕ)) → Booked last (classify last at ps)
  booked last at [] = record { bytes = refl; valid = none }
  booked last at (p ∷ ps) = go (part_answer formula last p) refl (λ l. booked l (at + length p) ps)
    where
      go : (a : PartAnswer) → part_answer formula last p ≡ a → ((l : ℕ) → Booked l (classify l (at + length p) ps))
          → Booked last (part at p a ∷ classify (last_kept last a) (at + length p) ps)
      go (leaves a) q r = record { bytes = (r last).bytes; valid = (r last).valid }
      go (keeps c) q r =
          let i = r (number_of c) in
          let g : GoodPart last p c = keeps-good last p c q in
          let rest : List Part = classify (number_of c) (at + length p) ps in
          record {
            bytes = ap (λ (l : List ℕ). l ++ kept_bytes rest) g.bytes ∙ ap (λ (l : List ℕ). card_bytes c ++ l) i.bytes;
            valid =
                next g.good i.valid;
          }

  whole : (f : List ℕ) → read_cards formula (kept_bytes (salvaged formula f)) ≡ good (kept_cards (salvaged formula f))
  whole f = let b : Booked 0 (salvaged formula f) = booked 0 0 (parts f) in ap (read_cards formula) b.bytes
      ∙ back formula laws (kept_cards (salvaged formula f)) b.valid

  -- ---- good cards before what follows
  record Before (ks : List Card) (ps qs : List Part) : Type 0 where
    bytes : kept_bytes ps ≡ cards_bytes ks ++ kept_bytes qs
    cards : kept_cards ps ≡ ks ++ kept_cards qs
    named : named_bytes ps ≡ named_bytes qs

  through : {last : ℕ} {ks : List Card} (at : ℕ) (s : List ℕ) → Follows s → Valid formula last ks
      → Before ks (classify last at (parts (cards_bytes ks ++ s))) (classify (last_number last ks) (at + length (cards_bytes ks)) (parts s))
  through {last} at s w none = let z : at ≡ at + 0 = omega arith in
      subst (λ (m : ℕ). Before [] (classify last at (parts s)) (classify last m (parts s))) z (record { bytes = refl; cards = refl; named = refl })
  through {last} at s w (next {c = k} {cs = ks} c v) =
      let r : List ℕ = cards_bytes ks ++ s in
      let rest : List Part = classify (last_number (number_of k) ks) (at + length (card_bytes k) + length (cards_bytes ks)) (parts s) in
      let cuts : parts ((card_bytes k ++ cards_bytes ks) ++ s) ≡ card_bytes k ∷ parts r = ap parts (append_assoc (card_bytes k) (cards_bytes ks) s)
      ∙ card-part formula laws r c (cards-follow formula laws v w) in
      let place : at + length (card_bytes k) + length (cards_bytes ks) ≡ at + length (card_bytes k ++ cards_bytes ks) =
      omega (arith, length-append (card_bytes k) (cards_bytes ks)) in
      let i : Before ks (classify (number_of k) (at + length (card_bytes k)) (parts r)) rest = through (at + length (card_bytes k)) s w v in
      let a : Before (k ∷ ks) (part at (card_bytes k) (keeps k) ∷ classify (last_kept last (keeps k)) (at + length (card_bytes k)) (parts r)) rest =
      record {
        bytes = ap (λ (l : List ℕ). card_bytes k ++ l) i.bytes ∙ sym (append_assoc (card_bytes k) (cards_bytes ks) (kept_bytes rest));
        cards =
            ap (λ (l : List Card). k ∷ l) i.cards;
        named = i.named;
      } in
      let b : Before (k ∷ ks) (classify last at (card_bytes k ∷ parts r)) rest =
      subst (λ (x : PartAnswer). Before (k ∷ ks) (part at (card_bytes k) x ∷ classify (last_kept last x) (at + length (card_bytes k)) (parts r)) rest)
      (sym (good-keeps c)) a in
      subst (λ (m : ℕ). Before (k ∷ ks) (classify last at (parts ((card_bytes k ++ cards_bytes ks) ++ s)))
      (classify (last_number (number_of k) ks) m (parts s))) place
      (subst (λ (ps : List (List ℕ)). Before (k ∷ ks) (classify last at ps) rest) (sym cuts) b)

  intact : (f : List ℕ) (cs : List Card) → read_cards formula f ≡ good cs → Untouched formula f cs
  intact f cs h =
      let k : (f ≡ cards_bytes cs) × Valid formula 0 cs = sound formula f cs h in
      let e : f ≡ cards_bytes cs ++ [] = k.0 ∙ sym (append-nil (cards_bytes cs)) in
      let b : Before cs (salvaged formula (cards_bytes cs ++ [])) [] = through 0 [] nothing k.1 in
      subst (λ (l : List ℕ). Untouched formula l cs) (sym e) (record { bytes = b.bytes; cards = b.cards ∙ append-nil cs; named = b.named })

  isolated : (ks bs : List Card) (l : List ℕ) (a : ℕ) → Valid formula 0 ks → Valid formula (last_number 0 ks) bs → begins card_key (ended l []) ≡ true
      → parts (ended l []) ≡ ended l [] ∷ [] → part_answer formula (last_number 0 ks) (ended l []) ≡ leaves a → Spared formula ks bs (ended l []) a
  isolated ks bs l a v w b one x =
      let p : List ℕ = ended l [] in
      let s : List ℕ = p ++ cards_bytes bs in
      let last : ℕ = last_number 0 ks in
      let at : ℕ = 0 + length (cards_bytes ks) in
      let place : at ≡ length (cards_bytes ks) = omega arith in
      let follow : Follows (cards_bytes bs) = subst Follows (append-nil (cards_bytes bs)) (cards-follow formula laws w nothing) in
      let cuts : parts s ≡ p ∷ parts (cards_bytes bs) = parts-append l follow ∙ ap (λ (y : List (List ℕ)). y ++ parts (cards_bytes bs)) one in
      let i : Before ks (salvaged formula (cards_bytes ks ++ s)) (classify last at (parts s)) =
      through 0 s (another (begins-append card_key p (cards_bytes bs) b)) v in
      let rest : List Part = classify last (at + length p) (parts (cards_bytes bs)) in
      let mid : classify last at (parts s) ≡ part at p (leaves a) ∷ rest =
      ap (classify last at) cuts ∙ ap (λ (y : PartAnswer). part at p y ∷ classify (last_kept last y) (at + length p) (parts (cards_bytes bs))) x in
      let k : Before bs rest [] = subst (λ (y : List ℕ). Before bs (classify last (at + length p) (parts y)) []) (append-nil (cards_bytes bs))
      (through (at + length p) [] nothing w) in
      record {
        bytes = i.bytes ∙ ap (λ (y : List ℕ). cards_bytes ks ++ y) (ap kept_bytes mid ∙ k.bytes ∙ append-nil (cards_bytes bs));
        cards = i.cards ∙ ap (λ (y : List Card). ks ++ y) (ap kept_cards mid ∙ k.cards ∙ append-nil bs);
        named =
            i.named ∙ ap named_bytes mid ∙ ap (λ (y : List ℕ). name_lines at (length p) a ++ y) k.named ∙ append-nil (name_lines at (length p) a)
            ∙ ap (λ (m : ℕ). name_lines m (length p) a) place;
      }

  -- ---- several parts that are left out
  among-follow : {last : ℕ} {cs : List Card} {ps : List (List ℕ)} → Among formula last cs ps → Follows (joined ps)
  among-follow no_more = nothing
  among-follow (kept_card {c = card n t e} g m) = another refl
  among-follow (left_out l {ps = ps} b one x m) = another (begins-append card_key (ended l []) (joined ps) b)

  among-cuts : {last : ℕ} {cs : List Card} {ps : List (List ℕ)} → Among formula last cs ps → parts (joined ps) ≡ ps
  among-cuts no_more = refl
  among-cuts (kept_card {c = c} {ps = ps} g m) = card-part formula laws (joined ps) g (among-follow m)
      ∙ ap (λ (qs : List (List ℕ)). card_bytes c ∷ qs) (among-cuts m)
  among-cuts (left_out l {ps = ps} b one x m) =
      parts-append l (among-follow m) ∙ ap (λ (qs : List (List ℕ)). qs ++ parts (joined ps)) one ∙ ap (λ (qs : List (List ℕ)). ended l [] ∷ qs) (among-cuts m)

  record Keeping (cs : List Card) (ps : List Part) : Type 0 where
    bytes : kept_bytes ps ≡ cards_bytes cs
    cards : kept_cards ps ≡ cs

  among-kept : {last : ℕ} {cs : List Card} {ps : List (List ℕ)} (at : ℕ) → Among formula last cs ps → Keeping cs (classify last at ps)
  among-kept at no_more = record { bytes = refl; cards = refl }
  among-kept {last} at (kept_card {c = c} {cs = cs} {ps = ps} g m) =
      let i : Keeping cs (classify (number_of c) (at + length (card_bytes c)) ps) = among-kept (at + length (card_bytes c)) m in
      subst (λ (x : PartAnswer). Keeping (c ∷ cs) (part at (card_bytes c) x ∷ classify (last_kept last x) (at + length (card_bytes c)) ps)) (sym (good-keeps g))
      (record { bytes = ap (λ (l : List ℕ). card_bytes c ++ l) i.bytes; cards = ap (λ (l : List Card). c ∷ l) i.cards })
  among-kept {last} at (left_out l {cs = cs} {ps = ps} b one x m) =
      let i : Keeping cs (classify last (at + length (ended l [])) ps) = among-kept (at + length (ended l [])) m in
      subst (λ (y : PartAnswer). Keeping cs (part at (ended l []) y ∷ classify (last_kept last y) (at + length (ended l [])) ps)) (sym x)
      (record { bytes = i.bytes; cards = i.cards })

  spares : (cs : List Card) (ps : List (List ℕ)) → Among formula 0 cs ps
      → (salvaged formula (joined ps) ≡ classify_parts formula 0 0 ps) × (kept_bytes (salvaged formula (joined ps)) ≡ cards_bytes cs)
      × (kept_cards (salvaged formula (joined ps)) ≡ cs)
  spares cs ps m =
      let e : salvaged formula (joined ps) ≡ classify 0 0 ps = ap (classify 0 0) (among-cuts m) in
      let k : Keeping cs (classify 0 0 ps) = among-kept 0 m in
      (e, ap kept_bytes e ∙ k.bytes, ap kept_cards e ∙ k.cards)

  -- ---- where a kept part stands
  never : (before after : List Part) (x : Part) → [] ≡ before ++ x ∷ after → ⊥
  never [] after x e = let z : ◌≡◌ {A = ℕ} 0 1 = cc in omega arith
  never (b ∷ before) after x e = let z : ◌≡◌ {A = ℕ} 0 1 = cc in omega arith

  record Found (at first : ℕ) (before : List Part) (p : List ℕ) (c : Card) : Type 0 where
    place : first ≡ at + length (all_bytes before)
    bytes : p ≡ card_bytes c

  found : (last at : ℕ) (ps : List (List ℕ)) (before after : List Part) (first : ℕ) (p : List ℕ) (c : Card)
      → classify last at ps ≡ before ++ part first p (keeps c) ∷ after → Found at first before p c
  found last at [] before after first p c e = absurd (never before after (part first p (keeps c)) e)
  found last at (q ∷ qs) [] after first p c e =
      let ef : at ≡ first = cc in
      let eq : q ≡ p = cc in
      let ea : part_answer formula last q ≡ keeps c = cc in
      record { place = omega arith; bytes = sym eq ∙ (keeps-good last q c ea).bytes }
  found last at (q ∷ qs) (b ∷ before) after first p c e =
      let eb : part at q (part_answer formula last q) ≡ b = cc in
      let en : q ≡ part_bytes b = ap part_bytes eb in
      let i : Found (at + length q) first before p c = found (last_kept last (part_answer formula last q)) (at + length q) qs before after first p c (cc) in
      record { place = omega (arith, i.place, length-append (part_bytes b) (all_bytes before), ap length en); bytes = i.bytes }

  bytes-append : (before after : List Part) → all_bytes (before ++ after) ≡ all_bytes before ++ all_bytes after
  bytes-append [] after = refl
  bytes-append (b ∷ before) after = ap (λ (l : List ℕ). part_bytes b ++ l) (bytes-append before after)
      ∙ sym (append_assoc (part_bytes b) (all_bytes before) (all_bytes after))

  kept : (f : List ℕ) (before after : List Part) (at : ℕ) (p : List ℕ) (c : Card) → salvaged formula f ≡ before ++ part at p (keeps c) ∷ after
      → (p ≡ card_bytes c) × (p ≡ take (length p) (drop at f))
  kept f before after at p c e =
      let i : Found 0 at before p c = found 0 0 (parts f) before after at p c e in
      let b : List ℕ = all_bytes before in
      let a : List ℕ = all_bytes after in
      let is : f ≡ b ++ (p ++ a) = sym (cover f) ∙ ap all_bytes e ∙ bytes-append before (part at p (keeps c) ∷ after) in
      let pl : at ≡ length b = omega (arith, i.place) in
      let d : drop at f ≡ p ++ a = ap (λ (n : ℕ). drop n f) pl ∙ ap (drop (length b)) is ∙ drop-append_seam b (p ++ a) in
      (i.bytes, sym (ap (take (length p)) d ∙ take-append_seam p a))

  -- ---- what an answer depends on
  answered : (last at : ℕ) (ps : List (List ℕ)) (before after : List Part) (first : ℕ) (p : List ℕ) (a : PartAnswer)
      → classify last at ps ≡ before ++ part first p a ∷ after
      → a ≡ part_answer formula (last_number last (kept_cards before)) p
  answered last at [] before after first p a e = absurd (never before after (part first p a) e)
  answered last at (q ∷ qs) [] after first p a e =
      let eq : q ≡ p = cc in
      let ea : part_answer formula last q ≡ a = cc in
      sym ea ∙ ap (part_answer formula last) eq
  answered last at (q ∷ qs) (b ∷ before) after first p a e =
      let eb : part at q (part_answer formula last q) ≡ b = cc in
      answered (last_kept last (part_answer formula last q)) (at + length q) qs before after first p a (cc)
      ∙ ap (λ (n : ℕ). part_answer formula n p) (by (part_answer formula last q) ∙ ap (λ (x : Part). last_number last (kept_cards (x ∷ before))) eb)
    where
      by : (x : PartAnswer) → last_number (last_kept last x) (kept_cards before) ≡ last_number last (kept_cards (part at q x ∷ before))
      by (keeps c) = refl
      by (leaves d) = refl

  -- ---- sizes
  kept-short : (ps : List Part) → length (kept_bytes ps) ≤ length (all_bytes ps)
  kept-short [] = omega arith
  kept-short (part at p (keeps c) ∷ ps) = omega (arith, length-append p (kept_bytes ps), length-append p (all_bytes ps), kept-short ps)
  kept-short (part at p (leaves a) ∷ ps) = omega (arith, length-append p (all_bytes ps), kept-short ps)

  refuses : (room room' : ℕ) (f : List ℕ) → (room < length (kept_bytes (salvaged formula f))) ⊎ (room' < length (named_bytes (salvaged formula f)))
      → salvage formula room room' f ≡ unfit
  refuses room room' f h = ap (λ (t : Bool). cond t (rescued k n) unfit) (⊎_elim first second h)
    where
      k : List ℕ
      k = kept_bytes (salvaged formula f)

      n : List ℕ
      n = named_bytes (salvaged formula f)

      first : room < length k → fits room room' (salvaged formula f) ≡ false
      first x = ap (λ (t : Bool). t && leb (length n) room') (lt-leb (length k) room x)

      second : room' < length n → fits room room' (salvaged formula f) ≡ false
      second x = ap (λ (t : Bool). leb (length k) room && t) (lt-leb (length n) room' x) ∙ and-false (leb (length k) room)

  rescues : (room room' : ℕ) (f : List ℕ) → length (kept_bytes (salvaged formula f)) ≤ room → length (named_bytes (salvaged formula f)) ≤ room'
      → salvage formula room room' f ≡ rescued (kept_bytes (salvaged formula f)) (named_bytes (salvaged formula f))
  rescues room room' f h h' =
      let k : List ℕ = kept_bytes (salvaged formula f) in
      let n : List ℕ = named_bytes (salvaged formula f) in
      ap (λ (t : Bool). cond (t && leb (length n) room') (rescued k n) unfit) (le-leb (length k) room h)
      ∙ ap (λ (t : Bool). cond t (rescued k n) unfit) (le-leb (length n) room' h')

  pub salvages : SalvageTheorems formula
  salvages =
      record {
        cover = λ f. (cover f, classify-placed 0 0 (parts f));
        kept = kept;
        valid_kept = λ last c g. good-keeps g;
        whole = whole;
        intact = intact;
        again = λ f. intact (kept_bytes (salvaged formula f)) (kept_cards (salvaged formula f)) (whole f);
        isolated = isolated;
        spares = spares;
        judges = λ f before after at p a e. answered 0 0 (parts f) before after at p a e;
        shorter = λ f. subst (λ (l : List ℕ). length (kept_bytes (salvaged formula f)) ≤ length l) (cover f) (kept-short (salvaged formula f));
        names = names formula laws;
        refuses = refuses;
        rescues = rescues;
      }

pub salvage-theorems : SalvageTheorems formula_answer
salvage-theorems = salvages formula_answer judge-laws
