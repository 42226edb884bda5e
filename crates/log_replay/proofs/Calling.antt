-- One call, by the ways that it can end. Assumes nothing.
use mathlib.Core.Path.{◌≡◌, refl, sym, ap, subst, ◌∙◌}
use mathlib.Core.Bool.{Bool, true, false, cond}
use mathlib.Core.Logic.{◌⊎◌, inl, inr}
use mathlib.Core.List.{List, [], ◌∷◌, ◌++◌, append-nil}
use Prim.Native.Nat.{ℕ, ◌+◌, ◌-◌, ◌*◌, ◌%◌, ◌^◌, ◌≤◌, ◌<◌, min}
use native.Mathlib.Nat.{zero-add}
use native.Mathlib.Omega.{arith}
use lib.Dec.{ltb}
use lib.ListN.{length, take, drop, get_or, replicate, length-drop, length-replicate, drop_of_length-le}
use lib.Seq.{sets, sets-eq, get_or-take, drop-length, take_all}
use borrow.Author.Tests.{lt-ltb, le-ltb, ltb-true, ltb-false, eq-eqb, ne_eqb}
use Rattle.memory.specs.Layout.{image_size}
use Rattle.memory.proofs.Runs.{run-written}
use Rattle.lines.specs.private.Steps.{Puts}
use Rattle.program.specs.Cases.{zeros}
use Rattle.card_laws.specs.Cards.{Card}
use Rattle.card_laws.specs.Reading.{CardsRead, good, bad, read_cards}
use Rattle.card_laws.specs.Formulas.{formula_answer}
use Rattle.card_laws.proofs.Formulas.{judge-laws}
use Rattle.card_laws.proofs.Reading.{Sizes, sizes, sound}
use Rattle.card_file.specs.Words.{cards_words, read_words}
use Rattle.card_file.proofs.read.Turns.{words_count}
use Rattle.log_laws.specs.Replay.{ReplayState, Pause, full, log_end, bad_line, lent, line_room, refusal_lines, replay_from, first_state}
use Rattle.log_laws.specs.Replay.{Called, is_over, done_at, after_replay, called_with, replay_call}
use Rattle.log_replay.specs.declared.Replayed.{Replayed}
use Rattle.log_replay.specs.declared.ReplayWords.{ReplayWords}
use Rattle.log_replay.specs.Replays.{pause_in, Plays, call_words, CallGives}
use Rattle.log_lines.specs.private.Steps.{cards_of, cards_in, state_in, Book}
use Rattle.log_replay.specs.private.Steps.{done_in, state_from}

-- ---- the state of a call's first line
module _ (m : List ℕ) (at t : ℕ) where
  pub afresh : length m ≡ image_size → at ≡ 0 → {z m' : List ℕ} {n : ℕ} → z ≡ zeros image_size → image_size ≡ length z → Puts m 0 m' n z
      → state_in m' 0 ≡ state_from m at t
  afresh l e {z} {m'} {n} f g p =
      let k : length z ≡ length m = sym g ∙ sym l in
      let whole : sets m 0 z ≡ z =
      sets-eq z m 0 (omega arith) ∙ ap (λ (i : ℕ). z ++ drop i m) (zero-add (length z) ∙ k) ∙ ap (λ (r : List ℕ). z ++ r) (drop-length m) ∙ append-nil z in
      ap (λ (x : List ℕ). state_in x 0) (p.bytes ∙ whole ∙ f) ∙ ap (λ (x : Bool). cond x first_state (state_in m (t % 2 ^ 32))) (sym (eq-eqb at 0 e))

  pub resumed : (at ≡ 0 → ⊥) → state_in m (t % 2 ^ 32) ≡ state_from m at t
  resumed e = ap (λ (x : Bool). cond x first_state (state_in m (t % 2 ^ 32))) (sym (ne_eqb at 0 e))

pub clipped : (at : ℕ) (log : List ℕ) → take (length log - min at (length log)) (drop (min at (length log)) log) ≡ drop at log
clipped at log = take_all (length log - min at (length log)) (drop (min at (length log)) log) (omega (arith, length-drop (min at (length log)) log))
    ∙ by (ltb at (length log)) refl
  where
    by : (x : Bool) → ltb at (length log) ≡ x → drop (min at (length log)) log ≡ drop at log
    by true q = let e : min at (length log) ≡ at = omega (arith, ltb-true at (length log) q) in ap (λ (n : ℕ). drop n log) e
    by false q =
        let e : min at (length log) ≡ length log = omega (arith, ltb-false at (length log) q) in
        ap (λ (n : ℕ). drop n log) e ∙ drop-length log ∙ sym (drop_of_length-le log (ltb-false at (length log) q))

over-is : (p : Pause) → done_in (pause_in p) ≡ is_over p
over-is full = refl
over-is log_end = refl
over-is bad_line = refl

pub lines-give : (cs : List Card) (n at : ℕ) {s s' : ReplayState} {l l' : List ℕ} {m out new : List ℕ} {x : Replayed} {d : ℕ} → s ≡ s' → l ≡ l'
    → Plays (replay_from cs (lent n) s at l) m out new x → d ≡ done_in x.pause
    → CallGives (after_replay (replay_from cs (lent n) s' at l')) m out new
    (record { at = x.cursor.at; tick = x.cursor.tick; done = d; written = x.written })
lines-give cs n at {s} {s'} {l} {l'} {m} {out} {new} {x} {d} e f p q =
    subst (λ (t : ReplayState). CallGives (after_replay (replay_from cs (lent n) t at l')) m out new w) e
    (subst (λ (k : List ℕ). CallGives (after_replay (replay_from cs (lent n) s at k)) m out new w) f
    (record { words = rw (p.next, p.clock, q, p.why, over-is (replay_from cs (lent n) s at l).pause); image = p.image; written = p.written }))
  where
    w : ReplayWords
    w = record { at = x.cursor.at; tick = x.cursor.tick; done = d; written = x.written }

-- ---- what the words of a reading say
record Front (words row : List ℕ) : Type 0 where
  at : (j : ℕ) → j < length row → get_or words j 0 ≡ get_or row j 0

front_of : (row words : List ℕ) → length row ≤ 323 → words ≡ sets (replicate 323 0) 0 row → Front words row
front_of row words h e =
    let t : take (length row) words ≡ row = ap (take (length row)) e ∙ run-written (replicate 323 0) 0 row (omega (arith, length-replicate {A = ℕ} 323 0)) in
    record { at = λ j l. sym (get_or-take (length row) words j 0 l) ∙ ap (λ (x : List ℕ). get_or x j 0) t }

pub data ReadAs (file words : List ℕ) : Type 0 where
  fine : get_or words 0 0 ≡ 0 → Book file words → ReadAs file words
  poor : (get_or words 0 0 ≡ 0 → ⊥) → read_cards formula_answer file ≡ bad (get_or words 0 0) (get_or words 1 0) → ReadAs file words

module _ (answers : (s : List ℕ) (a p : ℕ) → read_cards formula_answer s ≡ bad a p → ((2 ≤ a) × (a ≤ 9)) ⊎ ((16 ≤ a) × (a ≤ 18))) where
  pub read_as : (file words : List ℕ) → words ≡ read_words (read_cards formula_answer file) → ReadAs file words
  unfolding read_words cards_in
  read_as file words e = by (read_cards formula_answer file) refl e
    where
      some : {a : ℕ} → ((2 ≤ a) × (a ≤ 9)) ⊎ ((16 ≤ a) × (a ≤ 18)) → a ≡ 0 → ⊥
      some (inl h) z = omega (arith, h.0)
      some (inr h) z = omega (arith, h.0)

      by : (x : CardsRead) → read_cards formula_answer file ≡ x → words ≡ read_words x → ReadAs file words
      by (bad a p) q w =
          let f = front_of (a ∷ p ∷ []) words (omega arith) w in
          let i : get_or words 0 0 ≡ a = f.at 0 (omega arith) in
          let j : get_or words 1 0 ≡ p = f.at 1 (omega arith) in
          poor (λ z. some (answers file a p q) (sym i ∙ z)) (q ∙ ap (λ (n : ℕ). bad n p) (sym i) ∙ ap (bad (get_or words 0 0)) (sym j))
      by (good cs) q w =
          let s = sound formula_answer file cs q in
          let z : Sizes formula_answer judge-laws 0 cs = sizes formula_answer judge-laws s.1 in
          let row : List ℕ = 0 ∷ 0 ∷ length cs ∷ cards_words 0 cs in
          let n : length row ≡ 3 + 5 * length cs = omega (arith, words_count 0 cs) in
          let few : length cs ≤ 64 = omega (arith, z.rises, z.most (omega arith)) in
          let f = front_of row words (omega (arith, n, few)) w in
          let same : cards_of (read_cards formula_answer file) ≡ cs = ap cards_of q in
          fine (f.at 0 (omega (arith, n))) (record { reads = q ∙ ap good (sym same); table = w ∙ ap (λ (x : List Card). read_words (good x)) (sym same) })

module _ {file words : List ℕ} where
  pub poor-is : ReadAs file words → (get_or words 0 0 ≡ 0 → ⊥) → read_cards formula_answer file ≡ bad (get_or words 0 0) (get_or words 1 0)
  poor-is (fine z b) h = absurd (h z)
  poor-is (poor z b) h = b

  pub fine-is : ReadAs file words → get_or words 0 0 ≡ 0 → Book file words
  fine-is (fine z b) h = b
  fine-is (poor z b) h = absurd (z h)

-- ---- a call, by the definition
abbrev Ends : ReplayWords → ReplayWords → ℕ → Type 0
Ends w r k = (r.at ≡ w.at) × (r.tick ≡ w.tick) × (r.done ≡ 1) × (r.written ≡ k)

module _ (file log m : List ℕ) (n : ℕ) (w : ReplayWords) where
  abbrev Call : Called
  Call = replay_call file log m n (call_words w)

  abbrev Over : List ℕ → Called
  Over t = record { words = done_at (call_words w); memory = m; text = t }

  over-gives : {t out new : List ℕ} {r : ReplayWords} {k : ℕ} → Ends w r k → Puts out 0 new k t → CallGives (Over t) m out new r
  over-gives {t} {out} {new} {r} {k} z p =
      record { words = rw (z.0, z.1, z.2); image = refl; written = subst (λ (i : ℕ). Puts out 0 new i t) (sym z.3) p }

  pub over-already : (w.done ≡ 0 → ⊥) → {out : List ℕ} {r : ReplayWords} → Ends w r 0 → CallGives Call m out out r
  over-already h {out} {r} z =
      let e : Call ≡ Over [] = rw (lt-ltb 0 w.done (omega arith)) in
      subst (λ (c : Called). CallGives c m out out r) (sym e) (over-gives z (record { bytes = refl; end = refl }))

  module _ (h : w.done ≡ 0) where
    going : ltb 0 w.done ≡ false
    going = le-ltb 0 w.done (omega arith)

    pub no_room : n < line_room → {out : List ℕ} → CallGives Call m out out (record { at = w.at; tick = w.tick; done = w.done; written = 0 })
    no_room l {out} =
        let e : Call ≡ record { words = call_words w; memory = m; text = [] } = rw (going, lt-ltb n line_room l) in
        subst (λ (c : Called). CallGives c m out out (record { at = w.at; tick = w.tick; done = w.done; written = 0 })) (sym e)
        (record { words = refl; image = refl; written = record { bytes = refl; end = refl } })

    module _ (l : line_room ≤ n) where
      pub other-size : (length m ≡ image_size → ⊥) → {out new : List ℕ} {k : ℕ} {r : ReplayWords} → Puts out 0 new k (refusal_lines 1 0) → Ends w r k
          → CallGives Call m out new r
      other-size i {out} {new} {k} {r} p z =
          let e : Call ≡ Over (refusal_lines 1 0) = rw (going, le-ltb n line_room l, ne_eqb (length m) image_size i) in
          subst (λ (c : Called). CallGives c m out new r) (sym e) (over-gives z p)

      module _ (i : length m ≡ image_size) where
        reads : {x : CardsRead} → read_cards formula_answer file ≡ x → Call ≡ called_with log m n (call_words w) x
        reads q = rw (going, le-ltb n line_room l, eq-eqb (length m) image_size i) (ap (called_with log m n (call_words w)) q)

        pub refused-file : {a p : ℕ} → read_cards formula_answer file ≡ bad a p → {out new : List ℕ} {k : ℕ} {r : ReplayWords}
            → Puts out 0 new k (refusal_lines a p) → Ends w r k
            → CallGives Call m out new r
        refused-file q {out} {new} {k} {r} p z = subst (λ (c : Called). CallGives c m out new r) (sym (reads q)) (over-gives z p)

        pub lines-of-call : read_cards formula_answer file ≡ good (cards_in file) → {m' out new : List ℕ} {r : ReplayWords}
            → CallGives (after_replay (replay_from (cards_in file) (lent n) (state_from m w.at w.tick) w.at (drop w.at log))) m' out new r
            → CallGives Call m' out new r
        lines-of-call q {m'} {out} {new} {r} g = subst (λ (c : Called). CallGives c m' out new r) (sym (reads q)) g
