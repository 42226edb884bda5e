-- A replay in calls: the image keeps its size and the tick its 32 bits, so what a call leaves is enough for the next. Assumes nothing.
use mathlib.Core.Path.{◌≡◌, refl, sym, ap, ◌∙◌}
use mathlib.Core.Bool.{Bool, true, false, cond}
use mathlib.Core.List.{List, [], ◌∷◌, ◌++◌, append-nil}
use Prim.Native.Nat.{ℕ, zero, suc, ◌+◌, ◌-◌, ◌%◌, ◌^◌, ◌≤◌, ◌<◌}
use native.Mathlib.Nat.{mod-eq_of_lt}
use native.Mathlib.Omega.{arith}
use lib.Dec.{eqb, ltb}
use lib.ListN.{length, drop, length-replicate}
use lib.Seq.{drop-drop}
use borrow.Author.Tests.{le-ltb, eq-eqb, ne_eqb}
use Rattle.memory.specs.Layout.{image_size}
use Rattle.memory.proofs.Laws.{packed-laws}
use Rattle.promises.specs.Promises.{compile-and-run}
use Rattle.promises.proofs.Promises.{promises}
use Rattle.program.specs.Cases.{zeros}
use Rattle.card_laws.specs.Cards.{Card}
use Rattle.card_laws.specs.Reading.{good, read_cards}
use Rattle.card_laws.specs.Reading as Reading
use Rattle.card_laws.specs.Formulas.{formula_answer}
use Rattle.log_laws.specs.Log.{LogEntry, change, tick, run, bad, log_lines, log_entry_of}
use Rattle.log_laws.specs.Replay.{ReplayState, first_state, AfterLine, goes, stops, FoundCard, found, lacks, card_of, after_run, after_entry}
use Rattle.log_laws.specs.Replay.{after_line, after_line_in}
use Rattle.log_laws.specs.Replay.{Pause, full, log_end, bad_line, Replay, Room, lent, endless, line_room, is_full, without, refusal_lines, onward}
use Rattle.log_laws.specs.Replay.{replay_lines, replay_from, replayed_with, replayed, CallWords, Called, is_over, after_replay, state_at, called_with}
use Rattle.log_laws.specs.Replay.{replay_call}
use Rattle.log_laws.specs.Theorems.{Calls, over, next, first_words, ReplayTheorems}
use Rattle.log_laws.proofs.Entries.{Within, of-tick, line-within}

-- ---- the image keeps its size and the tick its bits
record Sized (s : ReplayState) : Type 0 where
  image : length s.memory ≡ image_size
  bits : s.tick < 2 ^ 32

data Keeps : AfterLine → Type 0 where
  onwards : {s : ReplayState} {o : List ℕ} → Sized s → Keeps (goes s o)
  ended : Keeps stops

module _ (cs : List Card) where
  run-keeps : (k : ℕ) (s : ReplayState) (f : FoundCard) → Sized s → Keeps (after_run k s f)
  run-keeps k s lacks g = onwards g
  run-keeps k s (found t e) g =
      let z = (promises.keeps (compile-and-run e s.tick) t s.memory (zeros 16384) (zeros 16384)).sizes in
      onwards (record { image = z.0 ∙ g.image; bits = g.bits })

  entry-keeps : (s : ReplayState) (x : LogEntry) → Within x → Sized s → Keeps (after_entry cs s x)
  entry-keeps s (change b i n) t g = onwards (record { image = packed-laws.put_length s.memory b i n ∙ g.image; bits = g.bits })
  entry-keeps s (tick n) (of-tick h) g = onwards (record { image = g.image; bits = h })
  entry-keeps s (run k) t g = run-keeps k s (card_of k cs) g
  entry-keeps s bad t g = ended

  line-keeps : (s : ReplayState) (l : List ℕ) → Sized s → Keeps (after_line cs s l)
  unfolding after_line_in
  line-keeps s l g = entry-keeps s (log_entry_of l) (line-within l) g

  kept : (room : Room) (s : ReplayState) (at : ℕ) (ls : List (List ℕ)) → Sized s → Sized (replay_lines cs room s at ls).state
  kept room s at [] g = g
  kept room s at (l ∷ ls) g = by (is_full room) (after_line cs s l) (line-keeps s l g) (λ r s' g'. kept r s' (at + length l) ls g')
    where
      by : (x : Bool) (y : AfterLine) → Keeps y
          → ((r : Room) (s' : ReplayState) → Sized s' → Sized (replay_lines cs r s' (at + length l) ls).state)
          → Sized (cond x (record { text = []; state = s; at = at; pause = full })
          (onward s at y (λ s' o. replay_lines cs (without o room) s' (at + length l) ls))).state
      by true y k ih = g
      by false stops k ih = g
      by false (goes s' o) (onwards h) ih = ih (without o room) s' h

first-sized : Sized first_state
unfolding zeros
first-sized = record { image = length-replicate {A = ℕ} image_size 0; bits = omega arith }

state-sized : (m : List ℕ) (c : CallWords) → length m ≡ image_size → Sized (state_at m c)
state-sized m c l = by (eqb c.at 0)
  where
    by : (x : Bool) → Sized (cond x first_state (record { memory = m; tick = c.tick % 2 ^ 32 }))
    by true = first-sized
    by false = record { image = l; bits = omega arith }

-- ---- calls in turn
over-text : (file log m : List ℕ) {c : CallWords} {t : List ℕ} → Calls file log m c t → c.done ≡ 1 → t ≡ []
over-text file log m (over e) d = refl
over-text file log m (next n e b k) d = absurd (let z : ◌≡◌ {A = ℕ} 0 1 = cc in omega arith)

-- what a call leaves, where lines are played
call-is : (file log m : List ℕ) (n : ℕ) (c : CallWords) → length m ≡ image_size → c.done ≡ 0 → line_room ≤ n
    → replay_call file log m n c ≡ called_with log m n c (read_cards formula_answer file)
call-is file log m n c l d b = rw (d, le-ltb n 64 b, eq-eqb (length m) image_size l)

module _ (file log : List ℕ) (cs : List Card) (laws : ReplayTheorems) (read : read_cards formula_answer file ≡ good cs) where
  -- what is still to be written
  abbrev rest : List ℕ → CallWords → List ℕ
  rest m c = (replay_from cs endless (state_at m c) c.at (drop c.at log)).text

  abbrev part : List ℕ → ℕ → CallWords → Replay
  part m n c = replay_from cs (lent n) (state_at m c) c.at (drop c.at log)

  plays-on : (m : List ℕ) (n : ℕ) (c : CallWords) → length m ≡ image_size → c.done ≡ 0 → line_room ≤ n → replay_call file log m n c ≡ after_replay (part m n c)
  plays-on m n c l d b = call-is file log m n c l d b ∙ ap (called_with log m n c) read

  -- the state of the next call is the state that was left
  state-left : (r : Replay) → 0 < r.at → Sized r.state → state_at r.state.memory (after_replay r).words ≡ r.state
  state-left r h g =
      ap (λ (x : Bool). cond x first_state (record { memory = r.state.memory; tick = r.state.tick % 2 ^ 32 })) (ne_eqb r.at 0 (λ e. omega (arith, e)))
      ∙ ap (λ (t : ℕ). record { memory = r.state.memory; tick = t }) (mod-eq_of_lt g.bits)

  rest-left : (m : List ℕ) (n : ℕ) (c : CallWords) → length m ≡ image_size → line_room ≤ n → (part m n c).pause ≡ full
      → (part m n c).text ++ rest (after_replay (part m n c)).memory (after_replay (part m n c)).words ≡ rest m c
  rest-left m n c l b h =
      let r = part m n c in
      let a = laws.advances cs n (state_at m c) c.at (drop c.at log) b h in
      let g : Sized r.state = kept cs (lent n) (state_at m c) c.at (log_lines (drop c.at log)) (state-sized m c l) in
      let there : drop r.at log ≡ drop (r.at - c.at) (drop c.at log) =
      ap (λ (k : ℕ). drop k log) (let e : r.at ≡ c.at + (r.at - c.at) = omega (arith, a.0) in e) ∙ sym (drop-drop (r.at - c.at) c.at log) in
      ap (λ (x : List ℕ). r.text ++ x)
      (ap (λ (s : ReplayState). (replay_from cs endless s r.at (drop r.at log)).text) (state-left r (omega (arith, a.0)) g)
      ∙ ap (λ (x : List ℕ). (replay_from cs endless r.state r.at x).text) there)
      ∙ ap (λ (x : Replay). x.text) (sym (laws.resumes cs n (state_at m c) c.at (drop c.at log) h))

  played : (m : List ℕ) {c : CallWords} {t : List ℕ} → Calls file log m c t → length m ≡ image_size → c.done ≡ 0 → t ≡ rest m c
  played m (over e) l d = absurd (let z : ◌≡◌ {A = ℕ} 0 1 = cc in omega arith)
  played m {c} (next {t = t} n e b k) l d = by (part m n c).pause refl (λ size open-yet. played (replay_call file log m n c).memory k size open-yet)
    where
      is : replay_call file log m n c ≡ after_replay (part m n c)
      is = plays-on m n c l d b

      text : (replay_call file log m n c).text ++ t ≡ (part m n c).text ++ t
      text = ap (λ (x : Called). x.text ++ t) is

      finished : ((part m n c).pause ≡ full → ⊥) → is_over (part m n c).pause ≡ 1 → (replay_call file log m n c).text ++ t ≡ rest m c
      finished p o =
          text
          ∙ ap (λ (x : List ℕ). (part m n c).text ++ x) (over-text file log _ k (ap (λ (x : Called). x.words.done) is ∙ o))
          ∙ append-nil (part m n c).text
          ∙ ap (λ (x : Replay). x.text) (laws.finishes cs n (state_at m c) c.at (drop c.at log) p)

      by : (p : Pause) → (part m n c).pause ≡ p
          → (length (replay_call file log m n c).memory ≡ image_size → (replay_call file log m n c).words.done ≡ 0
          → t ≡ rest (replay_call file log m n c).memory (replay_call file log m n c).words)
          → (replay_call file log m n c).text ++ t ≡ rest m c
      by full h ih =
          let sized : Sized (part m n c).state = kept cs (lent n) (state_at m c) c.at (log_lines (drop c.at log)) (state-sized m c l) in
          let size : length (replay_call file log m n c).memory ≡ image_size = ap (λ (x : Called). length x.memory) is ∙ sized.image in
          let open-yet : (replay_call file log m n c).words.done ≡ 0 = ap (λ (x : Called). x.words.done) is ∙ ap is_over h in
          text
          ∙ ap (λ (x : List ℕ). (part m n c).text ++ x) (ih size open-yet ∙ ap (λ (x : Called). rest x.memory x.words) is)
          ∙ rest-left m n c l b h
      by log_end h ih = finished (λ q. let z : ◌≡◌ {A = ℕ} 0 1 = cc in absurd (omega arith)) (ap is_over h)
      by bad_line h ih = finished (λ q. let z : ◌≡◌ {A = ℕ} 0 1 = cc in absurd (omega arith)) (ap is_over h)

-- a refused file prints its two lines, in the first call
refused : (file log m : List ℕ) (a p : ℕ) {t : List ℕ} → read_cards formula_answer file ≡ Reading.bad a p → length m ≡ image_size → Calls file log m first_words t
    → t ≡ refusal_lines a p
refused file log m a p read l (over e) = absurd (let z : ◌≡◌ {A = ℕ} 0 1 = cc in omega arith)
refused file log m a p read l (next {t = t} n e b k) =
    let is = call-is file log m n first_words l refl b ∙ ap (called_with log m n first_words) read in
    ap (λ (x : Called). x.text ++ t) is
    ∙ ap (λ (x : List ℕ). refusal_lines a p ++ x) (over-text file log _ k (ap (λ (x : Called). x.words.done) is))
    ∙ append-nil (refusal_lines a p)

pub calls : ReplayTheorems → (file log m t : List ℕ) → length m ≡ image_size → Calls file log m first_words t → t ≡ replayed file log
calls laws file log m t l k = by (read_cards formula_answer file) refl
  where
    by : (x : Reading.CardsRead) → read_cards formula_answer file ≡ x → t ≡ replayed_with log x
    by (good cs) e = played file log cs laws e m k l refl
    by (Reading.bad a p) e = refused file log m a p e l k
