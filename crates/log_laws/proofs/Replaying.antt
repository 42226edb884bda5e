-- The replay line after line: of two lists of lines, and of a list that is left where the room is full. Assumes nothing.
use mathlib.Core.Path.{◌≡◌, refl, sym, ap, subst, ◌∙◌}
use mathlib.Core.Bool.{Bool, true, false, cond}
use mathlib.Core.List.{List, [], ◌∷◌, ◌++◌, append_assoc}
use Prim.Native.Nat.{ℕ, ◌+◌, ◌-◌, ◌≤◌}
use native.Mathlib.Omega.{arith}
use lib.Dec.{ltb}
use lib.ListN.{length, length-append}
use borrow.Author.Tests.{le-ltb}
use Rattle.card_laws.specs.Cards.{Card}
use Rattle.salvage_laws.specs.Cut.{joined}
use Rattle.log_laws.specs.Log.{LogEntry, change, tick, run, bad, log_lines, log_entry_of}
use Rattle.log_laws.specs.Replay.{ReplayState, AfterLine, goes, stops, FoundCard, found, lacks, card_of, after_run, after_entry, after_line, after_line_in}
use Rattle.log_laws.specs.Replay.{Pause, full, log_end, bad_line, Replay, printed}
use Rattle.log_laws.specs.Replay.{Room, lent, endless, line_room, is_full, without, refusal_lines, onward, replay_lines}
use Rattle.log_laws.specs.Theorems.{then_by, and_then}
use Rattle.log_laws.proofs.Lines.{lines_rest}

pub printed-twice : (o p : List ℕ) (r : Replay) → printed o (printed p r) ≡ printed (o ++ p) r
printed-twice o p r = ap (λ (t : List ℕ). record { text = t; state = r.state; at = r.at; pause = r.pause }) (sym (append_assoc o p r.text))

pub printed-then : (o : List ℕ) (r : Replay) (f : ReplayState → ℕ → Replay) → printed o (and_then r f) ≡ and_then (printed o r) f
printed-then o r f = by r.pause
  where
    by : (p : Pause) → printed o (then_by p r f) ≡ then_by p (printed o r) f
    by full = refl
    by log_end = printed-twice o r.text (f r.state r.at)
    by bad_line = refl

module _ (cs : List Card) where
  abbrev pub play : ReplayState → ℕ → List (List ℕ) → Replay
  play s at ls = replay_lines cs endless s at ls

  -- a tick is kept until the next
  abbrev tick_left : ReplayState → AfterLine → ℕ
  tick_left s (goes s' o) = s'.tick
  tick_left s stops = s.tick

  run-keeps : (k : ℕ) (s : ReplayState) (f : FoundCard) → tick_left s (after_run k s f) ≡ s.tick
  run-keeps k s (found t e) = refl
  run-keeps k s lacks = refl

  pub tick_kept : (s s' : ReplayState) (l o : List ℕ) → after_line cs s l ≡ goes s' o → ((t : ℕ) → log_entry_of l ≡ tick t → ⊥) → s'.tick ≡ s.tick
  unfolding after_line_in
  tick_kept s s' l o e h = sym (ap (tick_left s) e) ∙ by (log_entry_of l) refl
    where
      by : (x : LogEntry) → log_entry_of l ≡ x → tick_left s (after_entry cs s x) ≡ s.tick
      by (change b i n) q = refl
      by (tick t) q = absurd (h t q)
      by (run k) q = run-keeps k s (card_of k cs)
      by bad q = refl

  pub ticked : (s : ReplayState) (l : List ℕ) (t : ℕ) → log_entry_of l ≡ tick t → after_line cs s l ≡ goes (record { memory = s.memory; tick = t }) []
  unfolding after_line_in
  ticked s l t e = ap (after_entry cs s) e

  -- a bad line
  stopped-at : (s : ReplayState) (at : ℕ) (rest : ReplayState → List ℕ → Replay)
      → onward s at stops rest ≡ record { text = refusal_lines 16 at; state = s; at = at; pause = bad_line }
  stopped-at s at rest = refl

  pub line-stops : (s : ReplayState) (l : List ℕ) → log_entry_of l ≡ bad → after_line cs s l ≡ stops
  unfolding after_line_in
  line-stops s l h = ap (after_entry cs s) h

  pub line-bad : (s : ReplayState) (at : ℕ) (l : List ℕ) (ls : List (List ℕ)) → log_entry_of l ≡ bad
      → play s at (l ∷ ls) ≡ record { text = refusal_lines 16 at; state = s; at = at; pause = bad_line }
  line-bad s at l ls h = ap (λ (x : AfterLine). onward s at x (λ s' o. play s' (at + length l) ls)) (line-stops s l h)
      ∙ stopped-at s at (λ s' o. play s' (at + length l) ls)

  pub lines_join : (s : ReplayState) (at : ℕ) (ls ms : List (List ℕ)) → play s at (ls ++ ms) ≡ and_then (play s at ls) (λ s' at'. play s' at' ms)
  lines_join s at [] ms = refl
  lines_join s at (l ∷ ls) ms = by (after_line cs s l) (λ s'. lines_join s' (at + length l) ls ms)
    where
      by : (x : AfterLine)
          → ((s' : ReplayState) → play s' (at + length l) (ls ++ ms) ≡ and_then (play s' (at + length l) ls) (λ s'' at''. play s'' at'' ms))
          → onward s at x (λ s' o. play s' (at + length l) (ls ++ ms))
          ≡ and_then (onward s at x (λ s' o. play s' (at + length l) ls)) (λ s'' at''. play s'' at'' ms)
      by stops ih = refl
      by (goes s' o) ih = ap (printed o) (ih s') ∙ printed-then o (play s' (at + length l) ls) (λ s'' at''. play s'' at'' ms)

  -- the bytes taken
  pub lines-taken : (s : ReplayState) (at : ℕ) (ls : List (List ℕ)) → (play s at ls).pause ≡ log_end → (play s at ls).at ≡ at + length (joined ls)
  lines-taken s at [] h = omega arith
  lines-taken s at (l ∷ ls) h = by (after_line cs s l) h (λ s' h. lines-taken s' (at + length l) ls h)
    where
      by : (x : AfterLine) → (onward s at x (λ s' o. play s' (at + length l) ls)).pause ≡ log_end
          → ((s' : ReplayState) → (play s' (at + length l) ls).pause ≡ log_end → (play s' (at + length l) ls).at ≡ at + length l + length (joined ls))
          → (onward s at x (λ s' o. play s' (at + length l) ls)).at ≡ at + length (l ++ joined ls)
      by stops h ih = let z : ◌≡◌ {A = ℕ} 0 1 = cc in absurd (omega arith)
      by (goes s' o) h ih = omega (arith, ih s' h, length-append l (joined ls))

  -- the byte left lies in the log
  pub lines-inside : (room : Room) (s : ReplayState) (at : ℕ) (ls : List (List ℕ))
      → (at ≤ (replay_lines cs room s at ls).at) × ((replay_lines cs room s at ls).at ≤ at + length (joined ls))
  lines-inside room s at [] = (omega arith, omega arith)
  lines-inside room s at (l ∷ ls) = by (is_full room) (after_line cs s l) (λ r s'. lines-inside r s' (at + length l) ls)
    where
      by : (x : Bool) (y : AfterLine)
          → ((r : Room) (s' : ReplayState) → let z = replay_lines cs r s' (at + length l) ls in
          (at + length l ≤ z.at) × (z.at ≤ at + length l + length (joined ls)))
          → let z =
          cond x (record { text = []; state = s; at = at; pause = full }) (onward s at y (λ s' o. replay_lines cs (without o room) s' (at + length l) ls)) in
          (at ≤ z.at) × (z.at ≤ at + length (l ++ joined ls))
      by true y ih = (omega arith, omega arith)
      by false stops ih = (omega arith, omega arith)
      by false (goes s' o) ih =
          let i = ih (without o room) s' in
          (omega (arith, i.0), omega (arith, i.1, length-append l (joined ls)))

  -- ---- with n bytes lent
  abbrev pub play_in : ℕ → ReplayState → ℕ → List (List ℕ) → Replay
  play_in n s at ls = replay_lines cs (lent n) s at ls

  -- what a replay with few bytes left of the lines
  pub data Leaves (s : ReplayState) (at : ℕ) (ls : List (List ℕ)) (r : Replay) : Type 0 where
    later : (taken : List ℕ) (ms : List (List ℕ)) → r.pause ≡ full → play s at ls ≡ printed r.text (play r.state r.at ms)
        → joined ls ≡ taken ++ joined ms → r.at ≡ at + length taken → log_lines (joined ms) ≡ ms → Leaves s at ls r
    none : (r.pause ≡ full → ⊥) → r ≡ play s at ls → Leaves s at ls r

  pub plays : (n : ℕ) (s : ReplayState) (at : ℕ) (ls : List (List ℕ)) → log_lines (joined ls) ≡ ls → Leaves s at ls (play_in n s at ls)
  plays n s at [] c = none (λ e. let z : ◌≡◌ {A = ℕ} 0 1 = cc in absurd (omega arith)) refl
  plays n s at (l ∷ ls) c = by (ltb n line_room) (after_line cs s l) refl (λ k s'. plays k s' (at + length l) ls (lines_rest (l ++ joined ls) l ls c))
    where
      further : (s' : ReplayState) (o : List ℕ) (r : Replay) → after_line cs s l ≡ goes s' o → Leaves s' (at + length l) ls r
          → Leaves s at (l ∷ ls) (printed o r)
      further s' o r q (later taken ms p e j a w) =
          later (l ++ taken) ms p
          (ap (λ (x : AfterLine). onward s at x (λ s'' o. play s'' (at + length l) ls)) q ∙ ap (printed o) e
          ∙ printed-twice o r.text (play r.state r.at ms))
          (ap (λ (x : List ℕ). l ++ x) j ∙ sym (append_assoc l taken (joined ms))) (omega (arith, a, length-append l taken)) w
      further s' o r q (none p e) =
          none p (sym (ap (λ (x : AfterLine). onward s at x (λ s'' o. play s'' (at + length l) ls)) q ∙ ap (printed o) (sym e)))

      by : (x : Bool) (y : AfterLine) → after_line cs s l ≡ y → ((k : ℕ) (s' : ReplayState) → Leaves s' (at + length l) ls (play_in k s' (at + length l) ls))
          → Leaves s at (l ∷ ls)
          (cond x (record { text = []; state = s; at = at; pause = full }) (onward s at y (λ s' o. play_in (n - length o) s' (at + length l) ls)))
      by true y q ih = later [] (l ∷ ls) refl refl refl (omega arith) c
      by false stops q ih =
          none (λ e. let z : ◌≡◌ {A = ℕ} 0 1 = cc in absurd (omega arith))
          (sym (ap (λ (x : AfterLine). onward s at x (λ s'' o. play s'' (at + length l) ls)) q))
      by false (goes s' o) q ih = further s' o (play_in (n - length o) s' (at + length l) ls) q (ih (n - length o) s')

  -- with 64 bytes lent the first line is taken
  pub first_taken : (n : ℕ) (s : ReplayState) (at : ℕ) (l : List ℕ) (ls : List (List ℕ)) → line_room ≤ n → log_lines (joined ls) ≡ ls
      → (play_in n s at (l ∷ ls)).pause ≡ full → at + length l ≤ (play_in n s at (l ∷ ls)).at
  first_taken n s at l ls b c h =
      let open-room : play_in n s at (l ∷ ls) ≡ onward s at (after_line cs s l) (λ s' o. play_in (n - length o) s' (at + length l) ls) =
      ap (λ (x : Bool). cond x (record { text = []; state = s; at = at; pause = full })
      (onward s at (after_line cs s l) (λ s' o. play_in (n - length o) s' (at + length l) ls))) (le-ltb n line_room b) in
      subst (λ (r : Replay). at + length l ≤ r.at) (sym open-room) (by (after_line cs s l) (ap (λ (r : Replay). r.pause) (sym open-room) ∙ h))
    where
      left : (s' : ReplayState) (r : Replay) → r.pause ≡ full → Leaves s' (at + length l) ls r → at + length l ≤ r.at
      left s' r p (later taken ms e f j a w) = omega (arith, a)
      left s' r p (none e f) = absurd (e p)

      by : (x : AfterLine) → (onward s at x (λ s' o. play_in (n - length o) s' (at + length l) ls)).pause ≡ full
          → at + length l ≤ (onward s at x (λ s' o. play_in (n - length o) s' (at + length l) ls)).at
      by stops h = let z : ◌≡◌ {A = ℕ} 0 1 = cc in absurd (omega arith)
      by (goes s' o) h = left s' (play_in (n - length o) s' (at + length l) ls) h (plays (n - length o) s' (at + length l) ls c)
