-- The theorems of the replay.
use mathlib.Core.Path.{◌≡◌, refl, sym, ap, ◌∙◌}
use mathlib.Core.List.{List, [], ◌∷◌, ◌++◌, append_assoc}
use Prim.Native.Nat.{ℕ, ◌+◌, ◌-◌, ◌≤◌, ◌<◌}
use native.Mathlib.Omega.{arith}
use lib.ListN.{length, drop, length-append}
use lib.Seq.{drop-append_seam}
use Rattle.words.proofs.Tests.{false-true}
use Rattle.card_laws.specs.Lines.{line_end, ended, Lacks}
use Rattle.card_laws.specs.Cards.{Card}
use Rattle.card_laws.specs.Reading.{CardsRead}
use Rattle.salvage_laws.specs.Cut.{joined}
use Rattle.salvage_laws.proofs.Parts.{cut-joined}
use Rattle.log_laws.specs.Log.{bad, ends_line, log_lines, log_entry_of}
use Rattle.log_laws.specs.Replay.{ReplayState, Pause, full, log_end, bad_line, Replay, printed, Room, lent, endless, line_room, replay_lines}
use Rattle.log_laws.specs.Replay.{replay_from, replayed_with}
use Rattle.log_laws.specs.Theorems.{EndsInLine, then_by, and_then, ended_bad, ReplayTheorems, CallTheorems, WindowTheorems}
use Rattle.log_laws.specs.Window.{window_size}
use Rattle.log_laws.proofs.Lines.{lines-append, one_line, rest-line, lines_rest, line-some, unended-bad}
use Rattle.log_laws.proofs.Replaying.{play, tick_kept, ticked, lines_join, lines-taken, lines-inside, line-bad, Leaves, later, none, plays, first_taken}
use Rattle.log_laws.proofs.Calling.{calls}
use Rattle.log_laws.proofs.Fits.{fit}
use Rattle.log_laws.proofs.Long.{long-bad}
use Rattle.log_laws.proofs.Windows.{closes, fails}

module _ (cs : List Card) (s : ReplayState) (at : ℕ) where
  abbrev whole : List ℕ → Replay
  whole log = replay_from cs endless s at log

  joins : (a b : List ℕ) → EndsInLine a → whole (a ++ b) ≡ and_then (whole a) (λ s' at'. replay_from cs endless s' at' b)
  joins a b e = ap (play cs s at) (lines-append b e) ∙ lines_join cs s at (log_lines a) (log_lines b)

  ends : (a b : List ℕ) → EndsInLine a → (whole a).pause ≡ bad_line → whole (a ++ b) ≡ whole a
  ends a b e h = joins a b e ∙ ap (λ (p : Pause). then_by p (whole a) (λ s' at'. replay_from cs endless s' at' b)) h

  -- where a log that was played through ends
  taken : (a : List ℕ) → (whole a).pause ≡ log_end → (whole a).at ≡ at + length a
  taken a h = lines-taken cs s at (log_lines a) h ∙ ap (λ (x : List ℕ). at + length x) (cut-joined ends_line a)

  -- a bad line behind it
  behind-bad : (a b l : List ℕ) (ls : List (List ℕ)) → EndsInLine a → (whole a).pause ≡ log_end → log_lines b ≡ l ∷ ls → log_entry_of l ≡ bad
      → whole (a ++ b) ≡ ended_bad (whole a)
  behind-bad a b l ls e h c w =
      joins a b e
      ∙ ap (λ (p : Pause). then_by p (whole a) (λ s' at'. replay_from cs endless s' at' b)) h
      ∙ ap (printed (whole a).text) (ap (play cs (whole a).state (whole a).at) c ∙ line-bad cs (whole a).state (whole a).at l ls w)

  bad-line : (a l b : List ℕ) → EndsInLine a → (whole a).pause ≡ log_end → Lacks line_end l → log_entry_of (ended l []) ≡ bad
      → (whole (a ++ ended l b) ≡ ended_bad (whole a)) × ((whole a).at ≡ at + length a)
  bad-line a l b e h n w =
      let c : log_lines (ended l b) ≡ ended l [] ∷ log_lines b =
      ap log_lines (sym (append_assoc l (10 ∷ []) b)) ∙ lines-append b (EndsInLine.behind l) ∙ ap (λ (q : List (List ℕ)). q ++ log_lines b) (one_line l n) in
      (behind-bad a (ended l b) (ended l []) (log_lines b) e h c w, taken a h)

  bad_rest : (a : List ℕ) (c : ℕ) (l : List ℕ) → EndsInLine a → (whole a).pause ≡ log_end → Lacks line_end (c ∷ l)
      → (whole (a ++ c ∷ l) ≡ ended_bad (whole a)) × ((whole a).at ≡ at + length a)
  bad_rest a c l e h n = (behind-bad a (c ∷ l) (c ∷ l) [] e h (rest-line c l n) (unended-bad (c ∷ l) n), taken a h)

  -- ---- with n bytes lent
  leaves : (n : ℕ) (log : List ℕ) → Leaves cs s at (log_lines log) (replay_from cs (lent n) s at log)
  leaves n log = plays cs n s at (log_lines log) (ap log_lines (cut-joined ends_line log))

  resumes : (n : ℕ) (log : List ℕ) → let r = replay_from cs (lent n) s at log in r.pause ≡ full
      → whole log ≡ printed r.text (replay_from cs endless r.state r.at (drop (r.at - at) log))
  resumes n log h = by (replay_from cs (lent n) s at log) h (leaves n log)
    where
      by : (r : Replay) → r.pause ≡ full → Leaves cs s at (log_lines log) r
          → whole log ≡ printed r.text (replay_from cs endless r.state r.at (drop (r.at - at) log))
      by r p (none e f) = absurd (e p)
      by r p (later t ms q e j a w) =
          let d : r.at - at ≡ length t = omega (arith, a) in
          let rest : drop (r.at - at) log ≡ joined ms =
          ap (λ (k : ℕ). drop k log) d ∙ ap (drop (length t)) (sym (cut-joined ends_line log) ∙ j) ∙ drop-append_seam t (joined ms) in
          e ∙ ap (λ (l : List (List ℕ)). printed r.text (play cs r.state r.at l)) (sym (ap log_lines rest ∙ w))

  finishes : (n : ℕ) (log : List ℕ) → let r = replay_from cs (lent n) s at log in (r.pause ≡ full → ⊥) → r ≡ whole log
  finishes n log h = by (replay_from cs (lent n) s at log) h (leaves n log)
    where
      by : (r : Replay) → (r.pause ≡ full → ⊥) → Leaves cs s at (log_lines log) r → r ≡ whole log
      by r p (none e f) = f
      by r p (later t ms q e j a w) = absurd (p q)

  advances : (n : ℕ) (log : List ℕ) → let r = replay_from cs (lent n) s at log in line_room ≤ n → r.pause ≡ full → (at < r.at) × (r.at ≤ at + length log)
  advances n log b h = (ahead (log_lines log) refl h, within (replay_from cs (lent n) s at log) h (leaves n log))
    where
      ahead : (ls : List (List ℕ)) → log_lines log ≡ ls → (replay_lines cs (lent n) s at ls).pause ≡ full → at < (replay_lines cs (lent n) s at ls).at
      ahead [] e h = let z : ◌≡◌ {A = ℕ} 0 1 = cc in absurd (omega arith)
      ahead (l ∷ ls) e h = omega (arith, first_taken cs n s at l ls b (lines_rest log l ls e) h, line-some log l ls e)

      within : (r : Replay) → r.pause ≡ full → Leaves cs s at (log_lines log) r → r.at ≤ at + length log
      within r p (none e f) = absurd (e p)
      within r p (later t ms q e j a w) =
          omega (arith, a, ap length (sym (cut-joined ends_line log) ∙ j), length-append t (joined ms))

  inside : (room : Room) (log : List ℕ) → let r = replay_from cs room s at log in (at ≤ r.at) × (r.at ≤ at + length log)
  inside room log =
      let i = lines-inside cs room s at (log_lines log) in
      (i.0, omega (arith, i.1, ap length (cut-joined ends_line log)))

pub replay-theorems : ReplayTheorems
replay-theorems = record {
  joins = λ cs s at a b e. joins cs s at a b e;
  ends = λ cs s at a b e h. ends cs s at a b e h;
  bad-line = λ cs s at a l b e h n w. bad-line cs s at a l b e h n w;
  bad_rest = λ cs s at a c l e h n. bad_rest cs s at a c l e h n;
  ticks = λ cs s l t e. ticked cs s l t e;
  tick_kept = λ cs s s' l o e h. tick_kept cs s s' l o e h;
  resumes = λ cs n s at log h. resumes cs s at n log h;
  finishes = λ cs n s at log h. finishes cs s at n log h;
  advances = λ cs n s at log b h. advances cs s at n log b h;
  inside = λ cs room s at log. inside cs s at room log;
  fits = λ cs n s at log i h. fit cs n s at (log_lines log) i (omega (arith, h, ap length (cut-joined ends_line log)));
}

pub call-theorems : CallTheorems
call-theorems = record { calls = λ file log m t l k. calls replay-theorems file log m t l k }

pub window-theorems : WindowTheorems
window-theorems = record {
  closes = λ cs size s at held log t w k. closes replay-theorems cs size w refl false-true k;
  prints = λ file log t cs e k. closes replay-theorems cs window_size (omega arith) refl false-true k ∙ ap (λ (x : CardsRead). replayed_with log x) (sym e);
  fails = λ cs size s at held log t w k. fails replay-theorems cs size w refl refl k;
  long_line = long-bad;
}
