-- A turn: what is played is a part of the bytes held, and what is kept is the rest. Assumes nothing.
use mathlib.Core.Path.{◌≡◌, refl, sym, ap, subst, ◌∙◌}
use mathlib.Core.Bool.{Bool, true, false, cond}
use mathlib.Core.List.{List, [], ◌∷◌}
use Prim.Native.Nat.{ℕ, zero, suc, ◌+◌, ◌-◌, ◌^◌, ◌≤◌, ◌<◌}
use native.Mathlib.Omega.{arith}
use lib.Dec.{eqb, ltb}
use lib.ListN.{length, take, drop, length-drop}
use lib.Seq.{take-take, length-take-le}
use Rattle.memory.specs.Layout.{image_size}
use Rattle.lines.specs.private.Steps.{Puts}
use Rattle.card_laws.specs.Lines.{line_end}
use Rattle.card_laws.specs.Cards.{Card}
use Rattle.log_laws.specs.Replay.{ReplayState, Pause, full, log_end, bad_line, Replay, lent, line_room, replay_from}
use Rattle.log_laws.specs.Window.{one_before, through_last_end, playable_of, playable, turn}
use Rattle.log_laws.proofs.Theorems.{replay-theorems}
use Rattle.log_replay.specs.declared.Pause.TheVariants.{Full}
use Rattle.log_replay.specs.declared.Replayed.{Replayed}
use Rattle.log_replay.specs.declared.ReplayCursor.{ReplayCursor}
use Rattle.log_replay.specs.Replays.{pause_in, Plays}
use Rattle.log_window.specs.Turns.{TurnGives, TurnInside}

-- ---- no more is played than is held
before-le : (c k : ℕ) → one_before c k ≤ suc k
before-le c zero = by (eqb c line_end)
  where
    by : (x : Bool) → cond x 1 0 ≤ 1
    by true = omega arith
    by false = omega arith
before-le c (suc k) = omega arith

through-le : (s : List ℕ) → through_last_end s ≤ length s
through-le [] = omega arith
through-le (c ∷ s) = omega (arith, before-le c (through_last_end s), through-le s)

pub playable-le : (size : ℕ) (last : Bool) (s : List ℕ) → playable size last s ≤ length s
playable-le size true s = omega arith
playable-le size false s = by (through_last_end s) (through-le s)
  where
    short : (x : Bool) → cond x 0 (length s) ≤ length s
    short true = omega arith
    short false = omega arith

    by : (k : ℕ) → k ≤ length s → playable_of size (length s) k ≤ length s
    by zero h = short (ltb (length s) size)
    by (suc k) h = h

pub at_most : (size : ℕ) (last : Bool) (window : List ℕ) (held : ℕ) {n : ℕ} → held ≤ length window → n ≡ playable size last (take held window) → n ≤ held
at_most size last window held inside q = omega (arith, q, playable-le size last (take held window), length-take-le held window inside)

was-full : (p : Pause) → pause_in p ≡ Full → p ≡ full
was-full full e = refl
was-full log_end e = let z : ◌≡◌ {A = ℕ} 0 1 = cc in absurd (omega arith)
was-full bad_line e = let z : ◌≡◌ {A = ℕ} 0 1 = cc in absurd (omega arith)

module _ (cs : List Card) (size room : ℕ) (last : Bool) (s : ReplayState) (cursor : ReplayCursor) (window : List ℕ) (held : ℕ) {n : ℕ}
    (inside : held ≤ length window) (q : n ≡ playable size last (take held window)) where
  within : n ≤ held
  within = at_most size last window held inside q

  abbrev Played : Replay
  Played = replay_from cs (lent room) s cursor.at (take n window)

  abbrev Turn : Replay
  Turn = turn cs size room last s cursor.at (take held window)

  one : Played ≡ Turn
  one = ap (replay_from cs (lent room) s cursor.at) (sym (take-take n held window within) ∙ ap (λ (k : ℕ). take k (take held window)) q)

  module _ {memory out out' : List ℕ} {x : Replayed} (p : Plays Played memory out out' x) where
    -- the bytes taken
    pub from : cursor.at ≤ x.cursor.at
    from = omega (arith, p.next, (replay-theorems.inside cs (lent room) s cursor.at (take n window)).0)

    pub to : x.cursor.at - cursor.at ≤ held
    to = omega (
      arith,
      p.next,
      (replay-theorems.inside cs (lent room) s cursor.at (take n window)).1,
      length-take-le n window (omega (arith, within)),
      within,
    )

    module _ {window' : List ℕ} {kept : ℕ} (k : Puts window 0 window' kept (drop (x.cursor.at - cursor.at) (take held window))) where
      pub gives : TurnGives Turn cursor.at (take held window) memory out out' window window' (record { replayed = x; held = kept })
      gives =
          subst (λ (r : Replay). TurnGives r cursor.at (take held window) memory out out' window window' (record { replayed = x; held = kept })) one
          (record {
            plays = p;
            keeps = subst (λ (a : ℕ). Puts window 0 window' kept (drop (a - cursor.at) (take held window))) p.next k;
          })

      pub stays : length s.memory ≡ image_size → line_room ≤ room → cursor.at + held < 2 ^ 64
          → TurnInside cursor held room (record { replayed = x; held = kept })
      stays i r h =
          let c : kept ≡ held - (x.cursor.at - cursor.at) =
          omega (arith, k.end, length-drop (x.cursor.at - cursor.at) (take held window), length-take-le held window inside) in
          let l : length (take n window) ≡ n = length-take-le n window (omega (arith, within)) in
          record {
            total = omega (arith, c, from, to);
            ahead =
                λ e. let f : Played.pause ≡ full = was-full Played.pause (sym p.why ∙ e) in
                omega (arith, p.next, (replay-theorems.advances cs room s cursor.at (take n window) r f).0);
            window = omega (arith, c);
            text = omega (arith, p.written.end, replay-theorems.fits cs room s cursor.at (take n window) i (omega (arith, l, within, h)));
          }
