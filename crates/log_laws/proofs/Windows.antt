-- A log read through a window: each turn plays lines that stand whole in it, a rest that is the log's last, or one that is too long to be a line. Assumes
-- nothing.
use mathlib.Core.Path.{◌≡◌, refl, sym, ap, subst, ◌∙◌}
use mathlib.Core.Bool.{Bool, true, false, cond}
use mathlib.Core.List.{List, [], ◌∷◌, ◌++◌, append_assoc, append-nil}
use Prim.Native.Nat.{ℕ, zero, suc, ◌+◌, ◌-◌, ◌≤◌, ◌<◌}
use native.Mathlib.Nat.{zero-add}
use native.Mathlib.Omega.{arith}
use lib.Dec.{eqb, ltb}
use lib.ListN.{length, take, drop, length-append}
use lib.Seq.{take-length, drop-nil, take-append_seam, drop-append_seam, drop-append-le, take-append-add}
use borrow.Author.Tests.{eqb-true, le-ltb, lt-ltb, ltb-false, not-true}
use Rattle.words.proofs.Tests.{false-true}
use Rattle.card_laws.specs.Lines.{line_end, ended, Lacks}
use Rattle.card_laws.specs.Cards.{Card}
use Rattle.tokens.specs.Bytes.{all}
use Rattle.tokens.proofs.Tests.{both}
use Rattle.lines.specs.Lines.{except}
use Rattle.salvage_laws.specs.Cut.{joined}
use Rattle.salvage_laws.proofs.Parts.{cut-joined}
use Rattle.log_laws.specs.Log.{ends_line, log_lines}
use Rattle.log_laws.specs.Replay.{ReplayState, AfterLine, after_line, Pause, full, log_end, bad_line, Replay, printed, lent, endless, line_room, refusal_lines}
use Rattle.log_laws.specs.Replay.{onward, replay_lines, replay_from}
use Rattle.log_laws.specs.Window.{most_line, one_before, through_last_end, whole_lines, playable_of, playable, turn, TurnTo, kept_bytes, Ending}
use Rattle.log_laws.specs.Window.{closed, failed, Windows}
use Rattle.log_laws.specs.Window.{again, bad-line, some_read, none_read, not_read, over}
use Rattle.log_laws.specs.Theorems.{EndsInLine, nothing, behind, then_by, and_then, ReplayTheorems}
use Rattle.log_laws.proofs.Lines.{rest-line, unended-bad}
use Rattle.log_laws.proofs.Long.{long-bad, end-beyond, FirstLine, first, first_of}
use Rattle.log_laws.proofs.Replaying.{printed-then, lines-taken, line-stops, line-bad}

-- ---- the last line end
ends-drop : (d : ℕ) {a : List ℕ} → EndsInLine a → EndsInLine (drop d a)
ends-drop zero e = e
ends-drop (suc d) nothing = nothing
ends-drop (suc d) (behind []) = subst EndsInLine (sym (drop-nil {A = ℕ} d)) nothing
ends-drop (suc d) (behind (c ∷ l)) = ends-drop d (behind l)

-- where it stands
data Last : List ℕ → ℕ → Type 0 where
  none : {s : List ℕ} → Lacks line_end s → Last s 0
  here : (l r : List ℕ) → Lacks line_end r → Last (l ++ line_end ∷ r) (suc (length l))

one_more : (c : ℕ) {s : List ℕ} {k : ℕ} → Last s k → Last (c ∷ s) (one_before c k)
one_more c (here l r q) = here (c ∷ l) r q
one_more c {s} (none q) = by (eqb c line_end) refl
  where
    by : (x : Bool) → eqb c line_end ≡ x → Last (c ∷ s) (cond x 1 0)
    by true e = subst (λ (d : ℕ). Last (d ∷ s) 1) (sym (eqb-true c line_end e)) (here [] s q)
    by false e = none {s = c ∷ s} (rw e q)

last_end : (s : List ℕ) → Last s (through_last_end s)
last_end [] = none refl
last_end (c ∷ s) = one_more c (last_end s)

-- whole lines before some bytes are before their whole lines
pub through-more : (l s : List ℕ) → through_last_end (l ++ line_end ∷ s) ≡ suc (length l + through_last_end s)
through-more [] s = by (through_last_end s)
  where
    by : (k : ℕ) → one_before line_end k ≡ suc (0 + k)
    by zero = refl
    by (suc k) = omega arith
through-more (c ∷ l) s = ap (one_before c) (through-more l s) ∙ (let e : suc (suc (length l + through_last_end s)) ≡ suc (suc (length l) + through_last_end s) =
    omega arith in e)

whole-behind : {a : List ℕ} (s : List ℕ) → EndsInLine a → whole_lines (a ++ s) ≡ a ++ whole_lines s
whole-behind s nothing = refl
whole-behind s (behind l) =
    let n : through_last_end ((l ++ line_end ∷ []) ++ s) ≡ length (l ++ line_end ∷ []) + through_last_end s =
    ap through_last_end (append_assoc l (line_end ∷ []) s) ∙ through-more l s
    ∙ (let e : suc (length l + through_last_end s) ≡ length (l ++ line_end ∷ []) + through_last_end s = omega (arith, length-append l (line_end ∷ [])) in e) in
    ap (λ (k : ℕ). take k ((l ++ line_end ∷ []) ++ s)) n ∙ take-append-add (l ++ line_end ∷ []) s (through_last_end s)

no-through : (s : List ℕ) → Lacks line_end s → through_last_end s ≡ 0
no-through [] q = refl
no-through (c ∷ s) q =
    let b = both (except 10 c) (all (except 10) s) q in
    ap (one_before c) (no-through s b.1) ∙ ap (λ (x : Bool). cond x 1 0) (not-true (eqb c 10) b.0)

none-whole : (s : List ℕ) → Lacks line_end s → whole_lines s ≡ []
none-whole s q = ap (λ (k : ℕ). take k s) (no-through s q)

-- ---- what a turn plays, before the log's end: whole lines, or a rest that fills the window
data Piece (size : ℕ) (held : List ℕ) (k : ℕ) : Type 0 where
  lines : (a b : List ℕ) → held ≡ a ++ b → k ≡ length a → EndsInLine a → Lacks line_end b → Piece size held k
  long : Lacks line_end held → size ≤ length held → k ≡ length held → Piece size held k

piece : (size : ℕ) (held : List ℕ) → Piece size held (playable size false held)
piece size held = by (last_end held)
  where
    by : {s : List ℕ} {k : ℕ} → Last s k → Piece size s (playable_of size (length s) k)
    by (here l r q) =
        lines (l ++ line_end ∷ []) r (sym (append_assoc l (line_end ∷ []) r)) (omega (arith, length-append l (line_end ∷ []))) (behind l) q
    by {s} (none q) = wide (ltb (length s) size) refl
      where
        wide : (x : Bool) → ltb (length s) size ≡ x → Piece size s (cond x 0 (length s))
        wide true e = lines [] s refl refl nothing q
        wide false e = long q (ltb-false (length s) size e) refl

module _ (laws : ReplayTheorems) (cs : List Card) (n : ℕ) (room : line_room ≤ n) (s : ReplayState) (at : ℕ) where
  abbrev whole : List ℕ → Replay
  whole x = replay_from cs endless s at x

  abbrev part : List ℕ → Replay
  part x = replay_from cs (lent n) s at x

  abbrev rest : List ℕ → ReplayState → ℕ → Replay
  rest b s' at' = replay_from cs endless s' at' b

  at-end : (a : List ℕ) → (part a).pause ≡ log_end → part a ≡ whole a
  at-end a h = laws.finishes cs n s at a (λ q. let z : ◌≡◌ {A = ℕ} 0 1 = cc in absurd (omega arith))

  at-bad : (a : List ℕ) → (part a).pause ≡ bad_line → part a ≡ whole a
  at-bad a h = laws.finishes cs n s at a (λ q. let z : ◌≡◌ {A = ℕ} 0 1 = cc in absurd (omega arith))

  taken : (a : List ℕ) → (part a).pause ≡ log_end → (part a).at - at ≡ length a
  taken a h =
      let f = at-end a h in
      let t : (whole a).at ≡ at + length (joined (log_lines a)) = lines-taken cs s at (log_lines a) (ap (λ (r : Replay). r.pause) (sym f) ∙ h) in
      omega (arith, ap (λ (r : Replay). r.at) f, t, ap length (cut-joined ends_line a))

  -- ---- whole lines a, and what stands behind them
  module _ (a b : List ℕ) (e : EndsInLine a) where
    lines-full : (part a).pause ≡ full → whole (a ++ b) ≡ printed (part a).text (rest (drop ((part a).at - at) a ++ b) (part a).state (part a).at)
    lines-full h =
        let r = part a in
        let left : List ℕ = drop (r.at - at) a in
        laws.joins cs s at a b e
        ∙ ap (λ (x : Replay). and_then x (rest b)) (laws.resumes cs n s at a h)
        ∙ sym (printed-then r.text (rest left r.state r.at) (rest b))
        ∙ ap (printed r.text) (sym (laws.joins cs r.state r.at left b (ends-drop (r.at - at) e)))

    lines_end : (part a).pause ≡ log_end → whole (a ++ b) ≡ printed (part a).text (rest b (part a).state (part a).at)
    lines_end h =
        laws.joins cs s at a b e ∙ ap (λ (x : Replay). and_then x (rest b)) (sym (at-end a h)) ∙ ap (λ (p : Pause). then_by p (part a) (rest b)) h

    lines-bad : (part a).pause ≡ bad_line → whole (a ++ b) ≡ part a
    lines-bad h = let f = at-bad a h in laws.ends cs s at a b e (ap (λ (r : Replay). r.pause) (sym f) ∙ h) ∙ sym f

  -- ---- a rest that is too long for a line
  abbrev stopped : Replay
  stopped = record { text = refusal_lines 16 at; state = s; at = at; pause = bad_line }

  long-part : (c : ℕ) (h : List ℕ) → Lacks line_end (c ∷ h) → part (c ∷ h) ≡ stopped
  long-part c h q =
      ap (replay_lines cs (lent n) s at) (rest-line c h q)
      ∙ ap (λ (x : Bool). cond x (record { text = []; state = s; at = at; pause = full })
      (onward s at (after_line cs s (c ∷ h)) (λ s' o. replay_lines cs (lent (n - length o)) s' (at + length (c ∷ h)) []))) (le-ltb n line_room room)
      ∙ ap (λ (x : AfterLine). onward s at x (λ s' o. replay_lines cs (lent (n - length o)) s' (at + length (c ∷ h)) []))
      (line-stops cs s (c ∷ h) (unended-bad (c ∷ h) q))

  long-whole : (c : ℕ) (h log : List ℕ) → Lacks line_end (c ∷ h) → most_line ≤ length (c ∷ h) → whole (c ∷ h ++ log) ≡ stopped
  long-whole c h log q m = by (first_of c h log q)
    where
      by : FirstLine (c ∷ h) (c ∷ h ++ log) → whole (c ∷ h ++ log) ≡ stopped
      by (first p ls e) =
          ap (replay_lines cs endless s at) e ∙ line-bad cs s at (c ∷ h ++ p) ls (long-bad (c ∷ h ++ p) (omega (arith, m, end-beyond (c ∷ h) p q)))

  long-turn : (held : List ℕ) → Lacks line_end held → most_line ≤ length held → part held ≡ stopped
  long-turn [] q m = absurd (omega arith)
  long-turn (c ∷ h) q m = long-part c h q

  long-log : (held log : List ℕ) → Lacks line_end held → most_line ≤ length held → whole (held ++ log) ≡ stopped
  long-log [] log q m = absurd (omega arith)
  long-log (c ∷ h) log q m = long-whole c h log q m

-- ---- what is printed from a turn on
module _ (laws : ReplayTheorems) (cs : List Card) (size : ℕ) (wide : most_line ≤ size) where
  abbrev text : ReplayState → ℕ → List ℕ → List ℕ
  text s at x = (replay_from cs endless s at x).text

  -- one turn before the log's end, by what it plays: the text of what follows it
  module _ (n : ℕ) (room : line_room ≤ n) (s : ReplayState) (at : ℕ) where
    -- the lines a of the window, and b behind them
    module _ (a b : List ℕ) (e : EndsInLine a) where
      abbrev lines_of : Replay
      lines_of = part laws cs n room s at a

      full-left : lines_of.pause ≡ full → drop (lines_of.at - at) (a ++ b) ≡ drop (lines_of.at - at) a ++ b
      full-left h = drop-append-le (lines_of.at - at) a b (omega (arith, (laws.advances cs n s at a room h).1))

      end-left : lines_of.pause ≡ log_end → drop (lines_of.at - at) (a ++ b) ≡ b
      end-left h = ap (λ (k : ℕ). drop k (a ++ b)) (taken laws cs n room s at a h) ∙ drop-append_seam a b

      -- with any bytes c read behind them
      full-text : (c : List ℕ) → lines_of.pause ≡ full
          → text s at ((a ++ b) ++ c) ≡ lines_of.text ++ text lines_of.state lines_of.at (drop (lines_of.at - at) (a ++ b) ++ c)
      full-text c h =
          let l : List ℕ = drop (lines_of.at - at) a in
          ap (text s at) (append_assoc a b c) ∙ ap (λ (r : Replay). r.text) (lines-full laws cs n room s at a (b ++ c) e h)
          ∙ ap (λ (x : List ℕ). lines_of.text ++ text lines_of.state lines_of.at x)
          (sym (append_assoc l b c) ∙ ap (λ (x : List ℕ). x ++ c) (sym (full-left h)))

      end-text : (c : List ℕ) → lines_of.pause ≡ log_end
          → text s at ((a ++ b) ++ c) ≡ lines_of.text ++ text lines_of.state lines_of.at (drop (lines_of.at - at) (a ++ b) ++ c)
      end-text c h =
          ap (text s at) (append_assoc a b c) ∙ ap (λ (r : Replay). r.text) (lines_end laws cs n room s at a (b ++ c) e h)
          ∙ ap (λ (x : List ℕ). lines_of.text ++ text lines_of.state lines_of.at (x ++ c)) (sym (end-left h))

      bad-text : (c : List ℕ) → lines_of.pause ≡ bad_line → text s at ((a ++ b) ++ c) ≡ lines_of.text
      bad-text c h = ap (text s at) (append_assoc a b c) ∙ ap (λ (r : Replay). r.text) (lines-bad laws cs n room s at a (b ++ c) e h)

      -- and of whole lines alone
      split-whole : (c : List ℕ) → whole_lines ((a ++ b) ++ c) ≡ a ++ whole_lines (b ++ c)
      split-whole c = ap whole_lines (append_assoc a b c) ∙ whole-behind (b ++ c) e

      full-whole : (c : List ℕ) → lines_of.pause ≡ full
          → text s at (whole_lines ((a ++ b) ++ c)) ≡ lines_of.text ++ text lines_of.state lines_of.at
          (whole_lines (drop (lines_of.at - at) (a ++ b) ++ c))
      full-whole c h =
          let l : List ℕ = drop (lines_of.at - at) a in
          ap (text s at) (split-whole c) ∙ ap (λ (r : Replay). r.text) (lines-full laws cs n room s at a (whole_lines (b ++ c)) e h)
          ∙ ap (λ (x : List ℕ). lines_of.text ++ text lines_of.state lines_of.at x)
          (sym (whole-behind (b ++ c) (ends-drop (lines_of.at - at) e))
          ∙ ap whole_lines (sym (append_assoc l b c) ∙ ap (λ (x : List ℕ). x ++ c) (sym (full-left h))))

      end_whole : (c : List ℕ) → lines_of.pause ≡ log_end
          → text s at (whole_lines ((a ++ b) ++ c)) ≡ lines_of.text ++ text lines_of.state lines_of.at
          (whole_lines (drop (lines_of.at - at) (a ++ b) ++ c))
      end_whole c h =
          ap (text s at) (split-whole c) ∙ ap (λ (r : Replay). r.text) (lines_end laws cs n room s at a (whole_lines (b ++ c)) e h)
          ∙ ap (λ (x : List ℕ). lines_of.text ++ text lines_of.state lines_of.at (whole_lines (x ++ c))) (sym (end-left h))

      none_left : Lacks line_end b → lines_of.pause ≡ log_end → text s at (whole_lines ((a ++ b) ++ [])) ≡ lines_of.text
      none_left w h =
          ap (text s at) (split-whole [] ∙ ap (λ (x : List ℕ). a ++ whole_lines x) (append-nil b) ∙ ap (λ (x : List ℕ). a ++ x) (none-whole b w))
          ∙ ap (λ (r : Replay). r.text) (lines_end laws cs n room s at a [] e h) ∙ append-nil lines_of.text

    -- ---- by what the turn plays
    by-piece : (held : List ℕ) {k : ℕ} → Piece size held k → (P : List ℕ → Replay → Type 0)
        → ((a b : List ℕ) → EndsInLine a → Lacks line_end b → P (a ++ b) (part laws cs n room s at a))
        → (Lacks line_end held → most_line ≤ length held → P held (stopped laws cs n room s at)) → P held (part laws cs n room s at (take k held))
    by-piece held {k} (lines a b h q e w) P f g =
        subst (λ (y : List ℕ). P held (part laws cs n room s at y)) (sym (ap (λ (j : ℕ). take j held) q ∙ ap (take (length a)) h ∙ take-append_seam a b))
        (subst (λ (x : List ℕ). P x (part laws cs n room s at a)) (sym h) (f a b e w))
    by-piece held {k} (long q m h) P f g =
        let wide_enough : most_line ≤ length held = omega (arith, wide, m) in
        subst (λ (y : List ℕ). P held (part laws cs n room s at y)) (sym (ap (λ (j : ℕ). take j held) h ∙ take-length held))
        (subst (P held) (sym (long-turn laws cs n room s at held q wide_enough)) (g q wide_enough))

    module _ (held log : List ℕ) where
      abbrev now : Replay
      now = turn cs size n false s at held

      abbrev After : (List ℕ → List ℕ) → List ℕ → Replay → Type 0
      After f x r = text s at (f (x ++ log)) ≡ r.text ++ text r.state r.at (f (kept_bytes at r x ++ log))

      on-full : now.pause ≡ full → After (λ x. x) held now
      on-full =
          by-piece held (piece size held) (λ x r. r.pause ≡ full → After (λ y. y) x r) (λ a b e w h. full-text a b e log h)
          (λ q m h. let z : ◌≡◌ {A = ℕ} 0 1 = cc in absurd (omega arith))

      on-end : now.pause ≡ log_end → After (λ x. x) held now
      on-end =
          by-piece held (piece size held) (λ x r. r.pause ≡ log_end → After (λ y. y) x r) (λ a b e w h. end-text a b e log h)
          (λ q m h. let z : ◌≡◌ {A = ℕ} 0 1 = cc in absurd (omega arith))

      on-bad : now.pause ≡ bad_line → text s at (held ++ log) ≡ now.text
      on-bad =
          by-piece held (piece size held) (λ x r. r.pause ≡ bad_line → text s at (x ++ log) ≡ r.text) (λ a b e w h. bad-text a b e log h)
          (λ q m h. ap (λ (r : Replay). r.text) (long-log laws cs n room s at held log q m))

      on-full-whole : now.pause ≡ full → After whole_lines held now
      on-full-whole =
          by-piece held (piece size held) (λ x r. r.pause ≡ full → After whole_lines x r) (λ a b e w h. full-whole a b e log h)
          (λ q m h. let z : ◌≡◌ {A = ℕ} 0 1 = cc in absurd (omega arith))

      on-end-whole : now.pause ≡ log_end → After whole_lines held now
      on-end-whole =
          by-piece held (piece size held) (λ x r. r.pause ≡ log_end → After whole_lines x r) (λ a b e w h. end_whole a b e log h)
          (λ q m h. let z : ◌≡◌ {A = ℕ} 0 1 = cc in absurd (omega arith))

    on_none : (held : List ℕ) → (turn cs size n false s at held).pause ≡ log_end → text s at (whole_lines (held ++ [])) ≡ (turn cs size n false s at held).text
    on_none held =
        by-piece held (piece size held) (λ x r. r.pause ≡ log_end → text s at (whole_lines (x ++ [])) ≡ r.text) (λ a b e w h. none_left a b e w h)
        (λ q m h. let z : ◌≡◌ {A = ℕ} 0 1 = cc in absurd (omega arith))

    -- ---- at the log's end all is played
    module _ (held : List ℕ) where
      abbrev final : Replay
      final = turn cs size n true s at held

      all_held : final ≡ part laws cs n room s at held
      all_held = ap (part laws cs n room s at) (take-length held)

      final-full : final.pause ≡ full → text s at (held ++ []) ≡ final.text ++ text final.state final.at (kept_bytes at final held ++ [])
      final-full h =
          let r = part laws cs n room s at held in
          let f : r.pause ≡ full = ap (λ (x : Replay). x.pause) (sym all_held) ∙ h in
          ap (text s at) (append-nil held) ∙ ap (λ (x : Replay). x.text) (laws.resumes cs n s at held f)
          ∙ ap (λ (x : List ℕ). r.text ++ text r.state r.at x) (sym (append-nil (drop (r.at - at) held)))
          ∙ ap (λ (x : Replay). x.text ++ text x.state x.at (kept_bytes at x held ++ [])) (sym all_held)

      final-over : (final.pause ≡ full → ⊥) → text s at (held ++ []) ≡ final.text
      final-over h =
          let f = laws.finishes cs n s at held (λ q. h (ap (λ (x : Replay). x.pause) all_held ∙ q)) in
          ap (text s at) (append-nil held) ∙ ap (λ (x : Replay). x.text) (sym f ∙ sym all_held)

  -- ---- turn after turn
  step-full : (last : Bool) (s : ReplayState) (at : ℕ) (held log : List ℕ) (r : Replay) → (last ≡ true → log ≡ []) → TurnTo cs size last s at held r
      → r.pause ≡ full → text s at (held ++ log) ≡ r.text ++ text r.state r.at (kept_bytes at r held ++ log)
  step-full false s at held log r l t p =
      subst (λ (x : Replay). x.pause ≡ full → text s at (held ++ log) ≡ x.text ++ text x.state x.at (kept_bytes at x held ++ log)) (sym t.is)
      (on-full t.room t.enough s at held log) p
  step-full true s at held log r l t p =
      subst (λ (y : List ℕ). text s at (held ++ y) ≡ r.text ++ text r.state r.at (kept_bytes at r held ++ y)) (sym (l refl))
      (subst (λ (x : Replay). x.pause ≡ full → text s at (held ++ []) ≡ x.text ++ text x.state x.at (kept_bytes at x held ++ [])) (sym t.is)
      (final-full t.room t.enough s at held) p)

  step-bad : (last : Bool) (s : ReplayState) (at : ℕ) (held log : List ℕ) (r : Replay) → (last ≡ true → log ≡ []) → TurnTo cs size last s at held r
      → r.pause ≡ bad_line → text s at (held ++ log) ≡ r.text
  step-bad false s at held log r l t p =
      subst (λ (x : Replay). x.pause ≡ bad_line → text s at (held ++ log) ≡ x.text) (sym t.is) (on-bad t.room t.enough s at held log) p
  step-bad true s at held log r l t p =
      let none : (turn cs size t.room true s at held).pause ≡ full → ⊥ =
      λ q. let w = sym p ∙ ap (λ (x : Replay). x.pause) t.is ∙ q in let z : ◌≡◌ {A = ℕ} 0 1 = cc in absurd (omega arith) in
      ap (λ (y : List ℕ). text s at (held ++ y)) (l refl) ∙ final-over t.room t.enough s at held none ∙ ap (λ (x : Replay). x.text) (sym t.is)

  step_end : (s : ReplayState) (at : ℕ) (held log : List ℕ) (r : Replay) → TurnTo cs size false s at held r
      → r.pause ≡ log_end → text s at (held ++ log) ≡ r.text ++ text r.state r.at (kept_bytes at r held ++ log)
  step_end s at held log r t p =
      subst (λ (x : Replay). x.pause ≡ log_end → text s at (held ++ log) ≡ x.text ++ text x.state x.at (kept_bytes at x held ++ log)) (sym t.is)
      (on-end t.room t.enough s at held log) p

  pub closes : {e : Ending} {s : ReplayState} {at : ℕ} {held log t : List ℕ} {last : Bool} → e ≡ closed → (last ≡ true → log ≡ [])
      → Windows cs size e s at held log last t → t ≡ text s at (held ++ log)
  closes {s = s} {at = at} {held = held} {log = log} {last = last} q l (again r w p k) =
      ap (λ (x : List ℕ). r.text ++ x) (closes q l k) ∙ sym (step-full last s at held log r l w p)
  closes {s = s} {at = at} {held = held} {log = log} {last = last} q l (bad-line r w p) = sym (step-bad last s at held log r l w p)
  closes {s = s} {at = at} {held = held} q l (some_read {log = log} r bytes w p k) =
      ap (λ (x : List ℕ). r.text ++ x) (closes q false-true k ∙ ap (text r.state r.at) (append_assoc (kept_bytes at r held) bytes log))
      ∙ sym (step_end s at held (bytes ++ log) r w p)
  closes {s = s} {at = at} {held = held} q l (none_read r w p k) =
      ap (λ (x : List ℕ). r.text ++ x) (closes q (λ e. refl) k) ∙ sym (step_end s at held [] r w p)
  closes q l (not_read r w p) = let z : ◌≡◌ {A = ℕ} 0 1 = cc in absurd (omega arith)
  closes {s = s} {at = at} {held = held} q l (over r w p) =
      let none : (turn cs size w.room true s at held).pause ≡ full → ⊥ =
      λ q. let v = sym p ∙ ap (λ (x : Replay). x.pause) w.is ∙ q in let z : ◌≡◌ {A = ℕ} 0 1 = cc in absurd (omega arith) in
      ap (λ (x : Replay). x.text) w.is ∙ sym (final-over w.room w.enough s at held none)

  -- no read fails behind the log's end
  no-failure : {e : Ending} {s : ReplayState} {at : ℕ} {held log t : List ℕ} {last : Bool} → e ≡ failed → last ≡ true
      → Windows cs size e s at held log last t → ⊥
  no-failure q l (again r w p k) = no-failure q l k
  no-failure q l (bad-line r w p) = let z : ◌≡◌ {A = ℕ} 0 1 = cc in absurd (omega arith)
  no-failure q l (some_read r bytes w p k) = let z : ◌≡◌ {A = ℕ} 0 1 = cc in absurd (omega arith)
  no-failure q l (none_read r w p k) = let z : ◌≡◌ {A = ℕ} 0 1 = cc in absurd (omega arith)
  no-failure q l (not_read r w p) = let z : ◌≡◌ {A = ℕ} 0 1 = cc in absurd (omega arith)
  no-failure q l (over r w p) = let z : ◌≡◌ {A = ℕ} 0 1 = cc in absurd (omega arith)

  pub fails : {e : Ending} {s : ReplayState} {at : ℕ} {held log t : List ℕ} {last : Bool} → e ≡ failed → last ≡ false
      → Windows cs size e s at held log last t → t ≡ text s at (whole_lines (held ++ log))
  fails {s = s} {at = at} {held = held} {log = log} {last = true} q l (again r w p k) = let z : ◌≡◌ {A = ℕ} 0 1 = cc in absurd (omega arith)
  fails {s = s} {at = at} {held = held} {log = log} {last = false} q l (again r w p k) =
      ap (λ (x : List ℕ). r.text ++ x) (fails q l k)
      ∙ sym (subst (λ (x : Replay). x.pause ≡ full → text s at (whole_lines (held ++ log)) ≡ x.text
      ++ text x.state x.at (whole_lines (kept_bytes at x held ++ log)))
      (sym w.is) (on-full-whole w.room w.enough s at held log) p)
  fails q l (bad-line r w p) = let z : ◌≡◌ {A = ℕ} 0 1 = cc in absurd (omega arith)
  fails {s = s} {at = at} {held = held} q l (some_read {log = log} r bytes w p k) =
      ap (λ (x : List ℕ). r.text ++ x) (fails q refl k ∙ ap (λ (x : List ℕ). text r.state r.at (whole_lines x))
      (append_assoc (kept_bytes at r held) bytes log))
      ∙ sym (subst (λ (x : Replay). x.pause ≡ log_end → text s at (whole_lines (held ++ (bytes ++ log)))
      ≡ x.text ++ text x.state x.at (whole_lines (kept_bytes at x held ++ (bytes ++ log))))
      (sym w.is) (on-end-whole w.room w.enough s at held (bytes ++ log)) p)
  fails q l (none_read r w p k) = absurd (no-failure q refl k)
  fails {s = s} {at = at} {held = held} q l (not_read r w p) =
      sym (subst (λ (x : Replay). x.pause ≡ log_end → text s at (whole_lines (held ++ [])) ≡ x.text) (sym w.is) (on_none w.room w.enough s at held) p)
  fails q l (over r w p) = let z : ◌≡◌ {A = ℕ} 0 1 = cc in absurd (omega arith)
