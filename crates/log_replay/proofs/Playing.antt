-- The replay line after line: what was played so far, and what the rest gives. Assumes nothing.
use mathlib.Core.Path.{◌≡◌, refl, sym, ap, subst, ◌∙◌}
use mathlib.Core.Bool.{Bool, true, false, cond}
use mathlib.Core.List.{List, [], ◌∷◌, ◌++◌, append-nil}
use Prim.Native.Nat.{ℕ, suc, ◌+◌, ◌-◌, ◌≤◌, ◌<◌}
use native.Mathlib.Nat.{add-zero}
use native.Mathlib.Omega.{arith}
use lib.Dec.{ltb}
use lib.ListN.{length, take, drop, length-drop, drop_of_length-le}
use lib.Seq.{drop-drop, length-sets, length-take-le}
use borrow.Author.Tests.{lt-ltb, le-ltb, ltb-true, ltb-false}
use Rattle.std.specs.Prelude.{Option, Some, None}
use Rattle.words.proofs.Lists.{rest_of}
use Rattle.memory.specs.Layout.{image_size}
use Rattle.delivery.specs.declared.Answer.TheVariants.{Refused}
use Rattle.operations.specs.declared.Report.{Report}
use Rattle.operations.specs.Operations.{report_of}
use Rattle.lines.specs.private.Steps.{Puts}
use Rattle.lines.proofs.Stores.{then, as-text}
use Rattle.program.specs.Reply.{report_text}
use Rattle.program.proofs.reply.Whole.{front}
use Rattle.card_laws.specs.Lines.{to_end}
use Rattle.card_laws.specs.Cards.{Card}
use Rattle.log_laws.specs.Log.{LogEntry, log_lines, log_entry_of}
use Rattle.log_laws.specs.Replay.{ReplayState, AfterLine, goes, stops, after_entry, after_line, after_line_in, full, log_end, Replay, printed}
use Rattle.log_laws.specs.Replay.{lent, line_room, refusal_lines, onward, replay_lines, replay_from}
use Rattle.log_laws.proofs.Replaying.{printed-twice}
use Rattle.log_replay.specs.declared.Pause.TheVariants.{Full, End, BadLine}
use Rattle.log_replay.specs.Replays.{Plays}
use Rattle.log_lines.specs.declared.entry.Entry.{Entry}
use Rattle.log_lines.specs.declared.Step.{Step}
use Rattle.log_lines.specs.private.Steps.{entry_in, state_in, Goes, Takes, TakesEntry}
use Rattle.log_lines.proofs.Steps.{takes-on, takes-stop}
use Rattle.log_lines.proofs.Cuts.{first_line, behind_first, first-line, entry-bad}

-- ---- a refusal
pub refusal-put : {out out' bytes bytes' : List ℕ} {at m end answer place : ℕ} {r : Report} → r ≡ report_of (Refused answer place)
    → Puts bytes 0 bytes' m (report_text r) → m ≤ length bytes
    → Puts out at out' end (take m bytes') → Puts out at out' end (refusal_lines answer place)
refusal-put e p h q = as-text (front p h ∙ ap report_text e) q

module _ (cs : List Card) where
  -- ---- the first line
  lines_of : (s : List ℕ) → 0 < length s → log_lines s ≡ first_line s ∷ log_lines (behind_first s)
  lines_of [] h = absurd (omega arith)
  lines_of (c ∷ s) h = first-line c s

  abbrev Onward : ℕ → ReplayState → ℕ → List ℕ → AfterLine → Replay
  Onward n st at s x = onward st at x (λ s' o. replay_lines cs (lent (n - length o)) s' (at + length (first_line s)) (log_lines (behind_first s)))

  opened : (n : ℕ) (st : ReplayState) (at : ℕ) (s : List ℕ) → 0 < length s
      → replay_from cs (lent n) st at s ≡ cond (ltb n line_room) (record { text = []; state = st; at = at; pause = full })
      (Onward n st at s (after_line cs st (first_line s)))
  opened n st at s h = ap (replay_lines cs (lent n) st at) (lines_of s h)

  abbrev pub After : ReplayState → List ℕ → AfterLine
  After st s = after_entry cs st (log_entry_of (first_line s))

  taken : (n : ℕ) (st : ReplayState) (at : ℕ) (s : List ℕ) → 0 < length s → line_room ≤ n → replay_from cs (lent n) st at s ≡ Onward n st at s (After st s)
  unfolding after_line_in
  taken n st at s h r =
      opened n st at s h ∙ ap (λ (x : Bool). cond x (record { text = []; state = st; at = at; pause = full }) (Onward n st at s (After st s)))
      (le-ltb n line_room r)

  -- a line that was played has its end
  pub has_end : (st s' : ReplayState) (s o : List ℕ) → After st s ≡ goes s' o → to_end s < length s
  has_end st s' s o e = by (ltb (to_end s) (length s)) refl
    where
      by : (x : Bool) → ltb (to_end s) (length s) ≡ x → to_end s < length s
      by true q = ltb-true (to_end s) (length s) q
      by false q =
          let b = entry-bad s refl (ltb-false (to_end s) (length s) q) in
          let w : stops ≡ goes s' o = ap (after_entry cs st) b ∙ e in
          let z : ◌≡◌ {A = ℕ} 0 1 = cc in
          absurd (omega arith)

  module _ (whole : Replay) (out₀ : List ℕ) (at₀ : ℕ) (log : List ℕ) where
    pub record Playing (memory out : List ℕ) (from t end : ℕ) : Type 0 where
      pub text : List ℕ
      pub rest : whole ≡ printed text (replay_from cs (lent (length out₀ - end)) (state_in memory t) (at₀ + from) (drop from log))
      pub puts : Puts out₀ 0 out end text
      pub image : length memory ≡ image_size
      pub inside : from ≤ length log
      pub fits : end ≤ length out₀

    pub start : (memory : List ℕ) (t : ℕ) → length memory ≡ image_size → whole ≡ replay_from cs (lent (length out₀)) (state_in memory t) at₀ log
        → Playing memory out₀ 0 t 0
    start memory t i e =
        let n : length out₀ - 0 ≡ length out₀ = omega arith in
        record {
          text = [];
          rest =
              e ∙ ap (λ (k : ℕ). replay_from cs (lent k) (state_in memory t) at₀ log) (sym n)
              ∙ ap (λ (k : ℕ). replay_from cs (lent (length out₀ - 0)) (state_in memory t) k log) (sym (add-zero at₀));
          puts = record { bytes = refl; end = refl };
          image = i;
          inside = omega arith;
          fits = omega arith;
        }

    module _ {memory out : List ℕ} {from t end : ℕ} (p : Playing memory out from t end) where
      abbrev At : ℕ
      At = at₀ + from

      pub ended : length log ≤ from → Plays whole memory out₀ out (record { cursor = record { at = at₀ + from; tick = t }; pause = End; written = end })
      ended h =
          let e : whole ≡ printed p.text (record { text = []; state = state_in memory t; at = at₀ + from; pause = log_end }) =
          p.rest ∙ ap (λ (s : List ℕ). printed p.text (replay_from cs (lent (length out₀ - end)) (state_in memory t) (at₀ + from) s))
          (drop_of_length-le log h) in
          rw e (record { next = refl; clock = refl; why = refl; image = refl; written = as-text (sym (append-nil p.text)) p.puts })

      module _ (h : from < length log) where
        some : 0 < length (drop from log)
        some = omega (arith, length-drop from log)

        pub filled : length out₀ - end < line_room
            → Plays whole memory out₀ out (record { cursor = record { at = at₀ + from; tick = t }; pause = Full; written = end })
        filled r =
            let s : List ℕ = drop from log in
            let st : ReplayState = state_in memory t in
            let n : ℕ = length out₀ - end in
            let e : whole ≡ printed p.text (record { text = []; state = st; at = at₀ + from; pause = full }) =
            p.rest ∙ ap (printed p.text) (opened n st (at₀ + from) s some
            ∙ ap (λ (x : Bool). cond x (record { text = []; state = st; at = at₀ + from; pause = full })
            (Onward n st (at₀ + from) s (after_line cs st (first_line s)))) (lt-ltb n line_room r)) in
            rw e (record { next = refl; clock = refl; why = refl; image = refl; written = as-text (sym (append-nil p.text)) p.puts })

        module _ (r : line_room ≤ length out₀ - end) where
          turn : {x : AfterLine} → After (state_in memory t) (drop from log) ≡ x
              → whole ≡ printed p.text (Onward (length out₀ - end) (state_in memory t) (at₀ + from) (drop from log) x)
          turn e =
              p.rest ∙ ap (printed p.text) (taken (length out₀ - end) (state_in memory t) (at₀ + from) (drop from log) some r
              ∙ ap (Onward (length out₀ - end) (state_in memory t) (at₀ + from) (drop from log)) e)

          pub halted : {out' : List ℕ} {last : ℕ} → After (state_in memory t) (drop from log) ≡ stops → Puts out end out' last (refusal_lines 16 (at₀ + from))
              → Plays whole memory out₀ out' (record { cursor = record { at = at₀ + from; tick = t }; pause = BadLine; written = last })
          halted e q = rw (turn e) (record { next = refl; clock = refl; why = refl; image = refl; written = then p.puts q })

          pub again : {memory' out' : List ℕ} {t' next k : ℕ} → k ≡ to_end (drop from log) → length memory' ≡ image_size
              → Goes (After (state_in memory t) (drop from log)) memory' t' out end out' next → Playing memory' out' (from + (k + 1)) t' next
          again {memory'} {out'} {t'} {next} {k} e i g =
              let s : List ℕ = drop from log in
              let o : List ℕ = g.text in
              let st : ReplayState = state_in memory' t' in
              let b : to_end s < length s = has_end (state_in memory t) st s o g.is in
              let f : length (first_line s) ≡ suc (to_end s) = length-take-le (suc (to_end s)) s (omega arith) in
              let n : length out₀ - end - length o ≡ length out₀ - next = omega (arith, g.puts.end) in
              let a : at₀ + from + length (first_line s) ≡ at₀ + (from + (k + 1)) = omega (arith, f, e) in
              let j : from + suc (to_end s) ≡ from + (k + 1) = omega (arith, e) in
              let d : behind_first s ≡ drop (from + (k + 1)) log = drop-drop (suc (to_end s)) from log ∙ ap (λ (x : ℕ). drop x log) j in
              record {
                text = p.text ++ o;
                rest =
                    turn g.is
                    ∙ ap (λ (x : ℕ). printed p.text
                    (printed o (replay_lines cs (lent x) st (at₀ + from + length (first_line s)) (log_lines (behind_first s))))) n
                    ∙ ap (λ (x : ℕ). printed p.text (printed o (replay_lines cs (lent (length out₀ - next)) st x (log_lines (behind_first s))))) a
                    ∙ ap (λ (x : List ℕ). printed p.text (printed o (replay_from cs (lent (length out₀ - next)) st (at₀ + (from + (k + 1))) x))) d
                    ∙ printed-twice p.text o (replay_from cs (lent (length out₀ - next)) st (at₀ + (from + (k + 1))) (drop (from + (k + 1)) log));
                puts = then p.puts g.puts;
                image = i;
                inside = omega (arith, e, b, length-drop from log);
                fits = omega (arith, g.short, r);
              }

-- ---- as the code has it: the rest of the log is a part of it
abbrev Rest : List ℕ → ℕ → List ℕ
Rest log from = take (length log - from) (drop from log)

module _ {cs : List Card} {whole : Replay} {out₀ : List ℕ} {at₀ : ℕ} {log memory out : List ℕ} {from t end : ℕ}
    (p : Playing cs whole out₀ at₀ log memory out from t end) where
  pub long : length out ≡ length out₀
  long = ap length p.puts.bytes ∙ length-sets out₀ 0 p.text

  module _ {k : ℕ} (e : k ≡ to_end (Rest log from)) {x : Option Entry} (q : x ≡ entry_in (log_entry_of (take (suc k) (Rest log from)))) {memory' out' : List ℕ} {s : Option Step}
      (y : TakesEntry cs x memory t memory' out end out' s) where
    same : log_entry_of (take (suc k) (Rest log from)) ≡ log_entry_of (first_line (drop from log))
    same = ap (λ (n : ℕ). log_entry_of (take (suc n) (Rest log from))) e ∙ ap (λ (l : List ℕ). log_entry_of (first_line l)) (rest_of log from)

    takes : Takes (After cs (state_in memory t) (drop from log)) memory memory' out end out' s
    takes = subst (λ (l : LogEntry). Takes (after_entry cs (state_in memory t) l) memory memory' out end out' s) same
        (y (log_entry_of (take (suc k) (Rest log from))) q)

    module _ (h : from < length log) (r : line_room ≤ length out₀ - end) where
      pub go_on : {x : Step} → s ≡ Some x → length memory' ≡ image_size → Playing cs whole out₀ at₀ log memory' out' (from + (k + 1)) x.tick x.end
      go_on g i = again cs whole out₀ at₀ log p h r (e ∙ ap to_end (rest_of log from)) i (takes-on takes g)

      pub unmoved : s ≡ None → (memory' ≡ memory) × (out' ≡ out)
      unmoved g = let z = takes-stop takes g in (z.1, z.2)

      pub halt : s ≡ None → {out'' : List ℕ} {last : ℕ} → Puts out' end out'' last (refusal_lines 16 (at₀ + from))
          → Plays whole memory' out₀ out'' (record { cursor = record { at = at₀ + from; tick = t }; pause = BadLine; written = last })
      halt g {out''} {last} w =
          let z = takes-stop takes g in
          subst (λ (m : List ℕ). Plays whole m out₀ out'' (record { cursor = record { at = at₀ + from; tick = t }; pause = BadLine; written = last }))
          (sym z.1)
          (halted cs whole out₀ at₀ log p h r z.0 (subst (λ (o : List ℕ). Puts o end out'' last (refusal_lines 16 (at₀ + from))) z.2 w))
