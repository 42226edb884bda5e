-- A replay on corresponding images, by induction over the log. Assumes nothing.
use mathlib.Core.Path.{◌≡◌, refl, sym, ap, subst, ◌∙◌}
use mathlib.Core.Bool.{Bool, true, false, cond}
use mathlib.Core.List.{List, [], ◌∷◌, ◌++◌}
use Prim.Native.Nat.{ℕ, zero, suc, ◌+◌, ◌-◌, ◌*◌, ◌/◌, ◌%◌, ◌^◌, ◌<◌}
use native.Mathlib.Omega.{arith}
use lib.Dec.{eqb, ltb}
use lib.IntN.{pos}
use lib.ListN.{length, take, drop, get_or, replicate, length-replicate}
use borrow.Author.Tests.{eq-eqb}
use Rattle.words.specs.Ascii.{ascii}
use Rattle.words.specs.Words.{little_endian}
use Rattle.words.specs.Bits.{bit}
use Rattle.memory.specs.declared.Bank.{Bank}
use Rattle.memory.specs.declared.Bank.TheVariants.{X, C, «V», N, D, R}
use Rattle.memory.specs.Layout.{image_size, layout_of, packed, block_at}
use Rattle.memory.specs.Cells.{bit_of}
use Rattle.images.specs.Bytewise.{old_size, cell_at, bytewise}
use Rattle.images.specs.Conversions.{normalized, truth_of, Corresponds}
use Rattle.images.proofs.Theorems.{image-theorems}
use Rattle.delivery.specs.declared.Answer.{Answer}
use Rattle.delivery.specs.declared.Answer.TheVariants.{Done, Fault, Refused}
use Rattle.operations.specs.Operations.{report_of, Request, request_in, request_answer_in, request_memory_in}
use Rattle.operations.proofs.Cells.{done-inside}
use Rattle.lines.specs.Printing.{signed_text, cell_text, cell_name}
use Rattle.program.specs.Cases.{zeros}
use Rattle.program.specs.Reply.{report_text, answer_text_in, CellInside}
use Rattle.card_laws.specs.Cards.{Card}
use Rattle.card_laws.specs.Reading.{CardsRead, good, read_cards}
use Rattle.card_laws.specs.Reading as Reading
use Rattle.card_laws.specs.Formulas.{formula_answer}
use Rattle.log_laws.specs.Log.{LogEntry, change, tick, run, bad, log_lines, log_entry_of}
use Rattle.log_laws.specs.Replay.{ReplayState, AfterLine, goes, stops, FoundCard, found, lacks, card_of, full, Replay, printed, Room, lent, endless, line_room}
use Rattle.log_laws.specs.Replay.{is_full, without, onward, CallWords, Called, done_at, after_replay, refusal_lines, is_over}
use Rattle.log_laws.specs.Replay.{first_state_in, after_request_in, after_run_in, after_entry_in, after_line_in, replay_lines_in, replay_from_in, replayed_with_in, state_at_in}
use Rattle.log_laws.specs.Replay.{called_with_in, replay_call_in}
use Rattle.log_laws.proofs.Entries.{Within, of-change, holdable, line-within}
use Rattle.image_answers.specs.Answers.{Alike}
use Rattle.image_answers.specs.Replays.{CorrespondingStates, SameReplay, SameCall, SameReplays}
use Rattle.image_answers.proofs.Answers.{same-answers}

-- ---- a cell prints the same
bit-text : (n : ℕ) → signed_text (bit_of n) ≡ signed_text (bit_of (truth_of n))
bit-text n = by (eqb n 0)
  where
    by : (x : Bool) → signed_text (cond x (pos 0) (pos 1)) ≡ signed_text (bit_of (cond x 0 1))
    by true = refl
    by false = refl

same_text : (b : Bank) (n : ℕ) → cell_text b n ≡ cell_text b (normalized b n)
same_text X n = bit-text n
same_text C n = bit-text n
same_text «V» n = refl
same_text N n = refl
same_text D n = refl
same_text R n = refl

answer-text : {m n : List ℕ} → Corresponds m n → (a : Answer) → CellInside a → answer_text_in bytewise m a ≡ answer_text_in packed n a
answer-text {m} {n} c (Done v k b i) h =
    ap (λ (t : List ℕ). report_text (report_of (Done v k b i)) ++ (cell_name b i ++ ascii "=" ++ t ++ ascii "\n"))
    (same_text b (bytewise.get m b i) ∙ ap (cell_text b) (c.cells b i (h.inside refl)))
answer-text c (Fault f k) h = refl
answer-text c (Refused a p) h = refl

-- ---- a line
data Both : AfterLine → AfterLine → Type 0 where
  both_go : {s t : ReplayState} (o : List ℕ) → CorrespondingStates s t → Both (goes s o) (goes t o)
  both_stop : Both stops stops

module _ (m n : List ℕ) (c : Corresponds m n) (k : ℕ) where
  abbrev old : ReplayState
  old = record { memory = m; tick = k }

  abbrev new : ReplayState
  new = record { memory = n; tick = k }

  requested : (q : Request) → Both (after_request_in bytewise old q) (after_request_in packed new q)
  requested q =
      let a = same-answers.compile-and-run k q m n c in
      let text : answer_text_in bytewise (request_memory_in bytewise k m q) (request_answer_in bytewise k m q)
      ≡ answer_text_in packed (request_memory_in packed k n q) (request_answer_in packed k n q) =
      answer-text a.memory (request_answer_in bytewise k m q) (record { inside = λ e. done-inside k n q (sym a.answer ∙ e) })
      ∙ ap (answer_text_in packed (request_memory_in packed k n q)) a.answer in
      subst (λ (t : List ℕ). Both (goes (record { memory = request_memory_in bytewise k m q; tick = k }) t) (after_request_in packed new q)) (sym text)
      (both_go (answer_text_in packed (request_memory_in packed k n q) (request_answer_in packed k n q)) (record { memory = a.memory; tick = refl }))

  ran : (j : ℕ) (f : FoundCard) → Both (after_run_in bytewise j old f) (after_run_in packed j new f)
  ran j (found t e) =
      subst (λ (q : Request). Both (after_request_in bytewise old q) (after_request_in packed new (request_in packed t e n (zeros 16384) (zeros 16384))))
      (sym (same-answers.request t e m n (zeros 16384) (zeros 16384) c)) (requested (request_in packed t e n (zeros 16384) (zeros 16384)))
  ran j lacks = both_go _ (record { memory = c; tick = refl })

  entered : (cs : List Card) (x : LogEntry) → Within x → Both (after_entry_in bytewise cs old x) (after_entry_in packed cs new x)
  entered cs (change b i v) (of-change h w) = both_go [] (record { memory = image-theorems.put m n b i v c h (holdable b v w); tick = refl })
  entered cs (tick t) w = both_go [] (record { memory = c; tick = refl })
  entered cs (run j) w = ran j (card_of j cs)
  entered cs bad w = both_stop

  taken : (cs : List Card) (l : List ℕ) → Both (after_line_in bytewise cs old l) (after_line_in packed cs new l)
  unfolding after_line_in
  taken cs l = entered cs (log_entry_of l) (line-within l)

line : (cs : List Card) (s t : ReplayState) (l : List ℕ) → CorrespondingStates s t → Both (after_line_in bytewise cs s l) (after_line_in packed cs t l)
line cs s t l c =
    subst (λ (k : ℕ). Both (after_line_in bytewise cs s l) (after_line_in packed cs (record { memory = t.memory; tick = k }) l)) c.tick
    (taken s.memory t.memory c.memory s.tick cs l)

-- ---- line after line
module _ (cs : List Card) where
  lines : (room : Room) (s t : ReplayState) (at : ℕ) (ls : List (List ℕ)) → CorrespondingStates s t
      → SameReplay (replay_lines_in bytewise cs room s at ls) (replay_lines_in packed cs room t at ls)
  lines room s t at [] c = record { text = refl; at = refl; pause = refl; state = c }
  lines room s t at (l ∷ ls) c = by (is_full room) (line cs s t l c) (λ r s' t' c'. lines r s' t' (at + length l) ls c')
    where
      by : (x : Bool) {y z : AfterLine} → Both y z
          → ((r : Room) (s' t' : ReplayState) → CorrespondingStates s' t'
          → SameReplay (replay_lines_in bytewise cs r s' (at + length l) ls) (replay_lines_in packed cs r t' (at + length l) ls))
          → SameReplay
          (cond x (record { text = []; state = s; at = at; pause = full }) (onward s at y
          (λ s' o. replay_lines_in bytewise cs (without o room) s' (at + length l) ls)))
          (cond x (record { text = []; state = t; at = at; pause = full }) (onward t at z
          (λ s' o. replay_lines_in packed cs (without o room) s' (at + length l) ls)))
      by true w ih = record { text = refl; at = refl; pause = refl; state = c }
      by false both_stop ih = record { text = refl; at = refl; pause = refl; state = c }
      by false (both_go {s = s'} {t = t'} o d) ih =
          let r = ih (without o room) s' t' d in
          record { text = ap (λ (x : List ℕ). o ++ x) r.text; at = r.at; pause = r.pause; state = r.state }

-- ---- images of zeros
data Zeros : List ℕ → Type 0 where
  no_more : Zeros []
  one_more : {s : List ℕ} → Zeros s → Zeros (0 ∷ s)

zeros_of : (n : ℕ) → Zeros (replicate n 0)
zeros_of zero = no_more
zeros_of (suc n) = one_more (zeros_of n)

zeros-drop : (k : ℕ) {s : List ℕ} → Zeros s → Zeros (drop k s)
zeros-drop zero z = z
zeros-drop (suc k) no_more = no_more
zeros-drop (suc k) (one_more z) = zeros-drop k z

zeros-take : (k : ℕ) {s : List ℕ} → Zeros s → Zeros (take k s)
zeros-take zero z = no_more
zeros-take (suc k) no_more = no_more
zeros-take (suc k) (one_more z) = one_more (zeros-take k z)

zeros-number : {s : List ℕ} → Zeros s → little_endian s ≡ 0
zeros-number no_more = refl
zeros-number (one_more z) = omega (arith, zeros-number z)

zeros-at : (k : ℕ) {s : List ℕ} → Zeros s → get_or s k 0 ≡ 0
zeros-at k no_more = refl
zeros-at zero (one_more z) = refl
zeros-at (suc k) (one_more z) = zeros-at k z

bit-zero : (k : ℕ) → bit 0 k ≡ 0
bit-zero zero = refl
bit-zero (suc k) = bit-zero k

module _ {s : List ℕ} (z : Zeros s) where
  old-zero : (b : Bank) (i : ℕ) → bytewise.get s b i ≡ 0
  old-zero b i = zeros-number (zeros-take (layout_of b).width (zeros-drop (cell_at b i) z))

  block : (b : Bank) (i : ℕ) → Zeros (take (layout_of b).width (drop (block_at b i) s))
  block b i = zeros-take (layout_of b).width (zeros-drop (block_at b i) z)

  new-zero : (b : Bank) (i : ℕ) → packed.get s b i ≡ 0
  new-zero X i = ap (λ (n : ℕ). bit n (i % 8)) (zeros-at 0 (block X i)) ∙ bit-zero (i % 8)
  new-zero C i = ap (λ (n : ℕ). bit n (i % 8)) (zeros-at 0 (block C i)) ∙ bit-zero (i % 8)
  new-zero «V» i = zeros-number (block «V» i)
  new-zero N i = zeros-number (block N i)
  new-zero D i = zeros-number (block D i)
  new-zero R i = zeros-number (block R i)

normal-zero : (b : Bank) → normalized b 0 ≡ 0
normal-zero X = refl
normal-zero C = refl
normal-zero «V» = refl
normal-zero N = refl
normal-zero D = refl
normal-zero R = refl

first : CorrespondingStates (first_state_in bytewise) (first_state_in packed)
unfolding zeros
first =
    record {
      memory =
          record {
            left = length-replicate {A = ℕ} old_size 0;
            right = length-replicate {A = ℕ} image_size 0;
            cells = λ b i h. ap (normalized b) (old-zero (zeros_of old_size) b i) ∙ normal-zero b ∙ sym (new-zero (zeros_of image_size) b i);
            flags = λ f. zeros-at (bytewise.flag f) (zeros_of old_size) ∙ sym (zeros-at (packed.flag f) (zeros_of image_size));
          };
      tick = refl;
    }

-- ---- the whole, and a call
printed-same : (log : List ℕ) (x : CardsRead) → replayed_with_in bytewise log x ≡ replayed_with_in packed log x
printed-same log (good cs) = (lines cs endless (first_state_in bytewise) (first_state_in packed) 0 (log_lines log) first).text
printed-same log (Reading.bad a p) = refl

started : (m n : List ℕ) (c : CallWords) → Corresponds m n → CorrespondingStates (state_at_in bytewise m c) (state_at_in packed n c)
started m n c h = by (eqb c.at 0)
  where
    by : (x : Bool) → CorrespondingStates (cond x (first_state_in bytewise) (record { memory = m; tick = c.tick % 2 ^ 32 }))
        (cond x (first_state_in packed) (record { memory = n; tick = c.tick % 2 ^ 32 }))
    by true = first
    by false = record { memory = h; tick = refl }

called : (r q : Replay) → SameReplay r q → SameCall (after_replay r) (after_replay q)
called r q e = record { words = rw (e.at, e.state.tick, e.pause); text = e.text; memory = e.state.memory }

module _ (file log m n : List ℕ) (k : ℕ) (c : CallWords) (h : Corresponds m n) where
  read : (x : CardsRead) → SameCall (called_with_in bytewise log m k c x) (called_with_in packed log n k c x)
  read (good cs) =
      called (replay_from_in bytewise cs (lent k) (state_at_in bytewise m c) c.at (drop c.at log))
      (replay_from_in packed cs (lent k) (state_at_in packed n c) c.at (drop c.at log))
      (lines cs (lent k) (state_at_in bytewise m c) (state_at_in packed n c) c.at (log_lines (drop c.at log)) (started m n c h))
  read (Reading.bad a p) = record { words = refl; text = refl; memory = h }

  call : SameCall (replay_call_in bytewise file log m k c) (replay_call_in packed file log n k c)
  call = rw (eq-eqb (length m) old_size h.left, eq-eqb (length n) image_size h.right) (by (ltb 0 c.done) (ltb k line_room))
    where
      by : (x y : Bool)
          → SameCall
          (cond x (record { words = done_at c; memory = m; text = [] })
          (cond y (record { words = c; memory = m; text = [] }) (called_with_in bytewise log m k c (read_cards formula_answer file))))
          (cond x (record { words = done_at c; memory = n; text = [] })
          (cond y (record { words = c; memory = n; text = [] }) (called_with_in packed log n k c (read_cards formula_answer file))))
      by true y = record { words = refl; text = refl; memory = h }
      by false true = record { words = refl; text = refl; memory = h }
      by false false = read (read_cards formula_answer file)

pub same-replays : SameReplays
same-replays =
    record {
      lines = λ cs room s t at log c. lines cs room s t at (log_lines log) c;
      first = first;
      replayed = λ file log. printed-same log (read_cards formula_answer file);
      call = λ file log m n k c h. call file log m n k c h;
    }
