-- What is printed lies in the bytes lent: no line prints more than 64. Assumes nothing.
use Rattle.std.specs.Prelude.{Result, Ok, Err}
use mathlib.Core.Path.{◌≡◌, refl, sym, ap, subst, ◌∙◌}
use mathlib.Core.Bool.{Bool, true, false, cond}
use mathlib.Core.List.{List, [], ◌∷◌, ◌++◌}
use Prim.Native.Nat.{ℕ, suc, ◌+◌, ◌-◌, ◌*◌, ◌%◌, ◌^◌, ◌≤◌, ◌<◌}
use native.Mathlib.Omega.{arith}
use lib.Dec.{eqb, ltb, T}
use lib.IntN.{pos}
use lib.ListN.{length, length-append}
use borrow.Author.Tests.{ltb-true, ltb-false}
use Rattle.words.specs.Ascii.{ascii}
use Rattle.values.specs.declared.Value.{Value}
use Rattle.values.specs.declared.Fault.{Fault as FaultName}
use Rattle.values.specs.declared.Fault.TheVariants.{OutOfRange, IndexError}
use Rattle.values.specs.Patterns.{signed_of}
use Rattle.memory.specs.declared.Bank.{Bank}
use Rattle.memory.specs.declared.Bank.TheVariants.{X, C, «V», N, D, R}
use Rattle.memory.specs.Layout.{image_size, layout_of, packed, has_cell}
use Rattle.memory.specs.Cells.{bit_of}
use Rattle.memory.specs.Laws.{modulus}
use Rattle.memory.specs.Store.{is_finite, encode_cell, answer_of, write_cell, with_flag}
use Rattle.memory.specs.Environment.{memory_at}
use Rattle.memory.proofs.Laws.{packed-laws, memory-laws}
use Rattle.memory.proofs.Places.{has-element}
use Rattle.grammar.specs.Eval.{eval}
use Rattle.text.specs.Judge.{Judgement, accepted, refused, judge}
use Rattle.text.specs.Targets.{Target, to_cell, to_indexed, no_target, target_of}
use Rattle.machine.specs.declared.Ended.{Ended}
use Rattle.machine.specs.declared.Ended.TheVariants as Ended
use Rattle.machine.specs.Machine.{runs_at, end_of}
use Rattle.tree_code.specs.Code.{code_of}
use Rattle.delivery.specs.declared.Answer.{Answer}
use Rattle.delivery.specs.declared.Answer.TheVariants.{Done, Fault, Refused}
use Rattle.operations.specs.declared.Report.{Report}
use Rattle.operations.specs.Operations.{report_of, Destination, cell, fault, lost, Arrival, arrival_of, after_store, arrived_answer, arrived_memory, finished}
use Rattle.operations.specs.Operations.{memory_after, Request, stores, stops, of_text, of_target, request, request_answer, request_memory}
use Rattle.promises.specs.Promises.{compile-and-run}
use Rattle.promises.proofs.Promises.{promises}
use Rattle.lines.specs.Printing.{decimal_text, signed_text, cell_text, cell_name, low_digits, width_of}
use Rattle.lines.specs.private.Steps.{half_text}
use Rattle.lines.proofs.printing.Digits.{length_digits}
use Rattle.lines.proofs.printing.Widths.{at_most}
use Rattle.lines.proofs.printing.Signs.{half-text}
use Rattle.lines.proofs.Long.{few}
use Rattle.program.specs.Cases.{zeros}
use Rattle.program.specs.Reply.{answer_key, place_key, report_text, cell_line, stored_text, answer_text}
use Rattle.card_laws.specs.Lines.{ended}
use Rattle.card_laws.specs.Cards.{Card, most_cards}
use Rattle.salvage_laws.specs.Cut.{joined}
use Rattle.log_laws.specs.Log.{LogEntry, change, tick, run, bad, log_entry_of}
use Rattle.log_laws.specs.Replay.{ReplayState, AfterLine, goes, stops, FoundCard, found, lacks, card_of, after_run, after_entry, after_line, after_line_in}
use Rattle.log_laws.specs.Replay.{full, Replay, lent, line_room, refusal_lines, onward, replay_lines}
use Rattle.log_laws.proofs.Entries.{Within, of-run, line-within}

-- ---- lengths of texts
decimal-short : (k n : ℕ) → n < 10 ^ suc k → length (decimal_text n) ≤ suc k
decimal-short k n h = omega (arith, length_digits 10 (width_of n) n, at_most k n h)

five : (a b c d e : List ℕ) → length (a ++ b ++ c ++ d ++ e) ≡ length a + length b + length c + length d + length e
five a b c d e = omega (arith, length-append (a ++ b ++ c ++ d) e, length-append (a ++ b ++ c) d, length-append (a ++ b) c, length-append a b)

report-short : (r : Report) → r.answer < 100 → r.place < 2 ^ 64 → length (report_text r) ≤ 37
report-short r a p =
    omega (
      arith,
      five answer_key (decimal_text r.answer) place_key (decimal_text r.place) (ascii "\n"),
      decimal-short 1 r.answer a,
      decimal-short 19 r.place (omega (arith, p)),
    )

bit-short : (n : ℕ) → length (signed_text (bit_of n)) ≤ 11
bit-short n = by (eqb n 0)
  where
    by : (x : Bool) → length (signed_text (cond x (pos 0) (pos 1))) ≤ 11
    by true = omega arith
    by false = omega arith

half-short : (half n : ℕ) → half ≤ 2147483648 → n < 2 * half → length (half_text half n) ≤ 11
half-short half n h l = by (ltb n half) refl
  where
    by : (x : Bool) → ltb n half ≡ x → length (cond x (decimal_text n) (45 ∷ decimal_text (2 * half - n))) ≤ 11
    by true e = omega (arith, decimal-short 9 n (omega (arith, ltb-true n half e)))
    by false e = omega (arith, decimal-short 9 (2 * half - n) (omega (arith, ltb-false n half e)))

value-short : (b : Bank) (n : ℕ) → n < modulus b → length (cell_text b n) ≤ 11
value-short X n h = bit-short n
value-short C n h = bit-short n
value-short «V» n h = omega (arith, decimal-short 9 n (omega arith))
value-short N n h = subst (λ (t : List ℕ). length t ≤ 11) (half-text 16 n (omega arith) h) (half-short 32768 n (omega arith) (omega arith))
value-short D n h = subst (λ (t : List ℕ). length t ≤ 11) (half-text 32 n (omega arith) h) (half-short 2147483648 n (omega arith) (omega arith))
value-short R n h = omega (arith, length_digits 16 8 n)

four : (a b c d : List ℕ) → length (a ++ b ++ c ++ d) ≡ length a + length b + length c + length d
four a b c d = omega (arith, length-append (a ++ b ++ c) d, length-append (a ++ b) c, length-append a b)

cell-short : (m : List ℕ) (b : Bank) (i : ℕ) → i < (layout_of b).elements → packed.get m b i < modulus b → length (cell_line m b i) ≤ 17
cell-short m b i h l =
    omega (
      arith,
      four (cell_name b i) (ascii "=") (cell_text b (packed.get m b i)) (ascii "\n"),
      decimal-short 2 i (omega (arith, few b)),
      value-short b (packed.get m b i) l,
    )

-- ---- what compile-and-run leaves for the third line
data Reported (m : List ℕ) : Answer → Type 0 where
  done : {v : Value} {n : ℕ} {b : Bank} {i : ℕ} → i < (layout_of b).elements → packed.get m b i < modulus b → Reported m (Done v n b i)
  faulty : {f : FaultName} {n : ℕ} → Reported m (Fault f n)
  stopped : {a p : ℕ} → p < 2 ^ 64 → Reported m (Refused a p)

module _ (m : List ℕ) (l : length m ≡ image_size) where
  below : (b : Bank) (n : ℕ) → n % modulus b < modulus b
  below X n = omega arith
  below C n = omega arith
  below «V» n = omega arith
  below N n = omega arith
  below D n = omega arith
  below R n = omega arith

  stored : (v : Value) (k : ℕ) (b : Bank) (i : ℕ) → i < (layout_of b).elements → (x : (Result ℕ FaultName)) → encode_cell b v ≡ x
      → Reported (write_cell m b i x) (after_store v k b i (answer_of x))
  stored v k b i h (Ok p) e =
      let g : packed.get (packed.put m b i p) b i < modulus b = omega (arith, packed-laws.get_put m b i p l h (memory-laws.holdable b v p e), below b p) in
      done h g
  stored v k b i h (Err f) e = faulty

  arrived : (v : Value) (k : ℕ) (d : Destination) → Reported (arrived_memory m v d) (arrived_answer m v k d)
  arrived v k (fault f) = faulty
  arrived v k lost = stopped {p = 0} (omega arith)
  arrived v k (cell b i) = by (has_cell m b i) refl
    where
      by : (t : Bool) → has_cell m b i ≡ t → Reported (cond t (write_cell m b i (encode_cell b v)) (with_flag m IndexError))
          (after_store v k b i (cond t (answer_of (encode_cell b v)) (Err IndexError)))
      by true e = stored v k b i (has-element packed m b i (rw e tt)) (encode_cell b v) refl
      by false e = faulty

  ends : (a : Arrival) (x : Ended) (k : ℕ) → Reported (memory_after m a x) (finished m a x k)
  ends a (Ended.Done v) k = by (is_finite v)
    where
      by : (t : Bool) → Reported (cond t (arrived_memory m v a.destination) (with_flag m OutOfRange))
          (cond t (arrived_answer m v (k + a.count) a.destination) (Fault OutOfRange k))
      by true = arrived v (k + a.count) a.destination
      by false = faulty
  ends a (Ended.Stopped f) k = faulty
  ends a Ended.Stuck k = stopped {p = 0} (omega arith)

  performed : (t : ℕ) (q : Request) → ((a p : ℕ) → q ≡ stops a p → p < 2 ^ 64) → Reported (request_memory t m q) (request_answer t m q)
  performed t (stores g x code index) h =
      ends (arrival_of t index m g) (end_of (eval (memory_at t m) x)) (runs_at t code (length (code_of x)) m).count
  performed t (stops a p) h = stopped (h a p refl)

-- the place of a refusal lies in the text
place_of : (a p b q : ℕ) → ◌≡◌ {A = Request} (stops a p) (stops b q) → p < 2 ^ 64 → q < 2 ^ 64
place_of a p b q e h = let f : p ≡ q = cc in omega (arith, f, h)

judged : (code index text : List ℕ) (g : Target) (j : Judgement) → judge text ≡ j → (a p : ℕ) → of_text code index g j ≡ stops a p → p < 2 ^ 64
judged code index text g (accepted t) e a p q = let z : ◌≡◌ {A = ℕ} 0 1 = cc in absurd (omega arith)
judged code index text g (refused b r) e a p q = place_of b r a p q (omega (arith, (promises.places text b r e).1))

targeted : (code index text : List ℕ) (g : Target) (a p : ℕ) → of_target text code index g ≡ stops a p → p < 2 ^ 64
targeted code index text (to_cell b i) a p q = judged code index text (to_cell b i) (judge text) refl a p q
targeted code index text (to_indexed b t) a p q = judged code index text (to_indexed b t) (judge text) refl a p q
targeted code index text no_target a p q = place_of 2 0 a p q (omega arith)

placed : (target text m code index : List ℕ) (a p : ℕ) → request target text m code index ≡ stops a p → p < 2 ^ 64
placed target text m code index a p = by (eqb (length m) image_size) (ltb (length code) 16384) (ltb (length index) 16384)
  where
    by : (x y z : Bool) → cond x (cond y (stops 10 0) (cond z (stops 10 0) (of_target text code index (target_of target)))) (stops 1 0) ≡ stops a p → p < 2 ^ 64
    by true true z q = place_of 10 0 a p q (omega arith)
    by true false true q = place_of 10 0 a p q (omega arith)
    by true false false q = targeted code index text (target_of target) a p q
    by false y z q = place_of 1 0 a p q (omega arith)

answer-short : (m : List ℕ) (a : Answer) → Reported m a → (report_of a).answer < 100 → length (answer_text m a) ≤ line_room
answer-short m (Done v n b i) (done h l) k =
    let r = report_of (Done v n b i) in
    omega (arith, length-append (report_text r) (cell_line m b i), report-short r k (omega arith), cell-short m b i h l)
answer-short m (Fault f n) faulty k =
    let r = report_of (Fault f n) in
    omega (arith, length-append (report_text r) [], report-short r k (omega arith))
answer-short m (Refused a p) (stopped h) k =
    let r = report_of (Refused a p) in
    omega (arith, length-append (report_text r) [], report-short r k h)

-- ---- a line: the image keeps its size, and what is printed is short
data Short : AfterLine → Type 0 where
  on : {s : ReplayState} {o : List ℕ} → length s.memory ≡ image_size → length o ≤ line_room → Short (goes s o)
  off : Short stops

run_short : (k : ℕ) (s : ReplayState) (f : FoundCard) → k ≤ most_cards → length s.memory ≡ image_size → Short (after_run k s f)
run_short k s lacks h l =
    on {o = ended (ascii "unknown=" ++ decimal_text k) []} l (omega (
      arith,
      length-append (ascii "unknown=" ++ decimal_text k) (10 ∷ []),
      length-append (ascii "unknown=") (decimal_text k),
      decimal-short 1 k (omega arith),
    ))
run_short k s (found t e) h l =
    let m = s.memory in
    let q = request t e m (zeros 16384) (zeros 16384) in
    let f = promises.keeps (compile-and-run e s.tick) t m (zeros 16384) (zeros 16384) in
    on (f.sizes.0 ∙ l)
    (answer-short (request_memory s.tick m q) (request_answer s.tick m q) (performed m l s.tick q (placed t e m (zeros 16384) (zeros 16384)))
    (omega (arith, f.listed)))

module _ (cs : List Card) where
  entry-short : (s : ReplayState) (x : LogEntry) → Within x → length s.memory ≡ image_size → Short (after_entry cs s x)
  entry-short s (change b i n) w l = on {o = []} (packed-laws.put_length s.memory b i n ∙ l) (omega arith)
  entry-short s (tick t) w l = on {o = []} l (omega arith)
  entry-short s (run k) (of-run h) l = run_short k s (card_of k cs) h l
  entry-short s bad w l = off

  line-short : (s : ReplayState) (l : List ℕ) → length s.memory ≡ image_size → Short (after_line cs s l)
  unfolding after_line_in
  line-short s l h = entry-short s (log_entry_of l) (line-within l) h

  pub fit : (n : ℕ) (s : ReplayState) (at : ℕ) (ls : List (List ℕ)) → length s.memory ≡ image_size → at + length (joined ls) < 2 ^ 64
      → length (replay_lines cs (lent n) s at ls).text ≤ n
  fit n s at [] i h = omega arith
  fit n s at (l ∷ ls) i h = by (ltb n line_room) refl (after_line cs s l) (line-short s l i) (λ k s' j. fit k s' (at + length l) ls j behind)
    where
      behind : at + length l + length (joined ls) < 2 ^ 64
      behind = omega (arith, h, length-append l (joined ls))

      by : (x : Bool) → ltb n line_room ≡ x → (y : AfterLine) → Short y
          → ((k : ℕ) (s' : ReplayState) → length s'.memory ≡ image_size → length (replay_lines cs (lent k) s' (at + length l) ls).text ≤ k)
          → length (cond x (record { text = []; state = s; at = at; pause = full })
          (onward s at y (λ s' o. replay_lines cs (lent (n - length o)) s' (at + length l) ls))).text ≤ n
      by true e y w ih = omega arith
      by false e stops w ih = omega (arith, report-short (report_of (Refused 16 at)) (omega arith) (omega (arith, h)), ltb-false n line_room e)
      by false e (goes s' o) (on j k) ih =
          let r : Replay = replay_lines cs (lent (n - length o)) s' (at + length l) ls in
          omega (arith, length-append o r.text, ih (n - length o) s' j, k, ltb-false n line_room e)
