-- What one line does: a change, a tick, a run of a card, or nothing where it is bad. Assumes nothing.
use mathlib.Core.Path.{◌≡◌, refl, sym, ap, subst, ◌∙◌}
use mathlib.Core.List.{List, [], ◌++◌}
use Prim.Native.Nat.{ℕ, suc, ◌+◌, ◌-◌, ◌≤◌, ◌<◌}
use native.Mathlib.Nat.{zero-add}
use native.Mathlib.Omega.{arith}
use lib.Dec.{T}
use lib.ListN.{length, take, drop, get_or}
use borrow.Author.Tests.{eq-eqb, lt-ltb}
use Rattle.std.specs.Prelude.{Option, Some, None}
use Rattle.words.specs.Ascii.{ascii}
use Rattle.memory.specs.declared.Bank.{Bank}
use Rattle.memory.specs.Layout.{image_size, layout_of, has_cell, packed}
use Rattle.delivery.specs.declared.Answer.{Answer}
use Rattle.operations.specs.Operations.{request, request_answer, request_memory}
use Rattle.operations.proofs.Cells.{done-inside}
use Rattle.lines.specs.Printing.{decimal_text}
use Rattle.lines.specs.private.Steps.{Puts}
use Rattle.lines.proofs.Stores.{as-text, none-put}
use Rattle.program.specs.Cases.{zeros}
use Rattle.program.specs.Reply.{answer_text, CellInside}
use Rattle.program.proofs.reply.Whole.{front}
use Rattle.card_laws.specs.Lines.{ended}
use Rattle.card_laws.specs.Cards.{Card}
use Rattle.log_laws.specs.Log.{LogEntry, change, tick, run, bad}
use Rattle.log_laws.specs.Replay.{FoundCard, found, lacks, card_of, AfterLine, goes, stops, after_request, after_run, after_entry, line_room}
use Rattle.log_lines.specs.declared.entry.Entry.TheVariants.{Change, Tick, Run}
use Rattle.log_lines.specs.declared.Step.{Step}
use Rattle.log_lines.specs.private.Steps.{entry_in, state_in, Part, Finds, there, nowhere, Goes, Takes, on, stop}

-- ---- where a card was found
pub record Located (file words : List ℕ) (f : FoundCard) (r : ℕ) : Type 0 where
  pub target : List ℕ
  pub expr : List ℕ
  pub is : f ≡ found target expr
  pub high : r + 5 ≤ 323
  pub target-part : Part file words (r + 1) (r + 2) target
  pub expr-part : Part file words (r + 3) (r + 4) expr

module _ {file words : List ℕ} where
  pub lacking : {f : FoundCard} {o : Option ℕ} → Finds file words f o → o ≡ None → f ≡ lacks
  lacking (there p h a b) e = absurd (let z : ◌≡◌ {A = ℕ} 0 1 = cc in omega arith)
  lacking nowhere e = refl

  pub located : {f : FoundCard} {o : Option ℕ} {r : ℕ} → Finds file words f o → o ≡ Some r → Located file words f r
  located {r = r} (there {t} {e} p h a b) q =
      let i : p ≡ r = cc in
      subst (Located file words (found t e)) i (record { target = t; expr = e; is = refl; high = h; target-part = a; expr-part = b })
  located nowhere q = absurd (let z : ◌≡◌ {A = ℕ} 0 1 = cc in omega arith)

-- as the code takes it
pub part_cut : {file words : List ℕ} {p q : ℕ} {t : List ℕ} → Part file words p q t
    → take (get_or words p 0 + get_or words q 0 - get_or words p 0) (drop (get_or words p 0) file) ≡ t
part_cut {file} {words} {p} {q} x =
    let e : get_or words p 0 + get_or words q 0 - get_or words p 0 ≡ get_or words q 0 = omega arith in
    ap (λ (n : ℕ). take n (drop (get_or words p 0) file)) e ∙ x.is

pub has-cell : (m : List ℕ) (b : Bank) (i : ℕ) → length m ≡ image_size → i < (layout_of b).elements → T (has_cell m b i)
has-cell m b i l h = rw (eq-eqb (length m) image_size l, lt-ltb i (layout_of b).elements h) tt

-- ---- a run
module _ (k : ℕ) (m : List ℕ) (t : ℕ) {f : FoundCard} {old new : List ℕ} {next : ℕ} where
  pub unknown : f ≡ lacks → Puts old 0 new next (ended (ascii "unknown=" ++ decimal_text k) []) → next ≤ line_room
      → Goes (after_run k (state_in m t) f) m t old 0 new next
  unknown e p h = record { text = ended (ascii "unknown=" ++ decimal_text k) []; is = ap (after_run k (state_in m t)) e; puts = p; short = h }

  pub ran : {x y x' y' code index m' : List ℕ} {a : Answer} → f ≡ found x y → x' ≡ x → y' ≡ y → code ≡ zeros 16384 → index ≡ zeros 16384
      → a ≡ request_answer t m (request x' y' m code index) → m' ≡ request_memory t m (request x' y' m code index)
      → Puts old 0 new next (answer_text m' a) → next ≤ line_room → Goes (after_run k (state_in m t) f) m' t old 0 new next
  ran {x} {y} {x'} {y'} {code} {index} {m'} {a} e u w c i g h p s =
      record { text = answer_text m' a; is = ap (after_run k (state_in m t)) e ∙ sym same; puts = p; short = s }
    where
      same : goes (state_in m' t) (answer_text m' a) ≡ after_request (state_in m t) (request x y m (zeros 16384) (zeros 16384))
      same = rw (g, h, u, w, c, i)

pub cell-inside : (t : ℕ) (m : List ℕ) {x y x' y' code index : List ℕ} {a : Answer} → x' ≡ x → y' ≡ y → code ≡ zeros 16384 → index ≡ zeros 16384
    → a ≡ request_answer t m (request x' y' m code index) → CellInside a
cell-inside t m {x} {y} {x'} {y'} {code} {index} u w c i g = record { inside = λ e. done-inside t m (request x' y' m code index) (sym g ∙ e) }

-- ---- by the entry
change-only : (b : Bank) (i n : ℕ) (e : LogEntry) → Some (Change b i n) ≡ entry_in e → change b i n ≡ e
change-only b i n (change c j m) q = cc
change-only b i n (tick t) q = let z : ◌≡◌ {A = ℕ} 0 1 = cc in absurd (omega arith)
change-only b i n (run k) q = let z : ◌≡◌ {A = ℕ} 0 1 = cc in absurd (omega arith)
change-only b i n bad q = let z : ◌≡◌ {A = ℕ} 0 1 = cc in absurd (omega arith)

tick-only : (u : ℕ) (e : LogEntry) → Some (Tick u) ≡ entry_in e → tick u ≡ e
tick-only u (change c j m) q = let z : ◌≡◌ {A = ℕ} 0 1 = cc in absurd (omega arith)
tick-only u (tick t) q = cc
tick-only u (run k) q = let z : ◌≡◌ {A = ℕ} 0 1 = cc in absurd (omega arith)
tick-only u bad q = let z : ◌≡◌ {A = ℕ} 0 1 = cc in absurd (omega arith)

run_only : (l : ℕ) (e : LogEntry) → Some (Run l) ≡ entry_in e → run l ≡ e
run_only l (change c j m) q = let z : ◌≡◌ {A = ℕ} 0 1 = cc in absurd (omega arith)
run_only l (tick t) q = let z : ◌≡◌ {A = ℕ} 0 1 = cc in absurd (omega arith)
run_only l (run k) q = cc
run_only l bad q = let z : ◌≡◌ {A = ℕ} 0 1 = cc in absurd (omega arith)

bad-only : (e : LogEntry) → None ≡ entry_in e → bad ≡ e
bad-only (change c j m) q = let z : ◌≡◌ {A = ℕ} 0 1 = cc in absurd (omega arith)
bad-only (tick t) q = let z : ◌≡◌ {A = ℕ} 0 1 = cc in absurd (omega arith)
bad-only (run k) q = let z : ◌≡◌ {A = ℕ} 0 1 = cc in absurd (omega arith)
bad-only bad q = refl

module _ (cs : List Card) (m : List ℕ) (t : ℕ) (out : List ℕ) (at : ℕ) where
  pub changed : {b : Bank} {i n : ℕ} {m' : List ℕ} → m' ≡ packed.put m b i n → (e : LogEntry) → Some (Change b i n) ≡ entry_in e
      → Takes (after_entry cs (state_in m t) e) m m' out at out (Some (record { tick = t; end = at }))
  changed {b} {i} {n} {m'} p e q =
      subst (λ (x : LogEntry). Takes (after_entry cs (state_in m t) x) m m' out at out (Some (record { tick = t; end = at }))) (change-only b i n e q)
      (on (record { text = []; is = ap (λ (l : List ℕ). goes (state_in l t) []) (sym p); puts = none-put out at; short = omega arith }))

  pub ticked : {u : ℕ} (e : LogEntry) → Some (Tick u) ≡ entry_in e → Takes (after_entry cs (state_in m t) e) m m out at out (Some (record { tick = u; end = at }))
  ticked {u} e q =
      subst (λ (x : LogEntry). Takes (after_entry cs (state_in m t) x) m m out at out (Some (record { tick = u; end = at }))) (tick-only u e q)
      (on (record { text = []; is = refl; puts = none-put out at; short = omega arith }))

  pub played : {k : ℕ} {m' bytes bytes' out' : List ℕ} {r end : ℕ} → line_room ≤ length bytes
      → Goes (after_run k (state_in m t) (card_of k cs)) m' t bytes 0 bytes' r
      → Puts out at out' end (take r bytes') → (e : LogEntry) → Some (Run k) ≡ entry_in e → Takes (after_entry cs (state_in m t) e) m m' out at out' (Some (record { tick = t; end = end }))
  played {k} {m'} {bytes} {bytes'} {out'} {r} {end} h g p e q =
      let f : take r bytes' ≡ g.text = front g.puts (omega (arith, g.short)) in
      let s : end ≤ at + line_room = omega (arith, p.end, ap length f, g.puts.end, g.short) in
      subst (λ (x : LogEntry). Takes (after_entry cs (state_in m t) x) m m' out at out' (Some (record { tick = t; end = end }))) (run_only k e q)
      (on (record { text = g.text; is = g.is; puts = as-text f p; short = s }))

  pub stopped : (e : LogEntry) → None ≡ entry_in e → Takes (after_entry cs (state_in m t) e) m m out at out None
  stopped e q = subst (λ (x : LogEntry). Takes (after_entry cs (state_in m t) x) m m out at out None) (bad-only e q) (stop refl refl refl)

-- ---- what taking a line came to
pub none-taken : {a : AfterLine} {m m' old new : List ℕ} {at : ℕ} {r : Option Step} → r ≡ None → Takes a m m' old at new None → Takes a m m' old at new r
none-taken {a} {m} {m'} {old} {new} {at} e t = subst (Takes a m m' old at new) (sym e) t

pub takes-on : {a : AfterLine} {m m' old new : List ℕ} {at : ℕ} {r : Option Step} {x : Step} → Takes a m m' old at new r → r ≡ Some x
    → Goes a m' x.tick old at new x.end
takes-on {a} {m} {m'} {old} {new} {at} {r} {x} (on {t = u} {next = n} g) q =
    let e : record { tick = u; end = n } ≡ x = cc in
    subst (λ (y : Step). Goes a m' y.tick old at new y.end) e g
takes-on (stop a b c) q = let z : ◌≡◌ {A = ℕ} 0 1 = cc in absurd (omega arith)

pub takes-stop : {a : AfterLine} {m m' old new : List ℕ} {at : ℕ} {r : Option Step} → Takes a m m' old at new r → r ≡ None
    → (a ≡ stops) × (m' ≡ m) × (new ≡ old)
takes-stop (on g) q = let z : ◌≡◌ {A = ℕ} 0 1 = cc in absurd (omega arith)
takes-stop (stop a b c) q = (a, b, c)
