-- For the contracts of `log_lines`, `log_replay` and `log_window`: entries as the code has them, the words of a file of cards, and what a line leaves.
use Rattle.std.specs.Prelude.{◌≡◌, List, [], ℕ, suc, ◌+◌, ◌≤◌, ◌<◌, length, take, drop, get_or, Option, Some, None}
use Rattle.memory.specs.declared.Bank.{Bank}
use Rattle.memory.specs.Layout.{layout_of}
use Rattle.memory.specs.Laws.{Holdable}
use Rattle.lines.specs.private.Steps.{Puts}
use Rattle.card_laws.specs.Cards.{Card}
use Rattle.card_laws.specs.Reading.{CardsRead, good, bad, read_cards}
use Rattle.card_laws.specs.Formulas.{formula_answer}
use Rattle.card_file.specs.Words.{read_words}
use Rattle.log_laws.specs.Log.{LogEntry, change, tick, run}
use Rattle.log_laws.specs.Log as Log
use Rattle.log_laws.specs.Replay.{ReplayState, FoundCard, found, lacks, AfterLine, goes, stops, after_entry, line_room}
use Rattle.log_lines.specs.declared.entry.Entry.{Entry}
use Rattle.log_lines.specs.declared.entry.Entry.TheVariants.{Change, Tick, Run}
use Rattle.log_lines.specs.declared.Step.{Step}

abbrev pub entry_in : LogEntry → Option Entry
entry_in (change b i n) = Some (Change b i n)
entry_in (tick t) = Some (Tick t)
entry_in (run k) = Some (Run k)
entry_in Log.bad = None

-- the cell of a change is one of its bank, and can hold its pattern
pub record EntryInside (e : Option Entry) : Type 0 where
  pub inside : {b : Bank} {i n : ℕ} → e ≡ Some (Change b i n) → i < (layout_of b).elements
  pub holds : {b : Bank} {i n : ℕ} → e ≡ Some (Change b i n) → Holdable b n

abbrev pub state_in : List ℕ → ℕ → ReplayState
state_in m t = record { memory = m; tick = t }

-- the cards of a good file
abbrev pub cards_of : CardsRead → List Card
cards_of (good cs) = cs
cards_of (bad a p) = []

unfoldable pub cards_in : List ℕ → List Card
cards_in file = cards_of (read_cards formula_answer file)

-- a good file, and the words of its reading
pub record Book (file words : List ℕ) : Type 0 where
  pub reads : read_cards formula_answer file ≡ good (cards_in file)
  pub table : words ≡ read_words (good (cards_in file))

-- a part of the file, whose place and length are the words at p and q
pub record Part (file words : List ℕ) (p q : ℕ) (text : List ℕ) : Type 0 where
  pub inside : get_or words p 0 + get_or words q 0 ≤ length file
  pub is : take (get_or words q 0) (drop (get_or words p 0) file) ≡ text

-- the first word of a card's five
pub data Finds (file words : List ℕ) : FoundCard → Option ℕ → Type 0 where
  there : {t e : List ℕ} (p : ℕ) → p + 5 ≤ 323 → Part file words (p + 1) (p + 2) t → Part file words (p + 3) (p + 4) e
      → Finds file words (found t e) (Some p)
  nowhere : Finds file words lacks None

-- a line was played: memory and tick, and what it printed
pub record Goes (a : AfterLine) (m : List ℕ) (t : ℕ) (old : List ℕ) (at : ℕ) (new : List ℕ) (next : ℕ) : Type 0 where
  pub text : List ℕ
  pub is : a ≡ goes (state_in m t) text
  pub puts : Puts old at new next text
  pub short : next ≤ at + line_room

pub data Takes (a : AfterLine) (m m' old : List ℕ) (at : ℕ) (new : List ℕ) : Option Step → Type 0 where
  on : {t next : ℕ} → Goes a m' t old at new next → Takes a m m' old at new (Some (record { tick = t; end = next }))
  stop : a ≡ stops → m' ≡ m → new ≡ old → Takes a m m' old at new None

-- of an entry as the code has it
abbrev pub TakesEntry : List Card → Option Entry → List ℕ → ℕ → List ℕ → List ℕ → ℕ → List ℕ → Option Step → Type 0
TakesEntry cs x m t m' old at new r = (e : LogEntry) → x ≡ entry_in e → Takes (after_entry cs (state_in m t) e) m m' old at new r
