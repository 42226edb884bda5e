-- `memory::names::cell_named` meets its contract: the letter, then the number below the bank's limit.
use Rattle.std.specs.Prelude.{Some}
use mathlib.Core.Path.{◌≡◌, sym, ap, ◌∙◌}
use mathlib.Core.List.{List}
use Prim.Native.Nat.{ℕ, ◌-◌}
use native.Mathlib.Omega.{arith}
use lib.ListN.{length, take, drop, length-drop}
use lib.Seq.{take_all}
use borrow.Author.Rules.{rules}
use Rattle.memory.specs.declared.Bank.{Bank}
use Rattle.memory.specs.declared.Layout.{Layout}
use Rattle.memory.specs.Layout.{layout_of}
use Rattle.memory.specs.Names.{number_rule, cell_after_letter, named_rule}
use Rattle.memory.proofs.names.Words.{few, empty, named, no_cell, cell-is}
use Rattle.memory.proofs.names.cell_named.Goals as goal
use Rattle.memory.proofs.names.cell_named.Goals.{After-number_below}

-- ---- once the number is read
module _ (c : After-number_below) where
  abbrev word : List ℕ
  word = c.args.word.now

  abbrev bank : Bank
  bank = c.in_ok-bank.bank

  by-bank : named_rule word ≡ cell_after_letter (drop 1 word) (Some bank)
  by-bank = named word (search rules) (c.in_ok-bank.ensures)

  by_number : c.number_below.result ≡ number_rule (layout_of bank).elements (drop 1 word)
  by_number =
      c.number_below.ensures
      ∙ ap (λ (n : ℕ). number_rule n (take (length word - 1) (drop 1 word))) (ap (λ (l : Layout). l.elements) c.layout_of.ensures)
      ∙ ap (number_rule (layout_of bank).elements) (take_all (length word - 1) (drop 1 word) (rw length-drop (omega arith)))

pub returns-then-word-eq0 : goal.returns-then-word-eq0
returns-then-word-eq0 c = sym (empty c.args.word.now c.if-word-eq0.true)

pub returns-in_err-bank : goal.returns-in_err-bank
returns-in_err-bank c = c.from_residual.ensures ∙ sym (named c.args.word.now (search rules) (c.in_err-bank.ensures))

pub number_below-requires : goal.number_below-requires
number_below-requires c = rw c.layout_of.ensures (few c.in_ok-bank.bank)

pub returns : goal.returns
returns c =
    let p = (goal.at.returns c).After-number_below in
    sym (by-bank p ∙ cell-is (bank p) (drop 1 (word p)) (sym (by_number p) ∙ c.in_ok-n.was))

pub returns-in_err-n : goal.returns-in_err-n
returns-in_err-n c =
    let p = (goal.at.returns-in_err-n c).After-number_below in
    c.from_residual-in_err-n.ensures ∙ sym (by-bank p ∙ no_cell (bank p) (drop 1 (word p)) (sym (by_number p) ∙ c.in_err-n.was))
