-- `symbols::symbol_at` meets its contract: in each arm the first byte is known, and the table computes.
use mathlib.Core.Path.{refl, ap}
use mathlib.Core.List.{[], ◌∷◌}
use Prim.Native.Nat.{ℕ, ◌+◌}
use lib.ListN.{get_or}
use borrow.Author.Rules.{rules}
use Rattle.tokens.specs.Symbols.{longest}
use Rattle.token_table.proofs.symbols.Cases.{seen, star, bang, ampersand, bar, nothing, Avoids, starts}
use Rattle.token_table.proofs.symbols.symbol_at.Goals as goal

pub returns-in-42 : goal.returns-in-42
returns-in-42 c =
    let d = get_or c.args.text.now (c.args.at + 2) 0 in
    seen _ _ c.requires.0 c.in-42.is c.byte_at-b.ensures
    (star c.byte_at-b.result d) c.doubled.ensures

pub returns-in-47 : goal.returns-in-47
returns-in-47 c = seen _ _ c.requires.0 c.in-47.is
    c.byte_at-b.ensures refl c.symbol.ensures

pub returns-in-37 : goal.returns-in-37
returns-in-37 c = seen _ _ c.requires.0 c.in-37.is
    c.byte_at-b.ensures refl c.symbol-in-37.ensures

pub returns-in-43 : goal.returns-in-43
returns-in-43 c = seen _ _ c.requires.0 c.in-43.is
    c.byte_at-b.ensures refl c.symbol-in-43.ensures

pub returns-in-45 : goal.returns-in-45
returns-in-45 c = seen _ _ c.requires.0 c.in-45.is
    c.byte_at-b.ensures refl c.symbol-in-45.ensures

pub returns-in-60 : goal.returns-in-60
returns-in-60 c =
    let d = get_or c.args.text.now (c.args.at + 2) 0 in
    seen _ _ c.requires.0 c.in-60.is
    c.byte_at-b.ensures refl (c.less.ensures d)

pub returns-in-62 : goal.returns-in-62
returns-in-62 c =
    seen _ _ c.requires.0 c.in-62.is
    c.byte_at-b.ensures (ap (λ (k : ℕ). longest (62 ∷ c.byte_at-b.result ∷ k ∷ []))
    c.byte_at.ensures) c.greater.ensures

pub returns-in-61 : goal.returns-in-61
returns-in-61 c =
    let d = get_or c.args.text.now (c.args.at + 2) 0 in
    seen _ _ c.requires.0 c.in-61.is
    c.byte_at-b.ensures refl (c.equals.ensures d)

pub returns-in-33 : goal.returns-in-33
returns-in-33 c =
    let d = get_or c.args.text.now (c.args.at + 2) 0 in
    seen _ _ c.requires.0 c.in-33.is c.byte_at-b.ensures
    (bang c.byte_at-b.result d) c.doubled-in-33.ensures

pub returns-in-38 : goal.returns-in-38
returns-in-38 c =
    let d = get_or c.args.text.now (c.args.at + 2) 0 in
    seen _ _ c.requires.0 c.in-38.is c.byte_at-b.ensures
    (ampersand c.byte_at-b.result d) c.doubled-in-38.ensures

pub returns-in-94 : goal.returns-in-94
returns-in-94 c = seen _ _ c.requires.0 c.in-94.is
    c.byte_at-b.ensures refl c.symbol-in-94.ensures

pub returns-in-124 : goal.returns-in-124
returns-in-124 c =
    let d = get_or c.args.text.now (c.args.at + 2) 0 in
    seen _ _ c.requires.0 c.in-124.is c.byte_at-b.ensures
    (bar c.byte_at-b.result d) c.doubled-in-124.ensures

pub returns-in-126 : goal.returns-in-126
returns-in-126 c = seen _ _ c.requires.0 c.in-126.is
    c.byte_at-b.ensures refl c.symbol-in-126.ensures

pub returns-in-40 : goal.returns-in-40
returns-in-40 c = seen _ _ c.requires.0 c.in-40.is
    c.byte_at-b.ensures refl c.symbol-in-40.ensures

pub returns-in-41 : goal.returns-in-41
returns-in-41 c = seen _ _ c.requires.0 c.in-41.is
    c.byte_at-b.ensures refl c.symbol-in-41.ensures

pub returns-in-91 : goal.returns-in-91
returns-in-91 c = seen _ _ c.requires.0 c.in-91.is
    c.byte_at-b.ensures refl c.symbol-in-91.ensures

pub returns-in-93 : goal.returns-in-93
returns-in-93 c = seen _ _ c.requires.0 c.in-93.is
    c.byte_at-b.ensures refl c.symbol-in-93.ensures

pub returns-in-44 : goal.returns-in-44
returns-in-44 c = seen _ _ c.requires.0 c.in-44.is
    c.byte_at-b.ensures refl c.symbol-in-44.ensures

pub returns-in_default : goal.returns-in_default
returns-in_default c =
    let b = get_or c.args.text.now c.args.at 0 in
    let v : Avoids b starts = search rules in
    let d = get_or c.args.text.now (c.args.at + 2) 0 in
    seen _ _ c.requires.0 refl c.byte_at-b.ensures (nothing b c.byte_at-b.result d v) (c.refused.ensures _)
