-- `compiler::read` meets its contract.
use Rattle.std.specs.Prelude.{Err}
use mathlib.Core.Path.{◌≡◌}
use native.Mathlib.Omega.{arith}
use borrow.Author.Rules.{rules}
use Rattle.compiler.proofs.Answers.{shown-none, shown-real, all_read, real-token, wrong_token}
use Rattle.compiler.proofs.read.Goals as goal

pub first_real-w-requires : goal.first_real-w-requires
first_real-w-requires c = c.fill.ensures.token_words c.requires.token_words

pub returns-then-w-ne0 : goal.returns-then-w-ne0
returns-then-w-ne0 c =
    real-token c.args.reals c.args.opened c.requires.sized.0 c.in_ok-fill.ensures.fills
    (shown-real c.if-w-ne0.true c.place_of.ensures c.first_real-w.ensures)

pub formula-requires : goal.formula-requires
formula-requires c =
    let f = c.fill.ensures in
    let m = c.requires.sized.2 in
    record {
      tokens = f.token_words c.requires.token_words;
      small = omega (arith, m, f.table_len_unchanged);
      within = omega arith;
      room = omega (arith, m, f.table_len_unchanged);
    }

pub returns : goal.returns
returns c =
    all_read c.args.reals c.args.opened c.requires.sized.0 c.in_ok-fill.ensures.fills (shown-none c.if-w-ne0.false c.first_real-w.ensures) c.formula.ensures

pub returns-in_err-fill : goal.returns-in_err-fill
returns-in_err-fill c =
    let e : c.from_residual.result ≡ Err c.in_err-fill.field-0.0 = search rules in
    rw e (wrong_token c.args.reals c.args.opened c.requires.sized.0 c.in_err-fill.ensures.fills)
