-- The profile without reals (paper 02, Ask 12): "no R bank, real literals, TOREAL, FRAC or AVGR". What is real stands with what it is said of: values and
-- operators, banks, totals. The profile's definitions for texts, code and operations are made of these four.
pub use Rattle.operators.specs.Reals.{real_value, real_unary}
pub use Rattle.memory.specs.Cells.{real_bank}
pub use Rattle.totals.specs.Totals.{real_total}
