-- The sheet of sums, by computing each: the text is judged, its tree's worth is returned and stored, and the cell is read back.
use mathlib.Core.Path.{refl}
use lib.Ieee as Ieee
use Rattle.memory.specs.Names.{letter_bank, named_rule}
use Rattle.tokens.specs.Words.{other_word, word_token}
use Rattle.tokens.specs.Scan.{lexeme_of, scan_from}
use Rattle.grammar.specs.Symbols.{group_number}
use Rattle.grammar.specs.Tree.{tree_kind, diagnostic_of}
use Rattle.grammar.specs.Parse.{expression, parse_from}
use Rattle.grammar.specs.Eval.{eval}
use Rattle.text.specs.Judge.{judge_parse, judge_scan, judge_from}
use Rattle.text.specs.Targets.{indexed_target, target_of}
use Rattle.machine.specs.Machine.{exec, act}
use Rattle.tree_code.specs.Code.{code_of}
use Rattle.promises.specs.Sheet.{Sums, sheet}

pub sums : Sums sheet
unfolding Ieee.of_bits Ieee.to_bits Ieee.of_int Ieee.add Ieee.div Ieee.eq letter_bank named_rule other_word word_token lexeme_of scan_from group_number tree_kind
    diagnostic_of expression parse_from eval judge_parse judge_scan judge_from indexed_target target_of exec act code_of
sums = (refl, (refl, (refl, (refl, (refl, (refl, (refl, (refl, (refl, (refl, (refl, (refl, tt))))))))))))
