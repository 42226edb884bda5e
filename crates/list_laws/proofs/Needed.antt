-- The pairs of which a part of independence fails, by computing both orders.
use mathlib.Core.Path.{refl}
use Rattle.memory.specs.Names.{letter_bank, named_rule}
use Rattle.tokens.specs.Words.{other_word, word_token}
use Rattle.tokens.specs.Scan.{lexeme_of, scan_from}
use Rattle.grammar.specs.Symbols.{group_number}
use Rattle.grammar.specs.Tree.{tree_kind, diagnostic_of}
use Rattle.grammar.specs.Parse.{expression, parse_from}
use Rattle.grammar.specs.Eval.{eval}
use Rattle.text.specs.Judge.{judge_parse, judge_scan, judge_from}
use Rattle.text.specs.Targets.{indexed_target, target_of}
use Rattle.tree_code.specs.Code.{code_of}
use Rattle.compiler.specs.Compile.{encode_all}
use Rattle.list_laws.specs.Needed.{Needed}

pub needed : Needed
unfolding letter_bank named_rule other_word word_token lexeme_of scan_from group_number tree_kind diagnostic_of expression parse_from eval judge_parse judge_scan
    judge_from indexed_target target_of code_of encode_all
needed =
    record {
      targets = record { one = refl; other = refl };
      reads = record { one = refl; other = refl };
      index = record { one = refl; other = refl };
      bank = record { one = refl; other = refl };
    }
