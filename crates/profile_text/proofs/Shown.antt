-- The samples, by computing each.
use mathlib.Core.Path.{◌≡◌, refl}
use mathlib.Core.Bool.{false}
use Rattle.memory.specs.Names.{letter_bank, named_rule}
use Rattle.tokens.specs.Words.{other_word, word_token}
use Rattle.tokens.specs.Scan.{lexeme_of, scan_from}
use Rattle.grammar.specs.Symbols.{group_number}
use Rattle.grammar.specs.Tree.{tree_kind, diagnostic_of}
use Rattle.grammar.specs.Parse.{expression, parse_from}
use Rattle.text.specs.Judge.{refused, judge_parse, judge_scan, judge_from}
use Rattle.text.specs.Targets.{indexed_target, target_of}
use Rattle.profile_text.specs.Tokens.{first_real}
use Rattle.profile_text.specs.Trees.{integer_only}
use Rattle.profile_text.specs.Judge.{judge_scan_in, judge_in}
use Rattle.profile_text.specs.Targets.{integer_target}
use Rattle.profile_text.specs.Shown.{AllShown, alone, behind, good, targets, long}

real-alone : AllShown alone
unfolding letter_bank named_rule other_word word_token lexeme_of scan_from first_real judge_scan_in judge_in
real-alone = (refl, (refl, (refl, (refl, (refl, (refl, (refl, tt)))))))

real-behind : AllShown behind
unfolding letter_bank named_rule other_word word_token lexeme_of scan_from group_number tree_kind diagnostic_of expression parse_from judge_parse judge_scan first_real
    judge_scan_in judge_in
real-behind = (refl, (refl, (refl, (refl, (refl, (refl, (refl, (refl, (refl, (refl, (refl, (refl, (refl, (refl, tt))))))))))))))

none-real : AllShown good
unfolding letter_bank named_rule other_word word_token lexeme_of scan_from group_number tree_kind diagnostic_of expression parse_from judge_parse judge_scan first_real
    judge_scan_in judge_in
none-real = (refl, (refl, (refl, (refl, tt))))

to-targets : AllShown targets
unfolding letter_bank named_rule other_word word_token lexeme_of scan_from group_number tree_kind diagnostic_of expression parse_from judge_parse judge_scan judge_from
    indexed_target target_of integer_only integer_target
to-targets = (refl, (refl, (refl, (refl, (refl, (refl, (refl, (refl, tt))))))))

too_long : judge_in false 0 long ≡ refused 3 0
unfolding judge_in
too_long = refl
