-- `read::put_card` meets its contract: five words, one behind the other.
use Rattle.card_file.proofs.read.Turns.{put_five}
use lib.ListN.{length-set}
use native.Mathlib.Omega.{arith}
use Rattle.card_file.proofs.read.put_card.Goals as goal

pub bounds-words-to-2 : goal.bounds-words-to-2
bounds-words-to-2 c = simp length-set (omega arith)

pub bounds-words-to-3 : goal.bounds-words-to-3
bounds-words-to-3 c = simp length-set (omega arith)

pub bounds-words-to-4 : goal.bounds-words-to-4
bounds-words-to-4 c = simp length-set (omega arith)

pub bounds-words-to-5 : goal.bounds-words-to-5
bounds-words-to-5 c = simp length-set (omega arith)

pub returns : goal.returns
returns c = put_five c.args.words.now
    c.args.to _ _ _ _ _
