-- `replay_book` is safe: the words of a file that is not refused are those of its cards.
use Rattle.card_laws.proofs.Formulas.{formula-card-theorems}
use Rattle.log_replay.proofs.Calling.{read_as, fine-is}
use Rattle.replay.proofs.replay_book.Goals as goal

pub replay_log-requires-clause-book : goal.replay_log-requires-clause-book
replay_log-requires-clause-book g c =
    fine-is (read_as formula-card-theorems.answers c.args.cards.now _ c.read.ensures) c.if-read-ne0.false
