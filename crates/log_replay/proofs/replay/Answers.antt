-- `replay` meets its contract.
use lib.ListN.{length}
use Rattle.log_replay.proofs.Calling.{read_as, poor-is, fine-is, over-already, no_room, other-size, refused-file, lines-of-call}
use Rattle.card_laws.proofs.Formulas.{formula-card-theorems}
use Rattle.log_replay.proofs.replay.Goals as goal

pub returns-then-words-ne0 : goal.returns-then-words-ne0
returns-then-words-ne0 c =
    over-already c.args.cards.now c.args.log.now c.args.memory.now (length c.args.out.now)
    c.args.words c.if-words-ne0.true c.done_with.ensures

pub returns-then-out-lt-LINE_ROOM : goal.returns-then-out-lt-LINE_ROOM
returns-then-out-lt-LINE_ROOM c =
    no_room c.args.cards.now c.args.log.now c.args.memory.now (length c.args.out.now)
    c.args.words c.if-words-ne0.false c.if-out-lt-LINE_ROOM.true

pub returns-then-memory-ne-IMAGE_SIZE : goal.returns-then-memory-ne-IMAGE_SIZE
returns-then-memory-ne-IMAGE_SIZE c =
    other-size c.args.cards.now c.args.log.now c.args.memory.now (length c.args.out.now) c.args.words
    c.if-words-ne0.false c.if-out-lt-LINE_ROOM.false c.if-memory-ne-IMAGE_SIZE.true c.put_refused-written.ensures c.done_with-then-memory-ne-IMAGE_SIZE.ensures

pub returns-then-read-ne0 : goal.returns-then-read-ne0
returns-then-read-ne0 c =
    refused-file c.args.cards.now c.args.log.now c.args.memory.now (length c.args.out.now) c.args.words
    c.if-words-ne0.false c.if-out-lt-LINE_ROOM.false c.if-memory-ne-IMAGE_SIZE.false
    (poor-is (read_as formula-card-theorems.answers c.args.cards.now c.read.new.res c.read.ensures) c.if-read-ne0.true)
    c.put_refused-written-then-read-ne0.ensures c.done_with-then-read-ne0.ensures

pub play-requires-clause-book : goal.play-requires-clause-book
play-requires-clause-book c =
    fine-is (read_as formula-card-theorems.answers c.args.cards.now c.read.new.res c.read.ensures) c.if-read-ne0.false

pub returns : goal.returns
returns c =
    lines-of-call c.args.cards.now c.args.log.now c.args.memory.now (length c.args.out.now) c.args.words
    c.if-words-ne0.false c.if-out-lt-LINE_ROOM.false c.if-memory-ne-IMAGE_SIZE.false
    (fine-is (read_as formula-card-theorems.answers c.args.cards.now c.read.new.res c.read.ensures) c.if-read-ne0.false).reads c.play.ensures
