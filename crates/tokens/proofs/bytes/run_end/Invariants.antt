-- `bytes::run_end` meets its contract: the class that its test tells is that of the run.
use Rattle.tokens.proofs.bytes.run_end.Given as goal

abbrev pub ghost-passing : goal.ghost-passing
ghost-passing g a = g.class
