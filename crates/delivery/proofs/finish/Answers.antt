-- `finish` meets its contract, by the end of the run and the element.
use Rattle.delivery.proofs.finish.Goals as goal

pub returns-in-By-clause-value : goal.returns-in-By-clause-value
returns-in-By-clause-value c = rw (c.in-Done.is, c.in-By.is) c.to_element.ensures.value
