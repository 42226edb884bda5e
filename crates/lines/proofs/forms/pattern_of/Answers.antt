-- `forms::pattern_of` meets its contract, bank by bank.
use Rattle.lines.proofs.forms.pattern_of.Goals as goal

pub returns-in-X : goal.returns-in-X
returns-in-X c = rw c.in-X.is c.number_below.ensures

pub returns-in-C : goal.returns-in-C
returns-in-C c = rw c.in-C.is c.number_below-in-C.ensures

pub returns-in-V : goal.returns-in-V
returns-in-V c = rw c.in-V.is c.number_below-in-V.ensures

pub returns-in-N : goal.returns-in-N
returns-in-N c = rw c.in-N.is c.signed.ensures

pub returns-in-D : goal.returns-in-D
returns-in-D c = rw c.in-D.is c.signed-in-D.ensures

pub returns-in-R : goal.returns-in-R
returns-in-R c = rw c.in-R.is c.hexadecimal.ensures
