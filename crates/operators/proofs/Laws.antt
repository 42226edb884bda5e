-- What holds of every rule, for the layers above: the kinds, that values stay proper, and which element an index names.
use mathlib.Core.Path.{◌≡◌, refl, sym, subst}
use mathlib.Core.Bool.{Bool, true, false}
use lib.Dec.{T}
use Rattle.values.specs.declared.Kind.{Kind}
use Rattle.values.specs.declared.Kind.TheVariants as K
use Rattle.values.specs.declared.Value.{Value}
use Rattle.values.specs.declared.Value.TheVariants.{Int, Real}
use Rattle.values.specs.declared.Outcome.{Outcome}
use Rattle.values.specs.declared.Outcome.TheVariants.{WrongKind}
use Rattle.values.specs.Values.{kind_of}
use Rattle.operators.specs.Operators.{branch_rule}
use Rattle.operators.specs.Kinds.{is_int, join, unary_takes, binary_takes}
use Rattle.operators.specs.Laws.{Proper, OfKind, AllProper, RuleLaws}
use Rattle.operators.proofs.Gives.{Gives, int, real, stopped, Closed, real_of}
use Rattle.operators.proofs.Operators.{unary-gives, since-gives, binary-gives}
use Rattle.operators.proofs.Wrong.{unary_wrong, since_wrong, binary_wrong}
use Rattle.operators.proofs.Classes.{of-pattern}
use Rattle.operators.proofs.Properness.{proper-closed}
use Rattle.operators.proofs.Positions.{index_below_zero, index_zero, index_element}

-- ---- kinds: the property that says nothing
abbrev Any : Value → Type 0
Any v = Unit {0}

any-closed : Closed Any
any-closed = record {
  ranged = λ z e. tt;
  shifted = λ z s q. tt;
  raised = λ z q. tt;
  operated = λ o x y p q e. tt;
  negated = λ x q. tt;
  unsigned = λ x q. tt;
  unit = tt;
}

of-kind : (k : Kind) (o : Outcome) → Gives Any k o → OfKind k o
of-kind k o (int z q) = OfKind.done (Int z) refl
of-kind k o (real x q) = OfKind.done (Real x) refl
of-kind k o (stopped j f) = OfKind.stopped f

branch_kind : (v : Value) (k : Kind) → kind_of (branch_rule v k) ≡ join (kind_of v) k
branch_kind (Int z) K.Int = refl
branch_kind (Int z) K.Real = refl
branch_kind (Real x) K.Int = refl
branch_kind (Real x) K.Real = refl

-- ---- properness: where a kind is not taken there is no value
all-proper : (k : Kind) (o : Outcome) → Gives Proper k o → AllProper o
all-proper k o (int z q) = AllProper.done (Int z) q
all-proper k o (real x q) = AllProper.done (Real x) q
all-proper k o (stopped j f) = AllProper.stopped f

taken-or-not : (k : Kind) (o : Outcome) (t : Bool) → (T t → Gives Proper k o) → (t ≡ false → o ≡ WrongKind) → AllProper o
taken-or-not k o true h w = all-proper k o (h tt)
taken-or-not k o false h w = subst AllProper (sym (w refl)) AllProper.wrong

branch_proper : (v : Value) (k : Kind) → Proper v → Proper (branch_rule v k)
branch_proper v K.Int p = p
branch_proper v K.Real p = real_of Proper proper-closed v p

pub rule-laws : RuleLaws
rule-laws = record {
  unary-kind = λ o v t. of-kind _ _ (unary-gives Any any-closed o v t tt);
  unary_wrong = unary_wrong;
  binary-kind = λ o a b t. of-kind _ _ (binary-gives Any any-closed o a b t tt tt);
  binary_wrong = binary_wrong;
  since-kind = λ t v h. of-kind _ _ (since-gives Any any-closed t v h);
  since_wrong = since_wrong;
  branch_kind = branch_kind;
  unary_proper = λ o v p. taken-or-not _ _ (unary_takes o (kind_of v)) (λ t. unary-gives Proper proper-closed o v t p) (unary_wrong o v);
  binary_proper = λ o a b p q. taken-or-not _ _ (binary_takes o (kind_of a) (kind_of b)) (λ t. binary-gives Proper proper-closed o a b t p q) (binary_wrong o a b);
  since_proper = λ t v. taken-or-not _ _ (is_int (kind_of v)) (since-gives Proper proper-closed t v) (since_wrong t v);
  tick_proper = of-pattern Proper proper-closed;
  branch_proper = branch_proper;
  index_below_zero = index_below_zero;
  index_zero = index_zero;
  index_element = λ n v i. index_element n i v;
}
