-- What holds of every rule, for the layers above: proofs/Laws.antt proves this record.
use Rattle.std.specs.Prelude.{◌≡◌, Bool, true, false, ℕ, ◌<◌, T, ℤ, pos, Float, Ok, Err}
use Rattle.std.specs.Int.Signed.{lt_z}
use Rattle.reals.specs.Singles.{Single, signed_units}
use Rattle.values.specs.declared.Kind.{Kind}
use Rattle.values.specs.declared.Kind.TheVariants as K
use Rattle.values.specs.declared.Value.{Value}
use Rattle.values.specs.declared.Value.TheVariants.{Int, Real}
use Rattle.values.specs.declared.Fault.{Fault}
use Rattle.values.specs.declared.Fault.TheVariants.{IndexError}
use Rattle.values.specs.declared.Outcome.{Outcome}
use Rattle.values.specs.declared.Outcome.TheVariants.{Done, Stopped, WrongKind}
use Rattle.values.specs.Values.{kind_of}
use Rattle.values.specs.Integers.{in_range}
use Rattle.values.specs.Patterns.{signed_of}
use Rattle.operators.specs.declared.BinaryOp.{BinaryOp}
use Rattle.operators.specs.declared.UnaryOp.{UnaryOp}
use Rattle.operators.specs.Operators.{unary_rule, since_rule, binary_rule, branch_rule, index_rule}
use Rattle.operators.specs.Kinds.{is_int, join, unary_kind, unary_takes, binary_kind, binary_takes}

-- a value that a memory or a formula can hold: an integer of 32 bits or a finite single
pub data Proper : Value → Type 0 where
  int : (z : ℤ) → T (in_range z) → Proper (Int z)
  real : (x : Float) → Single x → Proper (Real x)

-- a value of the kind k, or a fault
pub data OfKind (k : Kind) : Outcome → Type 0 where
  done : (v : Value) → kind_of v ≡ k → OfKind k (Done v)
  stopped : (f : Fault) → OfKind k (Stopped f)

-- a proper value, or none
pub data AllProper : Outcome → Type 0 where
  done : (v : Value) → Proper v → AllProper (Done v)
  stopped : (f : Fault) → AllProper (Stopped f)
  wrong : AllProper WrongKind

pub record RuleLaws : Type 0 where
  -- every rule gives the kind that is known from the text, exactly where its operands' kinds are taken
  pub unary-kind : (o : UnaryOp) (v : Value) → T (unary_takes o (kind_of v)) → OfKind (unary_kind o (kind_of v)) (unary_rule o v)
  pub unary_wrong : (o : UnaryOp) (v : Value) → unary_takes o (kind_of v) ≡ false → unary_rule o v ≡ WrongKind
  pub binary-kind : (o : BinaryOp) (a b : Value) → T (binary_takes o (kind_of a) (kind_of b)) → OfKind (binary_kind o (kind_of a) (kind_of b)) (binary_rule o a b)
  pub binary_wrong : (o : BinaryOp) (a b : Value) → binary_takes o (kind_of a) (kind_of b) ≡ false → binary_rule o a b ≡ WrongKind
  pub since-kind : (t : ℕ) (v : Value) → T (is_int (kind_of v)) → OfKind K.Int (since_rule t v)
  pub since_wrong : (t : ℕ) (v : Value) → is_int (kind_of v) ≡ false → since_rule t v ≡ WrongKind
  pub branch_kind : (v : Value) (k : Kind) → kind_of (branch_rule v k) ≡ join (kind_of v) k
  -- of proper values: integers stay in 32 bits, and no rule gives an infinity or a NaN
  pub unary_proper : (o : UnaryOp) (v : Value) → Proper v → AllProper (unary_rule o v)
  pub binary_proper : (o : BinaryOp) (a b : Value) → Proper a → Proper b → AllProper (binary_rule o a b)
  pub since_proper : (t : ℕ) (v : Value) → AllProper (since_rule t v)
  pub tick_proper : (t : ℕ) → Proper (Int (signed_of 32 t))
  pub branch_proper : (v : Value) (k : Kind) → Proper v → Proper (branch_rule v k)
  -- of n elements, a single below zero names none, both zeros name the first, and an element that is named is one of them
  pub index_below_zero : (n : ℕ) (x : Float) → Single x → T (lt_z (signed_units x) (pos 0)) → index_rule n (Real x) ≡ Err IndexError
  pub index_zero : (n : ℕ) (x : Float) → Single x → signed_units x ≡ pos 0 → 0 < n → index_rule n (Real x) ≡ Ok 0
  pub index_element : (n : ℕ) (v : Value) (i : ℕ) → index_rule n v ≡ Ok i → i < n
