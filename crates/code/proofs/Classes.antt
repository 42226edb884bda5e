-- The class of an opcode, by the tests that the code does.
use mathlib.Core.Path.{◌≡◌}
use Prim.Native.Nat.{ℕ, ◌≤◌, ◌<◌}
use native.Mathlib.Omega.{arith}
use borrow.Author.Tests.{lt-ltb, le-ltb}
use Rattle.code.specs.declared.Class.TheVariants.{Load, LoadIndexed, Unary, Binary}
use Rattle.code.specs.Instructions.{LOAD, LOAD-INDEXED, UNARY, BINARY, TOTAL}
use Rattle.code.specs.private.Classes.{single_class, range_class, class_of}

module _ (o : ℕ) where
  pub is-single : o < LOAD → single_class o ≡ class_of o
  is-single h = rw (lt-ltb o LOAD h)

  pub is-load : LOAD ≤ o → o < LOAD-INDEXED → Load ≡ class_of o
  is-load l h = rw (le-ltb o LOAD l, lt-ltb o LOAD-INDEXED h)

  pub is-indexed : LOAD-INDEXED ≤ o → o < UNARY → LoadIndexed ≡ class_of o
  is-indexed l h =
      let a : LOAD ≤ o = omega arith in
      rw (le-ltb o LOAD a, le-ltb o LOAD-INDEXED l, lt-ltb o UNARY h)

  pub is-unary : UNARY ≤ o → o < BINARY → Unary ≡ class_of o
  is-unary l h =
      let a : LOAD ≤ o = omega arith in
      let b : LOAD-INDEXED ≤ o = omega arith in
      rw (le-ltb o LOAD a, le-ltb o LOAD-INDEXED b, le-ltb o UNARY l, lt-ltb o BINARY h)

  pub is-binary : BINARY ≤ o → o < TOTAL → Binary ≡ class_of o
  is-binary l h =
      let a : LOAD ≤ o = omega arith in
      let b : LOAD-INDEXED ≤ o = omega arith in
      let d : UNARY ≤ o = omega arith in
      rw (le-ltb o LOAD a, le-ltb o LOAD-INDEXED b, le-ltb o UNARY d, le-ltb o BINARY l, lt-ltb o TOTAL h)

  pub is-range : TOTAL ≤ o → range_class o ≡ class_of o
  is-range l =
      let a : LOAD ≤ o = omega arith in
      let b : LOAD-INDEXED ≤ o = omega arith in
      let d : UNARY ≤ o = omega arith in
      let e : BINARY ≤ o = omega arith in
      rw (le-ltb o LOAD a, le-ltb o LOAD-INDEXED b, le-ltb o UNARY d, le-ltb o BINARY e, le-ltb o TOTAL l)
