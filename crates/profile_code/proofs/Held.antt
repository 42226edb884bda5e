-- What the machine without reals holds is what the full one holds: where it goes on, it does what that does.
use mathlib.Core.Path.{◌≡◌}
use mathlib.Core.Bool.{Bool, true, false, cond}
use mathlib.Core.List.{List}
use Prim.Native.Nat.{ℕ}
use native.Mathlib.Omega.{arith}
use Rattle.values.specs.declared.Value.{Value}
use Rattle.memory.specs.Environment.{Environment}
use Rattle.code.specs.declared.Instr.{Instr}
use Rattle.machine.specs.declared.Ended.TheVariants.{Stuck}
use Rattle.machine.specs.Machine.{Next, goes, halts, act}
use Rattle.machine.specs.Configurations as Full
use Rattle.machine.specs.Configurations.{Configuration}
use Rattle.machine.specs.Profile.{barred}
use Rattle.profile_code.specs.Theorems.{IntegerConfiguration, first, skip, step}

goes-alike : (b : Bool) (x : Next) {k : ℕ} {st : List Value} → cond b (halts Stuck) x ≡ goes k st → x ≡ goes k st
goes-alike true x e = let z : ◌≡◌ {A = ℕ} 0 1 = cc in absurd (omega arith)
goes-alike false x e = e

pub held : (E : Environment) (c : List Instr) {left : List Instr} {d : ℕ} {st : List Value} → IntegerConfiguration E c left d st
    → Configuration E c left d st
held E c first = Full.first
held E c (skip h) = Full.skip (held E c h)
held E c (step {i} {st = st} h e) = Full.step (held E c h) (goes-alike (barred i st) (act E i st) e)
