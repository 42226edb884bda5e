-- `verifier::checked` meets its contract: at each turn, what is held is what the place is reached with.
use mathlib.Core.Path.{◌≡◌, refl, sym, ap, ◌∙◌}
use Prim.Native.Nat.{◌+◌}
use native.Mathlib.Omega.{arith}
use Rattle.code.specs.Instructions.{instruction_of, decode_at}
use Rattle.code.proofs.Parts.{decode-fetched}
use Rattle.verifier.specs.private.Shapes.{state_of, brought_to}
use Rattle.verifier.proofs.Checking.{too_short, first, held-admitted, Came, turn, fails, agreed, disagreed, to-end, landed, lost, ends}
use Rattle.verifier.proofs.checked.Goals as goal
use Rattle.verifier.proofs.checked.Goals.{After-step}

-- ---- after a step

is_at : (m : After-step) → decode_at m.args.code.now m.loop-place.place ≡ instruction_of m.fetch-w.result
is_at m = decode-fetched m.args.code.now m.loop-place.place ∙ ap instruction_of (sym m.fetch-w.ensures)

came : (m : After-step)
    → Came m.args.reals m.args.code.now m.args.n (m.loop-place.place + 1) (brought_to m.step.new.brought) (state_of m.step.result)
came m =
    turn m.args.reals m.args.code.now m.args.n m.loop-place-test.true (is_at m)
    m.loop-place.invariant.knows {after = brought_to m.step.new.brought} m.loop-place.invariant.end
    m.step.ensures.steps

end-after : (m : After-step) → m.step.new.brought.end ≡ m.args.n
end-after m = m.step.ensures.same_end ∙ m.loop-place.invariant.end

-- ---- the goals

pub returns-then-code-n : goal.returns-then-code-n
returns-then-code-n c = too_short _ _ _ c.if-code-n.true

pub loop-place-init : goal.loop-place-init
loop-place-init c = first _ _ _ refl c.blank-brought.ensures.same_end c.blank-brought.ensures.nothing c.none-held.ensures

pub step-requires-clause-admitted : goal.step-requires-clause-admitted
step-requires-clause-admitted c = held-admitted _ _ _ c.loop-place.invariant.knows

pub returns-in-Refused : goal.returns-in-Refused
returns-in-Refused c = fails _ _ _ (came (goal.at.returns-in-Refused c).After-step) (ap state_of c.in-Refused.is)

pub loop-place-preserved-in-Some : goal.loop-place-preserved-in-Some
loop-place-preserved-in-Some c =
    let m = (goal.at.loop-place-preserved-in-Some c).After-step in
    record {
      within = omega (arith, c.skipped-place.ensures.way.within, end-after m);
      array = c.note.ensures;
      end = end-after m;
      knows = landed _ _ _ (came m) (ap state_of c.in-Left.is) (to-end _ _ _ (end-after m) c.skipped-place.ensures) (rw c.in-Some.is at c.at.ensures);
    }

pub returns-in-None : goal.returns-in-None
returns-in-None c =
    let m = (goal.at.returns-in-None c).After-step in
    lost _ _ _ (came m) (ap state_of c.in-Left.is) (to-end _ _ _ (end-after m) c.skipped-place.ensures) c.requires.some.0 c.requires.some.1
    (sym (rw c.in-None.is at c.at.ensures))

pub returns-then-not-agree : goal.returns-then-not-agree
returns-then-not-agree c =
    let m = (goal.at.returns-then-not-agree c).After-step in
    disagreed _ _ _ c.agree.result (came m) (ap state_of c.in-On.is) c.agree.ensures c.if-not-agree.true

pub loop-place-preserved : goal.loop-place-preserved
loop-place-preserved c =
    let m = (goal.at.loop-place-preserved c).After-step in
    record {
      within = omega (arith, c.loop-place-test.true);
      array = rw c.in-On.is at c.step.ensures.array;
      end = end-after m;
      knows = agreed _ _ _ c.agree.result (came m) (ap state_of c.in-On.is) c.agree.ensures c.if-not-agree.false;
    }

pub returns : goal.returns
returns c = ends _ _ _ c.requires.some.0 c.requires.some.1 (omega (arith, c.loop-place-test.false)) c.loop-place.invariant.knows c.ended.ensures
