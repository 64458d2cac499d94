-- The conditions of a step decide whether there is one.
use Rattle.std.proofs.Common.{List, subst, arith}
use Rattle.bit_graph.specs.Meaning.{HasInputs}
use Rattle.bit_clauses.specs.declared.either.Either.{Either}
use Rattle.bit_clauses.specs.Gated.{DecidesGroup}
use Rattle.bit_system.proofs.OfSides.{steps_decide}
use Rattle.bit_system.proofs.sides.step_side.Goals as goal

pub returns : goal.returns
returns c =
    let p = c.args.typed.now.scope.program in
    let parts = c.in_ok-parts.parts in
    let n = c.args.named in
    let step = c.in_ok-step.step in
    record {
      step = steps_decide p n parts.graph parts.step.items step.clauses c.requires.named (subst (λ k. HasInputs k parts.graph) c.requires.named c.in_ok-parts.ensures.inputs) c.one_way.ensures.law c.in_ok-parts.ensures.step
          (subst (λ (es : List Either). DecidesGroup n parts.graph es step.clauses) c.deref.ensures.value c.in_ok-step.ensures.decides);
      room = omega (arith, c.requires.named, c.in_ok-step.ensures.vars);
      within = c.in_ok-step.ensures.within;
    }
