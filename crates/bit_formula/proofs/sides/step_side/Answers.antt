-- The conditions of a step decide whether there is one.
use Rattle.std.proofs.Common.{List, subst, arith}
use Rattle.bit_graph.specs.Meaning.{HasInputs}
use Rattle.bit_clauses.specs.declared.either.Either.{Either}
use Rattle.bit_clauses.specs.Gated.{DecidesGroup}
use Rattle.bit_system.proofs.OfSides.{decides_told}
use Rattle.bit_formula.specs.Standing.{is_step_at}
use Rattle.bit_formula.proofs.Joint.{named_same}
use Rattle.bit_formula.proofs.sides.step_side.Goals as goal

pub returns : goal.returns
returns c =
    let p = c.args.typed.now.scope.program in
    let reads = c.args.reads.now in
    let parts = c.in_ok-parts.parts in
    let g = parts.graph in
    let es = parts.step.items in
    let n = c.args.named in
    let step = c.in_ok-step.step in
    let decides = subst (λ (es : List Either). DecidesGroup n g es step.clauses) c.deref.ensures.value c.in_ok-step.ensures.decides in
    record {
      step = decides_told _ g es step.clauses (is_step_at p reads)
          (subst (λ k. HasInputs k g) c.requires.named c.in_ok-parts.ensures.inputs) c.one_way.ensures.law c.in_ok-parts.ensures.step.holds (named_same p reads)
          (subst (λ k. DecidesGroup k g es step.clauses) c.requires.named decides);
      room = omega (arith, c.requires.named, c.in_ok-step.ensures.vars);
      within = c.in_ok-step.ensures.within;
    }
