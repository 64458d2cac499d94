-- The conditions of an initial state decide whether it is one, and the edges of JUSTICE define their literals.
use Rattle.std.proofs.Common.{List, subst}
use Rattle.clause_core.specs.Systems.{Gives}
use Rattle.bit_graph.specs.declared.edge.Edge.{Edge}
use Rattle.bit_clauses.specs.declared.either.Either.{Either}
use Rattle.bit_clauses.specs.Gated.{DecidesGroup, DefinesEdges}
use Rattle.smv_meaning.specs.Runs.{is_first_state}
use Rattle.bit_system.proofs.OfSides.{all_within_more, justs_define, states_decide, within_more}
use Rattle.bit_system.proofs.sides.state_side.Goals as goal

pub returns-clause-side : goal.returns-clause-side
returns-clause-side c =
    let p = c.args.typed.now.scope.program in
    let parts = c.args.parts.now in
    let n = c.args.width in
    let init = c.in_ok-init.init in
    let defs = c.in_ok-defs.defs in
    let most = c.higher-vars.result in
    record {
      init = states_decide p n parts.graph parts.first.items init.clauses (is_first_state p) c.requires.width c.requires.parts.inputs c.one_way.ensures.law c.requires.parts.first
          (subst (λ (es : List Either). DecidesGroup n parts.graph es init.clauses) c.deref.ensures.value c.in_ok-init.ensures.decides);
      defs = subst (λ k. Gives k defs.literals defs.clauses) c.requires.width c.in_ok-defs.ensures.gives;
      fair = justs_define p n parts.graph parts.fair.items defs.clauses defs.literals c.requires.width c.requires.parts.inputs c.one_way.ensures.law c.requires.parts.fair
          (subst (λ (es : List Edge). DefinesEdges n parts.graph es defs.clauses defs.literals) c.deref-2.ensures.value c.in_ok-defs.ensures.defines);
      init_within = all_within_more init.vars most init.clauses c.higher-vars.ensures.first c.in_ok-init.ensures.within;
      defs_within = all_within_more defs.vars most defs.clauses c.higher-vars.ensures.second c.in_ok-defs.ensures.within;
      fair_within = within_more defs.vars most defs.literals c.higher-vars.ensures.second c.in_ok-defs.ensures.literals_within;
    }
