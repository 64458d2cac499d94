use Rattle.std.proofs.Common.{◌≡◌, length, map, eqb, ap, ◌∙◌}
use Rattle.sat_prop.specs.declared.trail.Trail.{Trail}
use Rattle.sat_core.specs.Queries.{given_of, learned_of}
use Rattle.sat_core.proofs.Origins.{given_in, covered}
use Rattle.sat_core.proofs.Results.{sat_says, refutation}
use Rattle.sat_core.proofs.query.answer.Goals as goal

pub returns-in_ok-model-in-Sat-clause-says : goal.returns-in_ok-model-in-Sat-clause-says
returns-in_ok-model-in-Sat-clause-says g c =
    let new = c.run.new.inner in
    let t = g.P.Propagator.trail new in
    let cs = g.P.Propagator.clauses new in
    let said = rw c.in-Sat.is at c.in_ok-run.ensures.says in
    let e : c.from_vec.result ≡ map (λ x. eqb x 1) t.values.items =
    c.from_vec.ensures ∙ c.in_ok-model-in-Sat.ensures ∙ ap (λ (x : Trail). map (λ n. eqb n 1) x.values.items) c.assignment.ensures in
    sat_says t cs (given_of c.args.marks.now cs) c.args.assumptions.now c.from_vec.result said.0 said.1 said.2
    (given_in c.args.marks.now cs) e

pub returns-in-Unsat-clause-says : goal.returns-in-Unsat-clause-says
returns-in-Unsat-clause-says g c =
    let new = c.run.new.inner in
    let vars = length (g.P.Propagator.trail new).values.items in
    let cs = g.P.Propagator.clauses new in
    let ms = c.args.marks.now in
    let assumptions = c.args.assumptions.now in
    let core = c.in-Unsat.core.items in
    let said = rw c.in-Unsat.is at c.in_ok-run.ensures.says in
    refutation vars (given_of ms cs) (learned_of ms cs) cs assumptions core c.in_ok-run.ensures.keeps.sound (covered ms cs) said.0 said.1

pub returns-in-Unsat-clause-at_once : goal.returns-in-Unsat-clause-at_once
returns-in-Unsat-clause-at_once g c p = let h = c.in_ok-run.ensures.at_once p in (h.0, h.1, tt)
