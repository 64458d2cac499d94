-- The systems are those of the program.
use Rattle.std.proofs.Common.{◌∙◌, ◌≤◌, List, All, map, ap, sym, subst}
use Rattle.bit_graph.specs.Meaning.{HasInputs, Stands}
use Rattle.bit_graph.specs.declared.edge.Edge.{Edge}
use Rattle.smv_meaning.specs.Runs.{specifications_of}
use Rattle.bit_states.specs.Coding.{state_of}
use Rattle.bit_system.specs.declared.sides.Claim.{Claim}
use Rattle.bit_system.specs.Building.{BitProgram, IsBuilt}
use Rattle.bit_system.specs.Conditions.{Each, TellsBad}
use Rattle.bit_system.specs.Sharing.{CanBeClaimed, DecidesEdge, system_by}
use Rattle.bit_system.proofs.Joining.{all_built, all_claimed, can_be_claimed}
use Rattle.bit_system.proofs.Pairs.{each_second}
use Rattle.bit_system.proofs.building.built_on.Goals as goal

pub claims-requires-clause-inputs : goal.claims-requires-clause-inputs
claims-requires-clause-inputs c = subst (λ n. HasInputs n c.args.parts.now.graph) (sym c.requires.shared.width) c.requires.parts.inputs

pub claims-requires-clause-stand : goal.claims-requires-clause-stand
claims-requires-clause-stand c =
    let p = c.args.typed.now.scope.program in
    let g = c.args.parts.now.graph in
    rw c.deref.ensures.value (each_second (TellsBad g p (state_of p)) (Stands g) (specifications_of p) c.args.parts.now.bad.items c.requires.parts.bad (λ spec e tells. tells.stands))

pub systems-requires-clause-claims : goal.systems-requires-clause-claims
systems-requires-clause-claims c =
    let p = c.args.typed.now.scope.program in
    let g = c.args.parts.now.graph in
    let shared = c.args.shared.now in
    let vars = c.highest-vars.result in
    let claims = c.in_ok-claims.claims.items in
    let decided = subst (λ (es : List Edge). Each (DecidesEdge shared.width g) es claims) c.deref.ensures.value c.in_ok-claims.ensures in
    let each = all_claimed p shared.width c.args.parts.now claims c.requires.shared.width c.one_way.ensures.law c.requires.parts decided in
    subst (λ (cs : List Claim). All (CanBeClaimed vars shared.width) cs) (sym c.deref-3.ensures.value)
    (can_be_claimed p shared vars c.requires.shared c.highest-vars.ensures.start (specifications_of p) claims each
    (subst (λ (cs : List Claim). All (λ (x : Claim). x.vars ≤ vars) cs) c.deref-2.ensures.value c.highest-vars.ensures.all))

pub returns : goal.returns
returns c =
    let p = c.args.typed.now.scope.program in
    let g = c.args.parts.now.graph in
    let shared = c.args.shared.now in
    let vars = c.highest-vars.result in
    let claims = c.in_ok-claims.claims.items in
    let decided = subst (λ (es : List Edge). Each (DecidesEdge shared.width g) es claims) c.deref.ensures.value c.in_ok-claims.ensures in
    let each = all_claimed p shared.width c.args.parts.now claims c.requires.shared.width c.one_way.ensures.law c.requires.parts decided in
    subst (λ (b : BitProgram). IsBuilt p b) (sym c.new.ensures)
    (all_built p shared vars c.args.layout claims c.in_ok-systems.systems.items c.requires.shared c.highest-vars.ensures.start c.requires.layout each
    (c.in_ok-systems.ensures ∙ ap (map (system_by shared vars)) c.deref-3.ensures.value))
