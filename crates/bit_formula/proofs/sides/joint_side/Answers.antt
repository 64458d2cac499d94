-- The literals in two lists are those of all edges.
use Rattle.std.proofs.Common.{◌≡◌, ◌∙◌, ℕ, ◌++◌, Bool, List, length, map, ap, arith, subst, sym}
use Rattle.std.proofs.lemmas.List.{length-map, length-take-le, take-append-drop}
use Rattle.clause_core.specs.declared.literal.Lit.{Lit}
use Rattle.clause_core.specs.Literals.{Within}
use Rattle.clause_core.specs.Systems.{Gives}
use Rattle.bit_graph.specs.declared.edge.Edge.{Edge}
use Rattle.bit_graph.specs.Values.{value_under}
use Rattle.bit_clauses.specs.Gated.{DefinesEdges}
use Rattle.bit_system.proofs.OfSides.{within_more}
use Rattle.bit_formula.proofs.Defining.{defines_long}
use Rattle.bit_formula.proofs.sides.joint_side.Goals as goal

pub split-requires : goal.split-requires
split-requires c =
    let g = c.args.parts.now.graph in
    let edges = c.args.parts.now.defined.items in
    let defs = c.in_ok-defs.defs in
    let value_of : Edge → (ℕ → Bool) → Bool = λ e x. value_under x g e in
    let values = map value_of edges in
    let defines : DefinesEdges c.args.width g edges defs.clauses defs.literals =
    subst (λ (es : List Edge). DefinesEdges c.args.width g es defs.clauses defs.literals) c.deref-2.ensures.value c.in_ok-defs.ensures.defines in
    let long = defines_long c.args.width defs.clauses defs.literals values defines in
    omega (arith, long, length-map edges value_of, c.requires.justices, ap length c.as_slice.ensures)

pub returns-clause-gives : goal.returns-clause-gives
returns-clause-gives c =
    let defs = c.in_ok-defs.defs in
    let literals = c.in_ok-literals.literals in
    let whole : literals.fair ++ literals.atoms.items ≡ defs.literals =
    cc (c.in_ok-literals.ensures.fair, c.in_ok-literals.ensures.atoms, take-append-drop c.args.parts.now.justices c.as_slice.result.now, c.as_slice.ensures) in
    subst (λ (ls : List Lit). Gives c.args.width ls defs.clauses) (sym whole) c.in_ok-defs.ensures.gives

pub returns-clause-defines : goal.returns-clause-defines
returns-clause-defines c =
    let g = c.args.parts.now.graph in
    let edges = c.args.parts.now.defined.items in
    let defs = c.in_ok-defs.defs in
    let literals = c.in_ok-literals.literals in
    let whole : literals.fair ++ literals.atoms.items ≡ defs.literals =
    cc (c.in_ok-literals.ensures.fair, c.in_ok-literals.ensures.atoms, take-append-drop c.args.parts.now.justices c.as_slice.result.now, c.as_slice.ensures) in
    let defines : DefinesEdges c.args.width g edges defs.clauses defs.literals =
    subst (λ (es : List Edge). DefinesEdges c.args.width g es defs.clauses defs.literals) c.deref-2.ensures.value c.in_ok-defs.ensures.defines in
    subst (λ (ls : List Lit). DefinesEdges c.args.width g edges defs.clauses ls) (sym whole) defines

pub returns-clause-justices : goal.returns-clause-justices
returns-clause-justices c =
    let g = c.args.parts.now.graph in
    let edges = c.args.parts.now.defined.items in
    let defs = c.in_ok-defs.defs in
    let value_of : Edge → (ℕ → Bool) → Bool = λ e x. value_under x g e in
    let values = map value_of edges in
    let defines : DefinesEdges c.args.width g edges defs.clauses defs.literals =
    subst (λ (es : List Edge). DefinesEdges c.args.width g es defs.clauses defs.literals) c.deref-2.ensures.value c.in_ok-defs.ensures.defines in
    let long = defines_long c.args.width defs.clauses defs.literals values defines in
    ap length c.in_ok-literals.ensures.fair ∙ length-take-le c.args.parts.now.justices c.as_slice.result.now
    (omega (arith, long, length-map edges value_of, c.requires.justices, ap length c.as_slice.ensures))

pub returns-clause-literals_within : goal.returns-clause-literals_within
returns-clause-literals_within c =
    let defs = c.in_ok-defs.defs in
    let literals = c.in_ok-literals.literals in
    let most = c.higher-vars.result in
    let whole : literals.fair ++ literals.atoms.items ≡ defs.literals =
    cc (c.in_ok-literals.ensures.fair, c.in_ok-literals.ensures.atoms, take-append-drop c.args.parts.now.justices c.as_slice.result.now, c.as_slice.ensures) in
    subst (Within most) (sym whole) (within_more defs.vars most defs.literals c.higher-vars.ensures.second c.in_ok-defs.ensures.literals_within)
