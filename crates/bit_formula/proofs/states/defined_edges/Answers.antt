-- The edges of JUSTICE and those of the atoms.
use Rattle.std.proofs.Common.{◌≡◌, ◌∙◌, ℕ, ◌++◌, Bool, false, List, length, map, ap, arith, subst, sym}
use Rattle.std.proofs.lemmas.List.{length-append, length-map, map-append}
use Rattle.std.proofs.lemmas.List.Elements.{All-append}
use Rattle.bit_graph.specs.declared.edge.Edge.{Edge}
use Rattle.bit_graph.specs.Meaning.{Stands, edge_value}
use Rattle.bit_graph.specs.Values.{values}
use Rattle.bit_arith.specs.Number.{AllStand}
use Rattle.bit_conditions.specs.Asked.{is_just_in, justices_of}
use Rattle.bit_conditions.specs.Told.{state_under}
use Rattle.bit_conditions.proofs.Kept.{edges_kept, tells_state_kept}
use Rattle.bit_formula.proofs.states.defined_edges.Goals as goal

pub just_edges-requires : goal.just_edges-requires
just_edges-requires c = tells_state_kept c.args.graph.now c.framed_atoms.new.graph c.in_ok-more.ensures.extends c.args.typed.now c.args.state.now c.requires.state

pub returns-clause-stand : goal.returns-clause-stand
returns-clause-stand c =
    let g = c.framed_atoms.new.graph in
    let h = c.just_edges.new.graph in
    let edges = c.in_ok-edges.edges.items in
    let more = c.in_ok-more.more.items in
    let made : c.extend_from_slice.new.self.items ≡ edges ++ more = c.in_ok-extend_from_slice.ensures.items ∙ ap (λ (l : List Edge). edges ++ l) c.deref.ensures.value in
    subst (AllStand h) (sym made) (All-append (Stands h) edges more c.in_ok-edges.ensures.told.stand (edges_kept g h c.in_ok-edges.ensures.extends more c.in_ok-more.ensures.stand))

pub returns-clause-told : goal.returns-clause-told
returns-clause-told c = λ v consistent.
    let p = c.args.typed.now.scope.program in
    let edges = c.in_ok-edges.edges.items in
    let more = c.in_ok-more.more.items in
    let s = state_under p v c.args.state.now.bits in
    let made : c.extend_from_slice.new.self.items ≡ edges ++ more = c.in_ok-extend_from_slice.ensures.items ∙ ap (λ (l : List Edge). edges ++ l) c.deref.ensures.value in
    ap (map (edge_value v)) made ∙ map-append (edge_value v) edges more
    ∙ ap (λ (l : List Bool). l ++ map (edge_value v) more) (c.in_ok-edges.ensures.told.told v consistent)
    ∙ ap (λ (l : List Bool). map (is_just_in p s) (justices_of p) ++ l) (c.in_ok-more.ensures.told v (c.in_ok-edges.ensures.extends.kept v consistent))

pub returns-clause-justices : goal.returns-clause-justices
returns-clause-justices c =
    let p = c.args.typed.now.scope.program in
    let h = c.just_edges.new.graph in
    let edges = c.in_ok-edges.edges.items in
    let v : ℕ → Bool = values (λ k. false) h in
    let s = state_under p v c.args.state.now.bits in
    ap length c.as_slice-justices.ensures.value ∙ sym (length-map edges (edge_value v))
    ∙ ap length (c.in_ok-edges.ensures.told.told v (c.one_way.ensures.law.some (λ k. false)).0) ∙ length-map (justices_of p) (is_just_in p s)

pub returns-clause-within : goal.returns-clause-within
returns-clause-within c =
    let edges = c.in_ok-edges.edges.items in
    let more = c.in_ok-more.more.items in
    let made : c.extend_from_slice.new.self.items ≡ edges ++ more = c.in_ok-extend_from_slice.ensures.items ∙ ap (λ (l : List Edge). edges ++ l) c.deref.ensures.value in
    let long = ap length made in
    omega (arith, long, length-append edges more, ap length c.as_slice-justices.ensures.value)
