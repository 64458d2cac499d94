-- One operand more.
use Rattle.std.proofs.Common.{◌≡◌, ◌∙◌, ℕ, zero, suc, ◌<◌, ◌≤◌, List, [], ◌∷◌, length, get_or, refl, subst, ap, arith}
use Rattle.std.specs.Prelude.{None, Option, Some}
use Rattle.std.specs.List.{list_all, list_any}
use Rattle.std.specs.Option.{is_some}
use Rattle.std.proofs.lemmas.List.{take_all}
use Rattle.bit_graph.specs.declared.edge.Edge.{Edge}
use Rattle.bit_graph.specs.Meaning.{edge_value}
use Rattle.smv_resolve.specs.Resolved.{Resolved}
use Rattle.smv_meaning.specs.Formulas.{formula_fault, is_known_formula}
use Rattle.bit_outcomes.proofs.Kept.{extends_refl, extends_trans}
use Rattle.bit_faults.proofs.OfFormulas.{all_kept, some_more, some_none}
use Rattle.bit_faults.proofs.formulas.some_fault.Goals as goal

pub loop-edge-init : goal.loop-edge-init
loop-edge-init c = record {
  extends = extends_refl c.args.graph.now;
  any_stands = c.constant-any.ensures.stands;
  stand = c.requires;
  told = λ v slots s u parts h all known. some_none v slots s u parts c.constant-any.result (c.constant-any.ensures.value v h) known;
}

pub returns-clause-told : goal.returns-clause-told
returns-clause-told c = λ v slots s u parts h all known.
    let past : length parts ≤ c.loop-edge.edge-index = omega (arith, all.long) in
    let whole = take_all c.loop-edge.edge-index parts past in
    subst (λ (rs : List Resolved). edge_value v c.loop-edge.any ≡ list_any (λ r. is_some (formula_fault slots s u r)) rs) whole
    (c.loop-edge.invariant.told v slots s u parts h all (ap (list_all (is_known_formula slots s u)) whole ∙ known))

-- the default past the end does not matter
default_at : (es : List (Option Edge)) (k : ℕ) (d e : Option Edge) → k < length es → get_or es k d ≡ get_or es k e
default_at [] k d e lt = absurd (let no : ⊥ = omega (arith, lt) in no)
default_at (x ∷ es) zero d e lt = refl
default_at (x ∷ es) (suc k) d e lt = default_at es k d e (omega (arith, lt))

pub loop-edge-preserved : goal.loop-edge-preserved
loop-edge-preserved c =
    let before = c.loop-edge.invariant in
    let more = c.in_ok-more-in-Some.ensures in
    let g = c.loop-edge.graph in
    let k = c.or.new.self in
    let es = c.args.edges.now in
    let i = c.loop-edge.edge-index in
    let at : get_or es i None ≡ Some c.in-Some.other = default_at es i None _ c.loop-edge-test.true ∙ c.in-Some.is in
    record {
      extends = extends_trans c.args.graph.now g k before.extends more.extends;
      any_stands = more.stands;
      stand = all_kept g k more.extends es before.stand;
      told = λ v slots s u parts h all known.
          let first = more.extends.kept v h in
          some_more v slots s u es parts i c.in-Some.other c.loop-edge.any c.in_ok-more-in-Some.more c.loop-edge-test.true at all (before.told v slots s u parts first all) (more.value v h) known;
    }
