-- An operator over formulas faults where an operand does.
use Rattle.std.proofs.Common.{◌≡◌, ◌∙◌, true, List, [], ◌∷◌, subst, sym}
use Rattle.std.specs.Prelude.{Option}
use Rattle.bit_graph.specs.declared.edge.Edge.{Edge}
use Rattle.smv_resolve.specs.declared.node.ExprNode.{ExprNode}
use Rattle.smv_resolve.specs.Resolved.{last_of, part_at, resolved_by}
use Rattle.smv_meaning.specs.Formulas.{is_over_formulas}
use Rattle.bit_faults.specs.Formulas.{TellsFormula, TellsFormulas}
use Rattle.bit_faults.proofs.OfFormulas.{over_told, told_last, told_two}
use Rattle.bit_faults.proofs.formulas.edge_of_node.Goals as goal

pub returns-in_ok-some-in-Apply-clause-told : goal.returns-in_ok-some-in-Apply-clause-told
returns-in_ok-some-in-Apply-clause-told c = λ v slots s u parts h all own.
    let some = c.in_ok-some-in-Apply.some in
    let count = c.in-Apply.count in
    let over : is_over_formulas c.in-Apply.operator ≡ true = sym c.is_over_formulas.ensures ∙ c.if-is_over_formulas.true in
    let operands : TellsFormulas v slots s u c.last.result.now (last_of count parts) =
    subst (λ (es : List (Option Edge)). TellsFormulas v slots s u es (last_of count parts)) (sym c.last.ensures) (told_last v slots s u count c.args.edges.now parts all) in
    subst (λ (n : ExprNode). TellsFormula v slots s u some (resolved_by parts n)) (sym c.in-Apply.is)
    (over_told v slots s u some c.in-Apply.field-0 c.in-Apply.operator (last_of count parts) over (c.in_ok-some-in-Apply.ensures.told v slots s u (last_of count parts) h operands))

pub returns-in_ok-some-in-Link-clause-told : goal.returns-in_ok-some-in-Link-clause-told
returns-in_ok-some-in-Link-clause-told c = λ v slots s u parts h all own.
    let some = c.in_ok-some-in-Link.some in
    let a = part_at parts c.in-Link.a in
    let b = part_at parts c.in-Link.b in
    let first = c.edge_at-then-is_over_formulas-2 in
    let second = c.edge_at-then-is_over_formulas-2-2 in
    let over : is_over_formulas c.in-Link.operator ≡ true = sym c.is_over_formulas-in-Link.ensures ∙ c.if-is_over_formulas-2.true in
    let operands : TellsFormulas v slots s u (first.result ∷ second.result ∷ []) (a ∷ b ∷ []) =
    told_two v slots s u first.result second.result a b (subst (λ (e : Option Edge). TellsFormula v slots s u e a) (sym first.ensures) (all.each c.in-Link.a))
    (subst (λ (e : Option Edge). TellsFormula v slots s u e b) (sym second.ensures) (all.each c.in-Link.b)) in
    subst (λ (n : ExprNode). TellsFormula v slots s u some (resolved_by parts n)) (sym c.in-Link.is)
    (over_told v slots s u some c.in-Link.field-0 c.in-Link.operator (a ∷ b ∷ []) over (c.in_ok-some-in-Link.ensures.told v slots s u (a ∷ b ∷ []) h operands))
