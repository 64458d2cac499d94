-- What has no names but those of literals is the same in each instance, if its parts are.
use Rattle.std.proofs.Common.{List, sym, subst, refl, arith}
use Rattle.std.proofs.lemmas.List.{take_all}
use Rattle.smv_value.specs.declared.operator.Operator.{Operator}
use Rattle.smv_tree.specs.declared.place.Place.{Place}
use Rattle.smv_tree.specs.declared.tree.Expr.{Expr}
use Rattle.smv_declared.specs.Closed.{AreClosed, AreClosedLinks, IsClosed}
use Rattle.smv_declared.proofs.Instances.{closed-constant, closed-group, closed-apply, closed-chain, closed_more, links_more}
use Rattle.smv_declared.proofs.closed.+closed.Goals as goal

pub is_closed-returns-in-Constant : goal.is_closed-returns-in-Constant
is_closed-returns-in-Constant t c = λ e.
    let p = c.args.scope.now.program in
    let P : Expr → Type 0 = λ x. IsClosed p c.args.from x in
    subst P (sym c.in-Constant.is) (closed-constant p c.args.from c.in-Constant.field-0 c.in-Constant.field-1)

pub is_closed-returns-in-Name : goal.is_closed-returns-in-Name
is_closed-returns-in-Name t c = λ e.
    let P : Expr → Type 0 = λ x. IsClosed c.args.scope.now.program c.args.from x in
    subst P (sym c.in-Name.is) (c.is_closed_name.ensures e)

pub is_closed-returns-in-Group : goal.is_closed-returns-in-Group
is_closed-returns-in-Group t c = λ e.
    let p = c.args.scope.now.program in
    let P : Expr → Type 0 = λ x. IsClosed p c.args.from x in
    subst P (sym c.in-Group.is) (closed-group p c.args.from c.in-Group.field-0 _ (subst P c.get.ensures (c.is_closed.ensures e)))

pub is_closed-returns-then-are_closed : goal.is_closed-returns-then-are_closed
is_closed-returns-then-are_closed t c = λ e.
    let p = c.args.scope.now.program in
    let P : Expr → Type 0 = λ x. IsClosed p c.args.from x in
    let Q : List Expr → Type 0 = λ xs. AreClosed p c.args.from xs in
    subst P (sym c.in-Apply.is)
    (closed-apply p c.args.from _ _ _ _ (subst Q c.as_slice.ensures (c.are_closed.ensures c.if-are_closed.true))
    (subst Q c.as_slice-then-are_closed.ensures (c.are_closed-then-are_closed.ensures e)))

pub is_closed-returns-then-is_closed : goal.is_closed-returns-then-is_closed
is_closed-returns-then-is_closed t c = λ e.
    let p = c.args.scope.now.program in
    let P : Expr → Type 0 = λ x. IsClosed p c.args.from x in
    let Q : List (Place × Operator × Expr) → Type 0 = λ xs. AreClosedLinks p c.args.from xs in
    subst P (sym c.in-Chain.is)
    (closed-chain p c.args.from _ _ (subst P c.get-in-Chain.ensures (c.is_closed-in-Chain.ensures c.if-is_closed.true))
    (subst Q c.as_slice-then-is_closed.ensures (c.are_closed_links.ensures e)))

pub are_closed-loop-e-init : goal.are_closed-loop-e-init
are_closed-loop-e-init t c = λ f g same. refl

pub are_closed-loop-e-preserved : goal.are_closed-loop-e-preserved
are_closed-loop-e-preserved t c =
    closed_more c.args.scope.now.program c.args.from c.args.operands.now c.loop-e.e-index c.e-item.result c.loop-e-test.true c.e-item.is c.loop-e.invariant
    (c.if-not-is_closed.ensures refl)

pub are_closed-returns : goal.are_closed-returns
are_closed-returns t c = λ e.
    let P : List Expr → Type 0 = λ xs. AreClosed c.args.scope.now.program c.args.from xs in
    subst P (take_all c.loop-e.e-index c.args.operands.now (omega arith)) c.loop-e.invariant

pub are_closed_links-loop-link-init : goal.are_closed_links-loop-link-init
are_closed_links-loop-link-init t c = λ f g same left. refl

pub are_closed_links-loop-link-preserved : goal.are_closed_links-loop-link-preserved
are_closed_links-loop-link-preserved t c =
    links_more c.args.scope.now.program c.args.from c.args.links.now c.loop-link.link-index c.link-item.result c.loop-link-test.true c.link-item.is c.loop-link.invariant
    (c.if-not-is_closed.ensures refl)

pub are_closed_links-returns : goal.are_closed_links-returns
are_closed_links-returns t c = λ e.
    let P : List (Place × Operator × Expr) → Type 0 = λ xs. AreClosedLinks c.args.scope.now.program c.args.from xs in
    subst P (take_all c.loop-link.link-index c.args.links.now (omega arith)) c.loop-link.invariant
