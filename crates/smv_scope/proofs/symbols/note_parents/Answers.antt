use Rattle.std.proofs.Common.{Bool, refl, take_all}
use Rattle.smv_scope.specs.declared.instance.Instance.{Instance}
use Rattle.smv_scope.specs.Instances.{is_declared_by}
use Rattle.smv_scope.proofs.Firsts.{first_next, first_all}
use Rattle.smv_scope.proofs.symbols.note_parents.Goals as goal

pub loop-k-preserved : goal.loop-k-preserved
loop-k-preserved c = λ q none.
    let p : Instance → Bool = λ x. is_declared_by q.instance q.variable x.parent in
    first_next p c.args.tree.now c.loop-k.k _ _ _ _ c.loop-k-test.true refl (c.loop-k.invariant q none) (c.in_ok-note_parent.ensures q)

pub returns : goal.returns
returns c = λ q none.
    let p : Instance → Bool = λ x. is_declared_by q.instance q.variable x.parent in
    first_all p c.args.tree.now c.loop-k.k _ (take_all c.loop-k.k c.args.tree.now c.loop-k-test.false) (c.loop-k.invariant q none)
