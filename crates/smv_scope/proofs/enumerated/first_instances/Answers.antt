use Rattle.std.proofs.Common.{Bool, ◌==◌, refl, take_all}
use Rattle.smv_scope.specs.declared.instance.Instance.{Instance}
use Rattle.smv_scope.proofs.Firsts.{first_next, first_all}
use Rattle.smv_scope.proofs.enumerated.first_instances.Goals as goal

pub loop-k-preserved : goal.loop-k-preserved
loop-k-preserved c = λ q.
    let p : Instance → Bool = λ x. x.of_module == q in
    first_next p c.args.tree.now c.loop-k.k _ _ _ _ c.loop-k-test.true refl (c.loop-k.invariant q) (c.in_ok-number_first.ensures q)

pub returns : goal.returns
returns c = λ q.
    let p : Instance → Bool = λ x. x.of_module == q in
    first_all p c.args.tree.now c.loop-k.k _ (take_all c.loop-k.k c.args.tree.now c.loop-k-test.false) (c.loop-k.invariant q)
