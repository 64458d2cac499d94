-- The children are by the list of the module.
use Rattle.std.proofs.Common.{◌≡◌, ◌-◌, List, ◌++◌, reverse, ap, ◌∙◌, subst}
use Rattle.std.specs.Prelude.{OnOk}
use Rattle.smv_scope.specs.declared.instance.Instance.{Instance}
use Rattle.smv_scope.specs.Instances.{children}
use Rattle.smv_scope.specs.Instantiations.{instances_by}
use Rattle.smv_scope.proofs.Preorder.{rooted}
use Rattle.smv_scope.proofs.instances.push_children.Goals as goal

pub returns-clause-branch : goal.returns-clause-branch
returns-clause-branch c = λ some.
    let listed : instances_by c.args.at c.listed_in-list.result.now ≡ children c.args._program.now c.args.at c.args.root.instance =
    ap (instances_by c.args.at) c.listed_in-list.ensures ∙ c.requires c.args.root.instance.of_module c.args.at in
    let P : List Instance → Type 0 = λ xs. OnOk c.push_roots.result (reverse c.push_roots.new.roots ≡ rooted (c.args.root.depth - 1) xs ++ reverse c.args.roots.now) in
    subst P listed c.push_roots.ensures
