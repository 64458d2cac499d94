-- The names of a node are those of its parts.
use Rattle.std.proofs.Common.{◌++◌, ap, sym, ◌∙◌, append-nil}
use Rattle.std.proofs.lemmas.List.{map-append}
use Rattle.std.specs.List.{flat_map}
use Rattle.smv_tree.specs.declared.place.Place.{Place}
use Rattle.smv_value.specs.declared.operator.Operator.{Operator}
use Rattle.smv_tree.specs.declared.tree.Expr.{Expr}
use Rattle.smv_tree.specs.Occurring.{names_in, read}
use Rattle.smv_tree.proofs.NamesOf.{goes_on, names_in-constant, names_in-name, names_in-group, names_in-next, names_in-apply, names_in-chain}
use Rattle.smv_tree.proofs.occurring.+names.Goals as goal

pub push_names-returns-in-Constant : goal.push_names-returns-in-Constant
push_names-returns-in-Constant t c = sym (ap (λ l. read c.args.names.now.items ++ l) (ap names_in c.in-Constant.is ∙ names_in-constant _ _) ∙ append-nil (read c.args.names.now.items))

pub push_names-returns-in_ok-push-in-Name : goal.push_names-returns-in_ok-push-in-Name
push_names-returns-in_ok-push-in-Name t c =
    ap read c.in_ok-push-in-Name.ensures.items ∙ map-append _ c.args.names.now.items _
    ∙ sym (ap (λ l. read c.args.names.now.items ++ l) (ap names_in c.in-Name.is ∙ names_in-name _))

pub push_names-returns-in-Group : goal.push_names-returns-in-Group
push_names-returns-in-Group t c = rw (ap names_in c.in-Group.is ∙ names_in-group _ _) (rw c.get.ensures at c.push_names.ensures)

pub push_names-returns-in-Next : goal.push_names-returns-in-Next
push_names-returns-in-Next t c = rw (ap names_in c.in-Next.is ∙ names_in-next _ _) (rw c.get-in-Next.ensures at c.push_names-in-Next.ensures)

pub push_names-returns-in_ok-push_all-in-Apply : goal.push_names-returns-in_ok-push_all-in-Apply
push_names-returns-in_ok-push_all-in-Apply t c =
    goes_on c.push_all-in-Apply.result _ _ (read c.args.names.now.items) (flat_map names_in c.as_slice.result.now) (flat_map names_in c.as_slice-in-Apply.result.now) (names_in c.args.e.now)
    c.push_all-in-Apply.ensures c.in_ok-push_all-in-Apply.ensures
    (rw (c.as_slice.ensures, c.as_slice-in-Apply.ensures) (ap names_in c.in-Apply.is ∙ names_in-apply _ _ _ _))

pub push_names-returns-in_ok-push_names-in-Chain : goal.push_names-returns-in_ok-push_names-in-Chain
push_names-returns-in_ok-push_names-in-Chain t c =
    goes_on c.push_links.result _ _ (read c.args.names.now.items) (names_in c.get-in-Chain.result.now)
    (flat_map (λ (link : Place × Operator × Expr). names_in link.2) c.as_slice-in-Chain.result.now) (names_in c.args.e.now)
    c.push_links.ensures c.in_ok-push_names-in-Chain.ensures
    (rw (c.get-in-Chain.ensures, c.as_slice-in-Chain.ensures) (ap names_in c.in-Chain.is ∙ names_in-chain _ _))
