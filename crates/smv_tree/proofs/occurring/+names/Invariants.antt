-- The names of the links so far.
use Rattle.std.proofs.Common.{◌≡◌, ◌++◌, take}
use Rattle.std.specs.List.{flat_map}
use Rattle.smv_tree.specs.declared.place.Place.{Place}
use Rattle.smv_value.specs.declared.operator.Operator.{Operator}
use Rattle.smv_tree.specs.declared.tree.Expr.{Expr}
use Rattle.smv_tree.specs.Occurring.{names_in, read}
use Rattle.smv_tree.proofs.occurring.+names.Given as goal

abbrev pub invariant-push_links-loop-link : goal.invariant-push_links-loop-link
invariant-push_links-loop-link l =
    read l.names.items ≡ read l.initial.names.items ++ flat_map (λ (link : Place × Operator × Expr). names_in link.2) (take l.link-index l.links)

-- the names of the operands so far
abbrev pub invariant-push_all-loop-e : goal.invariant-push_all-loop-e
invariant-push_all-loop-e l = read l.names.items ≡ read l.initial.names.items ++ flat_map names_in (take l.e-index l.operands)
