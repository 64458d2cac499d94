-- The integer of a node follows from those of its parts.
use Rattle.std.proofs.Common.{[], ◌∷◌, List, Option, ◌∙◌, ap}
use Rattle.std.specs.Prelude.{ℤ}
use Rattle.smv_resolve.specs.Resolved.{part_at}
use Rattle.smv_layout.specs.Indices.{index_by, index_of}
use Rattle.smv_layout.proofs.Indexing.{index_found, indices_last}
use Rattle.smv_layout.proofs.indices.index_by_node.Goals as goal

pub returns-in-Named : goal.returns-in-Named
returns-in-Named c = λ parts told. rw c.in-Named.is (c.index_at.ensures ∙ index_found parts c.args.table.now c.in-Named.a told)

pub returns-in-Operand : goal.returns-in-Operand
returns-in-Operand c = λ parts told. rw c.in-Operand.is (c.index_at-in-Operand.ensures ∙ index_found parts c.args.table.now c.in-Operand.a told)

pub returns-in-Apply : goal.returns-in-Apply
returns-in-Apply c = λ parts told.
    rw c.in-Apply.is
    (c.index_by.ensures ∙ ap (index_by c.in-Apply.operator) c.last.ensures ∙ indices_last c.in-Apply.operator c.in-Apply.count parts c.args.table.now told)

pub returns-in-Link : goal.returns-in-Link
returns-in-Link c = λ parts told.
    rw c.in-Link.is
    (c.index_by-in-Link.ensures
    ∙ ap (λ (z : Option ℤ). index_by c.in-Link.operator (z ∷ c.index_at-in-Link-2.result ∷ [])) (c.index_at-in-Link.ensures ∙ index_found parts c.args.table.now c.in-Link.a told)
    ∙ ap (λ (z : Option ℤ). index_by c.in-Link.operator (index_of (part_at parts c.in-Link.a) ∷ z ∷ [])) (c.index_at-in-Link-2.ensures ∙ index_found parts c.args.table.now c.in-Link.b told))
