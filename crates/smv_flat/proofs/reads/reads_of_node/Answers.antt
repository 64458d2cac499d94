-- What a node reads follows from what its parts read.
use Rattle.std.proofs.Common.{◌∙◌, ap, false}
use Rattle.smv_tree.specs.Places.{start}
use Rattle.smv_resolve.specs.Resolved.{part_at}
use Rattle.smv_flat.specs.declared.reads.Reads.{Reads}
use Rattle.smv_flat.specs.Reads.{any_of}
use Rattle.smv_flat.proofs.Quiet.{any_last, any_two, found_at}
use Rattle.smv_flat.proofs.reads.reads_of_node.Goals as goal

pub returns-in-Named : goal.returns-in-Named
returns-in-Named c = λ parts told. rw c.in-Named.is (c.reads_at.ensures ∙ found_at parts c.args.table.now c.in-Named.a told)

pub returns-in-Operand : goal.returns-in-Operand
returns-in-Operand c = λ parts told. rw c.in-Operand.is (c.reads_at-in-Operand.ensures ∙ found_at parts c.args.table.now c.in-Operand.a told)

pub returns-in-Next : goal.returns-in-Next
returns-in-Next c = λ parts told. rw c.in-Next.is (ap (λ (x : Reads). record { present = false; ahead = x.present }) (c.reads_at-in-Next.ensures ∙ found_at parts c.args.table.now c.in-Next.a told))

pub returns-in-Apply : goal.returns-in-Apply
returns-in-Apply c = λ parts told.
    rw c.in-Apply.is (c.any_of.ensures ∙ ap any_of c.last.ensures ∙ any_last start c.in-Apply.field-1 c.in-Apply.count parts c.args.table.now told)

pub returns-in-Link : goal.returns-in-Link
returns-in-Link c = λ parts told.
    rw c.in-Link.is
    (c.any_of-in-Link.ensures
    ∙ any_two start c.in-Link.field-1 (part_at parts c.in-Link.a) (part_at parts c.in-Link.b) _ _ (c.reads_at-in-Link.ensures ∙ found_at parts c.args.table.now c.in-Link.a told)
    (c.reads_at-in-Link-2.ensures ∙ found_at parts c.args.table.now c.in-Link.b told))
