use Rattle.std.proofs.Common.{map}
use Rattle.smv_tree.specs.declared.tree.Parameter.{Parameter}
use Rattle.smv_names.specs.Declarations.{names_declared_in}
use Rattle.smv_names.specs.Lent.{read_names}
use Rattle.smv_names.proofs.Adding.{flat_map-next}
use Rattle.smv_names.proofs.declared.declared_names.Goals as goal

pub loop-section-preserved : goal.loop-section-preserved
loop-section-preserved c =
    flat_map-next names_declared_in c.as_slice-section-items.result.now c.loop-section.section-index c.section-item.result (map (λ (x : Parameter). (x.place, x.name)) c.args.m.now.parameters)
    (read_names c.loop-section.names.items) (read_names c.push_names.new.names.items)
    c.loop-section-test.true c.section-item.is c.loop-section.invariant c.in_ok-push_names.ensures
