-- The type is one that declarations keep.
use Rattle.std.proofs.Common.{ap, sym, ◌∙◌}
use Rattle.std.specs.List.{list_all}
use Rattle.value_types.specs.Types.{is_type}
use Rattle.trace_replay.proofs.Cells.{among_types}
use Rattle.trace_replay.proofs.telling.typed_read.Goals as goal

pub value_read-requires : goal.value_read-requires
value_read-requires c =
    among_types c.args.typed.now.types c.args.n c.in-Some.declared.now (ap (list_all is_type) c.args.typed.now.declared ∙ c.requires.types) (sym c.in-Some.ensures.value)
