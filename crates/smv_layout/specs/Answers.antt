-- What the calls of this crate answer.
use Rattle.std.specs.Prelude.{◌≡◌, List, map, Result, Ok, Err}
use Rattle.smv_resolve.specs.declared.resolve.Resolution.{Resolution}
use Rattle.smv_resolve.specs.declared.resolve.Single.{Single}
use Rattle.smv_resolve.specs.Items.{item_by}
use Rattle.smv_resolve.specs.Resolved.{part_of}
use Rattle.smv_declared.specs.declared.variable_type.VariableType.{VariableType}
use Rattle.smv_layout.specs.Layout.{laid_item, laid_value}

-- the same items, laid out
abbrev pub LaysItems : List VariableType → Resolution → Resolution → Type 0
LaysItems vs from to = map (item_by to.nodes) to.items ≡ map (laid_item vs) (map (item_by from.nodes) from.items)

-- the same expression, laid out
abbrev pub LaysOne : List VariableType → Single → Single → Type 0
LaysOne vs from to = part_of to.nodes to.root ≡ laid_value vs (part_of from.nodes from.root)
