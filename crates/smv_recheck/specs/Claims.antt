-- What it means for a specification to hold or not, by its kind.
use Rattle.std.specs.Prelude.{List}
use Rattle.smv_tree.specs.declared.tree.Program.{Program}
use Rattle.smv_tree.specs.declared.tree.SpecificationKind.TheVariants as claim
use Rattle.smv_resolve.specs.declared.item.ItemKind.{ItemKind}
use Rattle.smv_resolve.specs.declared.item.ItemKind.TheVariants as item
use Rattle.smv_resolve.specs.Items.{ResolvedItem}
use Rattle.smv_value.specs.declared.value.Value.{Value}
use Rattle.smv_meaning.specs.Lassos.{Lasso, Violates}
use Rattle.smv_meaning.specs.Runs.{Breaks}
use Rattle.bit_system.specs.Claims.{IsUnbroken}
use Rattle.bit_lassos.specs.Claims.{IsUnviolated}
use Rattle.trace_replay.specs.Faultless.{IsFaultlessLasso, IsFaultlessRun}

-- no run breaks it; of a temporal formula, no fair lasso violates it
abbrev pub IsUpheld : ItemKind → Program → ResolvedItem → Type 0
IsUpheld (item.Specification claim.Temporal) = IsUnviolated
IsUpheld other = IsUnbroken

-- some run breaks it, and nothing faults that is asked along it; of a temporal formula, some fair lasso violates it so
abbrev pub IsRefuted : ItemKind → Program → ResolvedItem → Type 0
IsRefuted (item.Specification claim.Temporal) p spec = (w : Lasso) × (Violates p spec w × IsFaultlessLasso p spec w)
IsRefuted other p spec = (states : List (List Value)) × ((inputs : List (List Value)) × (Breaks p spec states inputs × IsFaultlessRun p states inputs))
