-- What is pending while names are followed.
use Rattle.std.specs.Prelude.{List}
use Rattle.std.specs.List.{All}
use Rattle.smv_tree.specs.declared.tree.Program.{Program}
use Rattle.smv_resolve.specs.declared.pending.Pending.{Pending}
use Rattle.smv_resolve.specs.Finding.{IsShared}

-- the expression that is pending is what these names share
abbrev pub Leads : Program → Pending → Type 0
Leads p x = IsShared p x.shared x.at x.e.now

abbrev pub AllLead : Program → List Pending → Type 0
AllLead p pending = All (Leads p) pending
