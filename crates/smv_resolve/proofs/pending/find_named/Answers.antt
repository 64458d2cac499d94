-- What is next leaves the list.
use Rattle.std.proofs.lemmas.List.Elements.{All-nil}
use Rattle.smv_resolve.specs.Pending.{Leads}
use Rattle.smv_resolve.proofs.pending.find_named.Goals as goal

pub push_names-requires : goal.push_names-requires
push_names-requires c = rw c.new-pending.ensures (All-nil (Leads c.args.scope.now.program))
