-- What is open stays on the list, below what it names.
use Rattle.std.proofs.lemmas.List.Elements.{All-push}
use Rattle.smv_resolve.specs.Pending.{Leads}
use Rattle.smv_resolve.proofs.pending.take_up.Goals as goal

pub push_names-requires : goal.push_names-requires
push_names-requires c = rw c.in_ok-push.ensures.ok (All-push (Leads c.args.scope.now.program) c.args.pending.now _ c.requires.lead c.requires.leads)
