-- One more is pending.
use Rattle.std.proofs.lemmas.List.Elements.{All-push}
use Rattle.smv_resolve.specs.Pending.{Leads}
use Rattle.smv_resolve.proofs.pending.push_pending.Goals as goal

pub returns : goal.returns
returns c = λ p lead shared. rw c.in_ok-push.ensures.ok (All-push (Leads p) c.args.pending.now _ lead shared)
