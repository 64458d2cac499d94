use Rattle.std.specs.HashMap.{get}
use Rattle.smv_scope.specs.Targets.{shared_eq}
use Rattle.smv_resolve.specs.Finding.{AllKnown}
use Rattle.smv_resolve.proofs.Knowing.{kept_there, known_more}
use Rattle.smv_resolve.proofs.memo.insert.Goals as goal

pub returns-clause-known : goal.returns-clause-known
unfolding AllKnown
returns-clause-known c = λ p known here.
    known_more p c.args.memo.now.nodes (get shared_eq c.args.memo.now.known) (get shared_eq c.insert.new.self) c.args.shared c.args.found c.in_ok-insert.ensures.updates.0 here known

pub returns-clause-kept : goal.returns-clause-kept
returns-clause-kept c = kept_there (get shared_eq c.args.memo.now.known) (get shared_eq c.insert.new.self) c.args.shared c.args.found c.in_ok-insert.ensures.updates.0
