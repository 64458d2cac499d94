-- An equation of resolved expressions has one proof at most.
use Rattle.std.proofs.Props.{props}
use Rattle.smv_resolve.specs.Resolved.{Resolved, resolved_set}

pub Resolved-set : IsSet Resolved
Resolved-set = resolved_set (hlevel props) (hlevel props) (hlevel props) (hlevel props) (hlevel props)
