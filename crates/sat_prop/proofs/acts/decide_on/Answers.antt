use Rattle.sat_prop.proofs.Keeping.{guarded_alike, guarded_decide}
use Rattle.sat_prop.proofs.acts.decide_on.Goals as goal

pub returns-in_err-decide-clause-guarded : goal.returns-in_err-decide-clause-guarded
returns-in_err-decide-clause-guarded c =
    guarded_alike c.args.clauses.now c.args.trail.now c.decide.new.self c.args.rows.now c.args.short.now c.args.swept c.args.head c.in_err-decide.ensures.failed c.requires.guarded

pub returns-clause-guarded : goal.returns-clause-guarded
returns-clause-guarded c =
    let said = c.in_ok-decide.ensures in
    guarded_decide c.args.clauses.now c.args.trail.now c.decide.new.self c.args.rows.now c.args.short.now c.args.swept c.args.head c.args.l said.pushed.literals said.level_starts said.vars
    (said.based c.args.clauses.now c.requires.guarded.based.reasons) c.requires.rested.0 c.requires.rested.1 c.requires.guarded
