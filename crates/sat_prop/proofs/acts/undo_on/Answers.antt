use Rattle.std.proofs.Common.{arith}
use Rattle.sat_prop.proofs.Keeping.{guarded_undo}
use Rattle.sat_prop.proofs.acts.undo_on.Goals as goal

pub returns-clause-guarded : goal.returns-clause-guarded
returns-clause-guarded c =
    let new = c.undo.new.self in
    let said = c.undo.ensures in
    guarded_undo c.args.clauses.now c.args.trail.now new c.args.rows.now c.args.short.now c.args.swept c.args.head.now c.args.level c.len.result c.requires.level said.literals said.level_starts said.reasons
    said.vars (omega (arith, c.len.ensures, new.literals.ok.0)) c.requires.guarded
