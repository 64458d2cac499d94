use Rattle.sat_prop.specs.Packing.{row_of}
use Rattle.sat_prop.proofs.Matching.{popped}
use Rattle.sat_prop.proofs.attach.push_clause.Goals as goal

pub returns-in-Err-clause-failed_rows : goal.returns-in-Err-clause-failed_rows
returns-in-Err-clause-failed_rows c = popped c.args.rows.now c.push.new.self c.pop.new.self (row_of c.args.h c.args.c.now) c.in_ok-push.ensures.done c.pop.ensures
