use Rattle.std.proofs.Common.{length}
use Rattle.sat_prop.proofs.Attaching.{head_cell}
use Rattle.sat_prop.proofs.Keeping.{attachable, watching_more, watching_same}
use Rattle.sat_prop.proofs.acts.add_on.Goals as goal

pub head_for-n-requires-clause-a_in : goal.head_for-n-requires-clause-a_in
head_for-n-requires-clause-a_in c big =
    head_cell (length c.args.trail.now.values.items) c.args.c.now c.watches_of-h.result.a c.requires.within (c.watches_of-h.ensures.0 big).0

pub head_for-n-requires-clause-b_in : goal.head_for-n-requires-clause-b_in
head_for-n-requires-clause-b_in c big =
    head_cell (length c.args.trail.now.values.items) c.args.c.now c.watches_of-h.result.b c.requires.within (c.watches_of-h.ensures.0 big).1

pub attach-requires-clause-attachable : goal.attach-requires-clause-attachable
attach-requires-clause-attachable c =
    attachable c.args.clauses.now c.args.trail.now c.args.rows.now c.args.lists.now c.args.c.now c.args.w c.watches_of-h.result c.requires.within c.watches_of-h.ensures c.requires.watching.watched

pub returns-in_err-attach-clause-watching : goal.returns-in_err-attach-clause-watching
returns-in_err-attach-clause-watching c =
    let said = c.in_err-attach.ensures in
    watching_same c.args.clauses.now c.attach.new.clauses c.args.trail.now c.args.rows.now c.attach.new.rows c.args.lists.now c.attach.new.lists c.args.short.now.items c.attach.new.short.items c.args.swept
    c.args.head.now said.failed.0 said.failed.1 said.cells said.short_kept said.listed said.short_listed c.requires.watching

pub returns-clause-watching : goal.returns-clause-watching
returns-clause-watching c =
    let said = c.in_ok-attach.ensures in
    let at_head = c.head_for-n.ensures in
    watching_more c.args.clauses.now c.attach.new.clauses c.args.trail.now c.args.rows.now c.attach.new.rows c.args.lists.now c.attach.new.lists c.args.short.now.items c.attach.new.short.items c.args.swept
    c.args.head.now c.head_for-n.result c.args.c.now c.args.w c.watches_of-h.result said.done.0 said.done.1 said.cells said.short_kept said.listed said.short_listed c.requires.within c.requires.watch
    c.watches_of-h.ensures at_head.low at_head.open_a at_head.open_b c.requires.watching
