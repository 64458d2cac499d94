use Rattle.std.proofs.Common.{◌≡◌, MatchOption, length}
use Rattle.std.proofs.lemmas.Result.{IfOk-weaker}
use Rattle.sat_prop.specs.Moves.{FalseClause}
use Rattle.sat_prop.specs.Trails.{AtRest}
use Rattle.sat_prop.specs.Packing.{pairs}
use Rattle.sat_prop.specs.Watches.{ShortTrue}
use Rattle.sat_prop.proofs.Keeping.{propagated_went, watched_trail, watching_run, watching_went}
use Rattle.sat_prop.proofs.Queues.{rest_more, small_true_heads, small_grows, queue_rest}
use Rattle.sat_prop.proofs.Visits.{went_grows}
use Rattle.sat_prop.proofs.Sweeps.{went_on}
use Rattle.sat_prop.proofs.settle.settle.Goals as goal

pub returns-in_err-k-clause-watching : goal.returns-in_err-k-clause-watching
returns-in_err-k-clause-watching c =
    let said = c.in_err-k.ensures in
    watching_went c.args.clauses.now c.args.trail.now c.settle_short.new.trail c.args.rows.now c.args.lists.now c.args.short.now c.args.swept.now c.settle_short.new.swept c.args.head.now
    said.extends said.based said.swept c.requires.watching

pub returns-in-Some-clause-watching : goal.returns-in-Some-clause-watching
returns-in-Some-clause-watching c =
    let said = c.in_ok-k.ensures in
    watching_went c.args.clauses.now c.args.trail.now c.settle_short.new.trail c.args.rows.now c.args.lists.now c.args.short.now c.args.swept.now c.settle_short.new.swept c.args.head.now
    said.extends said.based said.swept c.requires.watching

pub run_queue-requires-clause-watched : goal.run_queue-requires-clause-watched
run_queue-requires-clause-watched c =
    let said = c.in_ok-k.ensures in
    watched_trail c.args.clauses.now c.args.trail.now c.settle_short.new.trail c.args.rows.now c.args.lists.now said.based said.extends.vars c.requires.watching.watched

pub run_queue-requires-clause-propagated : goal.run_queue-requires-clause-propagated
run_queue-requires-clause-propagated c =
    propagated_went c.args.clauses.now c.args.trail.now c.settle_short.new.trail c.args.rows.now c.args.head.now c.in_ok-k.ensures.extends c.requires.watching.guarded.propagated

pub returns-in-None-clause-watching : goal.returns-in-None-clause-watching
returns-in-None-clause-watching c =
    let cs = c.args.clauses.now in
    let t = c.args.trail.now in
    let mid = c.settle_short.new in
    let new = c.run_queue.new in
    let first = c.in_ok-k.ensures in
    let said = c.run_queue.ensures in
    watching_run cs mid.trail new.trail c.args.rows.now new.rows c.args.lists.now new.lists c.args.short.now mid.swept c.args.head.now new.head said.extends said.kept said.watched said.propagated
    (watching_went cs t mid.trail c.args.rows.now c.args.lists.now c.args.short.now c.args.swept.now mid.swept c.args.head.now first.extends first.based first.swept c.requires.watching)

pub returns-in-None-clause-extends : goal.returns-in-None-clause-extends
returns-in-None-clause-extends c = went_on c.args.trail.now c.settle_short.new.trail c.run_queue.new.trail c.in_ok-k.ensures.extends c.run_queue.ensures.extends

pub returns-in-None-clause-says : goal.returns-in-None-clause-says
returns-in-None-clause-says c =
    let cs = c.args.clauses.now in
    let said = c.run_queue.ensures in
    let t = c.settle_short.new.trail in
    let t' = c.run_queue.new.trail in
    let rows' = pairs c.run_queue.new.rows in
    let first : ShortTrue cs (pairs c.args.rows.now) t.literals.items = rw c.in-None.is at c.in_ok-k.ensures.says in
    let now : ShortTrue cs (pairs c.args.rows.now) t'.literals.items = small_grows cs (pairs c.args.rows.now) t.literals.items t'.literals.items (λ l on. went_grows t t' said.extends l on) first in
    let short : ShortTrue cs rows' t'.literals.items = small_true_heads cs (pairs c.args.rows.now) rows' t'.literals.items said.kept.two_kept now in
    let S : Type 0 = c.run_queue.new.head ≡ length t'.literals.items in
    let T : Type 0 = AtRest cs t'.literals.items × (S × ShortTrue cs rows' t'.literals.items) in
    IfOk-weaker c.run_queue.result (λ o. MatchOption o S (FalseClause cs t')) (λ o. MatchOption o T (FalseClause cs t'))
    (λ o h. rest_more o S T (FalseClause cs t') (λ e. (queue_rest cs rows' t' c.run_queue.new.head e said.watched.listed.watches_in said.propagated.queue short, (e, short))) h)
    said.says

pub returns-in-Some-clause-says : goal.returns-in-Some-clause-says
returns-in-Some-clause-says c = rw c.in-Some.is at c.in_ok-k.ensures.says
