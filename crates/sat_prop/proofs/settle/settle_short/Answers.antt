use Rattle.std.proofs.Common.{ℕ, ◌<◌, MatchOption, length, slice_index, arith, ap}
use Rattle.std.proofs.lemmas.Result.{IfOk-weaker}
use Rattle.sat_prop.specs.Packing.{pairs}
use Rattle.sat_prop.specs.Moves.{FalseClause}
use Rattle.sat_prop.specs.Watches.{ShortDone, ShortTrue}
use Rattle.sat_prop.proofs.Queues.{rest_more, small_done, small_level}
use Rattle.sat_prop.proofs.Rooted.{swept_bare, swept_rooted}
use Rattle.sat_prop.proofs.settle.settle_short.Goals as goal

pub sweep_short-requires-clause-swept : goal.sweep_short-requires-clause-swept
sweep_short-requires-clause-swept c =
    let t = c.args.trail.now in
    swept_bare c.args.clauses.now c.args.short.now c.args.swept.now t.literals.items t.level_starts.items (omega (arith, c.if-len-eq0.true, c.len.ensures, t.level_starts.ok.0)) c.requires.swept

pub returns-then-len-eq0-clause-swept : goal.returns-then-len-eq0-clause-swept
returns-then-len-eq0-clause-swept c =
    let t = c.sweep_short.new.trail in
    let said = c.sweep_short.ensures in
    swept_rooted c.args.clauses.now c.args.short.now c.sweep_short.new.swept t.literals.items t.level_starts.items
    (omega (arith, c.if-len-eq0.true, c.len.ensures, c.args.trail.now.level_starts.ok.0, ap length said.extends.level_starts)) said.swept

pub returns-then-len-eq0-clause-says : goal.returns-then-len-eq0-clause-says
returns-then-len-eq0-clause-says c =
    let cs = c.args.clauses.now in
    let short = c.args.short.now in
    let t = c.sweep_short.new.trail in
    let S : Type 0 = (j : ℕ) → j < length short → ShortDone cs t.literals.items (slice_index short j) in
    let T : Type 0 = ShortTrue cs (pairs c.args.rows.now) t.literals.items in
    IfOk-weaker c.sweep_short.result (λ o. MatchOption o S (FalseClause cs t)) (λ o. MatchOption o T (FalseClause cs t))
    (λ o h. rest_more o S T (FalseClause cs t) (small_done cs (pairs c.args.rows.now) short t.literals.items c.requires.short_listed) h)
    c.sweep_short.ensures.says

pub returns-else-len-eq0-clause-says : goal.returns-else-len-eq0-clause-says
returns-else-len-eq0-clause-says c =
    small_level c.args.clauses.now (pairs c.args.rows.now) c.args.trail.now (λ e. omega (arith, e, c.if-len-eq0.false, c.len.ensures, c.args.trail.now.level_starts.ok.0)) c.requires.levels
