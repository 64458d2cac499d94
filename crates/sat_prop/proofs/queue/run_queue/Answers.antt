use Rattle.std.proofs.Common.{◌≡◌, ℕ, ◌<◌, length, sym, subst, ap, ◌∙◌, arith}
use Rattle.std.proofs.lemmas.List.{get_or_read}
use Rattle.clause_core.specs.declared.literal.Lit.{Lit}
use Rattle.clause_core.specs.Literals.{negate, none_lit, at}
use Rattle.sat_prop.specs.Packing.{pairs}
use Rattle.sat_prop.specs.Watches.{DoneWith}
use Rattle.sat_prop.proofs.Keeping.{keeps_none, keeps_on, propagated_kept}
use Rattle.sat_prop.proofs.Sweeps.{went_none, went_on}
use Rattle.sat_prop.proofs.Watching.{watch_advances}
use Rattle.sat_prop.proofs.Queues.{went_longer, went_at}
use Rattle.sat_prop.proofs.queue.run_queue.Goals as goal

pub queue-init : goal.queue-init
queue-init c =
    record {
      watched = c.requires.watched;
      propagated = c.requires.propagated;
      extends = went_none c.args.trail.now;
      kept = keeps_none c.args.clauses.now c.args.rows.now c.args.trail.now;
    }

pub queue-preserved : goal.queue-preserved
queue-preserved c =
    let inv = c.queue.invariant in
    let cs = c.args.clauses.now in
    let t = c.queue.trail in
    let t' = c.visit_list.new.trail in
    let rows' = c.visit_list.new.rows in
    let n = c.queue.head in
    let said = c.in_ok-k.ensures in
    let lt : n < length t.literals.items = omega (arith, c.queue-test.true, c.len.ensures, t.literals.ok.0) in
    let lt' : n < length t'.literals.items = omega (arith, lt, went_longer t t' said.extends) in
    let old = propagated_kept cs t t' c.queue.rows rows' n said.extends said.kept inv.propagated in
    let same : at t'.literals.items n ≡ at t.literals.items n = went_at t t' n said.extends lt in
    let f : c.negated-f.result ≡ negate (at t'.literals.items n) =
    c.negated-f.ensures ∙ ap negate (get_or_read t.literals.items n c.index.result.now lt c.index.ensures none_lit) ∙ ap negate (sym same) in
    let D : Lit → Type 0 = λ x. (k : ℕ) → DoneWith cs (pairs rows') t'.literals.items x k in
    record {
      watched = said.watched;
      propagated = record {
        low = omega (arith, lt');
        queue = watch_advances cs (pairs rows') t'.literals.items n lt' old.queue (subst D f (rw c.in-None.is at said.says));
      };
      extends = went_on c.args.trail.now t t' inv.extends said.extends;
      kept = keeps_on cs c.args.rows.now c.queue.rows rows' c.args.trail.now t inv.extends inv.kept said.kept;
    }

pub returns-in_err-k-clause-propagated : goal.returns-in_err-k-clause-propagated
returns-in_err-k-clause-propagated c =
    let said = c.in_err-k.ensures in
    propagated_kept c.args.clauses.now c.queue.trail c.visit_list.new.trail c.queue.rows c.visit_list.new.rows c.queue.head said.extends said.kept c.queue.invariant.propagated

pub returns-in_err-k-clause-extends : goal.returns-in_err-k-clause-extends
returns-in_err-k-clause-extends c = went_on c.args.trail.now c.queue.trail c.visit_list.new.trail c.queue.invariant.extends c.in_err-k.ensures.extends

pub returns-in_err-k-clause-kept : goal.returns-in_err-k-clause-kept
returns-in_err-k-clause-kept c =
    let inv = c.queue.invariant in
    keeps_on c.args.clauses.now c.args.rows.now c.queue.rows c.visit_list.new.rows c.args.trail.now c.queue.trail inv.extends inv.kept c.in_err-k.ensures.kept

pub returns-in-Some-clause-propagated : goal.returns-in-Some-clause-propagated
returns-in-Some-clause-propagated c =
    let said = c.in_ok-k.ensures in
    propagated_kept c.args.clauses.now c.queue.trail c.visit_list.new.trail c.queue.rows c.visit_list.new.rows c.queue.head said.extends said.kept c.queue.invariant.propagated

pub returns-in-Some-clause-extends : goal.returns-in-Some-clause-extends
returns-in-Some-clause-extends c = went_on c.args.trail.now c.queue.trail c.visit_list.new.trail c.queue.invariant.extends c.in_ok-k.ensures.extends

pub returns-in-Some-clause-kept : goal.returns-in-Some-clause-kept
returns-in-Some-clause-kept c =
    let inv = c.queue.invariant in
    keeps_on c.args.clauses.now c.args.rows.now c.queue.rows c.visit_list.new.rows c.args.trail.now c.queue.trail inv.extends inv.kept c.in_ok-k.ensures.kept

pub returns-in-Some-clause-says : goal.returns-in-Some-clause-says
returns-in-Some-clause-says c = rw c.in-Some.is at c.in_ok-k.ensures.says

pub returns-clause-says : goal.returns-clause-says
returns-clause-says c = omega (arith, c.queue-test.false, c.len.ensures, c.queue.trail.literals.ok.0, c.queue.invariant.propagated.low)
