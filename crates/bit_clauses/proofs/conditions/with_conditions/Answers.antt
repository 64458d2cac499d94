-- One clause more.
use Rattle.std.proofs.Common.{◌+◌, ◌<◌, ◌≤◌, length, ap, arith, rules}
use Rattle.bit_clauses.proofs.Joining.{clauses_more, fits, start_more}
use Rattle.bit_clauses.proofs.conditions.with_conditions.Goals as goal

pub overflow_add-end : goal.overflow_add-end
overflow_add-end c =
    let lt : c.conditions.k < length c.args.conditions.now = omega arith in
    let within : c.conditions.start + length c.get.result.now ≤ length c.args.literals.now =
    fits c.args.conditions.now c.conditions.k lt c.conditions.start (length c.get.result.now) c.conditions.invariant.start (ap length c.get.ensures) (length c.args.literals.now) c.requires in
    search rules

pub offset_bounds-literals-start : goal.offset_bounds-literals-start
offset_bounds-literals-start c =
    let lt : c.conditions.k < length c.args.conditions.now = omega arith in
    let within : c.conditions.start + length c.get.result.now ≤ length c.args.literals.now =
    fits c.args.conditions.now c.conditions.k lt c.conditions.start (length c.get.result.now) c.conditions.invariant.start (ap length c.get.ensures) (length c.args.literals.now) c.requires in
    search rules

pub slice_bounds-push-end : goal.slice_bounds-push-end
slice_bounds-push-end c =
    let lt : c.conditions.k < length c.args.conditions.now = omega arith in
    let within : c.conditions.start + length c.get.result.now ≤ length c.args.literals.now =
    fits c.args.conditions.now c.conditions.k lt c.conditions.start (length c.get.result.now) c.conditions.invariant.start (ap length c.get.ensures) (length c.args.literals.now) c.requires in
    search rules

pub conditions-preserved : goal.conditions-preserved
conditions-preserved c =
    let lt : c.conditions.k < length c.args.conditions.now = omega arith in
    record {
      start = start_more c.args.conditions.now c.conditions.k lt c.conditions.start (length c.get.result.now) c.conditions.invariant.start (ap length c.get.ensures);
      made = λ f is.
          clauses_more c.args.conditions.now c.conditions.k lt c.conditions.start (length c.get.result.now) c.conditions.invariant.start (ap length c.get.ensures) f c.args.gates c.conditions.made
          c.push.new.self c.args.literals.now is (c.conditions.invariant.made f is) c.in_ok-push.ensures.done;
    }
