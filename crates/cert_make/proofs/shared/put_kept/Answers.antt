use Rattle.std.proofs.Common.{◌<◌, ◌≤◌, ◌*◌, ◌++◌, ◌∙◌, ℕ, List, [], length, get_or, ap, arith}
use Rattle.clause_core.specs.declared.literal.Lit.{Lit}
use Rattle.cert_core.specs.declared.form.Part.TheVariants.{Kept}
use Rattle.cert_core.specs.Certificates.{unit_clauses, negated_next}
use Rattle.cert_check.proofs.Joining.{kept_more, puts_at}
use Rattle.cert_make.proofs.Refuting.{next_units, given_units, derives_same}
use Rattle.cert_make.proofs.shared.put_kept.Goals as goal

pub hint_part-requires-clause-units : goal.hint_part-requires-clause-units
hint_part-requires-clause-units c =
    let room : 2 * c.args.state_bits ≤ c.loop-k.checker = omega (arith, c.requires.room, c.loop-k.invariant.vars) in
    next_units c.args.state_bits c.loop-k.checker c.args.clauses.now c.loop-k.k c.get.result.now c.deref.result.now room c.requires.within c.get.ensures
    (c.deref.ensures.value ∙ c.in_ok-units.ensures) (omega arith)

pub hint_part-requires-clause-derives : goal.hint_part-requires-clause-derives
hint_part-requires-clause-derives c =
    derives_same c.args.checker.now c.loop-k.checker c.args.state_bits c.args.given.now c.args.clauses.now c.in_ok-log.log c.loop-k.k c.get.result.now c.deref.result.now
    c.loop-k.invariant.vars c.get.ensures (c.deref.ensures.value ∙ c.in_ok-units.ensures) c.in_ok-log.ensures (c.requires.derive c.loop-k.k (omega arith))

pub loop-k-preserved : goal.loop-k-preserved
loop-k-preserved c =
    let k = c.loop-k.k in
    let given : ℕ → List (List Lit) = λ j. c.args.given.now ++ unit_clauses (negated_next c.args.state_bits (get_or c.args.clauses.now j [])) in
    let lt : k < length c.args.to.now.kept = omega (arith, c.law.ensures.kept_count, ap length c.requires.clauses) in
    let same = given_units c.args.state_bits c.args.given.now c.args.clauses.now k c.get.result.now c.deref.result.now c.get.ensures (c.deref.ensures.value ∙ c.in_ok-units.ensures) in
    let puts = puts_at _ c.args.checker.now _ (given k) (Kept k) c.loop-k.to c.hint_part.new.to c.loop-k.invariant.vars same c.in_ok-hint_part.ensures.puts in
    record {
      vars = c.in_ok-hint_part.ensures.vars ∙ c.loop-k.invariant.vars;
      more = kept_more c.args.checker.now given c.args.to.now c.loop-k.to c.hint_part.new.to k lt c.loop-k.invariant.more puts;
    }
