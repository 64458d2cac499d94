use Rattle.std.proofs.Common.{◌≡◌, ◌<◌, ◌∙◌, ℕ, List, [], length, get_or, ap, arith}
use Rattle.clause_core.specs.declared.literal.Lit.{Lit}
use Rattle.cert_core.specs.declared.form.Part.TheVariants.{Kept}
use Rattle.cert_core.specs.Certificates.{kept_clauses}
use Rattle.cert_check.proofs.Joining.{kept_units, kept_log, kept_more, kept_same, puts_at}
use Rattle.cert_check.proofs.hinting.hint_kept.Goals as goal

pub hint_part-requires-clause-units : goal.hint_part-requires-clause-units
hint_part-requires-clause-units c =
    kept_units c.args.system.now c.args.cert.now c.loop-k.k c.loop-k.checker c.state_bits-state_bits.result c.clauses-clauses.result.now c.get.result.now c.deref.result.now
    c.law.ensures.room (c.loop-k.invariant.vars ∙ c.requires.vars) c.state_bits-state_bits.ensures.value c.clauses-clauses.ensures c.get.ensures
    (c.deref.ensures.value ∙ c.in_ok-units.ensures) c.requires.certifies (omega arith)

pub hint_part-requires-clause-derives : goal.hint_part-requires-clause-derives
hint_part-requires-clause-derives c =
    kept_log c.args.system.now c.args.cert.now c.loop-k.k c.loop-k.checker c.state_bits-state_bits.result c.clauses-clauses.result.now c.args.given.now c.in_ok-log.log
    c.get.result.now c.deref.result.now (c.loop-k.invariant.vars ∙ c.requires.vars) c.state_bits-state_bits.ensures.value c.clauses-clauses.ensures c.get.ensures
    (c.deref.ensures.value ∙ c.in_ok-units.ensures) c.requires.given c.in_ok-log.ensures c.requires.certifies (omega arith)

pub loop-k-preserved : goal.loop-k-preserved
loop-k-preserved c =
    let sys = c.args.system.now in
    let cert = c.args.cert.now in
    let k = c.loop-k.k in
    let given : ℕ → List (List Lit) = λ j. kept_clauses sys cert.clauses [] (get_or cert.clauses j []) in
    let lt : k < length c.args.to.now.kept = omega (arith, c.law-2.ensures.kept_count, ap length c.requires.clauses, ap length c.clauses-clauses.ensures) in
    let same = kept_same sys cert k c.state_bits-state_bits.result c.clauses-clauses.result.now c.args.given.now c.get.result.now c.deref.result.now
    c.state_bits-state_bits.ensures.value c.clauses-clauses.ensures c.get.ensures (c.deref.ensures.value ∙ c.in_ok-units.ensures) c.requires.given in
    let puts = puts_at _ sys.all_bits _ (given k) (Kept k) c.loop-k.to c.hint_part.new.to (c.loop-k.invariant.vars ∙ c.requires.vars) same c.in_ok-hint_part.ensures.puts in
    record {
      vars = c.in_ok-hint_part.ensures.vars ∙ c.loop-k.invariant.vars;
      more = kept_more sys.all_bits given c.args.to.now c.loop-k.to c.hint_part.new.to k lt c.loop-k.invariant.more puts;
    }
