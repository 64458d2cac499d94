use Rattle.std.proofs.Common.{ℕ, ◌<◌, ◌∙◌, List, set, subst, sym}
use Rattle.std.proofs.lemmas.Result.{on_ok_weaker}
use Rattle.clause_core.specs.Literals.{negate}
use Rattle.clause_core.specs.Values.{code, unset}
use Rattle.clause_core.proofs.Setting.{unset_less}
use Rattle.sat_prop.proofs.Keeping.{based_on}
use Rattle.sat_prop.proofs.scan.ScanPropagator.decide.Goals as goal

pub invariant_of-self : goal.invariant_of-self
invariant_of-self c =
    let s = c.args.self.now in
    let said = c.decide.ensures in
    record { based_in = based_on s.clauses s.trail c.decide.new.self (said.based s.clauses s.based_in.reasons) said.vars s.based_in }

pub returns-clause-fewer : goal.returns-clause-fewer
returns-clause-fewer c =
    let t = c.args.self.now.trail in
    let l = c.args.l in
    let less : unset (set t.values.items l.var (code l.positive)) < unset t.values.items =
    unset_less t.values.items l c.requires.in_range (sym (t.values_ok l) ∙ c.requires.off) (sym (t.values_ok (negate l)) ∙ c.requires.off_too) in
    let P : List ℕ → Type 0 = λ v. unset v < unset t.values.items in
    on_ok_weaker c.decide.result (λ e. subst P (sym e.values) less) c.decide.ensures.pushed

pub returns-clause-vars : goal.returns-clause-vars
returns-clause-vars c = c.decide.ensures.vars
