use Rattle.std.proofs.Common.{◌+◌, ◌*◌, subst, sym}
use Rattle.ltl_meaning.specs.Temporal.{formula_of}
use Rattle.ltl_meaning.specs.Truth.{IsTrueAt, Repeats}
use Rattle.ltl_meaning.specs.Lasso.{on, period}
use Rattle.ltl_meaning.proofs.Unfold.{formula_repeats}
use Rattle.ltl_meaning.proofs.formula.Formula.past_height.Goals as goal

pub returns-clause-repeats : goal.returns-clause-repeats
returns-clause-repeats c = λ w.
    subst (λ h. Repeats (period w) (w.start + h * period w) (IsTrueAt (on w) (formula_of c.args.self.now.root)))
    (sym c.args.self.now.exact) (formula_repeats (formula_of c.args.self.now.root) w)
