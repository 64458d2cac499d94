-- One of the four.
use Rattle.std.proofs.Common.{ℕ, Bool, sym, subst}
use Rattle.std.specs.Prelude.{IfOk, IfSome}
use Rattle.smv_value.specs.Results.{ordered}
use Rattle.bit_graph.specs.Meaning.{Consistent}
use Rattle.bit_operators.specs.declared.symbolic.Symbolic.TheVariants.{Boolean}
use Rattle.bit_operators.specs.Denoting.{ComputesTwo}
use Rattle.bit_operators.proofs.orders.ordered.Goals as goal

pub returns-in-Less-clause-value : goal.returns-in-Less-clause-value
returns-in-Less-clause-value c =
    subst (λ o. IfOk c.below.result (λ r. IfSome r (λ e. (v : ℕ → Bool) → Consistent v c.below.new.graph → ComputesTwo v (ordered o) c.args.a.now c.args.b.now (Boolean e))))
    (sym c.in-Less.is) c.below.ensures.less

pub returns-in-AtMost-clause-value : goal.returns-in-AtMost-clause-value
returns-in-AtMost-clause-value c =
    subst (λ o. IfOk c.not_below.result (λ r. IfSome r (λ e. (v : ℕ → Bool) → Consistent v c.not_below.new.graph → ComputesTwo v (ordered o) c.args.a.now c.args.b.now (Boolean e))))
    (sym c.in-AtMost.is) c.not_below.ensures.at_most

pub returns-in-Greater-clause-value : goal.returns-in-Greater-clause-value
returns-in-Greater-clause-value c =
    subst (λ o. IfOk c.below-in-Greater.result (λ r. IfSome r (λ e. (v : ℕ → Bool) → Consistent v c.below-in-Greater.new.graph → ComputesTwo v (ordered o) c.args.a.now c.args.b.now (Boolean e))))
    (sym c.in-Greater.is) c.below-in-Greater.ensures.greater

pub returns-in-AtLeast-clause-value : goal.returns-in-AtLeast-clause-value
returns-in-AtLeast-clause-value c =
    subst (λ o. IfOk c.not_below-in-AtLeast.result (λ r. IfSome r (λ e. (v : ℕ → Bool) → Consistent v c.not_below-in-AtLeast.new.graph → ComputesTwo v (ordered o) c.args.a.now c.args.b.now (Boolean e))))
    (sym c.in-AtLeast.is) c.not_below-in-AtLeast.ensures.at_least
