-- One of the six.
use Rattle.std.proofs.Common.{sym, subst}
use Rattle.std.specs.Prelude.{IfOk}
use Rattle.smv_value.specs.Results.{logic_truth}
use Rattle.bit_graph.specs.Meaning.{Denotes, edge_value}
use Rattle.bit_operators.proofs.logic.joined.Goals as goal

pub returns-in-And-clause-value : goal.returns-in-And-clause-value
returns-in-And-clause-value c =
    subst (λ o. IfOk c.and.result (λ e. Denotes c.and.new.self e (λ v. logic_truth o (edge_value v c.args.a) (edge_value v c.args.b)))) (sym c.in-And.is) c.and.ensures.value

pub returns-in-Or-clause-value : goal.returns-in-Or-clause-value
returns-in-Or-clause-value c =
    subst (λ o. IfOk c.or.result (λ e. Denotes c.or.new.self e (λ v. logic_truth o (edge_value v c.args.a) (edge_value v c.args.b)))) (sym c.in-Or.is) c.or.ensures.value

pub returns-in-Xor-clause-value : goal.returns-in-Xor-clause-value
returns-in-Xor-clause-value c =
    subst (λ o. IfOk c.differ.result (λ e. Denotes c.differ.new.graph e (λ v. logic_truth o (edge_value v c.args.a) (edge_value v c.args.b)))) (sym c.in-Xor.is) c.differ.ensures.value

pub returns-in-Xnor-clause-value : goal.returns-in-Xnor-clause-value
returns-in-Xnor-clause-value c =
    subst (λ o. IfOk c.alike.result (λ e. Denotes c.alike.new.graph e (λ v. logic_truth o (edge_value v c.args.a) (edge_value v c.args.b)))) (sym c.in-Xnor.is) c.alike.ensures.value

pub returns-in-Iff-clause-value : goal.returns-in-Iff-clause-value
returns-in-Iff-clause-value c =
    subst (λ o. IfOk c.alike-in-Iff.result (λ e. Denotes c.alike-in-Iff.new.graph e (λ v. logic_truth o (edge_value v c.args.a) (edge_value v c.args.b)))) (sym c.in-Iff.is) c.alike-in-Iff.ensures.value

pub returns-in-Implies-clause-value : goal.returns-in-Implies-clause-value
returns-in-Implies-clause-value c =
    subst (λ o. IfOk c.implied.result (λ e. Denotes c.implied.new.graph e (λ v. logic_truth o (edge_value v c.args.a) (edge_value v c.args.b)))) (sym c.in-Implies.is) c.implied.ensures.value
