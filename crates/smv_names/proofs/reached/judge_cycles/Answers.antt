-- Where the graph has no cycle, nothing is said.
use Rattle.std.proofs.Common.{ℕ, List, subst, ◌∙◌}
use Rattle.digraph.specs.Cycles.{Acyclic}
use Rattle.smv_names.proofs.Graphs.{closed}
use Rattle.smv_names.proofs.Uses.{none_cyclic}
use Rattle.smv_names.proofs.reached.judge_cycles.Goals as goal

pub is_acyclic-requires : goal.is_acyclic-requires
is_acyclic-requires c = rw (c.deref.ensures.value ∙ c.args.uses.now.leading) (closed c.args.uses.now.program.now)

pub returns-then-branch : goal.returns-then-branch
returns-then-branch c =
    let P : List (List ℕ) → Type 0 = λ g. Acyclic g in
    none_cyclic c.args.uses.now.program.now (subst P (c.deref.ensures.value ∙ c.args.uses.now.leading) (c.in_ok-is_acyclic.ensures c.if-branch.true))
