use Rattle.std.proofs.Common.{◌∙◌}
use Rattle.fault_search.proofs.Asked.{met_says, never_says}
use Rattle.fault_search.proofs.asking.ask_with.Goals as goal

pub returns-in-Sat-clause-asked : goal.returns-in-Sat-clause-asked
returns-in-Sat-clause-asked g c =
    let says = rw c.in-Sat.is at c.in_ok-model.ensures.answer in
    met_says c.args.question.now c.args.solver.now c.in-Sat.model c.requires.fresh says

pub returns-in-Unsat-clause-asked : goal.returns-in-Unsat-clause-asked
returns-in-Unsat-clause-asked g c =
    let says = rw c.in-Unsat.is at c.in_ok-model.ensures.answer in
    never_says c.args.question.now c.args.solver.now c.in-Unsat.core.items _ c.in_ok-steps-in-Unsat.steps c.requires.fresh c.requires.room says.0 says.1
    (c.in_ok-steps-in-Unsat.ensures.steps ∙ c.in_ok-log-in-Unsat.ensures) c.in_ok-steps-in-Unsat.ensures.hints
