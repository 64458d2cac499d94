use Rattle.cnf_build.proofs.Whole.{law_of, within_of, roots_within_of}
use Rattle.cnf_build.proofs.tseitin.clauses.Goals as goal

pub returns-clause-law : goal.returns-clause-law
returns-clause-law c =
    law_of c.args.graph.now c.args.roots.now c.in_ok-cnf.cnf.vars c.in_ok-cnf.cnf.clauses c.in_ok-cnf.cnf.roots.items c.len.ensures.acyclic c.in_ok-cnf.ensures c.one_way.ensures.law c.requires

pub returns-clause-within : goal.returns-clause-within
returns-clause-within c =
    within_of c.args.graph.now c.args.roots.now c.in_ok-cnf.cnf.vars c.in_ok-cnf.cnf.clauses c.in_ok-cnf.cnf.roots.items c.len.ensures.acyclic c.in_ok-cnf.ensures

pub returns-clause-roots_within : goal.returns-clause-roots_within
returns-clause-roots_within c =
    roots_within_of c.args.graph.now c.args.roots.now c.in_ok-cnf.cnf.vars c.in_ok-cnf.cnf.clauses c.in_ok-cnf.cnf.roots.items c.len.ensures.acyclic c.in_ok-cnf.ensures c.requires
