use Rattle.std.proofs.Common.{◌≡◌, take, map}
use Rattle.cnf_build.specs.Encoding.{cnf_from, lit}
use Rattle.cnf_build.specs.Cone.{marked}
use Rattle.cnf_build.specs.Numbering.{name_in}
use Rattle.cnf_build.proofs.tseitin.encoding.Given as goal

abbrev pub invariant-nodes : goal.invariant-nodes
invariant-nodes l = l.clauses ≡ cnf_from (marked l.marks.items) (name_in l.names.items) 0 (take l.k l.graph)

abbrev pub invariant-roots : goal.invariant-roots
invariant-roots l = l.lits.items ≡ map (lit (name_in l.names.items)) (take l.e-index l.roots)
