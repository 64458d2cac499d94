use Rattle.std.proofs.Common.{◌≡◌, length, take}
use Rattle.cnf_build.specs.Cone.{marked, ConeFrom, RootsLive, AllReached}
use Rattle.cnf_build.proofs.cone.cone.Given as goal

abbrev pub invariant-roots : goal.invariant-roots
invariant-roots l = record {
  size : length l.marks.items ≡ length l.graph;
  done : RootsLive (marked l.marks.items) (take l.e-index l.roots);
  reached : AllReached (marked l.marks.items) l.graph l.roots;
}

abbrev pub invariant-nodes : goal.invariant-nodes
invariant-nodes l = record {
  size : length l.marks.items ≡ length l.graph;
  roots : RootsLive (marked l.marks.items) l.roots;
  cone : ConeFrom (marked l.marks.items) l.graph l.k;
  reached : AllReached (marked l.marks.items) l.graph l.roots;
}
