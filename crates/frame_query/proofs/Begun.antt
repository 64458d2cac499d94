-- What holds of lists of literals before the first is looked at.
use Rattle.std.proofs.Common.{List, [], arith}
use Rattle.std.specs.Prelude.{Contains}
use Rattle.std.proofs.lemmas.List.Elements.{All-nil}
use Rattle.clause_core.specs.declared.literal.Lit.{Lit}
use Rattle.frame_query.specs.Trying.{IsOthers, IsNeeded}

pub others_none : (l : Lit) → IsOthers [] l []
others_none l = record {
  enough = λ m here other. here;
  only = All-nil (Contains []);
  lacks = λ here. absurd (omega (arith, here.1));
  fewer = omega arith;
}

pub needed_none : (part met : List Lit) → IsNeeded [] part met []
needed_none part met = record {
  enough = λ m here some. here;
  only = All-nil (Contains []);
  fewer = omega arith;
}
