use Rattle.std.proofs.Common.{◌≡◌, true, length, take}
use Rattle.std.specs.List.{All, Contains}
use Rattle.clause_core.specs.declared.literal.Lit.{Lit}
use Rattle.frame_core.specs.Looking.{has_literal}
use Rattle.frame_core.proofs.subset.LiteralSet.of.Given as goal

abbrev pub invariant-literals : goal.invariant-literals
invariant-literals l = record {
  positive : length l.positive.items ≡ l.vars;
  negative : length l.negative.items ≡ l.vars;
  has : All (λ m. has_literal (l.positive.items, l.negative.items) m ≡ true) (take l.l-index l.clause);
  only : (m : Lit) → has_literal (l.positive.items, l.negative.items) m ≡ true → Contains l.clause m;
}
