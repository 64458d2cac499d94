use Rattle.std.proofs.Common.{◌≡◌, ◌<◌, ℕ, get_or}
use Rattle.clause_core.specs.Literals.{none_lit}
use Rattle.frame_core.proofs.covering.has_literal.Given as goal

abbrev pub invariant-loop-m : goal.invariant-loop-m
invariant-loop-m x = (k : ℕ) → k < x.m-index → get_or x.clause k none_lit ≡ x.l → ⊥
