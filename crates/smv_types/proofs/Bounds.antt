-- Rules that operators break by their kinds, where temporal operators may stand and where they may not.
use Rattle.std.proofs.Common.{◌≡◌, Bool, true, false, cond, ℤ, Option, None, Some, refl, sym}
use Rattle.std.proofs.lemmas.Bool.{false≢true}
use Rattle.smv_value.specs.declared.operator.Operator.{Operator}
use Rattle.smv_value.specs.declared.operator.Operator.TheVariants as operator
use Rattle.smv_tree.specs.declared.place.Place.{Place}
use Rattle.smv_tree.specs.declared.refusal.Refusal.{Refusal}
use Rattle.smv_kinds.specs.declared.kind.KindRule.{KindRule}
use Rattle.smv_meaning.specs.Formulas.{is_temporal}
use Rattle.smv_verdicts.specs.Verdicts.{plain}
use Rattle.smv_types.specs.declared.judged.Violation.{Violation}
use Rattle.smv_types.specs.Judged.{as_refusal, timed, timed_refusal}
use Rattle.smv_types.specs.Kinds.{Context, broken_by, rule_of, temporal_here}

pub timed_same : (v : Option Violation) → timed_refusal (timed v) ≡ as_refusal v
timed_same None = refl
timed_same (Some v) = refl

-- of an operator that is no temporal one no bounds are told
pub plainly_broken : (place : Place) (o : Operator) (bounds : Option (ℤ × ℤ)) (r : KindRule) → is_temporal o ≡ false → broken_by place o bounds r ≡ plain (rule_of r) place
plainly_broken place (operator.Window o) bounds r e = absurd (false≢true (sym e))
plainly_broken place (operator.Bounded o low high) bounds r e = absurd (false≢true (sym e))
plainly_broken place other bounds r e = refl

timeless : (a b : Bool) (r : Refusal) → b ≡ false → cond a None (cond b (Some r) None) ≡ None
timeless true b r e = refl
timeless false b r e = rw e refl

-- it is not misplaced
pub none_temporal : (c : Context) (place : Place) (o : Operator) → is_temporal o ≡ false → temporal_here c place o ≡ None
none_temporal c place o e = timeless c.temporal (is_temporal o) _ e
