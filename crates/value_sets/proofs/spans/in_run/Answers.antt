-- What is a member of a run.
use Rattle.std.proofs.Common.{refl, sym, arith}
use Rattle.std.proofs.lemmas.Int.{to_z-of_z}
use Rattle.smv_value.specs.declared.value.Value.TheVariants as value
use Rattle.value_sets.proofs.Runs.{in_run_is, none_in_run}
use Rattle.value_sets.proofs.spans.in_run.Goals as goal

pub returns-in-Int : goal.returns-in-Int
returns-in-Int c = rw c.in-Int.is (grind (arith, to_z-of_z, c.is_within.ensures, in_run_is c.args.low c.args.high c.in-Int.z))

pub returns-in-Bool : goal.returns-in-Bool
returns-in-Bool c = rw c.in-Bool.is (sym (none_in_run (value.Bool c.in-Bool.field-0) (λ z. refl) c.args.low c.args.high))

pub returns-in-Sym : goal.returns-in-Sym
returns-in-Sym c = rw c.in-Sym.is (sym (none_in_run (value.Sym c.in-Sym.field-0) (λ z. refl) c.args.low c.args.high))

pub returns-in-Word : goal.returns-in-Word
returns-in-Word c = rw c.in-Word.is (sym (none_in_run (value.Word c.in-Word.signed c.in-Word.width c.in-Word.bits) (λ z. refl) c.args.low c.args.high))
