-- What was answered of the formula is right of the specification.
use Rattle.std.proofs.Common.{◌≡◌, subst, sym}
use Rattle.ltl_meaning.specs.Unfolded.{unfolded}
use Rattle.prove_ltl.specs.declared.answers.LtlAnswer.{LtlAnswer}
use Rattle.prove_ltl.specs.LtlAnswers.{IsLtlRight}
use Rattle.smv_cli.specs.Records.{IsFormulaCertified, IsFormulaShownBy, ltl_effort}
use Rattle.smv_cli.specs.Written.{item_in, program_in}
use Rattle.smv_cli.proofs.OfFormulas.{formula_shown_if, lassos_say}
use Rattle.smv_cli.proofs.formulas.formula_verdict.Goals as goal

pub shown-requires-clause-violates : goal.shown-requires-clause-violates
shown-requires-clause-violates c =
    let r = c.args.formula.now in
    let found = c.requires.answered in
    subst (λ (a : LtlAnswer). IsLtlRight r.system (unfolded r.formula) r.atoms (ltl_effort c.args.model.now.effort) found.log a) c.in-False.is found.right

pub returns-in-True : goal.returns-in-True
returns-in-True c =
    let model = c.args.model.now in
    let p = program_in model in
    let spec = item_in model c.args.spec.now in
    let r = c.args.formula.now in
    let cert = c.in-True.certificate in
    let found = c.requires.answered in
    let right = subst (λ (a : LtlAnswer). IsLtlRight r.system (unfolded r.formula) r.atoms (ltl_effort model.effort) found.log a) c.in-True.is found.right in
    let certified : IsFormulaCertified p model.effort spec cert = record { formula = r; stands = c.requires.stands; certifies = right.1 } in (
      c.what_is_never_violated.ensures.all p spec r c.requires.stands right.0,
      subst (IsFormulaShownBy model.effort.cert p model.effort spec) (sym c.if_wanted.ensures) (formula_shown_if p model.effort spec model.effort.cert cert certified),
    )

pub returns-in-Unknown : goal.returns-in-Unknown
returns-in-Unknown c =
    let model = c.args.model.now in
    let p = program_in model in
    let spec = item_in model c.args.spec.now in
    let r = c.args.formula.now in
    let cause = c.in-Unknown.cause in
    let found = c.requires.answered in
    let right = subst (λ (a : LtlAnswer). IsLtlRight r.system (unfolded r.formula) r.atoms (ltl_effort model.effort) found.log a) c.in-Unknown.is found.right in
    record {
      formula = r;
      log = found.log;
      stands = c.requires.stands;
      so_it_was = found.so_it_was;
      cause = right;
      lassos = lassos_say p spec r (ltl_effort model.effort) found.log (λ h bound. c.what_is_never_violated.ensures.within p spec r h bound c.requires.stands) cause right;
    }
