use Rattle.std.proofs.Common.{◌≡◌, ◌++◌, ◌∙◌, ap, sym, subst, List}
use Rattle.std.specs.List.{All}
use Rattle.clause_core.specs.declared.literal.Lit.{Lit}
use Rattle.clause_core.specs.Literals.{Within}
use Rattle.cert_core.specs.Certificates.{unit_clauses}
use Rattle.cert_check.proofs.Verdicts.{given_within, shows_plain, shows_not}
use Rattle.cert_check.proofs.parts.steps_show.Goals as goal

pub check-requires : goal.check-requires
check-requires c =
    let units = unit_clauses c.args.units.now in
    let cs = c.args.clauses.now in
    let same : c.append_units.new.to ≡ cs ++ units =
    c.in_ok-append_units-in-Plain.ensures
    ∙ ap (λ (w : List (List Lit)). w ++ units) (c.in_ok-append-in-Plain.ensures ∙ ap (λ (w : List (List Lit)). w ++ cs) c.new-given.ensures) in
    let P : List (List Lit) → Type 0 = All (Within c.args.checker.now) in
    subst P (sym same) (given_within c.args.checker.now cs c.args.units.now c.requires.clauses c.requires.units)

pub returns-in-Yes-clause-says : goal.returns-in-Yes-clause-says
returns-in-Yes-clause-says c =
    let units = unit_clauses c.args.units.now in
    let cs = c.args.clauses.now in
    let same : c.append_units.new.to ≡ cs ++ units =
    c.in_ok-append_units-in-Plain.ensures
    ∙ ap (λ (w : List (List Lit)). w ++ units) (c.in_ok-append-in-Plain.ensures ∙ ap (λ (w : List (List Lit)). w ++ cs) c.new-given.ensures) in
    shows_plain c.args.form c.args.checker.now (cs ++ units) c.append_units.new.to c.steps.result.now c.args.steps.now c.in-Plain.is same c.steps.ensures.value
    c.in-Yes.ensures.says

pub returns-in-Plain-clause-says : goal.returns-in-Plain-clause-says
returns-in-Plain-clause-says c =
    let units = unit_clauses c.args.units.now in
    let cs = c.args.clauses.now in
    let same : c.append_units.new.to ≡ cs ++ units =
    c.in_ok-append_units-in-Plain.ensures
    ∙ ap (λ (w : List (List Lit)). w ++ units) (c.in_ok-append-in-Plain.ensures ∙ ap (λ (w : List (List Lit)). w ++ cs) c.new-given.ensures) in
    shows_not c.args.form c.args.checker.now (cs ++ units) c.append_units.new.to c.steps.result.now c.args.steps.now c.in-No.step c.in-Plain.is same
    c.steps.ensures.value c.in-No.ensures.says
