use Rattle.std.proofs.Common.{◌∙◌, ℕ, List, [], ap, sym, subst, refl}
use Rattle.clause_core.specs.declared.literal.Lit.{Lit}
use Rattle.sat_core.specs.Queries.{State}
use Rattle.cert_core.specs.declared.form.Part.TheVariants.{Safe}
use Rattle.cert_make.specs.Paying.{HasNoModel}
use Rattle.cert_make.proofs.Models.{safe_no_model}
use Rattle.cert_make.proofs.Paid.{pays_alone}
use Rattle.cert_make.proofs.making.put_safe.Goals as goal

pub put_part-asked-requires-clause-no_model : goal.put_part-asked-requires-clause-no_model
put_part-asked-requires-clause-no_model g c =
    let P : List (List Lit) → Type 0 = λ w. HasNoModel w [] in
    subst P (sym c.requires.bad) (safe_no_model c.args.system.now c.args.clauses.now c.requires.invariant)

pub returns-clause-says : goal.returns-clause-says
returns-clause-says g c = rw c.requires.vars at c.put_part-asked.ensures.says

pub returns-clause-pays : goal.returns-clause-pays
returns-clause-pays g c =
    let given : List (List Lit) = c.args.bad.now in
    let none : List (List Lit) = [] in
    let s : ℕ → State = λ v. record { vars = v; given = given; learned = none } in
    pays_alone c.args.system.now c.args.clauses.now given Safe c.in_ok-solver.solver c.put_part-asked.new.solver [] _ _ tt
    (c.in_ok-solver.ensures ∙ ap s c.all_bits.ensures.value) c.requires.bad refl c.put_part-asked.ensures.pays c.put_part-asked.result
