use Rattle.std.proofs.Common.{List, sym, subst}
use Rattle.clause_core.specs.declared.literal.Lit.{Lit}
use Rattle.cert_core.specs.Certificates.{unit_clauses}
use Rattle.cert_make.specs.Paying.{HasNoModel}
use Rattle.cert_make.proofs.Refuting.{derives_at}
use Rattle.cert_make.proofs.parts.put_part.Goals as goal

pub ask-requires-clause-no_model : goal.ask-requires-clause-no_model
ask-requires-clause-no_model g c =
    let P : List (List Lit) → Type 0 = λ cs. HasNoModel cs c.args.units.now in
    subst P (sym c.requires.same) c.requires.no_model

pub hint_part-requires-clause-derives : goal.hint_part-requires-clause-derives
hint_part-requires-clause-derives g c =
    let says = rw c.in-Refuted.is at c.in_ok-drawn.ensures.asked in
    derives_at _ c.args.checker.now _ c.args.clauses.now (unit_clauses c.args.units.now) _ c.in_ok-log-in-Refuted.log c.requires.vars c.requires.same c.in_ok-log-in-Refuted.ensures says
