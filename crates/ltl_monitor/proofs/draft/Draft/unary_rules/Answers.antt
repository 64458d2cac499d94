use Rattle.std.proofs.Common.{◌≡◌, List, refl, sym, ap, ◌∙◌, subst}
use Rattle.std.specs.Prelude.{OnOk}
use Rattle.clause_core.specs.declared.literal.Lit.{Lit}
use Rattle.ltl_monitor.specs.declared.draft.Draft.{Draft}
use Rattle.ltl_monitor.specs.Drafting.{unary_rules}
use Rattle.ltl_monitor.proofs.Parts.{unary_parts}
use Rattle.ltl_monitor.proofs.draft.Draft.unary_rules.Goals as goal

pub returns : goal.returns
returns c =
    let d = c.args.self.now in
    let row = c.in_ok-push_unary_row.ensures d refl in
    let parts = ap (λ (rows : List (List Lit)). record (unary_rules c.args.operator c.args.b c.args.f (record d { rows = rows })) { rows = rows }) (sym row)
    ∙ unary_parts c.args.operator c.args.b c.args.f d in
    subst (λ (e : Draft). OnOk c.unary_ends.result (c.unary_ends.new.self ≡ e)) parts c.unary_ends.ensures
