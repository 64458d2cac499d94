use Rattle.std.proofs.Common.{◌≡◌, List, refl, sym, ap, ◌∙◌, subst}
use Rattle.std.specs.Prelude.{OnOk}
use Rattle.clause_core.specs.declared.literal.Lit.{Lit}
use Rattle.ltl_monitor.specs.declared.draft.Draft.{Draft}
use Rattle.ltl_monitor.specs.Drafting.{binary_rules}
use Rattle.ltl_monitor.proofs.Parts.{binary_parts}
use Rattle.ltl_monitor.proofs.draft.Draft.binary_rules.Goals as goal

pub returns : goal.returns
returns c =
    let d = c.args.self.now in
    let row = c.in_ok-push_binary_row.ensures d refl in
    let parts = ap (λ (rows : List (List Lit)). record (binary_rules c.args.operator c.args.b c.args.f c.args.g (record d { rows = rows })) { rows = rows }) (sym row)
    ∙ binary_parts c.args.operator c.args.b c.args.f c.args.g d in
    subst (λ (e : Draft). OnOk c.binary_ends.result (c.binary_ends.new.self ≡ e)) parts c.binary_ends.ensures
