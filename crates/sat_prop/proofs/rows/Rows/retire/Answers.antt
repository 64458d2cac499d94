use Rattle.std.proofs.Common.{◌≡◌, [], List, ap, ◌∙◌}
use Rattle.std.proofs.lemmas.List.{map-set}
use Rattle.sat_prop.specs.declared.rows.Span.{Span}
use Rattle.sat_prop.specs.Packing.{row_at}
use Rattle.sat_prop.proofs.rows.Rows.retire.Goals as goal

pub returns : goal.returns
returns c =
    let words = c.self.inside.words.items in
    let s : Span = record { from = c.index.result.now.from; len = 0 } in
    map-set (row_at words) c.self.inside.spans.items c.args.k s ∙ ap (λ v. Rattle.std.proofs.Common.set v c.args.k []) c.self.view_is
