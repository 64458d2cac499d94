use Rattle.std.proofs.Common.{Bool, ap, ◌∙◌, take_all, bytes_eq}
use Rattle.smv_scope.proofs.Firsts.{first_next, first_all}
use Rattle.smv_scope.proofs.named.note_names.Goals as goal

pub loop-k-preserved : goal.loop-k-preserved
loop-k-preserved g c = λ q none.
    let p : g.row.T.Denot → Bool = λ x. bytes_eq q (g.T.Named.name_of x) in
    first_next p c.args.items.now c.loop-k.k c.index-items-k.result _ _ _ c.loop-k-test.true (ap (bytes_eq q) c.name.ensures ∙ ap p c.index-items-k.is) (c.loop-k.invariant q none) (c.in_ok-note_name.ensures q)

pub returns : goal.returns
returns g c = λ q none.
    let p : g.row.T.Denot → Bool = λ x. bytes_eq q (g.T.Named.name_of x) in
    first_all p c.args.items.now c.loop-k.k _ (take_all c.loop-k.k c.args.items.now c.loop-k-test.false) (c.loop-k.invariant q none)
