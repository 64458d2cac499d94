-- The last of what is noted are those of the last briefs.
use Rattle.std.proofs.Common.{◌≡◌, ◌∙◌, ap, map, subst, sym}
use Rattle.std.specs.Prelude.{IfOk, List}
use Rattle.smv_resolve.specs.Resolved.{last_of}
use Rattle.smv_types.specs.declared.judged.Judged.{Judged}
use Rattle.smv_types.specs.Briefs.{judged_by}
use Rattle.smv_types.proofs.Briefs.{last_judged}
use Rattle.smv_types.proofs.judged_list.JudgedList.last.Goals as goal

pub returns : goal.returns
returns c =
    let broken = c.as_slice.result.now in
    let is : map (judged_by broken) c.last.result.now ≡ last_of c.args.count c.args.self.now =
    ap (map (judged_by broken)) (c.last.ensures ∙ ap (last_of c.args.count) c.as_slice-2.ensures.value)
    ∙ ap (λ xs. map (judged_by xs) (last_of c.args.count c.self.inside.briefs.items)) c.as_slice.ensures.value
    ∙ sym (last_judged c.self.inside.broken.items c.args.count c.self.inside.briefs.items) ∙ ap (last_of c.args.count) c.self.view_is in
    subst (λ (xs : List Judged). IfOk c.judged_by_all.result (λ list. list.items ≡ xs)) is c.judged_by_all.ensures
