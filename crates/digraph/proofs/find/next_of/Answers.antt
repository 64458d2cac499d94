-- One more node is finished; after the last, all are.
use Rattle.std.proofs.Common.{◌≡◌, ℕ, List, take, subst, All, arith}
use Rattle.std.proofs.lemmas.List.{take_all}
use Rattle.std.proofs.lemmas.List.Elements.{All-more}
use Rattle.digraph.specs.Search.{IsDone, mark}
use Rattle.digraph.proofs.find.next_of.Goals as goal

pub loop-i-preserved : goal.loop-i-preserved
loop-i-preserved c =
    All-more (λ v. IsDone (mark c.args.marks.now v)) c.args.vs.now c.loop-i.i 0 (omega arith) c.loop-i.invariant (c.in-Done.field-0, c.in-Done.is)

pub returns : goal.returns
returns c =
    let e : take c.loop-i.i c.args.vs.now ≡ c.args.vs.now = take_all _ _ (omega arith) in
    let P : List ℕ → Type 0 = λ vs. All (λ v. IsDone (mark c.args.marks.now v)) vs in
    subst P e c.loop-i.invariant
