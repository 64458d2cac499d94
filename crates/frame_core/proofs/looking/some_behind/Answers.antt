use Rattle.std.proofs.Common.{◌≡◌, ◌<◌, List, length, get_or, take, subst, arith}
use Rattle.std.specs.List.{All}
use Rattle.std.proofs.lemmas.List.{get_or_read, take_all}
use Rattle.std.proofs.lemmas.List.Elements.{All-more}
use Rattle.frame_core.specs.declared.parts.Parent.{Parent}
use Rattle.frame_core.specs.FrameLaw.{Stands}
use Rattle.frame_core.specs.Looking.{no_parent}
use Rattle.frame_core.proofs.Looked.{kept_stands}
use Rattle.frame_core.proofs.looking.some_behind.Goals as goal

pub loop-k-preserved : goal.loop-k-preserved
loop-k-preserved c some =
    let ls = c.args.lemmas.now in
    let parents = c.args.parents.now in
    let k = c.loop-k.k in
    let q : Parent = c.index-parents-k.result in
    let lt : k < length parents = omega arith in
    let P : Parent → Type 0 = Stands ls c.args.least in
    let e : q ≡ get_or parents k no_parent = get_or_read parents k q lt c.index-parents-k.is no_parent in
    let here : P q = kept_stands ls q c.args.least c.kept_level-level.result c.kept_level-level.ensures c.if-level-least.false some in
    All-more P parents k no_parent lt (c.loop-k.invariant some) (subst P e here)

pub returns : goal.returns
returns c some =
    let e : take c.loop-k.k c.args.parents.now ≡ c.args.parents.now = take_all _ _ (omega arith) in
    let P : List Parent → Type 0 = All (Stands c.args.lemmas.now c.args.least) in
    subst P e (c.loop-k.invariant some)
