use Rattle.std.proofs.Common.{◌≡◌, ◌<◌, ◌∙◌, sym, subst, length, List, false, take, get_or, arith}
use Rattle.std.proofs.lemmas.List.{take_all}
use Rattle.clause_core.specs.declared.literal.Lit.{Lit}
use Rattle.clause_core.specs.Values.{holds}
use Rattle.clause_core.specs.Propagation.{AllFalse}
use Rattle.rup_check.proofs.Rounds.{assume_step, assume_kept}
use Rattle.rup_check.proofs.following.assume_false.Goals as goal

pub returns-then-is_set : goal.returns-then-is_set
returns-then-is_set c t all =
    let i = c.loop-x.x-index in
    let d : Lit = record { var = 0; positive = false } in
    let l = get_or c.args.c.now i d in
    (l, c.loop-x.invariant.kept t all l (sym c.is_set.ensures ∙ c.if-is_set.true), all i d (omega arith))

pub loop-x-preserved : goal.loop-x-preserved
loop-x-preserved c =
    let v = c.loop-x.values in
    let xs = c.args.c.now in
    let i = c.loop-x.x-index in
    let d : Lit = record { var = 0; positive = false } in
    let lt : i < length xs = omega arith in
    let within : (get_or xs i d).var < length c.args.values.now = c.requires i d lt in
    let in_v : (get_or xs i d).var < length v = omega arith in
    let off : holds v (get_or xs i d) ≡ false = sym c.is_set.ensures ∙ c.if-is_set.false in
    rw (c.set.ensures, c.negated.ensures) (record {
      done = assume_step v xs i d lt in_v off c.loop-x.invariant.done;
      kept = assume_kept v xs i d lt in_v c.loop-x.invariant.kept;
    })

pub returns : goal.returns
returns c =
    let e : take c.loop-x.x-index c.args.c.now ≡ c.args.c.now = take_all _ _ (omega arith) in
    let P : List Lit → Type 0 = AllFalse (holds c.loop-x.values) in
    (subst P e c.loop-x.invariant.done, c.loop-x.invariant.kept)
