-- One node more is seen.
use Rattle.std.proofs.Common.{◌≡◌, ℕ, List, Bool, take, sym, arith, get_or, length, ◌<◌, false, true, ◌∙◌, ap, refl}
use Rattle.digraph.specs.Reach.{Spread}
use Rattle.digraph.proofs.Reaching.{spread_old, spread_new, read_as}
use Rattle.digraph.proofs.reach.spread.Goals as goal
use Rattle.digraph.proofs.reach.spread.Goals.{then-not-index+in_ok-push, else-not-index}

pub loop-v-preserved : goal.loop-v-preserved
loop-v-preserved c =
    let i = c.loop-v.v-index in
    let vs = c.args.vs.now in
    let x : ℕ = get_or vs i 0 in
    let s : List Bool = c.loop-v.seen.items in
    let lt : i < length vs = c.loop-v-test.true in
    let here = c.requires i 0 lt in
    let in' : x < length s = omega (arith, here, c.loop-v.invariant.long) in
    let read = read_as s x c.index.result.now c.index.ensures in' in
    elim c.if-not-index.branch [
      | then-not-index+in_ok-push w ↦
          rw (w.seen-is, w.pending-is)
          (spread_new vs i c.args.seen.now.items s c.args.pending.now.items c.loop-v.pending.items c.loop-v.invariant lt x refl in' (read ∙ w.if-not-index.true) w.push.new.self.items w.in_ok-push.ensures.items)
      | else-not-index w ↦
          rw (w.seen-is, w.pending-is)
          (spread_old vs i c.args.seen.now.items s c.args.pending.now.items c.loop-v.pending.items c.loop-v.invariant lt (read ∙ w.if-not-index.false))
    ]
