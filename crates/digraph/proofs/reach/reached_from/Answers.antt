-- One node more is done.
use Rattle.std.proofs.Common.{rules, ◌≡◌, ◌<◌, ℕ, List, length, sym, arith, ◌∙◌, ap, vec_len, []}
use Rattle.digraph.proofs.Steps.{all_within}
use Rattle.digraph.proofs.Reaching.{pended_within, reached_by, marked}
use Rattle.digraph.proofs.reach.reached_from.Goals as goal

pub successors_of-requires : goal.successors_of-requires
successors_of-requires c =
    pended_within c.args.g.now c.args.a c.in-Some.u c.loop-u.seen.items c.loop-u.pending.items c.pop.new.self.items c.requires.closed c.requires.within c.loop-u.invariant c.in-Some.ensures.items

pub spread-requires : goal.spread-requires
spread-requires c =
    all_within c.args.g.now c.in-Some.u (vec_len c.loop-u.seen) c.successors_of.result.now c.requires.closed (omega (arith, c.loop-u.invariant.long)) c.successors_of.ensures

pub loop-u-preserved : goal.loop-u-preserved
loop-u-preserved c =
    reached_by c.args.g.now c.args.a c.in-Some.u c.loop-u.seen.items c.spread.new.seen.items c.loop-u.pending.items c.pop.new.self.items c.spread.new.pending.items c.successors_of.result.now
    c.loop-u.invariant c.in-Some.ensures.items c.successors_of.ensures c.in_ok-spread.ensures

pub returns : goal.returns
returns c =
    let none : c.loop-u.pending.items ≡ [] = search rules in
    marked c.args.g.now c.args.a c.loop-u.seen.items c.loop-u.pending.items c.loop-u.invariant none
