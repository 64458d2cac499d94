-- One part more.
use Rattle.std.proofs.Common.{◌≡◌, ◌∙◌, ap, sym, arith, ◌-◌, ◌++◌, map, append-nil}
use Rattle.std.specs.List.{flat_map, range_with_len}
use Rattle.smv_flat.specs.Graph.{part_below}
use Rattle.smv_flat.proofs.Rows.{last_more}
use Rattle.smv_flat.proofs.graph.push_last.Goals as goal

pub loop-j-init : goal.loop-j-init
loop-j-init c =
    let none : c.saturating_sub-first.result - c.saturating_sub-first.result ≡ 0 = omega arith in
    rw none (sym (append-nil c.args.list.now))

pub loop-j-preserved : goal.loop-j-preserved
loop-j-preserved c =
    last_more c.args.list.now c.loop-j.list c.push_part.new.list (part_below c.args.slots c.args.nodes c.args.k) c.args.ahead c.saturating_sub-first.result c.loop-j.j
    (omega arith) c.loop-j.invariant c.in_ok-push_part.ensures

pub returns : goal.returns
returns c =
    let e : c.loop-j.j ≡ c.args.k = omega arith in
    c.loop-j.invariant
    ∙ ap (λ n. c.args.list.now ++ flat_map (part_below c.args.slots c.args.nodes c.args.k) (map (λ j. (c.args.ahead, j)) (range_with_len c.saturating_sub-first.result (n - c.saturating_sub-first.result)))) e
    ∙ ap (λ a. c.args.list.now ++ flat_map (part_below c.args.slots c.args.nodes c.args.k) (map (λ j. (c.args.ahead, j)) (range_with_len a (c.args.k - a)))) c.saturating_sub-first.ensures
