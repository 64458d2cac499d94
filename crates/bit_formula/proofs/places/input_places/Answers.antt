-- One input more.
use Rattle.std.proofs.Common.{◌≡◌, ◌∙◌, ◌+◌, ◌++◌, ◌<◌, ◌^◌, ap, arith, cond, length, refl, slice_get}
use Rattle.std.specs.List.{flat_map, range_with_len}
use Rattle.bit_formula.specs.Coding.{is_in, places_by}
use Rattle.bit_formula.specs.Numbers.{is_number}
use Rattle.bit_formula.proofs.Numbers.{rank_short}
use Rattle.bit_formula.proofs.Placing.{bits_out_all, cond_few, in_few, places_more, reached_more, reached_none, start_is, wide_at}
use Rattle.bit_formula.proofs.Starts.{width_parts}
use Rattle.bit_formula.proofs.places.input_places.Goals as goal

pub loop-k-init : goal.loop-k-init
loop-k-init c = record { reached = reached_none c.args.types.now c.args.reads.now c.args.slots (c.args.joint + c.args.joint); made = c.new-places.ensures.items }

pub overflow_add-reached : goal.overflow_add-reached
overflow_add-reached c = omega (arith, c.requires.joint, c.requires.few, c.requires.small, width_parts c.args.types.now c.args.reads.now c.requires.order)

pub push_numbers-requires : goal.push_numbers-requires
push_numbers-requires c =
    let types = c.args.types.now in
    let reads = c.args.reads.now in
    let k = c.loop-k.k in
    let at = c.loop-k.reached in
    let inv = c.loop-k.invariant.reached in
    let here = is_number (slice_get reads at.read) k in
    let wide = wide_at types k c.width-n.result c.index-types-k.result c.loop-k-test.true c.index-types-k.is c.width-n.ensures in
    let inside = in_few types reads c.requires.order c.args.slots (c.args.joint + c.args.joint) k c.loop-k-test.true at.read at.own at.other inv in
    let parts = width_parts types reads c.requires.order in
    let first : at.own + c.width-n.result < 2 ^ 64 = omega (arith, inside, inv.own, wide, c.requires.small, c.requires.few) in
    let second : at.other + c.width-n.result < 2 ^ 64 = omega (arith, inside, inv.other, wide, c.requires.small, c.requires.few, c.requires.joint, parts) in
    let few = cond_few here at.own at.other c.width-n.result (2 ^ 64) first second in
    omega (arith, few, c.start_of.ensures)

pub after-reached-requires-clause-read : goal.after-reached-requires-clause-read
after-reached-requires-clause-read c =
    let short = rank_short (is_in c.args.reads.now) 0 c.loop-k.k in
    let read = c.loop-k.invariant.reached.read in
    omega (arith, short, read, c.loop-k-test.true)

pub after-reached-requires-clause-own : goal.after-reached-requires-clause-own
after-reached-requires-clause-own c =
    let types = c.args.types.now in
    let reads = c.args.reads.now in
    let k = c.loop-k.k in
    let at = c.loop-k.reached in
    let inv = c.loop-k.invariant.reached in
    let here = is_number (slice_get reads at.read) k in
    let wide = wide_at types k c.width-n.result c.index-types-k.result c.loop-k-test.true c.index-types-k.is c.width-n.ensures in
    omega (
      arith,
      in_few types reads c.requires.order c.args.slots (c.args.joint + c.args.joint) k c.loop-k-test.true at.read at.own at.other inv,
      inv.own,
      wide,
      c.requires.small,
      c.requires.few,
    )

pub after-reached-requires-clause-other : goal.after-reached-requires-clause-other
after-reached-requires-clause-other c =
    let types = c.args.types.now in
    let reads = c.args.reads.now in
    let k = c.loop-k.k in
    let at = c.loop-k.reached in
    let inv = c.loop-k.invariant.reached in
    let here = is_number (slice_get reads at.read) k in
    let wide = wide_at types k c.width-n.result c.index-types-k.result c.loop-k-test.true c.index-types-k.is c.width-n.ensures in
    omega (
      arith,
      in_few types reads c.requires.order c.args.slots (c.args.joint + c.args.joint) k c.loop-k-test.true at.read at.own at.other inv,
      inv.other,
      wide,
      c.requires.small,
      c.requires.few,
      c.requires.joint,
      width_parts types reads c.requires.order,
    )

pub loop-k-preserved : goal.loop-k-preserved
loop-k-preserved c =
    let types = c.args.types.now in
    let reads = c.args.reads.now in
    let k = c.loop-k.k in
    let at = c.loop-k.reached in
    let inv = c.loop-k.invariant.reached in
    let here = is_number (slice_get reads at.read) k in
    let wide = wide_at types k c.width-n.result c.index-types-k.result c.loop-k-test.true c.index-types-k.is c.width-n.ensures in
    let new = c.after-reached.result in
    let two = c.args.joint + c.args.joint in
    let start = start_is types reads c.requires.order c.args.slots two k c.loop-k-test.true at.read at.own at.other inv c.args.slots c.args.joint c.start_of.result refl c.requires.joint refl
    c.start_of.ensures in
    record {
      reached =
          reached_more types reads c.requires.order c.args.slots two k c.loop-k-test.true at.read at.own at.other inv new.read new.own new.other c.after-reached.ensures.read
          (c.after-reached.ensures.own ∙ ap (λ n. cond here (at.own + n) at.own) wide) (c.after-reached.ensures.other ∙ ap (λ n. cond here at.other (at.other + n)) wide);
      made =
          places_more types c.args.slots reads k c.start_of.result c.loop-k.places.items c.push_numbers.new.made.items c.loop-k.invariant.made start
          (c.in_ok-push_numbers.ensures ∙ ap (λ n. c.loop-k.places.items ++ range_with_len c.start_of.result n) wide);
    }

pub returns-clause-places : goal.returns-clause-places
returns-clause-places c =
    let types = c.args.types.now in
    let end : c.loop-k.k ≡ length types = omega arith in
    c.from_vec.ensures ∙ c.loop-k.invariant.made ∙ ap (λ n. flat_map (places_by types c.args.slots c.args.reads.now) (range_with_len 0 n)) end

pub returns-clause-named : goal.returns-clause-named
returns-clause-named c =
    let end : c.loop-k.k ≡ length c.args.types.now = omega arith in
    let all = bits_out_all c.args.types.now c.args.reads.now c.loop-k.k end in
    omega (arith, c.loop-k.invariant.reached.other, all)
