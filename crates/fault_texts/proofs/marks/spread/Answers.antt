use Rattle.std.proofs.Common.{◌≡◌, ℕ, ◌+◌, ◌-◌, ◌<◌, false, length, sym, ◌∙◌, subst, arith}
use Rattle.std.proofs.lemmas.List.{get_or_read}
use Rattle.std.proofs.lemmas.Option.{slice_get-get_or}
use Rattle.fault_texts.proofs.Spreading.{SpreadsFrom, went_on}
use Rattle.fault_texts.proofs.marks.spread.Goals as goal

pub nodes-preserved-then-index : goal.nodes-preserved-then-index
nodes-preserved-then-index c =
    let i = c.nodes.k - 1 in
    let long = c.nodes.invariant.long in
    let few = c.requires.long in
    let most = c.nodes.auto.k in
    let more = c.nodes-test.true in
    let less : i < length c.args.nodes.now = omega arith in
    let inside : i < length c.nodes.marks.items = omega (arith, less, long, few) in
    let e : c.nodes.k ≡ i + 1 = omega arith in
    let P : ℕ → Type 0 = λ k. SpreadsFrom c.args.nodes.now k c.args.marks.now.items c.nodes.marks.items in
    went_on c.args.nodes.now i _ c.args.marks.now.items c.nodes.marks.items c.mark_read.new.marks.items (slice_get-get_or c.args.nodes.now i _ less)
    (sym (get_or_read c.nodes.marks.items i c.index.result.now inside c.index.ensures false) ∙ c.if-index.true) c.mark_read.ensures (subst P e c.nodes.invariant)
