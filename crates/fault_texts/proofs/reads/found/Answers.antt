use Rattle.std.proofs.Common.{◌≡◌, ℕ, ◌<◌, length, sym, subst, arith}
use Rattle.std.proofs.lemmas.Option.{slice_get-get_or}
use Rattle.fault_texts.proofs.Spreading.{FoundBefore, all_found, found_here, unmarked_here, unnumbered_here}
use Rattle.fault_texts.proofs.reads.found.Goals as goal
use Rattle.fault_texts.proofs.reads.found.Goals.{then-marks-k+in-Some, then-marks-k+in_default, else-marks-k}

pub nodes-preserved : goal.nodes-preserved
nodes-preserved c =
    let k = c.nodes.k in
    let less : k < length c.args.nodes.now = omega arith in
    elim c.if-marks-k.branch [
      | then-marks-k+in-Some w ↦
          rw w.found-is
          (found_here c.args.nodes.now c.args.marks.now c.args.what c.args.size k w.in-Some.n _ c.nodes.found.items w.mark_one.new.marks.items
          (slice_get-get_or c.args.nodes.now k _ less) w.if-marks-k.true (sym w.in-Some.ensures) w.mark_one.ensures c.nodes.invariant)
      | then-marks-k+in_default w ↦
          rw w.found-is
          (unnumbered_here c.args.nodes.now c.args.marks.now c.args.what c.args.size k _ c.nodes.found.items
          (slice_get-get_or c.args.nodes.now k _ less) (sym w.in_default.ensures) c.nodes.invariant)
      | else-marks-k w ↦
          rw w.found-is
          (unmarked_here c.args.nodes.now c.args.marks.now c.args.what c.args.size k c.nodes.found.items w.if-marks-k.false c.nodes.invariant)
    ]

pub returns : goal.returns
returns c =
    let most = c.nodes.auto.k-end in
    let past = c.nodes-test.false in
    let end : c.nodes.k ≡ length c.args.nodes.now = omega arith in
    let P : ℕ → Type 0 = λ k. FoundBefore c.args.nodes.now c.args.marks.now c.args.what c.args.size k c.nodes.found.items in
    all_found c.args.nodes.now c.args.marks.now c.args.what c.args.size c.nodes.found.items (subst P end c.nodes.invariant)
