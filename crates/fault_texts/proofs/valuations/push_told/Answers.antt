use Rattle.std.proofs.Common.{sym, ◌∙◌}
use Rattle.fault_texts.specs.Marks.{mark}
use Rattle.fault_texts.specs.Valuations.{told}
use Rattle.fault_texts.proofs.Listing.{told_more, told_same}
use Rattle.fault_texts.proofs.valuations.push_told.Goals as goal
use Rattle.fault_texts.proofs.valuations.push_told.Goals.{then-is_marked+in_ok-text+in_ok-push, else-is_marked}

pub loop-n-preserved : goal.loop-n-preserved
loop-n-preserved c =
    elim c.if-is_marked.branch [
      | then-is_marked+in_ok-text+in_ok-push w ↦
          rw w.texts-is
          (w.in_ok-push.ensures.items
          ∙ told_more (told c.args.typed.now.scope.program c.args.ahead c.args.s.now c.args.u.now) (mark c.args.marks.now) c.loop-n.n c.args.texts.now.items c.loop-n.texts.items
          w.in_ok-text.text c.loop-n.invariant w.in_ok-text.ensures (sym c.is_marked.ensures ∙ w.if-is_marked.true))
      | else-is_marked w ↦
          rw w.texts-is
          (told_same (told c.args.typed.now.scope.program c.args.ahead c.args.s.now c.args.u.now) (mark c.args.marks.now) c.loop-n.n c.args.texts.now.items c.loop-n.texts.items
          c.loop-n.invariant (sym c.is_marked.ensures ∙ w.if-is_marked.false))
    ]
