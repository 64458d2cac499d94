use Rattle.std.proofs.Common.{◌∷◌, ◌++◌, [], take, map, sym, ap, ◌∙◌}
use Rattle.std.specs.List.{filter}
use Rattle.sat_prop.specs.Watches.{cell}
use Rattle.sat_prop.specs.Packing.{is_beside}
use Rattle.sat_prop.proofs.Writing.{beside_off, beside_on, front_kept}
use Rattle.sat_prop.proofs.rows.write_beside.Goals as goal
use Rattle.sat_prop.proofs.rows.write_beside.Goals.{then-stands_beside+in_ok-push, else-stands_beside}

pub loop-x-preserved : goal.loop-x-preserved
loop-x-preserved c =
    let h = c.args.h in
    let xs = c.args.c.now in
    let old = c.args.words.now.items in
    let words = c.loop-x.words.items in
    let i = c.loop-x.x-index in
    elim c.if-stands_beside.branch [
      | then-stands_beside+in_ok-push w ↦
          rw w.words-is (w.in_ok-push.ensures.items ∙ ap (λ n. words ++ n ∷ []) w.word_of.ensures
          ∙ beside_on h old words xs i c.loop-x-test.true (sym c.stands_beside.ensures ∙ w.if-stands_beside.true) c.loop-x.invariant)
      | else-stands_beside w ↦
          rw w.words-is (beside_off h old words xs i c.loop-x-test.true (sym c.stands_beside.ensures ∙ w.if-stands_beside.false) c.loop-x.invariant)
    ]

pub returns-in_err-push-clause-kept : goal.returns-in_err-push-clause-kept
returns-in_err-push-clause-kept c =
    front_kept c.args.words.now.items (map cell (filter (is_beside c.args.h) (take c.loop-x.x-index c.args.c.now))) c.push.new.self.items (c.in_err-push.ensures.items ∙ c.loop-x.invariant)

pub returns-clause-kept : goal.returns-clause-kept
returns-clause-kept c =
    front_kept c.args.words.now.items (map cell (filter (is_beside c.args.h) (take c.loop-x.x-index c.args.c.now))) c.loop-x.words.items c.loop-x.invariant
