use Rattle.std.proofs.Common.{◌≡◌, ◌<◌, true, false, List, length, take, get_or, arith, subst, set, get_or-set_same}
use Rattle.std.proofs.lemmas.Bool.{both_ways}
use Rattle.std.proofs.lemmas.List.{take_all}
use Rattle.std.proofs.lemmas.List.Elements.{All-more}
use Rattle.clause_core.specs.declared.literal.Lit.{Lit}
use Rattle.clause_core.specs.Literals.{none_lit}
use Rattle.sat_core.specs.Positions.{Marked}
use Rattle.sat_core.specs.Searching.{MarksPositives}
use Rattle.sat_core.proofs.Marked.{marked_set}
use Rattle.sat_core.proofs.positives.mark_positives.Goals as goal
use Rattle.sat_core.proofs.positives.mark_positives.Goals.{then-l+then-not-positives-l+in_ok-insert, else-l, else-l-via-then-l+else-not-positives-l, else-l-via-else-l}

pub loop-l-preserved : goal.loop-l-preserved
loop-l-preserved c =
    let v = c.loop-l.positives in
    let xs = c.args.c.now in
    let i = c.loop-l.l-index in
    let q = (get_or xs i none_lit).var in
    let lt : i < length xs = omega arith in
    let in_v : q < length v = omega (arith, c.requires i none_lit lt, c.loop-l.auto.positives) in
    elim c.if-l.branch [
      | then-l+then-not-positives-l+in_ok-insert w ↦
          let w' = set v q true in
          rw (w.positives-is) (record {
            kept = λ k m. marked_set v q k in_v (c.loop-l.invariant.kept k m);
            done = All-more (λ l. l.positive ≡ true → Marked w' l.var) xs i none_lit lt
                (λ k d l p. marked_set v q (get_or (take i xs) k d).var in_v (c.loop-l.invariant.done k d l p))
                (λ _. get_or-set_same v q true false in_v);
          })
      | else-l w ↦
          let here : (get_or xs i none_lit).positive ≡ true → Marked v q =
          elim w.else-l.branch [
            | else-l-via-then-l+else-not-positives-l u ↦ λ _. u.if-not-positives-l.false
            | else-l-via-else-l u ↦ λ p. absurd (both_ways (get_or xs i none_lit).positive u.if-l.false p)
          ] in
          rw (w.positives-is) (record {
            kept = c.loop-l.invariant.kept;
            done = All-more (λ l. l.positive ≡ true → Marked v l.var) xs i none_lit lt c.loop-l.invariant.done here;
          })
    ]

pub returns-clause-done : goal.returns-clause-done
returns-clause-done c =
    let xs = c.args.c.now in
    let all : take c.loop-l.l-index xs ≡ xs = take_all c.loop-l.l-index xs (omega arith) in
    let P : List Lit → Type 0 = MarksPositives c.loop-l.positives in
    subst P all c.loop-l.invariant.done
