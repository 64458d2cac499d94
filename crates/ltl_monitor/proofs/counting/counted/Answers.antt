use Rattle.std.proofs.Common.{refl, sym, ap, ◌+◌, ◌∙◌, subst, length, List}
use Rattle.std.proofs.lemmas.Result.{IfOk-weaker}
use Rattle.clause_core.specs.declared.literal.Lit.{Lit}
use Rattle.clause_core.specs.Systems.{IsSystem}
use Rattle.ltl_monitor.specs.Counted.{IsCounted}
use Rattle.ltl_monitor.specs.Counting.{bad_of, good_of}
use Rattle.ltl_monitor.proofs.Counts.{is_system, is_counted, counted_same, counted_room, room}
use Rattle.ltl_monitor.proofs.counting.counted.Goals as goal

pub with_counting-requires-clause-valid : goal.with_counting-requires-clause-valid
with_counting-requires-clause-valid c =
    let m = c.args.monitored.now.system in
    let p = c.in_ok-layout.layout in
    let x = c.in_ok-counting.counting in
    subst IsSystem
    (sym (counted_same m c.args.bound c.in_ok-bits.bits p x (bad_of p x) (good_of p x)
    (c.in_ok-bits.ensures ∙ ap (λ (ls : List Lit). length ls + c.args.bound) c.fair-sets.ensures) c.in_ok-layout.ensures c.in_ok-counting.ensures refl refl))
    (is_system m c.args.bound c.law.ensures)

pub with_counting-requires-clause-room : goal.with_counting-requires-clause-room
with_counting-requires-clause-room c =
    let m = c.args.monitored.now.system in
    counted_room m c.args.bound c.in_ok-bits.bits c.in_ok-layout.layout c.in_ok-counting.counting
    (c.in_ok-bits.ensures ∙ ap (λ (ls : List Lit). length ls + c.args.bound) c.fair-sets.ensures) c.in_ok-layout.ensures c.in_ok-counting.ensures (room m c.args.bound c.law.ensures)

pub returns : goal.returns
returns c =
    let m = c.args.monitored.now.system in
    let p = c.in_ok-layout.layout in
    let x = c.in_ok-counting.counting in
    IfOk-weaker c.with_counting.result _ _
    (λ s e. subst (IsCounted m c.args.bound)
    (sym
    (e
    ∙ counted_same m c.args.bound c.in_ok-bits.bits p x (bad_of p x) (good_of p x)
    (c.in_ok-bits.ensures ∙ ap (λ (ls : List Lit). length ls + c.args.bound) c.fair-sets.ensures) c.in_ok-layout.ensures c.in_ok-counting.ensures refl refl))
    (is_counted m c.args.bound c.law.ensures))
    c.with_counting.ensures
