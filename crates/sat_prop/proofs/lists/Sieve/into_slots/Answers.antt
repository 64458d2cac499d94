use Rattle.std.proofs.Common.{◌≡◌, ◌++◌, [], drop, take, sym, ap, ◌∙◌, arith, length-set}
use Rattle.std.proofs.lemmas.List.{append-nil, drop_all, map-append}
use Rattle.sat_prop.specs.Sifted.{whole}
use Rattle.sat_prop.specs.Slots.{entries_of, entry_of}
use Rattle.sat_prop.proofs.Sifting.{moved_down}
use Rattle.sat_prop.proofs.lists.Sieve.into_slots.Goals as goal

pub loop-read-preserved : goal.loop-read-preserved
loop-read-preserved c =
    let l = c.loop-read in
    let inv = l.invariant in
    record {
      behind = omega arith;
      upper = omega (arith, length-set l.slots.items l.kept c.index.result.now);
      same = moved_down l.slots.items l.kept l.read c.index.result.now inv.behind (omega arith) c.index.ensures ∙ inv.same;
    }

pub returns : goal.returns
returns c =
    let l = c.loop-read in
    let s = c.self.inside in
    let inv = l.invariant in
    let none : drop l.read l.slots.items ≡ [] = drop_all l.read l.slots.items (omega arith) in
    let all : take l.kept l.slots.items ≡ take s.kept s.slots.items ++ drop s.read s.slots.items =
    sym (append-nil (take l.kept l.slots.items)) ∙ ap (λ v. take l.kept l.slots.items ++ v) (sym none) ∙ inv.same in
    ap entries_of (c.truncate.ensures.items ∙ all)
    ∙ map-append entry_of (take s.kept s.slots.items) (drop s.read s.slots.items)
    ∙ ap whole c.self.view_is
