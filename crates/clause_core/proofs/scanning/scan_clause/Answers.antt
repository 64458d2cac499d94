use Rattle.std.proofs.Common.{◌≡◌, ◌<◌, length, All, List, true, false, take, sym, subst, ◌∙◌, Some, None, arith}
use Rattle.std.proofs.lemmas.List.{take_all}
use Rattle.clause_core.specs.declared.literal.Lit.{Lit}
use Rattle.clause_core.specs.Literals.{negate}
use Rattle.clause_core.specs.Propagation.{AllFalse}
use Rattle.clause_core.specs.Values.{holds}
use Rattle.clause_core.proofs.Seen.{SeenSoFar, seen_false, seen_first, seen_same}
use Rattle.clause_core.proofs.scanning.scan_clause.Goals as goal
use Rattle.clause_core.proofs.scanning.scan_clause.Goals.{then-not-is_false+in-None, then-not-is_false+in-Some+else-not-is_same, else-not-is_false}

pub loop-x-preserved : goal.loop-x-preserved
loop-x-preserved c =
    let t = holds c.args.values.now in
    let xs = c.args.c.now in
    let i = c.loop-x.x-index in
    let d : Lit = record { var = 0; positive = false } in
    let lt : i < length xs = omega arith in
    let before : SeenSoFar t xs i c.loop-x.found = c.loop-x.invariant in
    elim c.if-not-is_false.branch [
      | then-not-is_false+in-None w ↦
          let s : SeenSoFar t xs i None = rw w.in-None.is at before in
          rw w.found-is (seen_first t xs i d lt (sym c.is_set.ensures ∙ c.if-is_set.false) (sym c.is_false.ensures ∙ w.if-not-is_false.true) s)
      | then-not-is_false+in-Some+else-not-is_same w ↦
          let s : SeenSoFar t xs i (Some w.in-Some.f) = rw w.in-Some.is at before in
          rw w.found-is (seen_same t xs i d w.in-Some.f lt w.if-not-is_same.ensures s)
      | else-not-is_false w ↦
          rw w.found-is (seen_false t xs i d c.loop-x.found lt (sym c.is_false.ensures ∙ w.if-not-is_false.false) before)
    ]

pub returns-in-None-found : goal.returns-in-None-found
returns-in-None-found c =
    let t = holds c.args.values.now in
    let s : SeenSoFar t c.args.c.now c.loop-x.x-index None = rw c.in-None-found.is at c.loop-x.invariant in
    let e : take c.loop-x.x-index c.args.c.now ≡ c.args.c.now = take_all _ _ (omega arith) in
    let P : List Lit → Type 0 = AllFalse t in
    subst P e s

pub returns-in-Some-found : goal.returns-in-Some-found
returns-in-Some-found c =
    let t = holds c.args.values.now in
    let f = c.in-Some-found.f in
    let s : SeenSoFar t c.args.c.now c.loop-x.x-index (Some f) = rw c.in-Some-found.is at c.loop-x.invariant in
    let e : take c.loop-x.x-index c.args.c.now ≡ c.args.c.now = take_all _ _ (omega arith) in
    let P : List Lit → Type 0 = All (λ m. (m ≡ f → ⊥) → t (negate m) ≡ true) in
    ((s.2, subst P e s.3), s.0, s.1)
