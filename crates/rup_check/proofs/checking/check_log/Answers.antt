use Rattle.std.proofs.Common.{◌≡◌, ◌<◌, ℕ, ◌++◌, ◌∙◌, sym, subst, ap, inl, inr, length, List, [], take, get_or, arith, below_more, ◌-◌}
use Rattle.std.specs.List.{All}
use Rattle.std.proofs.lemmas.List.{nil_from_length}
use Rattle.clause_core.specs.declared.literal.Lit.{Lit}
use Rattle.clause_core.specs.Literals.{Within}
use Rattle.clause_core.specs.Propagation.{Follows}
use Rattle.clause_core.proofs.Lists.{within_take}
use Rattle.rup_check.proofs.checking.check_log.Goals as goal

pub follows-requires-clause-in_before : goal.follows-requires-clause-in_before
follows-requires-clause-in_before c =
    let P : ℕ → Type 0 = λ n. All (Within n) (take c.loop-k.k c.args.log.now) in
    subst P (sym c.loop-k.auto.values)
    (within_take (length c.args.values.now) c.args.log.now c.loop-k.k (omega arith) (λ j lt. (c.loop-k.invariant j lt).0))

pub returns-then-not-follows : goal.returns-then-not-follows
returns-then-not-follows c =
    let lt : c.loop-k.k < length c.args.log.now = omega arith in
    let P : List Lit → Type 0 = Follows (c.args.clauses.now ++ take c.loop-k.k c.args.log.now) in
    (c.loop-k.invariant, inl (lt, λ h. c.if-not-follows.ensures (subst P (sym c.get-step.ensures) h.1)))

pub loop-k-preserved : goal.loop-k-preserved
loop-k-preserved c =
    let cs = c.args.clauses.now in
    let log = c.args.log.now in
    let k = c.loop-k.k in
    let same : c.get-step.result.now ≡ get_or log k [] = c.get-step.ensures in
    let P : List Lit → Type 0 = Follows (cs ++ take k log) in
    let Q : List Lit → Type 0 = Within (length c.loop-k.values) in
    let R : ℕ → Type 0 = λ n. Within n (get_or log k []) in
    below_more _ _ c.loop-k.invariant
    (subst R c.loop-k.auto.values (subst Q same (c.is_within.ensures.0 c.if-not-is_within.false)), subst P same c.if-not-follows.ensures)

pub returns-then-get-ne0 : goal.returns-then-get-ne0
returns-then-get-ne0 c =
    let log = c.args.log.now in
    let n = c.len-n.result in (
      λ j lt. c.loop-k.invariant j (omega arith),
      inr (
        omega arith,
        λ e.
            let at : n - 1 ≡ e.0 = omega (arith, e.1) in
            let empty : c.get.result.now ≡ [] = c.get.ensures ∙ (rw at e.2) in
            c.if-get-ne0.true (ap length empty),
      ),
    )

pub returns : goal.returns
returns c =
    let n = c.len-n.result in
    (λ j below. c.loop-k.invariant j (omega arith), (n - 1, omega arith, sym c.get.ensures ∙ nil_from_length _ c.if-get-ne0.false))
