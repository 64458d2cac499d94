use Rattle.std.proofs.Common.{ℕ, ◌+◌, Err, arith, rules, sym, ap, ◌∙◌}
use Rattle.std.proofs.lemmas.Result.{err_from_is_err_and}
use Rattle.smv_tree.specs.declared.tree.Expr.{Expr}
use Rattle.smv_value.specs.declared.value.Value.TheVariants as value
use Rattle.smv_scope.specs.Lookup.{name_target}
use Rattle.smv_resolve.specs.declared.memo.FoundNode.{FoundNode}
use Rattle.smv_resolve.specs.declared.memo.ResolveError.TheVariants as error
use Rattle.smv_resolve.specs.Levels.{levels_before}
use Rattle.smv_resolve.specs.Finding.{Finds, IsFound}
use Rattle.smv_resolve.specs.Resolved.{Resolved, Levelled, lowered, opened, followed, levelled, resolved_name, resolved_target, place_of_start}
use Rattle.smv_resolve.proofs.Growing.{Grows-self, Grows-two, grows_on}
use Rattle.smv_resolve.proofs.NodesOf.{levelled-constant, levelled-name, levelled-group, levelled-next, levelled-apply, levelled-chain}
use Rattle.smv_resolve.proofs.Levels.{finds_along, none_opened, found_opened, halts_opened, found_followed, halts_followed, none_lowered, halts_lowered, found_lowered, found_none, found_beside, found_between, found_lower, found_apply, halts_beside, halts_lower, levelled_at, found_link, found_links, halts_first, halts_link, found_known, stuck_known, known_found}
use Rattle.smv_resolve.proofs.StuckParts.{part-constant, part-name, part-group, part-next, part-apply, part-chain, tells_along, none_below, tells_below, halts_below, name_found, name_stuck, name_halts, halts_elsewhere, known_elsewhere, grows_elsewhere, constant_free, none_of_none, none_of_more, none_of_all, beside_halts, below_halts, operands_free, first_halts, link_halts, links_free, link_part, below_part, part_at}
use Rattle.smv_resolve.specs.StuckParts.{stuck_below, stuck_links, stuck_name, stuck_operands, stuck_part}
use Rattle.smv_resolve.proofs.Sharing.{shared_given, shared_defined}
use Rattle.smv_resolve.proofs.expressions.+expressions.Goals as goal

pub find-returns-in-Constant-clause-finds : goal.find-returns-in-Constant-clause-finds
find-returns-in-Constant-clause-finds t c =
    finds_along c.find_constant.new.memo.nodes c.args.depth _ (λ n. levelled c.args.scope.now.program n c.args.at c.args.e.now) c.find_constant.result
    (λ n d. ap (λ e. levelled c.args.scope.now.program n c.args.at e d) c.in-Constant.is ∙ levelled-constant c.args.scope.now.program c.args.at n d _ _)
    c.find_constant.ensures.finds

pub find-returns-in-Name-clause-finds : goal.find-returns-in-Name-clause-finds
find-returns-in-Name-clause-finds t c =
    finds_along c.find_name.new.memo.nodes c.args.depth _ (λ n. levelled c.args.scope.now.program n c.args.at c.args.e.now) c.find_name.result
    (λ n d. ap (λ e. levelled c.args.scope.now.program n c.args.at e d) c.in-Name.is ∙ levelled-name c.args.scope.now.program c.args.at n d _)
    c.find_name.ensures.finds

pub find-returns-in-Group-clause-finds : goal.find-returns-in-Group-clause-finds
find-returns-in-Group-clause-finds t c =
    finds_along c.find_below.new.memo.nodes c.args.depth _ (λ n. levelled c.args.scope.now.program n c.args.at c.args.e.now) c.find_below.result
    (λ n d. rw (c.get.ensures) (ap (λ e. levelled c.args.scope.now.program n c.args.at e d) c.in-Group.is ∙ levelled-group c.args.scope.now.program c.args.at n d _ _))
    c.find_below.ensures.finds

pub find-returns-in-Next-clause-finds : goal.find-returns-in-Next-clause-finds
find-returns-in-Next-clause-finds t c =
    finds_along c.find_next.new.memo.nodes c.args.depth _ (λ n. levelled c.args.scope.now.program n c.args.at c.args.e.now) c.find_next.result
    (λ n d. rw (c.get-in-Next.ensures) (ap (λ e. levelled c.args.scope.now.program n c.args.at e d) c.in-Next.is ∙ levelled-next c.args.scope.now.program c.args.at n d _ _))
    c.find_next.ensures.finds

pub find-returns-in-Apply-clause-finds : goal.find-returns-in-Apply-clause-finds
find-returns-in-Apply-clause-finds t c =
    finds_along c.find_apply.new.memo.nodes c.args.depth _ (λ n. levelled c.args.scope.now.program n c.args.at c.args.e.now) c.find_apply.result
    (λ n d. rw (c.as_slice-in-Apply.ensures, c.as_slice.ensures) (ap (λ e. levelled c.args.scope.now.program n c.args.at e d) c.in-Apply.is ∙ levelled-apply c.args.scope.now.program c.args.at n d _ _ _ _))
    c.find_apply.ensures.finds

pub find-returns-in-Chain-clause-finds : goal.find-returns-in-Chain-clause-finds
find-returns-in-Chain-clause-finds t c =
    finds_along c.find_chain.new.memo.nodes c.args.depth _ (λ n. levelled c.args.scope.now.program n c.args.at c.args.e.now) c.find_chain.result
    (λ n d. rw (c.get-in-Chain.ensures, c.as_slice-in-Chain.ensures) (ap (λ e. levelled c.args.scope.now.program n c.args.at e d) c.in-Chain.is ∙ levelled-chain c.args.scope.now.program c.args.at n d _ _))
    c.find_chain.ensures.finds

pub find_target-returns-in-Variable-clause-finds : goal.find_target-returns-in-Variable-clause-finds
find_target-returns-in-Variable-clause-finds t c =
    finds_along c.find_variable.new.memo.nodes c.args.depth _
    (λ k d. resolved_target (λ owner e. opened (followed c.args.scope.now.program k owner e) d) (place_of_start c.args.name.now.start) (name_target c.args.scope.now.program c.args.at c.args.name.now)) c.find_variable.result
    (λ k d. ap (resolved_target (λ owner e. opened (followed c.args.scope.now.program k owner e) d) (place_of_start c.args.name.now.start)) (sym c.in-Variable.ensures) ∙ ap (λ place. Resolved.Slot place c.in-Variable.n) (sym c.place_of_start-place.ensures))
    c.find_variable.ensures.finds

pub find_target-returns-in-Symbol-clause-finds : goal.find_target-returns-in-Symbol-clause-finds
find_target-returns-in-Symbol-clause-finds t c =
    finds_along c.find_symbol.new.memo.nodes c.args.depth _
    (λ k d. resolved_target (λ owner e. opened (followed c.args.scope.now.program k owner e) d) (place_of_start c.args.name.now.start) (name_target c.args.scope.now.program c.args.at c.args.name.now)) c.find_symbol.result
    (λ k d. ap (resolved_target (λ owner e. opened (followed c.args.scope.now.program k owner e) d) (place_of_start c.args.name.now.start)) (sym c.in-Symbol.ensures) ∙ ap (λ place. Resolved.Constant place (value.Sym c.in-Symbol.n)) (sym c.place_of_start-place.ensures))
    c.find_symbol.ensures.finds

pub find_target-returns-in-Whole-clause-finds : goal.find_target-returns-in-Whole-clause-finds
find_target-returns-in-Whole-clause-finds t c =
    finds_along c.find_whole.new.memo.nodes c.args.depth _
    (λ k d. resolved_target (λ owner e. opened (followed c.args.scope.now.program k owner e) d) (place_of_start c.args.name.now.start) (name_target c.args.scope.now.program c.args.at c.args.name.now)) c.find_whole.result
    (λ k d. ap (resolved_target (λ owner e. opened (followed c.args.scope.now.program k owner e) d) (place_of_start c.args.name.now.start)) (sym c.in-Whole.ensures) ∙ ap (λ place. Resolved.Whole place c.in-Whole.i) (sym c.place_of_start-place.ensures))
    c.find_whole.ensures.finds

pub find_below-returns-then-depth-eq0-clause-finds : goal.find_below-returns-then-depth-eq0-clause-finds
find_below-returns-then-depth-eq0-clause-finds t c = none_opened c.args.memo.now.nodes (λ n. levelled c.args.scope.now.program n c.args.at c.args.e.now) c.args.depth c.args.place c.if-depth-eq0.true

pub find_below-returns-in_err-below-clause-finds : goal.find_below-returns-in_err-below-clause-finds
find_below-returns-in_err-below-clause-finds t c =
    let p = err_from_is_err_and c.from_residual.result c.from_residual.ensures.1 in
    rw (p.1, p.2)
    (halts_opened c.find.new.memo.nodes c.find.new.memo.nodes c.args.depth (λ n. levelled c.args.scope.now.program n c.args.at c.args.e.now) _ (omega arith) c.in_err-below.ensures.finds)

pub find_below-returns-clause-finds : goal.find_below-returns-clause-finds
find_below-returns-clause-finds t c =
    found_opened c.find.new.memo.nodes c.args.depth (λ n. levelled c.args.scope.now.program n c.args.at c.args.e.now) c.in_ok-below.below (omega arith) c.in_ok-below.ensures.finds

pub find_below-returns-in_err-below-clause-follows : goal.find_below-returns-in_err-below-clause-follows
find_below-returns-in_err-below-clause-follows t c =
    let p = err_from_is_err_and c.from_residual.result c.from_residual.ensures.1 in
    rw (p.1, p.2)
    (halts_followed c.args.scope.now.program c.find.new.memo.nodes c.find.new.memo.nodes c.args.depth c.args.at c.args.e.now _ (omega arith) c.in_err-below.ensures.finds)

pub find_below-returns-clause-follows : goal.find_below-returns-clause-follows
find_below-returns-clause-follows t c =
    found_followed c.args.scope.now.program c.find.new.memo.nodes c.args.depth c.args.at c.args.e.now c.in_ok-below.below (omega arith) c.in_ok-below.ensures.finds

pub find_apply-loop-e-init : goal.find_apply-loop-e-init
find_apply-loop-e-init t c = record { known = c.requires; grows = Grows-self c.args.memo.now.nodes; found = rw (c.new-operands.ensures.items) (found_none c.args.memo.now.nodes c.args.depth); none = none_of_none c.args.depth (part_at c.args.scope.now.program c.args.at) }

pub find_apply-returns-in_err-same-clause-finds : goal.find_apply-returns-in_err-same-clause-finds
find_apply-returns-in_err-same-clause-finds t c =
    let p = err_from_is_err_and c.from_residual.result c.from_residual.ensures.1 in
    rw (p.1, p.2)
    (halts_beside (levelled_at c.args.scope.now.program c.args.at) c.args.beside.now c.args.below.now c.args.place c.args.operator c.find.new.memo.nodes c.find.new.memo.nodes c.args.depth c.loop-e.e-index c.e-item.result _
    c.loop-e-test.true c.e-item.is c.in_err-same.ensures.finds)

pub find_apply-loop-e-preserved : goal.find_apply-loop-e-preserved
find_apply-loop-e-preserved t c = record {
  known = c.in_ok-same.ensures.known;
  grows = Grows-two c.loop-e.invariant.grows c.in_ok-same.ensures.grows;
  found =
      rw (c.in_ok-push.ensures.items, c.max-height.ensures)
      (found_beside (levelled_at c.args.scope.now.program c.args.at) c.args.beside.now c.args.below.now c.loop-e.e-index c.e-item.result c.loop-e-test.true c.e-item.is
      c.loop-e.invariant.found c.in_ok-same.ensures.grows c.in_ok-same.ensures.finds);
  none =
      none_of_more c.args.depth (part_at c.args.scope.now.program c.args.at) c.args.beside.now c.loop-e.e-index c.e-item.result c.loop-e-test.true c.e-item.is
      c.in_ok-same.ensures.part c.loop-e.invariant.none;
}

pub find_apply-loop-lower-init : goal.find_apply-loop-lower-init
find_apply-loop-lower-init t c = record {
  known = c.loop-e.invariant.known;
  grows = c.loop-e.invariant.grows;
  found = found_between (levelled_at c.args.scope.now.program c.args.at) c.args.beside.now c.args.below.now c.loop-e.e-index (omega (arith, c.loop-e-test.false)) c.loop-e.invariant.found;
  first = none_of_all c.args.depth (part_at c.args.scope.now.program c.args.at) c.args.beside.now c.loop-e.e-index (omega (arith, c.loop-e-test.false)) c.loop-e.invariant.none;
  none = none_of_none c.args.depth (below_part c.args.place (part_at c.args.scope.now.program c.args.at));
}

pub find_apply-returns-in_err-next-clause-finds : goal.find_apply-returns-in_err-next-clause-finds
find_apply-returns-in_err-next-clause-finds t c =
    let p = err_from_is_err_and c.from_residual-in_err-next.result c.from_residual-in_err-next.ensures.1 in
    rw (p.1, p.2)
    (halts_lower (levelled_at c.args.scope.now.program c.args.at) c.args.beside.now c.args.below.now c.args.place c.args.operator c.find_below.new.memo.nodes c.find_below.new.memo.nodes c.args.depth c.loop-lower.lower-index c.lower-item.result _
    c.loop-lower-test.true c.lower-item.is c.in_err-next.ensures.finds)

pub find_apply-loop-lower-preserved : goal.find_apply-loop-lower-preserved
find_apply-loop-lower-preserved t c = record {
  known = c.in_ok-next.ensures.known;
  grows = Grows-two c.loop-lower.invariant.grows c.in_ok-next.ensures.grows;
  found =
      rw (c.in_ok-push-2.ensures.items, c.max-height-in-loop-lower.ensures)
      (found_lower (levelled_at c.args.scope.now.program c.args.at) c.args.beside.now c.args.below.now c.loop-lower.lower-index c.lower-item.result c.loop-lower-test.true c.lower-item.is
      c.loop-lower.invariant.found c.in_ok-next.ensures.grows c.in_ok-next.ensures.finds);
  first = c.loop-lower.invariant.first;
  none =
      none_of_more c.args.depth (below_part c.args.place (part_at c.args.scope.now.program c.args.at)) c.args.below.now c.loop-lower.lower-index c.lower-item.result c.loop-lower-test.true c.lower-item.is
      c.in_ok-next.ensures.part c.loop-lower.invariant.none;
}

pub find_apply-push_apply-requires : goal.find_apply-push_apply-requires
find_apply-push_apply-requires t c = rw (c.as_slice.ensures.value) c.loop-lower.invariant.found.stand

pub find_apply-returns-clause-finds : goal.find_apply-returns-clause-finds
find_apply-returns-clause-finds t c =
    found_apply (levelled_at c.args.scope.now.program c.args.at) c.args.beside.now c.args.below.now c.args.place c.args.operator c.loop-lower.lower-index
    (omega (arith, c.loop-lower-test.false)) c.loop-lower.invariant.found c.in_ok-node.ensures.stands (rw (c.as_slice.ensures.value) at c.in_ok-node.ensures.value)

pub find_chain-returns-in_err-start-clause-finds : goal.find_chain-returns-in_err-start-clause-finds
find_chain-returns-in_err-start-clause-finds t c =
    let p = err_from_is_err_and c.from_residual.result c.from_residual.ensures.1 in
    rw (p.1, p.2)
    (halts_first (λ (n d : ℕ) (e : Expr). levelled c.args.scope.now.program n c.args.at e d)
    (λ (n : ℕ). levelled c.args.scope.now.program n c.args.at c.args.first.now) c.args.links.now c.find.new.memo.nodes c.find.new.memo.nodes c.args.depth _ c.in_err-start.ensures.finds)

pub find_chain-loop-link-init : goal.find_chain-loop-link-init
find_chain-loop-link-init t c = record {
  known = c.in_ok-start.ensures.known;
  grows = Grows-self c.find.new.memo.nodes;
  found = c.in_ok-start.ensures.finds;
  start = c.in_ok-start.ensures.part;
  none = none_of_none c.args.depth (link_part (part_at c.args.scope.now.program c.args.at));
}

pub find_chain-returns-in_err-right-clause-finds : goal.find_chain-returns-in_err-right-clause-finds
find_chain-returns-in_err-right-clause-finds t c =
    let p = err_from_is_err_and c.from_residual-in_err-right.result c.from_residual-in_err-right.ensures.1 in
    rw (p.1, p.2)
    (halts_link (λ (n d : ℕ) (e : Expr). levelled c.args.scope.now.program n c.args.at e d)
    (λ (n : ℕ). levelled c.args.scope.now.program n c.args.at c.args.first.now) c.args.links.now c.find-in-loop-link.new.memo.nodes c.find-in-loop-link.new.memo.nodes c.args.depth c.loop-link.link-index c.link-item.result _
    c.loop-link-test.true c.link-item.is c.in_err-right.ensures.finds)

pub find_chain-loop-link-preserved : goal.find_chain-loop-link-preserved
find_chain-loop-link-preserved t c = record {
  known = c.in_ok-node.ensures.known c.args.scope.now.program c.in_ok-right.ensures.known;
  grows = Grows-two c.loop-link.invariant.grows (Grows-two c.in_ok-right.ensures.grows c.in_ok-node.ensures.grows);
  found =
      found_link (λ (n d : ℕ) (e : Expr). levelled c.args.scope.now.program n c.args.at e d)
      (λ (n : ℕ). levelled c.args.scope.now.program n c.args.at c.args.first.now) c.args.links.now c.loop-link.link-index c.link-item.result
      c.loop-link-test.true c.link-item.is c.loop-link.invariant.found c.in_ok-right.ensures.grows c.in_ok-right.ensures.finds c.in_ok-node.ensures.stands c.in_ok-node.ensures.value (search rules);
  start = c.loop-link.invariant.start;
  none =
      none_of_more c.args.depth (link_part (part_at c.args.scope.now.program c.args.at)) c.args.links.now c.loop-link.link-index c.link-item.result c.loop-link-test.true c.link-item.is
      c.in_ok-right.ensures.part c.loop-link.invariant.none;
}

pub find_chain-returns-clause-finds : goal.find_chain-returns-clause-finds
find_chain-returns-clause-finds t c =
    found_links (λ (n d : ℕ) (e : Expr). levelled c.args.scope.now.program n c.args.at e d)
    (λ (n : ℕ). levelled c.args.scope.now.program n c.args.at c.args.first.now) c.args.links.now c.loop-link.link-index (omega (arith, c.loop-link-test.false)) c.loop-link.invariant.found

pub find_target-find_named-requires : goal.find_target-find_named-requires
find_target-find_named-requires t c = (
  omega arith,
  (
    c.requires,
    shared_given c.args.scope.now.program c.args.at c.args.name.now c.in-Given.of c.in-Given.parameter c.in-Given.owner c.in-Given.argument.now c.in-Given.ensures,
  ),
)

pub find_target-find_named-requires-in-Defined : goal.find_target-find_named-requires-in-Defined
find_target-find_named-requires-in-Defined t c = (
  omega arith,
  (
    c.requires,
    shared_defined c.args.scope.now.program c.args.at c.args.name.now c.in-Defined.of c.in-Defined.definition c.in-Defined.body.now c.in-Defined.ensures,
  ),
)

pub find_shared-returns-then-found-depth-clause-finds : goal.find_shared-returns-then-found-depth-clause-finds
find_shared-returns-then-found-depth-clause-finds t c =
    found_known c.args.scope.now.program c.args.at c.args.e.now c.args.shared c.requires.leads c.args.memo.now.nodes c.args.depth c.in-Some.found c.if-found-depth.true (c.in-Some.ensures.right c.args.scope.now.program c.requires.known)

pub find_shared-returns-in-Some-clause-finds : goal.find_shared-returns-in-Some-clause-finds
find_shared-returns-in-Some-clause-finds t c =
    stuck_known c.args.scope.now.program c.args.at c.args.e.now c.args.shared c.requires.leads c.args.memo.now.nodes c.args.depth c.args.place c.in-Some.found
    (omega (arith, c.if-found-depth.false)) (c.in-Some.ensures.right c.args.scope.now.program c.requires.known)

pub find_shared-returns-clause-known : goal.find_shared-returns-clause-known
find_shared-returns-clause-known t c =
    c.in_ok-insert.ensures.known c.args.scope.now.program c.in_ok-found.ensures.known
    (known_found c.args.scope.now.program c.args.at c.args.e.now c.args.shared c.requires.leads c.find_below.new.memo.nodes c.args.depth c.in_ok-found.found c.in_ok-found.ensures.follows)

pub find_name-returns-then-depth-levels-clause-finds : goal.find_name-returns-then-depth-levels-clause-finds
find_name-returns-then-depth-levels-clause-finds t c =
    let f : ℕ → Levelled = λ n. resolved_name c.args.scope.now.program (followed c.args.scope.now.program n) c.args.at c.args.name.now in
    rw (← c.levels_before-levels.ensures.levels) (none_lowered f c.args.memo.now.nodes c.levels_before-levels.result c.args.depth c.place_of_start-place.result c.if-depth-levels.true)

pub find_name-returns-then-depth-levels-clause-part : goal.find_name-returns-then-depth-levels-clause-part
find_name-returns-then-depth-levels-clause-part t c =
    let f : ℕ → Levelled = λ n. resolved_name c.args.scope.now.program (followed c.args.scope.now.program n) c.args.at c.args.name.now in
    let g : ℕ → Levelled = λ n. lowered (levels_before c.args.scope.now.program c.args.at c.args.name.now) (f n) in
    let place = c.place_of_start-place.result in
    let stuck : Finds c.args.memo.now.nodes c.args.depth g (Err (error.Stuck place)) =
    rw (← c.levels_before-levels.ensures.levels) (none_lowered f c.args.memo.now.nodes c.levels_before-levels.result c.args.depth place c.if-depth-levels.true) in
    name_stuck c.args.memo.now.nodes c.args.depth (place_of_start c.args.name.now.start) place place g c.place_of_start-place.ensures stuck

pub find_name-returns-in-Ok-clause-finds : goal.find_name-returns-in-Ok-clause-finds
find_name-returns-in-Ok-clause-finds t c =
    let f : ℕ → Levelled = λ n. resolved_name c.args.scope.now.program (followed c.args.scope.now.program n) c.args.at c.args.name.now in
    rw (← c.levels_before-levels.ensures.levels)
    (found_lowered f c.find_target.new.memo.nodes c.levels_before-levels.result c.args.depth c.in-Ok.found (omega (arith, c.if-depth-levels.false)) c.in-Ok.ensures.finds)

pub find_name-returns-in-Ok-clause-part : goal.find_name-returns-in-Ok-clause-part
find_name-returns-in-Ok-clause-part t c =
    let f : ℕ → Levelled = λ n. resolved_name c.args.scope.now.program (followed c.args.scope.now.program n) c.args.at c.args.name.now in
    let g : ℕ → Levelled = λ n. lowered (levels_before c.args.scope.now.program c.args.at c.args.name.now) (f n) in
    let x : FoundNode = record { node = c.in-Ok.found.node; height = c.in-Ok.found.height + c.levels_before-levels.result } in
    let found : IsFound c.find_target.new.memo.nodes c.args.depth g x =
    rw (← c.levels_before-levels.ensures.levels)
    (found_lowered f c.find_target.new.memo.nodes c.levels_before-levels.result c.args.depth c.in-Ok.found (omega (arith, c.if-depth-levels.false)) c.in-Ok.ensures.finds) in
    name_found c.find_target.new.memo.nodes c.args.depth (place_of_start c.args.name.now.start) g x found

pub find_name-returns-in-Err-clause-known : goal.find_name-returns-in-Err-clause-known
find_name-returns-in-Err-clause-known t c =
    rw (c.error_at.ensures) (known_elsewhere c.args.scope.now.program c.find_target.new.memo c.place_of_start-place.result c.in-Err.error c.in-Err.ensures.known)

pub find_name-returns-in-Err-clause-grows : goal.find_name-returns-in-Err-clause-grows
find_name-returns-in-Err-clause-grows t c =
    rw (c.error_at.ensures) (grows_elsewhere c.args.memo.now.nodes c.find_target.new.memo.nodes c.place_of_start-place.result c.in-Err.error c.in-Err.ensures.grows)

pub find_name-returns-in-Err-clause-finds : goal.find_name-returns-in-Err-clause-finds
find_name-returns-in-Err-clause-finds t c =
    let f : ℕ → Levelled = λ n. resolved_name c.args.scope.now.program (followed c.args.scope.now.program n) c.args.at c.args.name.now in
    let g : ℕ → Levelled = λ n. lowered (levels_before c.args.scope.now.program c.args.at c.args.name.now) (f n) in
    rw (c.error_at.ensures)
    (halts_elsewhere c.find_target.new.memo.nodes c.args.depth c.place_of_start-place.result g c.in-Err.error
    (halts_lowered f c.find_target.new.memo.nodes c.find_target.new.memo.nodes c.levels_before-levels.result (levels_before c.args.scope.now.program c.args.at c.args.name.now) c.args.depth c.in-Err.error
    c.levels_before-levels.ensures.levels (omega (arith, c.if-depth-levels.false)) c.in-Err.ensures.finds))

pub find_name-returns-in-Err-clause-part : goal.find_name-returns-in-Err-clause-part
find_name-returns-in-Err-clause-part t c =
    let f : ℕ → Levelled = λ n. resolved_name c.args.scope.now.program (followed c.args.scope.now.program n) c.args.at c.args.name.now in
    let g : ℕ → Levelled = λ n. lowered (levels_before c.args.scope.now.program c.args.at c.args.name.now) (f n) in
    rw (c.error_at.ensures)
    (name_halts c.find_target.new.memo.nodes c.args.depth (place_of_start c.args.name.now.start) c.place_of_start-place.result g c.in-Err.error c.place_of_start-place.ensures
    (halts_lowered f c.find_target.new.memo.nodes c.find_target.new.memo.nodes c.levels_before-levels.result (levels_before c.args.scope.now.program c.args.at c.args.name.now) c.args.depth c.in-Err.error
    c.levels_before-levels.ensures.levels (omega (arith, c.if-depth-levels.false)) c.in-Err.ensures.finds))

pub find-returns-in-Constant-clause-part : goal.find-returns-in-Constant-clause-part
find-returns-in-Constant-clause-part t c =
    constant_free c.find_constant.new.memo.nodes c.args.depth c.in-Constant.place c.in-Constant.value (λ n. stuck_part c.args.scope.now.program n c.args.at c.args.e.now) c.find_constant.result
    (λ n d. ap (λ e. stuck_part c.args.scope.now.program n c.args.at e d) c.in-Constant.is ∙ part-constant c.args.scope.now.program c.args.at n d _ _)
    c.find_constant.ensures.finds

pub find-returns-in-Group-clause-part : goal.find-returns-in-Group-clause-part
find-returns-in-Group-clause-part t c =
    tells_along c.args.depth (λ n. stuck_below c.in-Group.place (stuck_part c.args.scope.now.program n c.args.at c.get.result.now)) (λ n. stuck_part c.args.scope.now.program n c.args.at c.args.e.now) c.find_below.result
    (λ n d. rw (c.get.ensures) (ap (λ e. stuck_part c.args.scope.now.program n c.args.at e d) c.in-Group.is ∙ part-group c.args.scope.now.program c.args.at n d _ _))
    c.find_below.ensures.part

pub find-returns-in-Next-clause-part : goal.find-returns-in-Next-clause-part
find-returns-in-Next-clause-part t c =
    tells_along c.args.depth (λ n. stuck_below c.in-Next.place (stuck_part c.args.scope.now.program n c.args.at c.get-in-Next.result.now)) (λ n. stuck_part c.args.scope.now.program n c.args.at c.args.e.now) c.find_next.result
    (λ n d. rw (c.get-in-Next.ensures) (ap (λ e. stuck_part c.args.scope.now.program n c.args.at e d) c.in-Next.is ∙ part-next c.args.scope.now.program c.args.at n d _ _))
    c.find_next.ensures.part

pub find-returns-in-Apply-clause-part : goal.find-returns-in-Apply-clause-part
find-returns-in-Apply-clause-part t c =
    tells_along c.args.depth (λ n. stuck_operands c.in-Apply.place (stuck_part c.args.scope.now.program n c.args.at) c.as_slice.result.now c.as_slice-in-Apply.result.now) (λ n. stuck_part c.args.scope.now.program n c.args.at c.args.e.now) c.find_apply.result
    (λ n d. rw (c.as_slice-in-Apply.ensures, c.as_slice.ensures) (ap (λ e. stuck_part c.args.scope.now.program n c.args.at e d) c.in-Apply.is ∙ part-apply c.args.scope.now.program c.args.at n d _ _ _ _))
    c.find_apply.ensures.part

pub find-returns-in-Chain-clause-part : goal.find-returns-in-Chain-clause-part
find-returns-in-Chain-clause-part t c =
    tells_along c.args.depth (λ n. stuck_links (stuck_part c.args.scope.now.program n c.args.at) c.get-in-Chain.result.now c.as_slice-in-Chain.result.now) (λ n. stuck_part c.args.scope.now.program n c.args.at c.args.e.now) c.find_chain.result
    (λ n d. rw (c.get-in-Chain.ensures, c.as_slice-in-Chain.ensures) (ap (λ e. stuck_part c.args.scope.now.program n c.args.at e d) c.in-Chain.is ∙ part-chain c.args.scope.now.program c.args.at n d _ _))
    c.find_chain.ensures.part

pub find-returns-in-Name-clause-part : goal.find-returns-in-Name-clause-part
find-returns-in-Name-clause-part t c =
    tells_along c.args.depth (λ n. stuck_name c.args.scope.now.program (followed c.args.scope.now.program n) c.args.at c.in-Name.name) (λ n. stuck_part c.args.scope.now.program n c.args.at c.args.e.now) c.find_name.result
    (λ n d. ap (λ e. stuck_part c.args.scope.now.program n c.args.at e d) c.in-Name.is ∙ part-name c.args.scope.now.program c.args.at n d _)
    c.find_name.ensures.part

pub find_below-returns-then-depth-eq0-clause-part : goal.find_below-returns-then-depth-eq0-clause-part
find_below-returns-then-depth-eq0-clause-part t c = none_below c.args.depth c.args.place (λ n. stuck_part c.args.scope.now.program n c.args.at c.args.e.now) c.if-depth-eq0.true

pub find_below-returns-in_err-below-clause-part : goal.find_below-returns-in_err-below-clause-part
find_below-returns-in_err-below-clause-part t c =
    let p = err_from_is_err_and c.from_residual.result c.from_residual.ensures.1 in
    rw (p.1, p.2)
    (halts_below c.args.depth c.args.place (λ n. stuck_part c.args.scope.now.program n c.args.at c.args.e.now) _ (omega arith) c.in_err-below.ensures.part)

pub find_below-returns-clause-part : goal.find_below-returns-clause-part
find_below-returns-clause-part t c =
    tells_below c.args.depth c.args.place (λ n. stuck_part c.args.scope.now.program n c.args.at c.args.e.now) c.in_ok-below.below (omega arith) c.in_ok-below.ensures.part

pub find_apply-returns-in_err-same-clause-part : goal.find_apply-returns-in_err-same-clause-part
find_apply-returns-in_err-same-clause-part t c =
    let p = err_from_is_err_and c.from_residual.result c.from_residual.ensures.1 in
    rw (p.1, p.2)
    (beside_halts c.args.place (part_at c.args.scope.now.program c.args.at) c.args.beside.now c.args.below.now c.args.depth c.loop-e.e-index c.e-item.result _
    c.loop-e-test.true c.e-item.is c.loop-e.invariant.none c.in_err-same.ensures.part)

pub find_apply-returns-in_err-next-clause-part : goal.find_apply-returns-in_err-next-clause-part
find_apply-returns-in_err-next-clause-part t c =
    let p = err_from_is_err_and c.from_residual-in_err-next.result c.from_residual-in_err-next.ensures.1 in
    rw (p.1, p.2)
    (below_halts c.args.place (part_at c.args.scope.now.program c.args.at) c.args.beside.now c.args.below.now c.args.depth c.loop-lower.lower-index c.lower-item.result _
    c.loop-lower-test.true c.lower-item.is c.loop-lower.invariant.first c.loop-lower.invariant.none c.in_err-next.ensures.part)

pub find_apply-returns-clause-part : goal.find_apply-returns-clause-part
find_apply-returns-clause-part t c =
    operands_free c.args.place (part_at c.args.scope.now.program c.args.at) c.args.beside.now c.args.below.now c.args.depth c.loop-lower.lower-index
    (omega (arith, c.loop-lower-test.false)) c.loop-lower.invariant.first c.loop-lower.invariant.none

pub find_chain-returns-in_err-start-clause-part : goal.find_chain-returns-in_err-start-clause-part
find_chain-returns-in_err-start-clause-part t c =
    let p = err_from_is_err_and c.from_residual.result c.from_residual.ensures.1 in
    rw (p.1, p.2)
    (first_halts (part_at c.args.scope.now.program c.args.at) c.args.first.now c.args.links.now c.args.depth _ c.in_err-start.ensures.part)

pub find_chain-returns-in_err-right-clause-part : goal.find_chain-returns-in_err-right-clause-part
find_chain-returns-in_err-right-clause-part t c =
    let p = err_from_is_err_and c.from_residual-in_err-right.result c.from_residual-in_err-right.ensures.1 in
    rw (p.1, p.2)
    (link_halts (part_at c.args.scope.now.program c.args.at) c.args.first.now c.args.links.now c.args.depth c.loop-link.link-index c.link-item.result _
    c.loop-link-test.true c.link-item.is c.loop-link.invariant.start c.loop-link.invariant.none c.in_err-right.ensures.part)

pub find_chain-returns-clause-part : goal.find_chain-returns-clause-part
find_chain-returns-clause-part t c =
    links_free (part_at c.args.scope.now.program c.args.at) c.args.first.now c.args.links.now c.args.depth c.loop-link.link-index
    (omega (arith, c.loop-link-test.false)) c.loop-link.invariant.start c.loop-link.invariant.none

pub find_below-returns-in_err-below-clause-known : goal.find_below-returns-in_err-below-clause-known
find_below-returns-in_err-below-clause-known t c =
    let p = err_from_is_err_and c.from_residual.result c.from_residual.ensures.1 in
    rw (p.1, p.2) c.in_err-below.ensures.known

pub find_below-returns-in_err-below-clause-grows : goal.find_below-returns-in_err-below-clause-grows
find_below-returns-in_err-below-clause-grows t c =
    let p = err_from_is_err_and c.from_residual.result c.from_residual.ensures.1 in
    rw (p.1, p.2) c.in_err-below.ensures.grows

pub find_next-returns-in_err-operand-clause-known : goal.find_next-returns-in_err-operand-clause-known
find_next-returns-in_err-operand-clause-known t c =
    let p = err_from_is_err_and c.from_residual.result c.from_residual.ensures.1 in
    rw (p.1, p.2) c.in_err-operand.ensures.known

pub find_next-returns-in_err-operand-clause-grows : goal.find_next-returns-in_err-operand-clause-grows
find_next-returns-in_err-operand-clause-grows t c =
    let p = err_from_is_err_and c.from_residual.result c.from_residual.ensures.1 in
    rw (p.1, p.2) c.in_err-operand.ensures.grows

pub find_apply-returns-in_err-same-clause-known : goal.find_apply-returns-in_err-same-clause-known
find_apply-returns-in_err-same-clause-known t c =
    let p = err_from_is_err_and c.from_residual.result c.from_residual.ensures.1 in
    rw (p.1, p.2) c.in_err-same.ensures.known

pub find_apply-returns-in_err-same-clause-grows : goal.find_apply-returns-in_err-same-clause-grows
find_apply-returns-in_err-same-clause-grows t c =
    let p = err_from_is_err_and c.from_residual.result c.from_residual.ensures.1 in
    rw (p.1, p.2) (grows_on c.find.new.memo.nodes _ c.loop-e.invariant.grows c.in_err-same.ensures.grows)

pub find_apply-returns-in_err-next-clause-known : goal.find_apply-returns-in_err-next-clause-known
find_apply-returns-in_err-next-clause-known t c =
    let p = err_from_is_err_and c.from_residual-in_err-next.result c.from_residual-in_err-next.ensures.1 in
    rw (p.1, p.2) c.in_err-next.ensures.known

pub find_apply-returns-in_err-next-clause-grows : goal.find_apply-returns-in_err-next-clause-grows
find_apply-returns-in_err-next-clause-grows t c =
    let p = err_from_is_err_and c.from_residual-in_err-next.result c.from_residual-in_err-next.ensures.1 in
    rw (p.1, p.2) (grows_on c.find_below.new.memo.nodes _ c.loop-lower.invariant.grows c.in_err-next.ensures.grows)

pub find_chain-returns-in_err-start-clause-known : goal.find_chain-returns-in_err-start-clause-known
find_chain-returns-in_err-start-clause-known t c =
    let p = err_from_is_err_and c.from_residual.result c.from_residual.ensures.1 in
    rw (p.1, p.2) c.in_err-start.ensures.known

pub find_chain-returns-in_err-start-clause-grows : goal.find_chain-returns-in_err-start-clause-grows
find_chain-returns-in_err-start-clause-grows t c =
    let p = err_from_is_err_and c.from_residual.result c.from_residual.ensures.1 in
    rw (p.1, p.2) c.in_err-start.ensures.grows

pub find_chain-returns-in_err-right-clause-known : goal.find_chain-returns-in_err-right-clause-known
find_chain-returns-in_err-right-clause-known t c =
    let p = err_from_is_err_and c.from_residual-in_err-right.result c.from_residual-in_err-right.ensures.1 in
    rw (p.1, p.2) c.in_err-right.ensures.known

pub find_chain-returns-in_err-right-clause-grows : goal.find_chain-returns-in_err-right-clause-grows
find_chain-returns-in_err-right-clause-grows t c =
    let p = err_from_is_err_and c.from_residual-in_err-right.result c.from_residual-in_err-right.ensures.1 in
    rw (p.1, p.2) (grows_on c.find-in-loop-link.new.memo.nodes _ (Grows-two c.in_ok-start.ensures.grows c.loop-link.invariant.grows) c.in_err-right.ensures.grows)

pub find_named-returns-in_err-named-clause-known : goal.find_named-returns-in_err-named-clause-known
find_named-returns-in_err-named-clause-known t c =
    let p = err_from_is_err_and c.from_residual.result c.from_residual.ensures.1 in
    rw (p.1, p.2) c.in_err-named.ensures.known

pub find_named-returns-in_err-named-clause-grows : goal.find_named-returns-in_err-named-clause-grows
find_named-returns-in_err-named-clause-grows t c =
    let p = err_from_is_err_and c.from_residual.result c.from_residual.ensures.1 in
    rw (p.1, p.2) c.in_err-named.ensures.grows

pub find_shared-returns-in_err-found-clause-known : goal.find_shared-returns-in_err-found-clause-known
find_shared-returns-in_err-found-clause-known t c =
    let p = err_from_is_err_and c.from_residual.result c.from_residual.ensures.1 in
    rw (p.1, p.2) c.in_err-found.ensures.known

pub find_shared-returns-in_err-found-clause-grows : goal.find_shared-returns-in_err-found-clause-grows
find_shared-returns-in_err-found-clause-grows t c =
    let p = err_from_is_err_and c.from_residual.result c.from_residual.ensures.1 in
    rw (p.1, p.2) c.in_err-found.ensures.grows
