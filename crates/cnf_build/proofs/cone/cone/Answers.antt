use Rattle.std.proofs.Common.{◌≡◌, ◌-◌, ◌+◌, arith, ◌∙◌, subst, ℕ, sym, false}
use Rattle.std.proofs.lemmas.List.{get_or_read}
use Rattle.cnf_build.specs.Cone.{marked, ConeFrom}
use Rattle.cnf_build.proofs.Cones.{RootsLive-grows, RootsLive-more, RootsLive-whole, ConeFrom-more, Reached-more}
use Rattle.cnf_build.proofs.cone.cone.Goals as goal

pub roots-preserved : goal.roots-preserved
roots-preserved c = record {
  size = c.mark.ensures.size ∙ c.roots.invariant.size;
  done = RootsLive-more (marked c.roots.marks.items) (marked c.mark.new.marks.items) c.args.roots.now c.roots.e-index _ c.roots-test.true c.mark.ensures.grows c.mark.ensures.marks
      c.roots.invariant.done;
  reached = λ k on live cone in_roots. c.mark.ensures.least live (in_roots c.roots.e-index _ c.roots-test.true)
      (λ j m. c.roots.invariant.reached j m live cone in_roots) k on;
}

pub nodes-init : goal.nodes-init
nodes-init c = record {
  size = c.roots.invariant.size;
  roots = RootsLive-whole (marked c.roots.marks.items) c.args.roots.now c.roots.e-index c.roots-test.false c.roots.invariant.done;
  cone = λ k from l on. absurd (omega (arith, c.len-size.ensures.value));
  reached = c.roots.invariant.reached;
}

pub nodes-preserved-then-index : goal.nodes-preserved-then-index
nodes-preserved-then-index c = record {
  size = c.mark_operands.ensures.size ∙ c.nodes.invariant.size;
  roots = RootsLive-grows c.nodes.marks.items c.mark_operands.new.marks.items c.args.roots.now c.mark_operands.ensures.grows c.nodes.invariant.roots;
  cone =
      let e : c.nodes.k ≡ (c.nodes.k - 1) + 1 = omega arith in
      let P : ℕ → Type 0 = λ k. ConeFrom (marked c.nodes.marks.items) c.args.graph.now k in
      ConeFrom-more c.nodes.marks.items c.mark_operands.new.marks.items c.args.graph.now (c.nodes.k - 1) c.node.result c.mark_operands.ensures.grows
      c.mark_operands.ensures.same c.node.ensures.value c.mark_operands.ensures.reaches (subst P e c.nodes.invariant.cone);
  reached = Reached-more c.nodes.marks.items c.mark_operands.new.marks.items c.args.graph.now c.args.roots.now (c.nodes.k - 1) c.node.result
      (omega (arith, c.nodes.invariant.size)) c.node.ensures.value
      (sym (get_or_read c.nodes.marks.items (c.nodes.k - 1) c.index.result.now (omega arith) c.index.ensures false) ∙ c.if-index.true)
      c.mark_operands.ensures.least c.nodes.invariant.reached;
}
