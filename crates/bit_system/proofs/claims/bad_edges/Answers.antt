-- The edge of one specification more.
use Rattle.std.proofs.Common.{ℕ, Bool, List, [], sym, subst}
use Rattle.bit_graph.specs.declared.edge.Edge.{Edge}
use Rattle.bit_outcomes.proofs.Kept.{extends_refl, extends_trans}
use Rattle.smv_value.specs.declared.value.Value.{Value}
use Rattle.smv_resolve.specs.Items.{item_by}
use Rattle.bit_conditions.specs.Told.{state_under}
use Rattle.bit_conditions.proofs.Kept.{tells_state_kept}
use Rattle.bit_system.specs.Conditions.{Each, TellsBad}
use Rattle.bit_system.proofs.OfSides.{bad_kept}
use Rattle.bit_system.proofs.Pairs.{each_as, each_none, each_taken, made_contains}
use Rattle.bit_system.proofs.claims.bad_edges.Goals as goal

pub loop-spec-init : goal.loop-spec-init
loop-spec-init c =
    let p = c.args.typed.now.scope.program in
    let tells = TellsBad c.args.graph.now p (λ v. state_under p v c.args.state.now.bits) in
    record {
      extends = extends_refl c.args.graph.now;
      state = c.requires.state;
      bad = subst (λ (es : List Edge). Each tells [] es) (sym c.new-edges.ensures.items) (each_none tells);
    }

pub bad_edge-requires-clause-among : goal.bad_edge-requires-clause-among
bad_edge-requires-clause-among c = made_contains (item_by c.args.typed.now.nodes) c.args.specs.now _ c.loop-spec.spec-index _ c.requires.specs c.loop-spec-test.true

pub loop-spec-preserved : goal.loop-spec-preserved
loop-spec-preserved c =
    let typed = c.args.typed.now in
    let p = typed.scope.program in
    let bits = c.args.state.now.bits in
    let g = c.loop-spec.graph in
    let h = c.bad_edge.new.graph in
    let state : (ℕ → Bool) → List Value = λ v. state_under p v bits in
    let grown = c.in_ok-bad_edge.ensures.extends in
    record {
      extends = extends_trans c.args.graph.now g h c.loop-spec.invariant.extends grown;
      state = tells_state_kept g h grown typed c.args.state.now c.loop-spec.invariant.state;
      bad = rw c.in_ok-push.ensures.items
          (each_taken (TellsBad h p state) (item_by typed.nodes) c.args.specs.now c.loop-spec.edges.items c.loop-spec.spec-index _ c.in_ok-bad_edge.field-0 c.loop-spec-test.true
          (each_as (TellsBad g p state) (TellsBad h p state) _ c.loop-spec.edges.items c.loop-spec.invariant.bad (λ spec e tells. bad_kept g h grown p state spec e tells)) c.in_ok-bad_edge.ensures.bad);
    }
