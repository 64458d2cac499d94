-- What is asked becomes claims and clauses, and in the end clauses alone.
use Rattle.std.proofs.Common.{◌≡◌, ℕ, ◌-◌, ◌↔◌, true, List, refl, suc, subst, ap, arith, rules}
use Rattle.std.proofs.lemmas.List.{take_all}
use Rattle.bit_clauses.specs.declared.either.Either.{Either}
use Rattle.bit_clauses.specs.Asserted.{all_hold}
use Rattle.bit_clauses.specs.Claims.{Meant}
use Rattle.bit_clauses.specs.Nodes.{all_true}
use Rattle.bit_clauses.proofs.Meanings.{asked_more, at_first, in_the_end}
use Rattle.bit_clauses.proofs.cutting.cut.Goals as goal

pub asked-init : goal.asked-init
asked-init c = record {
  on = search rules;
  off = search rules;
  within = search rules;
  means = λ v ok. (
    λ m. refl,
    λ h. (
      ap (all_true v) c.new-made.ensures,
      at_first v c.in_ok-on.on.items c.in_ok-off.off.items c.len-size.result c.len-size.result c.len-size.result (c.in_ok-on.ensures.items_if_clones_equal (λ y h. h))
          (c.in_ok-off.ensures.items_if_clones_equal (λ y h. h)),
    ),
  );
}

pub asked-preserved : goal.asked-preserved
asked-preserved c = record {
  on = c.in_ok-ask_for.ensures.on;
  off = c.in_ok-ask_for.ensures.off;
  within = c.in_ok-ask_for.ensures.within;
  means = λ v ok.
      asked_more v c.args.asked.now c.asked.e-index _ (Meant v c.asked.made c.asked.claims c.len-size.result) (Meant v c.ask_for.new.made c.ask_for.new.claims c.len-size.result) c.asked-test.true
      (c.asked.invariant.means v ok) (c.in_ok-ask_for.ensures.means v ok);
}

pub nodes-init : goal.nodes-init
nodes-init c = record {
  on = c.asked.invariant.on;
  off = c.asked.invariant.off;
  within = c.asked.invariant.within;
  means = λ v ok.
      subst (λ (es : List Either). Meant v c.asked.made c.asked.claims c.len-size.result ↔ (all_hold v es ≡ true)) (take_all c.asked.e-index c.args.asked.now c.asked-test.false)
      (c.asked.invariant.means v ok);
}

pub nodes-preserved : goal.nodes-preserved
nodes-preserved c = record {
  on = c.in_ok-hand_down.ensures.on;
  off = c.in_ok-hand_down.ensures.off;
  within = c.in_ok-hand_down.ensures.within;
  means = λ v ok.
      let e : c.nodes.k ≡ suc (c.nodes.k - 1) = omega (arith, c.nodes-test.true) in
      let before = subst (λ (k : ℕ). Meant v c.nodes.made c.nodes.claims k ↔ (all_hold v c.args.asked.now ≡ true)) e (c.nodes.invariant.means v ok) in
      let step = c.in_ok-hand_down.ensures.means v ok in
      (λ m. before.0 (step.0 m), λ h. step.1 (before.1 h));
}

pub returns-clause-value : goal.returns-clause-value
returns-clause-value c = λ v ok.
    let e : c.nodes.k ≡ 0 = omega (arith, c.nodes-test.false) in
    in_the_end v c.nodes.claims.on.items c.nodes.claims.off.items (all_true v c.nodes.made) (all_hold v c.args.asked.now)
    (subst (λ (k : ℕ). Meant v c.nodes.made c.nodes.claims k ↔ (all_hold v c.args.asked.now ≡ true)) e (c.nodes.invariant.means v ok))
