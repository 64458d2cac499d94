use Rattle.std.proofs.Common.{arith, rules, ◌≡◌, ◌∙◌, ◌+◌, ◌<◌, ℕ, ap, refl, sym, Bool, true, false, cond, List, [], ◌∷◌, ◌++◌, length, take, get_or}
use Rattle.std.proofs.lemmas.List.{map-append, take_more, take_all}
use Rattle.std.proofs.lemmas.List.Elements.{All-push}
use Rattle.bit_graph.specs.declared.edge.Edge.{Edge}
use Rattle.bit_graph.specs.Meaning.{edge_value, Stands}
use Rattle.bit_arith.specs.Number.{values_of}
use Rattle.bit_arith.proofs.Numbers.{AllStand-extends}
use Rattle.bit_arith.proofs.choices.select.Goals as goal

-- one more value behind each list
chosen_more : (s : Bool) (xs ys : List Bool) (x y : Bool) → cond s xs ys ++ cond s x y ∷ [] ≡ cond s (xs ++ x ∷ []) (ys ++ y ∷ [])
chosen_more true xs ys x y = refl
chosen_more false xs ys x y = refl

values_more : (v : ℕ → Bool) (es : List Edge) (i : ℕ) (d : Edge) → i < length es →
    values_of v (take (i + 1) es) ≡ values_of v (take i es) ++ edge_value v (get_or es i d) ∷ []
values_more v es i d h = ap (values_of v) (take_more es i d h) ∙ map-append (edge_value v) (take i es) (get_or es i d ∷ [])

pub bits-preserved : goal.bits-preserved
bits-preserved c = record {
  extends = search rules;
  condition_stands = search rules;
  a_stand = AllStand-extends c.bits.graph c.choose.new.self c.args.a.now c.in_ok-e.ensures.extends c.bits.invariant.a_stand;
  b_stand = AllStand-extends c.bits.graph c.choose.new.self c.args.b.now c.in_ok-e.ensures.extends c.bits.invariant.b_stand;
  chosen_stand = rw c.in_ok-push.ensures.items (All-push (Stands c.choose.new.self) c.bits.chosen.items c.in_ok-e.e
      (AllStand-extends c.bits.graph c.choose.new.self c.bits.chosen.items c.in_ok-e.ensures.extends c.bits.invariant.chosen_stand) c.in_ok-e.ensures.stands);
  count = search rules;
  value = λ v h.
      let d : Edge = record { node = 0; negated = false } in
      let s = edge_value v c.args.condition in
      let i = c.bits.i in
      let in_a : i < length c.args.a.now = omega arith in
      let in_b : i < length c.args.b.now = omega arith in
      let old = c.bits.invariant.value v (c.in_ok-e.ensures.extends.kept v h) in
      ap (values_of v) c.in_ok-push.ensures.items ∙ map-append (edge_value v) c.bits.chosen.items (c.in_ok-e.e ∷ [])
      ∙ (λ j. old j ++ c.in_ok-e.ensures.value v h j ∷ [])
      ∙ chosen_more s (values_of v (take i c.args.a.now)) (values_of v (take i c.args.b.now)) (edge_value v (get_or c.args.a.now i d)) (edge_value v (get_or c.args.b.now i d))
      ∙ (λ j. cond s (sym (values_more v c.args.a.now i d in_a) j) (sym (values_more v c.args.b.now i d in_b) j));
}

pub returns-clause-value : goal.returns-clause-value
returns-clause-value c = λ v h.
    let all_a : take c.bits.i c.args.a.now ≡ c.args.a.now = take_all c.bits.i c.args.a.now (omega arith) in
    let all_b : take c.bits.i c.args.b.now ≡ c.args.b.now = take_all c.bits.i c.args.b.now (omega arith) in
    c.bits.invariant.value v h ∙ (λ k. cond (edge_value v c.args.condition) (values_of v (all_a k)) (values_of v (all_b k)))
