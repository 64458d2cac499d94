-- One type more.
use Rattle.std.proofs.Common.{rules, arith, ◌≡◌, ◌∙◌, ◌+◌, ◌<◌, ◌++◌, ℕ, zero, suc, Bool, List, ◌∷◌, length, get_or, take, drop, map, refl, ap, sym, subst, append_assoc}
use Rattle.std.specs.Prelude.{replicate}
use Rattle.std.proofs.lemmas.List.{drop-map, map-append, take-map}
use Rattle.std.proofs.lemmas.List.Elements.{All-append, All-drop, All-replicate}
use Rattle.value_types.specs.declared.value_type.ValueType.{ValueType}
use Rattle.bit_graph.specs.declared.edge.Edge.{Edge}
use Rattle.bit_graph.specs.Meaning.{Stands, edge_value}
use Rattle.bit_arith.specs.Number.{AllStand, values_of}
use Rattle.bit_arith.proofs.Numbers.{AllStand-extends}
use Rattle.bit_values.specs.Bits.{is_code, width_of}
use Rattle.bit_states.proofs.Walking.{long_left, next_left}
use Rattle.bit_faults.specs.Mending.{coded}
use Rattle.bit_faults.proofs.domains.domains_of.Goals as goal

map-replicate : (f : Edge → Bool) (n : ℕ) (e : Edge) → map f (replicate n e) ≡ replicate n (f e)
map-replicate f zero e = refl
map-replicate f (suc n) e = ap (λ (bs : List Bool). f e ∷ bs) (map-replicate f n e)

coded_more : (v : ℕ → Bool) (types : List ValueType) (bits : List Bool) (rest low more made new : List Edge) (one : Edge) (n i : ℕ) (t : ValueType) →
    i < length types → t ≡ get_or types i t → n ≡ width_of t → low ≡ take (width_of t) rest → more ≡ drop (width_of t) rest → new ≡ made ++ replicate n one →
    edge_value v one ≡ is_code t (values_of v low) → values_of v made ++ coded (drop i types) (values_of v rest) ≡ coded types bits →
    values_of v new ++ coded (drop (i + 1) types) (values_of v more) ≡ coded types bits
coded_more v types bits rest low more made new one n i t lt is wide low_is more_is new_is one_is before =
    let w = width_of t in
    let left = drop (i + 1) types in
    let first : values_of v low ≡ take w (values_of v rest) = ap (values_of v) low_is ∙ sym (take-map (edge_value v) w rest) in
    let others : values_of v more ≡ drop w (values_of v rest) = ap (values_of v) more_is ∙ sym (drop-map (edge_value v) w rest) in
    let added : values_of v new ≡ values_of v made ++ replicate w (is_code t (take w (values_of v rest))) =
    ap (values_of v) new_is ∙ map-append (edge_value v) made (replicate n one)
    ∙ ap (λ (bs : List Bool). values_of v made ++ bs) (map-replicate (edge_value v) n one ∙ (λ j. replicate (wide j) ((one_is ∙ ap (is_code t) first) j))) in
    (λ j. added j ++ coded left (others j))
    ∙ append_assoc (values_of v made) (replicate w (is_code t (take w (values_of v rest)))) (coded left (drop w (values_of v rest)))
    ∙ sym (ap (λ (l : List ValueType). values_of v made ++ coded l (values_of v rest)) (next_left types i t lt is)) ∙ before

pub loop-declared-preserved : goal.loop-declared-preserved
loop-declared-preserved c =
    let types = c.args.types.now in
    let i = c.loop-declared.declared-index in
    let t = c.declared-item.result in
    let rest = c.loop-declared.rest.now in
    let low = c.first_edges.result.now in
    let more = c.other_edges-rest.result.now in
    let g = c.loop-declared.graph in
    let h = c.domain.new.graph in
    let made = c.loop-declared.made.items in
    let one = c.in_ok-one.one in
    let n = c.width-n.result in
    let lt : i < length types = omega arith in
    let low_is : low ≡ take (width_of t) rest = c.first_edges.ensures ∙ ap (λ k. take k rest) c.width-n.ensures in
    let more_is : more ≡ drop (width_of t) rest = c.other_edges-rest.ensures ∙ ap (λ k. drop k rest) c.width-n.ensures in
    record {
      extends = search rules;
      stand =
          subst (AllStand h) (sym c.in_ok-push_times.ensures)
          (All-append (Stands h) made (replicate n one) (AllStand-extends g h made c.in_ok-one.ensures.extends c.loop-declared.invariant.stand) (All-replicate (Stands h) n one c.in_ok-one.ensures.stands));
      rest_stand =
          subst (AllStand h) (sym more_is)
          (All-drop (Stands h) (width_of t) rest (AllStand-extends g h rest c.in_ok-one.ensures.extends c.loop-declared.invariant.rest_stand));
      width = ap length more_is ∙ long_left types rest i t lt c.declared-item.is c.loop-declared.invariant.width;
      value = λ v holds.
          coded_more v types (values_of v c.args.bits.now) rest low more made c.push_times.new.made.items one n i t lt c.declared-item.is c.width-n.ensures low_is more_is c.in_ok-push_times.ensures
          (c.in_ok-one.ensures.value v holds) (c.loop-declared.invariant.value v (c.in_ok-one.ensures.extends.kept v holds));
    }
