use Rattle.std.proofs.Common.{◌≡◌, ◌<◌, ◌∙◌, ◌+◌, ◌^◌, ℕ, false, arith, rules, ap, sym, subst, length, get_or, inl, take, cond, refl}
use Rattle.std.proofs.lemmas.List.{take_all}
use Rattle.bit_graph.specs.declared.edge.Edge.{Edge}
use Rattle.bit_graph.specs.Meaning.{edge_value}
use Rattle.bit_arith.specs.Number.{number_of}
use Rattle.bit_arith.specs.Words.{shifted}
use Rattle.bit_arith.proofs.Numbers.{AllStand-extends, number_more, number-lt, pow_more}
use Rattle.bit_arith.proofs.Horner.{number_of-chosen}
use Rattle.bit_arith.proofs.Moves.{stage, next_step, shifted_none}
use Rattle.bit_arith.proofs.shifts.shift.Goals as goal

pub bits-init : goal.bits-init
bits-init c = record {
  extends = search rules;
  a_stand = c.requires.a_stand;
  amount_stand = c.requires.amount_stand;
  fill_stands = c.requires.fill_stands;
  current_stand = rw c.in_ok-current.ensures.items c.requires.a_stand;
  count = ap length c.in_ok-current.ensures.items;
  step = inl refl;
  value = λ v h. ap (number_of v) c.in_ok-current.ensures.items
      ∙ sym (shifted_none c.args.left (edge_value v c.args.fill) (length c.args.a.now) (number_of v c.args.a.now) (number-lt (edge_value v) c.args.a.now));
}

pub bits-preserved : goal.bits-preserved
bits-preserved c = record {
  extends = search rules;
  a_stand = AllStand-extends c.bits.graph c.select.new.graph c.args.a.now c.in_ok-next.ensures.extends c.bits.invariant.a_stand;
  amount_stand = AllStand-extends c.bits.graph c.select.new.graph c.args.amount.now c.in_ok-next.ensures.extends c.bits.invariant.amount_stand;
  fill_stands = search rules;
  current_stand = c.in_ok-next.ensures.stands;
  count = c.in_ok-next.ensures.length ∙ ap length c.deref-in-bits.ensures.value ∙ c.in_ok-whole.ensures.length ∙ ap length c.deref.ensures.value ∙ c.bits.invariant.count;
  step = next_step (length c.args.a.now) c.bits.step (2 ^ c.bits.j) (2 ^ (c.bits.j + 1)) c.twice_below-step.result c.bits.invariant.step (pow_more c.bits.j)
      c.twice_below-step.ensures.low c.twice_below-step.ensures.high c.twice_below-step.ensures.bound;
  value = λ v h.
      let d : Edge = record { node = 0; negated = false } in
      let n = length c.args.a.now in
      let fill = edge_value v c.args.fill in
      let current = number_of v c.bits.current.items in
      let in_amount : c.bits.j < length c.args.amount.now = omega arith in
      let old = c.bits.invariant.value v (c.in_ok-next.ensures.extends.kept v h) in
      let b = edge_value v (get_or c.args.amount.now c.bits.j d) in
      let width : length c.deref.result.now ≡ n = ap length c.deref.ensures.value ∙ c.bits.invariant.count in
      let whole : number_of v c.deref-in-bits.result.now ≡ shifted c.args.left n c.bits.step fill current =
      ap (number_of v) c.deref-in-bits.ensures.value ∙ c.in_ok-whole.ensures.value v
      ∙ (λ i. shifted c.args.left (width i) c.bits.step fill (number_of v (c.deref.ensures.value i))) in
      let same : number_of v c.deref-in-bits-2.result.now ≡ current = ap (number_of v) c.deref-in-bits-2.ensures.value in
      let chosen : number_of v c.in_ok-next.next.items ≡ cond b (shifted c.args.left n c.bits.step fill current) current =
      number_of-chosen v b c.in_ok-next.next.items c.deref-in-bits.result.now c.deref-in-bits-2.result.now (c.in_ok-next.ensures.value v h)
      ∙ (λ i. cond b (whole i) (same i)) in
      let small : current < 2 ^ n = (let P : ℕ → Type 0 = λ m. current < 2 ^ m in subst P c.bits.invariant.count (number-lt (edge_value v) c.bits.current.items)) in
      rw (number_more (edge_value v) c.args.amount.now c.bits.j d in_amount)
      (stage c.args.left fill b n (number_of v (take c.bits.j c.args.amount.now)) c.bits.step (2 ^ c.bits.j) (number_of v c.args.a.now) current
      (number_of v c.in_ok-next.next.items) c.bits.invariant.step (number-lt (edge_value v) c.args.a.now) small old chosen);
}

pub select-requires-clause-b_stand : goal.select-requires-clause-b_stand
select-requires-clause-b_stand c = rw c.deref-in-bits-2.ensures.value c.bits.invariant.current_stand

pub returns-clause-value : goal.returns-clause-value
returns-clause-value c = λ v h.
    let all : take c.bits.j c.args.amount.now ≡ c.args.amount.now = take_all c.bits.j c.args.amount.now (omega arith) in
    c.bits.invariant.value v h
    ∙ ap (λ es. shifted c.args.left (length c.args.a.now) (number_of v es) (edge_value v c.args.fill) (number_of v c.args.a.now)) all
