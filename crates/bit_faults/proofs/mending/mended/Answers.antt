-- One bit more.
use Rattle.std.proofs.Common.{◌≡◌, ◌∙◌, ℕ, ◌+◌, ◌<◌, ◌≤◌, Bool, false, ◌&&◌, List, [], ◌∷◌, length, get_or, inl, inr, refl, sym, ap, subst, arith, below_more}
use Rattle.std.proofs.lemmas.Bool.{cases_lt}
use Rattle.std.proofs.lemmas.List.{get_or_append_left, get_or_past, get_or_push, length_push}
use Rattle.smv_tree.specs.declared.tree.Program.{Program}
use Rattle.bit_graph.specs.declared.edge.Edge.{Edge}
use Rattle.bit_graph.specs.declared.edge.GraphNode.{GraphNode}
use Rattle.bit_graph.specs.Meaning.{Consistent, HasInputs, edge_value, exclusive_or}
use Rattle.bit_graph.specs.Values.{OneWay, assigned, value_under, values}
use Rattle.bit_arith.specs.Number.{values_of}
use Rattle.bit_states.specs.Layouts.{input_width, named_width, state_width}
use Rattle.bit_faults.specs.Mending.{is_coded, mended, step_coded}
use Rattle.bit_faults.proofs.Asked.{inputs_kept, length-told, told_at}
use Rattle.bit_faults.proofs.Coded.{coded_same, length-step_coded}
use Rattle.bit_faults.proofs.OfSides.{input_bits, long_range, next_bits, state_bits}
use Rattle.bit_faults.proofs.mending.mended.Goals as goal

-- the edge of a bit tells whether its slot has a value
coded_by : (n : ℕ) (g : List GraphNode) (p : Program) (domains : List Edge) (law : OneWay g) → HasInputs n g → n ≡ named_width p → ((v : ℕ → Bool) → Consistent v g → values_of v domains ≡ step_coded p v) →
    (a : ℕ → Bool) (k : ℕ) (d : Edge) → k < n → value_under a g (get_or domains k d) ≡ is_coded p a k
coded_by n g p domains law inputs n_is told a k d lt =
    told_at g p domains law told a k d (omega (arith, lt, n_is))
    ∙ ap (λ (l : List Bool). get_or l k false) (coded_same p (values a g) a (λ j below. inputs_kept n g law inputs a j (omega (arith, below, n_is))))

-- past the bits of a step there are none
past_mended : (p : Program) (a : ℕ → Bool) (made : List Bool) (k : ℕ) → length made ≤ k → named_width p ≤ k → get_or made k false ≡ mended p a k
past_mended p a made k end past =
    get_or_past made k false end ∙ sym (ap (λ b. b && a k) (get_or_past (step_coded p a) k false (omega (arith, past, length-step_coded p a))))

pub step_domains-requires-clause-room : goal.step_domains-requires-clause-room
step_domains-requires-clause-room c =
    let p = c.args.typed.now.scope.program in
    let w = state_width p in
    let n = input_width p in
    let first = long_range c.state.result.now 0 w (c.state.ensures ∙ ap state_bits c.requires.layout) in
    let second = long_range c.next.result.now w w (c.next.ensures ∙ ap next_bits c.requires.layout) in
    let third = long_range c.inputs.result.now (w + w) n (c.inputs.ensures ∙ ap input_bits c.requires.layout) in
    omega (arith, first, second, third, c.in_ok-graph.ensures.length)

module _ (n : ℕ) (g : List GraphNode) (p : Program) (domains : List Edge) (law : OneWay g) (inputs : HasInputs n g) (n_is : n ≡ named_width p)
    (told : (v : ℕ → Bool) → Consistent v g → values_of v domains ≡ step_coded p v) (bits known : List Bool) (evaluated : (k : ℕ) → k < length g → assigned known k ≡ values (assigned bits) g k) where
  long : length domains ≡ n
  long = length-told g p domains law told ∙ sym n_is

  -- one bit
  bit_is : (k : ℕ) (e d : Edge) (b : Bool) → k < length domains → e ≡ get_or domains k d → e.node < length g → b ≡ (edge_value (assigned known) e && get_or bits k false) →
      b ≡ mended p (assigned bits) k
  bit_is k e d b lt is stands bit =
      bit
      ∙ ap (λ x. x && get_or bits k false)
      (ap (exclusive_or e.negated) (evaluated e.node stands) ∙ ap (value_under (assigned bits) g) is ∙ coded_by n g p domains law inputs n_is told (assigned bits) k d (omega (arith, lt, long)))

-- all bits
mended_all : (p : Program) (a : ℕ → Bool) (made : List Bool) (i n : ℕ) → length made ≡ i → n ≡ named_width p → n ≤ i → ((k : ℕ) → k < i → get_or made k false ≡ mended p a k) → (k : ℕ) →
    get_or made k false ≡ mended p a k
mended_all p a made i n long n_is end each k =
    elim (cases_lt k i) [
      | inl here ↦ each k here
      | inr past ↦ past_mended p a made k (omega (arith, long, past)) (omega (arith, n_is, end, past))
    ]

-- the number of a bit of a step, of which there is an edge
below : (n : ℕ) (g : List GraphNode) (p : Program) (domains : List Edge) (law : OneWay g) (told : (v : ℕ → Bool) → Consistent v g → values_of v domains ≡ step_coded p v) (i : ℕ) → i < n → n ≡ named_width p →
    i < length domains
below n g p domains law told i lt n_is = omega (arith, lt, n_is, length-told g p domains law told)

pub domain_at-domain-requires : goal.domain_at-domain-requires
domain_at-domain-requires c =
    let p = c.args.typed.now.scope.program in
    let w = state_width p in
    let first = long_range c.state.result.now 0 w (c.state.ensures ∙ ap state_bits c.requires.layout) in
    let second = long_range c.next.result.now w w (c.next.ensures ∙ ap next_bits c.requires.layout) in
    let third = long_range c.inputs.result.now (w + w) (input_width p) (c.inputs.ensures ∙ ap input_bits c.requires.layout) in
    let lt = below (named_width p) c.step_domains.new.graph p c.in_ok-domains.domains.items c.one_way.ensures.law c.in_ok-domains.ensures.value c.loop-i.i
    (omega (arith, c.loop-i-test.true, first, second, third)) refl in
    subst (λ (es : List Edge). c.loop-i.i < length es) (sym c.deref.ensures.value) lt

pub mended_bit-bit-requires : goal.mended_bit-bit-requires
mended_bit-bit-requires c =
    let p = c.args.typed.now.scope.program in
    let w = state_width p in
    let first = long_range c.state.result.now 0 w (c.state.ensures ∙ ap state_bits c.requires.layout) in
    let second = long_range c.next.result.now w w (c.next.ensures ∙ ap next_bits c.requires.layout) in
    let third = long_range c.inputs.result.now (w + w) (input_width p) (c.inputs.ensures ∙ ap input_bits c.requires.layout) in
    let e = c.domain_at-domain.result in
    let is : e ≡ get_or c.in_ok-domains.domains.items c.loop-i.i e = c.domain_at-domain.ensures e ∙ ap (λ (es : List Edge). get_or es c.loop-i.i e) c.deref.ensures.value in
    let lt = below (named_width p) c.step_domains.new.graph p c.in_ok-domains.domains.items c.one_way.ensures.law c.in_ok-domains.ensures.value c.loop-i.i
    (omega (arith, c.loop-i-test.true, first, second, third)) refl in
    let stands : e.node < length c.step_domains.new.graph = subst (λ (x : Edge). x.node < length c.step_domains.new.graph) (sym is) (c.in_ok-domains.ensures.stand c.loop-i.i e lt) in
    subst (λ (bs : List Bool). e.node < length bs) (sym c.deref-in-loop-i.ensures.value) (subst (λ k. e.node < k) (sym c.in_ok-known.ensures.length) stands)

pub loop-i-preserved : goal.loop-i-preserved
loop-i-preserved c =
    let p = c.args.typed.now.scope.program in
    let w = state_width p in
    let first = long_range c.state.result.now 0 w (c.state.ensures ∙ ap state_bits c.requires.layout) in
    let second = long_range c.next.result.now w w (c.next.ensures ∙ ap next_bits c.requires.layout) in
    let third = long_range c.inputs.result.now (w + w) (input_width p) (c.inputs.ensures ∙ ap input_bits c.requires.layout) in
    let n = length c.state.result.now + length c.next.result.now + length c.inputs.result.now in
    let n_is : n ≡ named_width p = omega (arith, first, second, third) in
    let g = c.step_domains.new.graph in
    let domains = c.in_ok-domains.domains.items in
    let known = c.in_ok-known.known.items in
    let i = c.loop-i.i in
    let old = c.loop-i.made.items in
    let bit = c.mended_bit-bit.result in
    let e = c.domain_at-domain.result in
    let is : e ≡ get_or domains i e = c.domain_at-domain.ensures e ∙ ap (λ (es : List Edge). get_or es i e) c.deref.ensures.value in
    let lt : i < length domains = below n g p domains c.one_way.ensures.law c.in_ok-domains.ensures.value i (omega (arith, c.loop-i-test.true)) n_is in
    let stands : e.node < length g = subst (λ (x : Edge). x.node < length g) (sym is) (c.in_ok-domains.ensures.stand i e lt) in
    let bit_by : bit ≡ (edge_value (assigned known) e && get_or c.args.bits.now i false) =
    c.mended_bit-bit.ensures ∙ ap (λ (bs : List Bool). edge_value (assigned bs) e && get_or c.args.bits.now i false) c.deref-in-loop-i.ensures.value in
    let here : bit ≡ mended p (assigned c.args.bits.now) i =
    bit_is n g p domains c.one_way.ensures.law (c.in_ok-domains.ensures.extends.inputs n c.in_ok-graph.ensures.inputs) n_is c.in_ok-domains.ensures.value c.args.bits.now known c.in_ok-known.ensures.value i e e bit lt is
    stands bit_by in
    let pushed = c.in_ok-push.ensures.items in
    record {
      long = ap length pushed ∙ length_push old bit ∙ ap (λ k. k + 1) c.loop-i.invariant.long;
      bits = below_more (λ k. get_or c.push.new.self.items k false ≡ mended p (assigned c.args.bits.now) k) i
          (λ k below. ap (λ (bs : List Bool). get_or bs k false) pushed ∙ get_or_append_left old (bit ∷ []) false k (omega (arith, below, c.loop-i.invariant.long)) ∙ c.loop-i.invariant.bits k below)
          (ap (λ (bs : List Bool). get_or bs i false) pushed ∙ get_or_push old bit false i c.loop-i.invariant.long ∙ here);
    }

pub returns : goal.returns
returns c =
    let p = c.args.typed.now.scope.program in
    let w = state_width p in
    let first = long_range c.state.result.now 0 w (c.state.ensures ∙ ap state_bits c.requires.layout) in
    let second = long_range c.next.result.now w w (c.next.ensures ∙ ap next_bits c.requires.layout) in
    let third = long_range c.inputs.result.now (w + w) (input_width p) (c.inputs.ensures ∙ ap input_bits c.requires.layout) in
    mended_all p (assigned c.args.bits.now) c.loop-i.made.items c.loop-i.i (named_width p) c.loop-i.invariant.long refl (omega (arith, c.loop-i-test.false, first, second, third)) c.loop-i.invariant.bits
