-- The clauses of a graph are gates.
use Rattle.std.proofs.Common.{◌≡◌, ◌∙◌, ℕ, ◌<◌, ◌≤◌, ◌⊎◌, Bool, true, false, not, cond, List, [], ◌∷◌, ◌++◌, map, length, get_or, refl, sym, ap, subst, arith, zero, suc, inl, inr}
use Rattle.std.specs.Bool.{beq}
use Rattle.std.specs.List.{All, Contains}
use Rattle.std.proofs.lemmas.Simd.{map-map}
use Rattle.std.proofs.lemmas.List.{get_or-map, get_or_default, length-map, map-append}
use Rattle.std.proofs.lemmas.List.Elements.{All-nil, All-weaker, All-append, All-contains, All-map, Contains-get_or, Contains-append_left, Contains-append_right}
use Rattle.bit_graph.specs.declared.edge.Edge.{Edge}
use Rattle.bit_graph.specs.declared.edge.GraphNode.{GraphNode}
use Rattle.bit_graph.specs.declared.edge.GraphNode.TheVariants.{Input}
use Rattle.bit_graph.specs.Meaning.{edge_value, exclusive_or, HasInputs, Stands}
use Rattle.bit_graph.specs.Values.{values, value_under}
use Rattle.bit_graph.specs.Values.{Agrees as InputsAgree}
use Rattle.clause_core.specs.declared.literal.Lit.{Lit}
use Rattle.clause_core.specs.Literals.{negate, Within}
use Rattle.clause_core.specs.Assignments.{ClauseTrue, Agrees}
use Rattle.clause_core.specs.Propagation.{Closed}
use Rattle.clause_core.specs.Systems.{Gives, SameOn}
use Rattle.cnf_build.specs.Encoding.{lit, variable_lit}
use Rattle.cnf_build.specs.CnfMeaning.{CnfLaw, HasValues, InputsSet, of_nodes}
use Rattle.cnf_build.specs.Cone.{Reached}
use Rattle.bit_clauses.specs.Deciding.{Defines, Sets, signed}
use Rattle.bit_clauses.specs.Gated.{HasLiteral, IsGated}

-- an edge's literal against its value
value_of : (negated b : Bool) → beq b (not negated) ≡ exclusive_or negated b
value_of true true = refl
value_of true false = refl
value_of false true = refl
value_of false false = refl

signed_of : (var : ℕ) (negated b : Bool) → signed record { var = var; positive = not negated } (exclusive_or negated b) ≡ record { var = var; positive = b }
signed_of var true true = refl
signed_of var true false = refl
signed_of var false true = refl
signed_of var false false = refl

module _ (g : List GraphNode) (roots : List Edge) (vars : ℕ) (cs : List (List Lit)) (lits : List Lit) (law : CnfLaw g roots vars cs lits) (n : ℕ) (inputs : HasInputs n g) where
  abbrev name : ℕ → ℕ
  name = law.numbering.variable

  -- inputs have their own numbers
  same : (k : ℕ) → k < n → name k ≡ k
  same k lt = law.numbering.inputs n inputs k lt

  -- the values that a has below n are those of x, so they are the values of the nodes where all clauses are true
  agreeing : (x a : ℕ → Bool) → Agrees n a x → InputsAgree x (of_nodes name a) g
  agreeing x a agrees k lt is = let here = inputs.only k lt is in ap a (same k here) ∙ agrees k here

  has_values : (x a : ℕ → Bool) → Agrees n a x → All (ClauseTrue a) cs → HasValues g law.numbering.node vars x a
  has_values x a agrees met = (law.one_way x a).0 (agreeing x a agrees, met)

  abbrev valued : (ℕ → Bool) → ℕ → Bool
  valued x i = values x g (law.numbering.node i)

  valued_agrees : (x : ℕ → Bool) → Agrees n (valued x) x
  valued_agrees x k lt =
      let all = (law.one_way x (valued x)).1 (λ i l. refl) in
      let at = inputs.at k lt in
      ap (valued x) (sym (same k lt)) ∙ all.0 k at.0 at.1

  pub gives : All (Within vars) cs → Gives n [] cs
  gives within = record {
    extends = λ x. (valued x, valued_agrees x, ((law.one_way x (valued x)).1 (λ i l. refl)).1);
    one_way = λ a b agrees met_a met_b.
        let va = has_values a a (λ k lt. refl) met_a in
        let vb = has_values a b (λ k lt. sym (agrees k lt)) met_b in (
          All-nil (λ (l : Lit). a l.var ≡ b l.var),
          All-weaker (Within vars) (SameOn a b) (λ c inside. All-weaker (λ (l : Lit). l.var < vars) (λ (l : Lit). a l.var ≡ b l.var) (λ l lt. va l.var lt ∙ sym (vb l.var lt)) c inside) cs within,
        );
  }

  -- the roots' literals
  module _ (e : Edge) (stands : Stands g e) (root : Contains roots e) where
    reached : Reached g roots e.node
    reached = λ live cone on. All-contains (λ (e : Edge). live e.node ≡ true) roots e on root

    pub has_literal : HasLiteral n g name cs e
    has_literal = record {
      gives = λ x a agrees met.
          value_of e.negated (a (name e.node))
          ∙ All-contains (λ (e : Edge). edge_value (of_nodes name a) e ≡ value_under x g e) roots e (law.agrees x a (has_values x a agrees met)) root;
      sets = λ x t set closed.
          let read : InputsSet g roots name x t = λ k lt is on. (let here = inputs.only k lt is in ap (λ i. t (variable_lit i (x k))) (same k here) ∙ set k here) in
          ap t (signed_of (name e.node) e.negated (values x g e.node)) ∙ law.spreads x t closed read e.node stands reached;
    }

pub gated : (g : List GraphNode) (es : List Edge) (vars : ℕ) (cs : List (List Lit)) (lits : List Lit) →
    CnfLaw g es vars cs lits → (n : ℕ) → HasInputs n g → All (Within vars) cs → All (Stands g) es → IsGated n g es cs lits
gated g es vars cs lits law n inputs within stand = record {
  name = law.numbering.variable;
  literals = law.literals;
  gives = gives g es vars cs lits law n inputs within;
  values = λ k d lt. has_literal g es vars cs lits law n inputs (get_or es k d) (stand k d lt) (Contains-get_or es k d lt);
}

pub inputs_fit : (g : List GraphNode) (roots : List Edge) (vars : ℕ) (cs : List (List Lit)) (lits : List Lit) → CnfLaw g roots vars cs lits → (n : ℕ) → HasInputs n g → n ≤ vars
inputs_fit g roots vars cs lits law zero inputs = omega arith
inputs_fit g roots vars cs lits law (suc n) inputs =
    let at = inputs.at n (omega arith) in
    omega (arith, (law.numbering.of_node n (at.0, inl at.1)).0, law.numbering.inputs (suc n) inputs n (omega arith))
