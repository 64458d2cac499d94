-- Gates define the edges' values.
use Rattle.std.proofs.Common.{◌≡◌, ◌∙◌, ℕ, Bool, true, false, List, [], ◌∷◌, map, refl, sym, subst}
use Rattle.std.specs.Bool.{beq}
use Rattle.std.specs.List.{All}
use Rattle.std.proofs.lemmas.List.Elements.{All-nil, All-cons, All-head, All-tail}
use Rattle.bit_graph.specs.declared.edge.Edge.{Edge}
use Rattle.bit_graph.specs.declared.edge.GraphNode.{GraphNode}
use Rattle.bit_graph.specs.Values.{value_under}
use Rattle.clause_core.specs.declared.literal.Lit.{Lit}
use Rattle.clause_core.specs.Assignments.{ClauseTrue, Agrees}
use Rattle.clause_core.specs.Systems.{Gives, SameOn}
use Rattle.cnf_build.specs.Encoding.{lit}
use Rattle.bit_clauses.specs.Deciding.{Defines}
use Rattle.bit_clauses.specs.Gated.{DefinesAll, DefinesEdges, HasLiteral, IsGated}

defines_all : (n : ℕ) (g : List GraphNode) (name : ℕ → ℕ) (cs : List (List Lit)) (es : List Edge) → All (HasLiteral n g name cs) es → DefinesEdges n g es cs (map (lit name) es)
unfolding DefinesAll
defines_all n g name cs [] all = tt
defines_all n g name cs (e ∷ es) all = (All-head (HasLiteral n g name cs) e es all, defines_all n g name cs es (All-tail (HasLiteral n g name cs) e es all))

pub gates_define : (n : ℕ) (g : List GraphNode) (es : List Edge) (cs : List (List Lit)) (lits : List Lit) → IsGated n g es cs lits → DefinesEdges n g es cs lits
gates_define n g es cs lits is = subst (λ (ls : List Lit). DefinesEdges n g es cs ls) (sym is.literals) (defines_all n g is.name cs es is.values)

module _ (n : ℕ) (cs : List (List Lit)) where
  same_value : (a b p : Bool) → beq a p ≡ beq b p → a ≡ b
  same_value true true p e = refl
  same_value false false p e = refl
  same_value true false true e = cc
  same_value true false false e = cc
  same_value false true true e = cc
  same_value false true false e = cc

  same_values : (lits : List Lit) (fs : List ((ℕ → Bool) → Bool)) → DefinesAll n cs lits fs → (a b : ℕ → Bool) → Agrees n a b → All (ClauseTrue a) cs → All (ClauseTrue b) cs → SameOn a b lits
  unfolding DefinesAll
  same_values [] fs defines a b agrees met_a met_b = All-nil (λ (l : Lit). a l.var ≡ b l.var)
  same_values (l ∷ lits) [] defines a b agrees met_a met_b = absurd defines
  same_values (l ∷ lits) (f ∷ fs) defines a b agrees met_a met_b =
      All-cons (λ (l : Lit). a l.var ≡ b l.var) l lits
      (same_value (a l.var) (b l.var) l.positive (defines.0.gives b a agrees met_a ∙ sym (defines.0.gives b b (λ k lt. refl) met_b)))
      (same_values lits fs defines.1 a b agrees met_a met_b)

  -- clauses give what they define
  gives_defined : (lits : List Lit) (fs : List ((ℕ → Bool) → Bool)) → DefinesAll n cs lits fs → Gives n [] cs → Gives n lits cs
  gives_defined lits fs defines gives = record {
    extends = gives.extends;
    one_way = λ a b agrees met_a met_b. (same_values lits fs defines a b agrees met_a met_b, (gives.one_way a b agrees met_a met_b).1);
  }

pub gates_give : (n : ℕ) (g : List GraphNode) (es : List Edge) (cs : List (List Lit)) (lits : List Lit) → IsGated n g es cs lits → Gives n lits cs
gates_give n g es cs lits is =
    gives_defined n cs lits (map (λ (e : Edge). λ (x : ℕ → Bool). value_under x g e) es) (gates_define n g es cs lits is) is.gives
