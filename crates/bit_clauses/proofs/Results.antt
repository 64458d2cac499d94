-- The clauses of conditions and of their gates together.
use Rattle.std.proofs.Common.{◌≡◌, ◌∙◌, ℕ, ◌<◌, Bool, List, [], ◌∷◌, ◌++◌, map, length, get_or, refl, sym, ap, subst}
use Rattle.std.specs.List.{All}
use Rattle.std.proofs.lemmas.Simd.{map-map}
use Rattle.std.proofs.lemmas.List.{length-map}
use Rattle.std.proofs.lemmas.List.Elements.{All-append, All-cons, All-head, All-map, All-nil, All-tail}
use Rattle.bit_graph.specs.declared.edge.Edge.{Edge}
use Rattle.bit_graph.specs.declared.edge.GraphNode.{GraphNode}
use Rattle.bit_graph.specs.Meaning.{Consistent, Stands}
use Rattle.bit_graph.specs.Values.{OneWay, values, value_under}
use Rattle.clause_core.specs.declared.literal.Lit.{Lit}
use Rattle.clause_core.specs.Literals.{Within}
use Rattle.cnf_build.specs.Encoding.{lit}
use Rattle.bit_clauses.specs.declared.either.Either.{Either}
use Rattle.bit_clauses.specs.Asserted.{all_hold}
use Rattle.bit_clauses.specs.Gated.{DecidesGroup, HasLiteral, IsGated}
use Rattle.bit_clauses.specs.Nodes.{all_true, edge_of, literals_in}
use Rattle.bit_clauses.proofs.Deciders.{all_left, all_right, decides, decides_as}
use Rattle.bit_clauses.proofs.Moves.{unmap}

-- what holds of all literals of the clauses
joined : (P : Lit → Type 0) (cs : List (List Lit)) → All (All P) cs → All P (literals_in cs)
joined P [] all = All-nil P
joined P (c ∷ cs) all = All-append P c (literals_in cs) (All-head (All P) c cs all) (joined P cs (All-tail (All P) c cs all))

pub stand_of : (g : List GraphNode) (cs : List (List Lit)) → All (Within (length g)) cs → All (Stands g) (map edge_of (literals_in cs))
stand_of g cs within = All-map (Stands g) edge_of (literals_in cs) (joined (λ (l : Lit). l.var < length g) cs within)

-- and of all, each in another form
parts : (P : Lit → Type 0) (f : Lit → Lit) (cs : List (List Lit)) → All (λ l. P (f l)) (literals_in cs) → All (All P) (map (map f) cs)
parts P f [] all = All-nil (All P)
parts P f (c ∷ cs) all =
    All-cons (All P) (map f c) (map (map f) cs) (All-map P f c (all_left (λ l. P (f l)) c (literals_in cs) all)) (parts P f cs (all_right (λ l. P (f l)) c (literals_in cs) all))

module _ (n : ℕ) (g : List GraphNode) (conds : List (List Lit)) (es : List Edge) (cs : List (List Lit)) (lits : List Lit) (is : IsGated n g es cs lits) (es_are : es ≡ map edge_of (literals_in conds)) where
  to : Lit → Lit
  to l = lit is.name (edge_of l)

  lits_are : lits ≡ map to (literals_in conds)
  unfolding to
  lits_are = is.literals ∙ ap (map (lit is.name)) es_are ∙ map-map (lit is.name) edge_of (literals_in conds)

  pub same_length : length lits ≡ length (literals_in conds)
  same_length = ap length lits_are ∙ length-map (literals_in conds) to

  pub decided : (asked : List Either) (made : List (List Lit)) → OneWay g → ((v : ℕ → Bool) → Consistent v g → all_true v conds ≡ all_hold v asked) →
      ((f : Lit → Lit) → lits ≡ map f (literals_in conds) → made ≡ cs ++ map (map f) conds) → DecidesGroup n g asked made
  unfolding to
  decided asked made law means made_is =
      let has : All (HasLiteral n g is.name cs) (map edge_of (literals_in conds)) = subst (λ (fs : List Edge). All (HasLiteral n g is.name cs) fs) es_are is.values in
      subst (λ (ds : List (List Lit)). DecidesGroup n g asked ds) (sym (made_is to lits_are))
      (decides_as n (cs ++ map (map to) conds) (λ x. all_true (values x g) conds) (λ x. all_hold (values x g) asked) (λ x. means (values x g) (law.some x).0)
      (decides n cs is.gives to (λ x l. value_under x g (edge_of l)) conds (unmap (HasLiteral n g is.name cs) edge_of (literals_in conds) has)))

  pub all_made : (P : Lit → Type 0) (made : List (List Lit)) → ((f : Lit → Lit) → lits ≡ map f (literals_in conds) → made ≡ cs ++ map (map f) conds) → All (All P) cs → All P lits →
      All (All P) made
  all_made P made made_is in_cs in_lits =
      let mapped : All P (map to (literals_in conds)) = subst (λ (ls : List Lit). All P ls) lits_are in_lits in
      subst (λ (ds : List (List Lit)). All (All P) ds) (sym (made_is to lits_are))
      (All-append (All P) cs (map (map to) conds) in_cs (parts P to conds (unmap P to (literals_in conds) mapped)))
