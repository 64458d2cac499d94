-- One literal more, one clause more.
use Rattle.std.proofs.Common.{◌≡◌, ◌∙◌, ℕ, ◌<◌, ◌+◌, Bool, true, false, not, ◌&&◌, ◌||◌, List, [], ◌∷◌, ◌++◌, take, drop, length, get_or, refl, sym, ap, inl, inr}
use Rattle.std.specs.List.{All, Contains, list_all, list_any}
use Rattle.std.proofs.lemmas.Bool.{cases_Bool, or_right}
use Rattle.std.proofs.lemmas.List.{drop_more}
use Rattle.std.proofs.lemmas.List.Folds.{list_all-append, list_any-append, list_any_at}
use Rattle.std.proofs.lemmas.List.Elements.{All-push}
use Rattle.bit_graph.specs.declared.edge.Edge.{Edge}
use Rattle.bit_graph.specs.declared.edge.GraphNode.{GraphNode}
use Rattle.bit_graph.specs.Meaning.{Stands, edge_value}
use Rattle.clause_core.specs.declared.literal.Lit.{Lit}
use Rattle.bit_clauses.specs.Nodes.{all_true, any_edge, any_true, edge_of, literal_of}

and_true : (b : Bool) → (b && true) ≡ b
and_true true = refl
and_true false = refl

or_false : (b : Bool) → (b || false) ≡ b
or_false true = refl
or_false false = refl

not_not : (b : Bool) → not (not b) ≡ b
not_not true = refl
not_not false = refl

pub edge_of_literal : (e : Edge) → edge_of (literal_of e) ≡ e
edge_of_literal e = ap (λ b. record { node = e.node; negated = b }) (not_not e.negated)

pub all_true_more : (v : ℕ → Bool) (cs : List (List Lit)) (c : List Lit) → all_true v (cs ++ c ∷ []) ≡ (all_true v cs && any_true v c)
all_true_more v cs c = list_all-append (any_true v) cs (c ∷ []) ∙ ap (λ b. all_true v cs && b) (and_true (any_true v c))

any_true_more : (v : ℕ → Bool) (c : List Lit) (l : Lit) → any_true v (c ++ l ∷ []) ≡ (any_true v c || edge_value v (edge_of l))
any_true_more v c l = list_any-append (λ m. edge_value v (edge_of m)) c (l ∷ []) ∙ ap (λ b. any_true v c || b) (or_false (edge_value v (edge_of l)))

pub any_true_edge : (v : ℕ → Bool) (c : List Lit) (e : Edge) → any_true v (c ++ literal_of e ∷ []) ≡ (any_true v c || edge_value v e)
any_true_edge v c e = any_true_more v c (literal_of e) ∙ ap (λ x. any_true v c || edge_value v x) (edge_of_literal e)

-- a literal that is there already adds nothing
pub any_true_has : (v : ℕ → Bool) (c : List Lit) (e : Edge) → Contains c (literal_of e) → any_true v c ≡ (any_true v c || edge_value v e)
any_true_has v c e (k, lt, is) = elim (cases_Bool (edge_value v e)) [
  | inl on ↦
      let here : edge_value v (edge_of (get_or c k (literal_of e))) ≡ true = ap (λ l. edge_value v (edge_of l)) is ∙ ap (edge_value v) (edge_of_literal e) ∙ on in
      list_any_at (λ m. edge_value v (edge_of m)) c k (literal_of e) lt here ∙ sym (or_right (any_true v c) (edge_value v e) on)
  | inr off ↦ sym (or_false (any_true v c)) ∙ ap (λ b. any_true v c || b) (sym off)
]

pub any_edge_more : (v : ℕ → Bool) (es : List Edge) (e : Edge) → any_edge v (es ++ e ∷ []) ≡ (any_edge v es || edge_value v e)
any_edge_more v es e = list_any-append (edge_value v) es (e ∷ []) ∙ ap (λ b. any_edge v es || b) (or_false (edge_value v e))

pub stand_more : (g : List GraphNode) (es : List Edge) (e : Edge) → All (Stands g) es → Stands g e → All (Stands g) (es ++ e ∷ [])
stand_more g es e stand stands = All-push (Stands g) es e stand stands

or_regroup : (a b c : Bool) → ((a || b) || c) ≡ (a || (b || c))
or_regroup true b c = refl
or_regroup false b c = refl

-- one edge taken over from those that are left
pub any_edge_next : (v : ℕ → Bool) (c after : List Lit) (es : List Edge) (i : ℕ) (d : Edge) → i < length es → any_true v after ≡ (any_true v c || edge_value v (get_or es i d)) →
    (any_true v after || any_edge v (drop (i + 1) es)) ≡ (any_true v c || any_edge v (drop i es))
any_edge_next v c after es i d lt is =
    ap (λ b. b || any_edge v (drop (i + 1) es)) is ∙ or_regroup (any_true v c) (edge_value v (get_or es i d)) (any_edge v (drop (i + 1) es))
    ∙ ap (λ xs. any_true v c || any_edge v xs) (sym (drop_more es i d lt))
