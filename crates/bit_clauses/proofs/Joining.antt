-- The literals of clauses, one clause after the other, and clauses made of them again.
use Rattle.std.proofs.Common.{◌≡◌, ◌∙◌, ℕ, ◌+◌, ◌-◌, ◌<◌, ◌≤◌, List, [], ◌∷◌, ◌++◌, map, take, drop, length, get_or, refl, sym, ap, zero, suc, arith, append_assoc, length-append}
use Rattle.std.proofs.Math.Seq.{drop-append-add, take-append_seam}
use Rattle.std.proofs.lemmas.List.{append-nil, length-map, map-append, map_more}
use Rattle.bit_graph.specs.declared.edge.Edge.{Edge}
use Rattle.clause_core.specs.declared.literal.Lit.{Lit}
use Rattle.bit_clauses.specs.Nodes.{edge_of, literals_in}

pub literals_more : (cs : List (List Lit)) (k : ℕ) (d : List Lit) → k < length cs → literals_in (take (suc k) cs) ≡ literals_in (take k cs) ++ get_or cs k d
literals_more [] k d lt = absurd (omega (arith, lt))
literals_more (c ∷ cs) zero d lt = append-nil c
literals_more (c ∷ cs) (suc k) d lt = ap (λ (xs : List Lit). c ++ xs) (literals_more cs k d (omega (arith, lt))) ∙ sym (append_assoc c (literals_in (take k cs)) (get_or cs k d))

-- where the literals of clause k end
pub end_at : (cs : List (List Lit)) (k : ℕ) (d : List Lit) → k < length cs → length (literals_in (take k cs)) + length (get_or cs k d) ≡ length (literals_in (take (suc k) cs))
end_at cs k d lt = sym (ap length (literals_more cs k d lt) ∙ length-append (literals_in (take k cs)) (get_or cs k d))

pub ends_within : (cs : List (List Lit)) (k : ℕ) → length (literals_in (take k cs)) ≤ length (literals_in cs)
ends_within [] zero = omega arith
ends_within [] (suc k) = omega arith
ends_within (c ∷ cs) zero = omega arith
ends_within (c ∷ cs) (suc k) = omega (arith, ends_within cs k, length-append c (literals_in (take k cs)), length-append c (literals_in cs))

-- the literals of clause k among all, each in another form
pub clause_at : (f : Lit → Lit) (cs : List (List Lit)) (k : ℕ) (d : List Lit) → k < length cs →
    take (length (get_or cs k d)) (drop (length (literals_in (take k cs))) (map f (literals_in cs))) ≡ map f (get_or cs k d)
clause_at f [] k d lt = absurd (omega (arith, lt))
clause_at f (c ∷ cs) zero d lt =
    ap (take (length c)) (map-append f c (literals_in cs)) ∙ ap (λ n. take n (map f c ++ map f (literals_in cs))) (sym (length-map c f))
    ∙ take-append_seam (map f c) (map f (literals_in cs))
clause_at f (c ∷ cs) (suc k) d lt =
    let n : ℕ = length (literals_in (take k cs)) in
    let size : length (c ++ literals_in (take k cs)) ≡ length (map f c) + n = omega (arith, length-append c (literals_in (take k cs)), length-map c f) in
    ap (take (length (get_or cs k d)))
    (ap (drop (length (c ++ literals_in (take k cs)))) (map-append f c (literals_in cs)) ∙ ap (λ m. drop m (map f c ++ map f (literals_in cs))) size
    ∙ drop-append-add (map f c) (map f (literals_in cs)) n)
    ∙ clause_at f cs k d (omega (arith, lt))

next : (cs : List (List Lit)) (k : ℕ) → literals_in (take (suc k) cs) ≡ literals_in (take (k + 1) cs)
next cs k = ap (λ j. literals_in (take j cs)) (let e : suc k ≡ k + 1 = omega arith in e)

-- one clause more
module _ (cs : List (List Lit)) (k : ℕ) (lt : k < length cs) where
  pub edges_more : (before after : List Edge) (c : List Lit) → c ≡ get_or cs k [] → before ≡ map edge_of (literals_in (take k cs)) → after ≡ before ++ map edge_of c →
      after ≡ map edge_of (literals_in (take (k + 1) cs))
  edges_more before after c c_is before_is after_is =
      after_is ∙ (λ i. before_is i ++ map edge_of (c_is i)) ∙ sym (map-append edge_of (literals_in (take k cs)) (get_or cs k []))
      ∙ ap (map edge_of) (sym (literals_more cs k [] lt) ∙ next cs k)

  module _ (start size : ℕ) (start_is : start ≡ length (literals_in (take k cs))) (size_is : size ≡ length (get_or cs k [])) where
    pub start_more : start + size ≡ length (literals_in (take (k + 1) cs))
    start_more = (λ i. start_is i + size_is i) ∙ end_at cs k [] lt ∙ ap length (next cs k)

    pub fits : (total : ℕ) → total ≡ length (literals_in cs) → start + size ≤ total
    fits total is = omega (arith, is, start_is, size_is, end_at cs k [] lt, ends_within cs (suc k))

    pub clauses_more : (f : Lit → Lit) (gates made after : List (List Lit)) (lits : List Lit) → lits ≡ map f (literals_in cs) → made ≡ gates ++ map (map f) (take k cs) →
        after ≡ made ++ take ((start + size) - start) (drop start lits) ∷ [] → after ≡ gates ++ map (map f) (take (k + 1) cs)
    clauses_more f gates made after lits lits_are made_is after_is =
        let span : (start + size) - start ≡ length (get_or cs k []) = omega (arith, size_is) in
        let piece : take ((start + size) - start) (drop start lits) ≡ map f (get_or cs k []) =
        (λ i. take (span i) (drop (start_is i) (lits_are i))) ∙ clause_at f cs k [] lt in
        after_is ∙ (λ i. made_is i ++ piece i ∷ []) ∙ append_assoc gates (map (map f) (take k cs)) (map f (get_or cs k []) ∷ [])
        ∙ ap (λ (ds : List (List Lit)). gates ++ ds) (sym (map_more (map f) cs k [] lt))
