use Rattle.std.proofs.Common.{◌≡◌, ℕ, ◌<◌, ◌≤◌, ◌+◌, ◌⊎◌, Bool, cond, List, [], ◌∷◌, ◌++◌, length, get_or, take, refl, sym, ◌∙◌, ap, subst, arith, suc, ⊎_elim, true, append_assoc, append-nil}
use Rattle.std.proofs.lemmas.Bool.{cases_order}
use Rattle.std.proofs.lemmas.List.{take_more, take_all, length-take-le}
use Rattle.std.proofs.lemmas.List.Elements.{All-nil, All-cons, All-append}
use Rattle.bit_graph.specs.declared.edge.Edge.{Edge}
use Rattle.bit_graph.specs.declared.edge.GraphNode.{GraphNode}
use Rattle.bit_graph.specs.declared.edge.GraphNode.TheVariants.{False, Input, And, Xor, Choice}
use Rattle.cnf_build.specs.Encoding.{clauses_of, cnf_from}
use Rattle.cnf_build.specs.Cone.{marked, ConeFrom, RootsLive, Included, Reaches, AllReached}

pub Reaches-grows : (old new : List Bool) (n : GraphNode) → Included (marked old) (marked new) → Reaches (marked old) n → Reaches (marked new) n
Reaches-grows old new False h r = tt
Reaches-grows old new Input h r = tt
Reaches-grows old new (And a b) h r = (h a.node r.0, h b.node r.1)
Reaches-grows old new (Xor a b) h r = (h a r.0, h b r.1)
Reaches-grows old new (Choice c a b) h r = (h c r.0, h a r.1, h b.node r.2)

pub RootsLive-grows : (old new : List Bool) (roots : List Edge) → Included (marked old) (marked new) → RootsLive (marked old) roots → RootsLive (marked new) roots
RootsLive-grows old new roots h r = λ k d l. h (get_or roots k d).node (r k d l)

-- k + 1 is where the cone begins; node k's operands are marked now
pub ConeFrom-more : (old new : List Bool) (g : List GraphNode) (k : ℕ) (n : GraphNode) → Included (marked old) (marked new) → ((j : ℕ) → k ≤ j → marked new j ≡ marked old j) →
    n ≡ get_or g k Input → Reaches (marked new) n → ConeFrom (marked old) g (k + 1) → ConeFrom (marked new) g k
ConeFrom-more old new g k n grows same is here h j from l on =
    ⊎_elim
    (λ (e : k ≡ j).
    let P : ℕ → Type 0 = λ m. Reaches (marked new) (get_or g m Input) in
    let Q : GraphNode → Type 0 = λ m. Reaches (marked new) m in
    subst P e (subst Q is here))
    (λ (o : (k < j) ⊎ (j < k)).
    ⊎_elim
    (λ (m : k < j). Reaches-grows old new (get_or g j Input) grows (h j (omega arith) l (sym (same j from) ∙ on)))
    (λ (m : j < k). absurd (omega arith))
    o)
    (cases_order k j)

pub cnf_push : (live : ℕ → Bool) (name : ℕ → ℕ) (j : ℕ) (ns : List GraphNode) (n : GraphNode) →
    cnf_from live name j (ns ++ n ∷ []) ≡ cnf_from live name j ns ++ cond (live (j + length ns)) (clauses_of name (j + length ns) n) []
cnf_push live name j [] n =
    let e : j + 0 ≡ j = omega arith in
    rw (e, append-nil) refl
cnf_push live name j (m ∷ ns) n =
    let e : suc j + length ns ≡ j + suc (length ns) = omega arith in
    let h = cnf_push live name (suc j) ns n in
    rw (h, e) (sym (append_assoc (cond (live j) (clauses_of name j m) []) (cnf_from live name (suc j) ns) (cond (live (j + suc (length ns))) (clauses_of name (j + suc (length ns)) n) [])))

pub cnf_more : (live : ℕ → Bool) (name : ℕ → ℕ) (g : List GraphNode) (k : ℕ) (n : GraphNode) → k < length g → n ≡ get_or g k Input →
    cnf_from live name 0 (take (k + 1) g) ≡ cnf_from live name 0 (take k g) ++ cond (live k) (clauses_of name k n) []
cnf_more live name g k n l e =
    let s : length (take k g) ≡ k = length-take-le k g (omega arith) in
    let z : 0 + length (take k g) ≡ k = omega (arith, s) in
    let e' : get_or g k Input ≡ n = sym e in
    ap (cnf_from live name 0) (take_more g k Input l) ∙ cnf_push live name 0 (take k g) (get_or g k Input)
    ∙ (λ i. cnf_from live name 0 (take k g) ++ cond (live (z i)) (clauses_of name (z i) (e' i)) [])

pub operands_in : (live : ℕ → Bool) (n m : GraphNode) → n ≡ m → Reaches live n → Reaches live m
operands_in live n m is r = let P : GraphNode → Type 0 = Reaches live in subst P is r

pub RootsLive-more : (old new : ℕ → Bool) (roots : List Edge) (i : ℕ) (d : Edge) → i < length roots → Included old new →
    new (get_or roots i d).node ≡ true → RootsLive old (take i roots) → RootsLive new (take (i + 1) roots)
RootsLive-more old new roots i d l grows here h =
    let P : Edge → Type 0 = λ e. new e.node ≡ true in
    let Q : List Edge → Type 0 = RootsLive new in
    subst Q (sym (take_more roots i d l))
    (All-append P (take i roots) (get_or roots i d ∷ []) (λ k e m. grows (get_or (take i roots) k e).node (h k e m))
    (All-cons P (get_or roots i d) [] here (All-nil P)))

pub RootsLive-whole : (live : ℕ → Bool) (roots : List Edge) (i : ℕ) → length roots ≤ i → RootsLive live (take i roots) → RootsLive live roots
RootsLive-whole live roots i l h = let P : List Edge → Type 0 = RootsLive live in subst P (take_all i roots l) h

-- what is marked as the operands of a node that is reached is reached too
pub Reached-more : (old new : List Bool) (g : List GraphNode) (roots : List Edge) (k : ℕ) (n : GraphNode) → k < length g → n ≡ get_or g k Input → marked old k ≡ true →
    ((live : ℕ → Bool) → Reaches live n → Included (marked old) live → Included (marked new) live) →
    AllReached (marked old) g roots → AllReached (marked new) g roots
Reached-more old new g roots k n l is on least h j m live cone in_roots =
    let P : GraphNode → Type 0 = Reaches live in
    least live (subst P (sym is) (cone k l (h k on live cone in_roots))) (λ i o. h i o live cone in_roots) j m
