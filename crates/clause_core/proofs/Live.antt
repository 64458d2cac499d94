-- What unit propagation reaches, and what it doesn't.
use Rattle.std.proofs.Common.{◌≡◌, ◌++◌, Bool, true, false, List, get_or, ◌∷◌, inl, inr}
use Rattle.std.specs.List.{All, Contains}
use Rattle.std.proofs.lemmas.Bool.{both_ways}
use Rattle.std.proofs.lemmas.List.Elements.{All-cons, All-contains, Contains-append_left}
use Rattle.clause_core.specs.declared.literal.Lit.{Lit}
use Rattle.clause_core.specs.Literals.{negate}
use Rattle.clause_core.specs.Propagation.{UnitIn, Closed, Settled, HasConflict, Follows, Holds, Reaches, Conflicting}
use Rattle.clause_core.proofs.Lists.{Closed-left}

-- more clauses
pub HasConflict-more : (t : Lit → Bool) (cs bs : List (List Lit)) → HasConflict t cs → HasConflict t (cs ++ bs)
HasConflict-more t cs bs (inl h) = let q = Contains-append_left cs bs h.1 (h.0, h.2, h.3) in inl (q.0, h.1, q.1, q.2, h.4)
HasConflict-more t cs bs (inr h) = inr h

pub Follows-more : (cs bs : List (List Lit)) (c : List Lit) → Follows cs c → Follows (cs ++ bs) c
Follows-more cs bs c f t all closed = HasConflict-more t cs bs (f t all (Closed-left t cs bs closed))

-- a set at rest that holds the decisions and lacks the literal
pub not_reached : (live : List (List Lit)) (ds : List Lit) (t : Lit → Bool) (l : Lit) → Holds t ds → All (Settled t) live →
    t l ≡ false → Reaches live ds l → ⊥
not_reached live ds t l holds rest off r = both_ways (t l) off (r t holds (λ k d lt. (rest k d lt).1))

pub not_conflicting : (live : List (List Lit)) (ds : List Lit) (t : Lit → Bool) → Holds t ds → All (Settled t) live →
    ((l : Lit) → t l ≡ true → t (negate l) ≡ true → ⊥) → Conflicting live ds → ⊥
not_conflicting live ds t holds rest one f =
    elim (f t holds (λ k d lt. (rest k d lt).1)) [
      | inl h ↦ (All-contains (Settled t) live h.1 rest (h.0, h.2, h.3)).0 h.4
      | inr h ↦ one h.0 h.1 h.2
    ]

-- the chain of unit steps that a reader may know, and a hinted check follows
pub data Chain (cs : List (List Lit)) : List Lit → Type 0 where
  ends : (set c : List Lit) → Contains cs c → All (λ m. Contains set (negate m)) c → Chain cs set
  next : (set c : List Lit) (l : Lit) → Contains cs c → Contains c l → All (λ m. (m ≡ l → ⊥) → Contains set (negate m)) c → Chain cs (l ∷ set) → Chain cs set

pub conflict_from_chain : (cs : List (List Lit)) (t : Lit → Bool) → Closed t cs → (set : List Lit) → Chain cs set → Holds t set →
    HasConflict t cs
conflict_from_chain cs t closed set (ends _ c h all) held =
    inl (h.0, c, h.1, h.2, λ j d lt. All-contains (λ l. t l ≡ true) set (negate (get_or c j d)) held (all j d lt))
conflict_from_chain cs t closed set (next _ c l h in_c all rest) held =
    let unit : UnitIn t c l = (in_c, λ j d lt ne. All-contains (λ l. t l ≡ true) set (negate (get_or c j d)) held (all j d lt ne)) in
    let on : t l ≡ true = All-contains (λ c. (l : Lit) → UnitIn t c l → t l ≡ true) cs c closed h l unit in
    conflict_from_chain cs t closed (l ∷ set) rest (All-cons (λ l. t l ≡ true) l set on held)
