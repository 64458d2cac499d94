-- The parts of an inductive invariant have no models.
use Rattle.std.proofs.Common.{◌≡◌, ℕ, ◌+◌, ◌<◌, Bool, true, false, not, List, [], ◌++◌, length, get_or, refl, sym, ◌∙◌}
use Rattle.std.specs.Prelude.{All, Contains, map}
use Rattle.std.proofs.lemmas.List.Elements.{All-contains}
use Rattle.clause_core.specs.declared.literal.Lit.{Lit}
use Rattle.clause_core.specs.Literals.{negate}
use Rattle.clause_core.specs.Assignments.{ClauseTrue}
use Rattle.clause_core.specs.Systems.{TransitionSystem}
use Rattle.cert_core.specs.Certificates.{next_of, negated, negated_next, IsInvariant}
use Rattle.cert_make.specs.Paying.{HasNoModel}
use Rattle.cert_make.proofs.Refuting.{Contains-map, at_left, at_right, here}

not_itself : (b : Bool) → b ≡ not b → ⊥
not_itself true e = let h : true ≡ false = e in cc
not_itself false e = let h : false ≡ true = e in cc

-- a clause and its negation are not both true
not_both : (a : ℕ → Bool) (c : List Lit) → ClauseTrue a c → All (λ (l : Lit). a l.var ≡ l.positive) (negated c) → ⊥
not_both a c h off =
    let l : Lit = h.1 in
    let there : Contains (negated c) (negate l) = Contains-map negate c l (h.0, h.2, h.3) in
    let e = All-contains (λ (m : Lit). a m.var ≡ m.positive) (negated c) (negate l) off there in
    not_itself l.positive (sym h.4 ∙ e)

-- a clause at the next state
true_next : (n : ℕ) (a : ℕ → Bool) (c : List Lit) → ClauseTrue (λ v. a (n + v)) c → ClauseTrue a (map (next_of n) c)
true_next n a c h =
    let m = Contains-map (next_of n) c h.1 (h.0, h.2, h.3) in
    (m.0, next_of n h.1, m.1, m.2, h.4)

all_left : (a : ℕ → Bool) (cs ds : List (List Lit)) → All (ClauseTrue a) (cs ++ ds) → All (ClauseTrue a) cs
all_left a cs ds all k d lt = All-contains (ClauseTrue a) (cs ++ ds) (get_or cs k d) all (at_left cs ds cs (here cs) k d lt)

all_right : (a : ℕ → Bool) (cs ds : List (List Lit)) → All (ClauseTrue a) (cs ++ ds) → All (ClauseTrue a) ds
all_right a cs ds all k d lt = All-contains (ClauseTrue a) (cs ++ ds) (get_or ds k d) all (at_right cs ds ds (here ds) k d lt)

-- an initial state meets each clause
pub first_no_model : (sys : TransitionSystem) (cs : List (List Lit)) (k : ℕ) → IsInvariant sys cs → k < length cs → HasNoModel sys.init (negated (get_or cs k []))
first_no_model sys cs k h lt a all off = not_both a (get_or cs k []) (h.initial a (a, (λ v below. refl), all) k [] lt) off

-- a step from a state that meets all clauses ends in one that meets each
pub kept_no_model : (sys : TransitionSystem) (cs : List (List Lit)) (k : ℕ) → IsInvariant sys cs → k < length cs →
    HasNoModel (cs ++ sys.step) (negated_next sys.state_bits (get_or cs k []))
kept_no_model sys cs k h lt a all off =
    let n : ℕ = sys.state_bits in
    let y : ℕ → Bool = λ v. a (n + v) in
    let c : List Lit = get_or cs k [] in
    let now : ClauseTrue y c = h.kept a y (all_left a cs sys.step all) (a, (λ v below. refl), (λ v below. refl), all_right a cs sys.step all) k [] lt in
    not_both a (map (next_of n) c) (true_next n a c now) off

-- no bad state meets all clauses
pub safe_no_model : (sys : TransitionSystem) (cs : List (List Lit)) → IsInvariant sys cs → HasNoModel (cs ++ sys.bad) []
safe_no_model sys cs h a all off = h.safe a (all_left a cs sys.bad all) (a, (λ v below. refl), all_right a cs sys.bad all)
