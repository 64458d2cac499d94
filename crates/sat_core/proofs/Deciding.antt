-- Marks of the variables that clauses have as positive literals.
use Rattle.std.proofs.Common.{◌≡◌, ℕ, ◌++◌, ◌∷◌, [], Bool, List, length, get_or, subst, sym, ◌∙◌}
use Rattle.std.specs.List.{All}
use Rattle.std.proofs.lemmas.List.Elements.{All-push}
use Rattle.clause_core.specs.declared.literal.Lit.{Lit}
use Rattle.clause_core.specs.Literals.{Within}
use Rattle.sat_core.specs.Positions.{Marked}
use Rattle.sat_core.specs.Searching.{KnowsPositives, MarksPositives}

-- there is a mark for each variable of the clause
pub within_marks : (vars : ℕ) (marks : List Bool) (cs : List (List Lit)) (c : List Lit) → KnowsPositives vars marks cs → Within vars c → Within (length marks) c
within_marks vars marks cs c known within = let W : ℕ → Type 0 = λ n. Within n c in subst W (sym known.0) within

-- more marks know as much
pub known_more : (vars w : ℕ) (old new : List Bool) (cs bs : List (List Lit)) → KnowsPositives vars old cs → length new ≡ length old →
    ((v : ℕ) → Marked old v → Marked new v) → w ≡ vars → bs ≡ cs → KnowsPositives w new bs
known_more vars w old new cs bs known len kept ev ec =
    let all : All (MarksPositives new) cs = λ k d lt j e lj p. kept (get_or (get_or cs k d) j e).var (known.1 k d lt j e lj p) in
    let C : List (List Lit) → Type 0 = All (MarksPositives new) in
    (len ∙ known.0 ∙ sym ev, subst C (sym ec) all)

pub known_same : (vars w : ℕ) (marks : List Bool) (cs bs : List (List Lit)) → KnowsPositives vars marks cs → w ≡ vars → bs ≡ cs →
    KnowsPositives w marks bs
known_same vars w marks cs bs known ev ec =
    let C : List (List Lit) → Type 0 = All (MarksPositives marks) in
    (known.0 ∙ sym ev, subst C (sym ec) known.1)

-- one more clause, whose positive literals are marked
pub known_push : (vars w : ℕ) (old new : List Bool) (cs bs : List (List Lit)) (c : List Lit) → KnowsPositives vars old cs → length new ≡ length old →
    ((v : ℕ) → Marked old v → Marked new v) → MarksPositives new c → w ≡ vars → bs ≡ cs ++ c ∷ [] → KnowsPositives w new bs
known_push vars w old new cs bs c known len kept here ev ec =
    let all : All (MarksPositives new) cs = λ k d lt j e lj p. kept (get_or (get_or cs k d) j e).var (known.1 k d lt j e lj p) in
    let C : List (List Lit) → Type 0 = All (MarksPositives new) in
    (len ∙ known.0 ∙ sym ev, subst C (sym ec) (All-push (MarksPositives new) cs c all here))
