-- The query of a length, and that it was paid for.
use Rattle.std.proofs.Common.{inl, inr, ◌≡◌, ℕ, ◌≤◌, List, [], ◌++◌, refl, sym, ap, ◌∙◌, subst, arith}
use Rattle.std.specs.Prelude.{All, Contains}
use Rattle.std.proofs.lemmas.List.Elements.{All-weaker, All-contains, All-contains_itself, All-nil}
use Rattle.clause_core.specs.declared.literal.Lit.{Lit}
use Rattle.clause_core.specs.Systems.{TransitionSystem}
use Rattle.sat_core.specs.declared.answer.Answer.{Answer}
use Rattle.sat_core.specs.declared.answer.Answer.TheVariants as solver
use Rattle.sat_core.specs.Queries.{State}
use Rattle.sat_core.specs.Queries.{IsPaid as SolverIsPaid, IsSpent as SolverIsSpent}
use Rattle.sat_core.specs.Paying.{Query, query_of, PaysForOne, learned_in}
use Rattle.sat_core.proofs.Payments.{log_none, asked_more}
use Rattle.sat_core.proofs.Results.{sub_both}
use Rattle.lasso_search.specs.declared.plan.Plan.{Plan}
use Rattle.lasso_search.specs.declared.searched.Searched.{Searched}
use Rattle.lasso_search.specs.Unrolling.{unrolled, closing}
use Rattle.lasso_search.specs.Paying.{IsQueryOf, PaysOne, IsSpent, IsAsked}
use Rattle.lasso_search.specs.Searches.{Tells}

-- nothing was asked
pub pays_none : (m : TransitionSystem) (n : ℕ) (old new : List (List Lit)) (before after : List ℕ) → All (Contains old) new → after ≡ before →
    PaysOne m n old new before after
pays_none m n old new before after sub drawn = ([], log_none old new before after sub drawn, omega arith, All-nil (IsQueryOf m n))

pub pays_same : (m : TransitionSystem) (n : ℕ) (old : List (List Lit)) (before : List ℕ) → PaysOne m n old old before before
pays_same m n old before = pays_none m n old old before before (All-contains_itself old) refl

-- what a solver with these clauses was asked under what is assumed
pub pays_query : (m : TransitionSystem) (steps n : ℕ) (s t : State) (assumptions : List Lit) (before after : List ℕ) → n ≤ steps → s.given ≡ unrolled m steps →
    assumptions ≡ closing m n → PaysForOne s assumptions t before after → PaysOne m n s.learned t.learned before after
pays_query m steps n s t assumptions before after enough given assumes h = (
  h.0,
  h.1,
  h.2,
  All-weaker (λ (q : Query). q ≡ query_of s assumptions q.learned) (IsQueryOf m n)
      (λ q e. record { steps = steps; enough = enough; own = ap (λ (x : Query). x.own) e ∙ given; assumes = ap (λ (x : Query). x.assumptions) e ∙ assumes }) h.0 h.3,
)

-- where more was known at first
pub pays_sub : (m : TransitionSystem) (n : ℕ) (old mid new : List (List Lit)) (before after : List ℕ) → All (Contains old) mid → PaysOne m n mid new before after →
    PaysOne m n old new before after
pays_sub m n old mid new before after sub h =
    let log = h.0 in
    let more = learned_in log in
    let both : All (Contains (old ++ more)) (mid ++ more) = sub_both mid old more sub in (
      log,
      record {
        asked = asked_more mid old log sub h.1.asked;
        known = All-weaker (Contains (mid ++ more)) (Contains (old ++ more)) (λ c here. All-contains (Contains (old ++ more)) (mid ++ more) c both here) new h.1.known;
        drawn = h.1.drawn;
      },
      h.2,
      h.3,
    )

spent_too : (p : Plan) (n : ℕ) (answer : Answer) (f : Searched) → Tells p n answer f → SolverIsSpent answer → IsSpent f
spent_too p n (solver.Sat model) f told h = absurd h
spent_too p n (solver.Unsat core) f told h = absurd h
spent_too p n (solver.Spent drawn b) f told h = subst IsSpent (sym told) h

-- a ticket was drawn for the query where one was for the solver's
pub is_asked : (p : Plan) (n learned : ℕ) (answer : Answer) (f : Searched) (before after : List ℕ) → SolverIsPaid before after learned answer → Tells p n answer f →
    IsAsked before after f
is_asked p n learned answer f before after pays told = elim pays [
  | inl drew ↦ inl (learned, drew)
  | inr none ↦ inr (spent_too p n answer f told none.0, none.1)
]
