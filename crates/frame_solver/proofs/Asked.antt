-- The assumptions of a query, and what the solver's answer says of them.
use Rattle.std.proofs.Common.{◌≡◌, inl, inr, ℕ, ◌+◌, ◌<◌, ◌≤◌, Bool, true, false, List, [], ◌∷◌, ◌++◌, refl, sym, ◌∙◌, ap, subst, arith}
use Rattle.std.specs.Prelude.{All, Contains}
use Rattle.std.proofs.lemmas.List.Elements.{All-nil, All-append, All-contains, All-map, All-weaker, All-push, All-contains_itself, Contains-append_left, Contains-append_right, Contains-push}
use Rattle.std.proofs.lemmas.Bool.{cases_lt, both_ways}
use Rattle.clause_core.specs.declared.literal.Lit.{Lit}
use Rattle.clause_core.specs.Literals.{Within}
use Rattle.clause_core.specs.Assignments.{ClauseTrue, assignment_of}
use Rattle.clause_core.specs.Derivations.{Derives}
use Rattle.clause_core.proofs.Sound.{refutes}
use Rattle.sat_core.specs.declared.answer.Answer.{Answer}
use Rattle.sat_core.specs.declared.answer.Answer.TheVariants.{Sat, Unsat, Spent}
use Rattle.sat_core.specs.Queries.{State, AnswerSays, units, log_of}
use Rattle.sat_core.specs.Paying.{Query, query_of, PaysForOne}
use Rattle.sat_core.proofs.Payments.{log_none}
use Rattle.frame_core.specs.declared.parts.Lemma.{Lemma}
use Rattle.frame_solver.specs.Guards.{on}
use Rattle.frame_solver.specs.Groups.{is_asked}
use Rattle.frame_solver.specs.Asking.{IsTrueIn, IsAskedLiteral, AreAsked, IsRefuted, AskSays, AsksOnce}

unit_true : (a : ℕ → Bool) (l : Lit) → IsTrueIn a l → ClauseTrue a (l ∷ [])
unit_true a l h = (0, l, omega arith, refl, h)

pub refuted : (vars : ℕ) (given learned : List (List Lit)) (core : List Lit) →
    Derives vars (given ++ units core) (log_of learned) → IsRefuted given core
refuted vars given learned core derives a all on_core =
    refutes vars (given ++ units core) (log_of learned) derives a
    (All-append (ClauseTrue a) given (units core) all
    (All-map (ClauseTrue a) (λ l. l ∷ []) core (All-weaker (IsTrueIn a) (λ l. ClauseTrue a (l ∷ [])) (unit_true a) core on_core)))

module _ (b h : ℕ) (lemmas : List Lemma) (i also : ℕ) (extra : List Lit) where
  weaker_at : (n : ℕ) (l : Lit) → IsAskedLiteral b h lemmas i also n extra l → IsAskedLiteral b h lemmas i also (n + 1) extra l
  weaker_at n l (inl h) = inl h
  weaker_at n l (inr (k, (lt, is), e)) = inr (k, (omega arith, is), e)

  pub asked_none : AreAsked b h lemmas i also 0 extra extra
  asked_none = record {
    own = All-contains_itself extra;
    each = λ k one. absurd (omega (arith, one.0));
    only = All-weaker (Contains extra) (IsAskedLiteral b h lemmas i also 0 extra) (λ l h. inl h) extra (All-contains_itself extra);
  }

  pub asked_push : (n : ℕ) (ls : List Lit) → is_asked h lemmas i also n ≡ true → AreAsked b h lemmas i also n extra ls →
      AreAsked b h lemmas i also (n + 1) extra (ls ++ on (b + n) ∷ [])
  asked_push n ls is asks = record {
    own = All-weaker (Contains ls) (Contains (ls ++ on (b + n) ∷ [])) (λ l. Contains-append_left ls (on (b + n) ∷ []) l) extra asks.own;
    each = λ k one.
        elim (cases_lt k n) [
          | inl below ↦ Contains-append_left ls (on (b + n) ∷ []) (on (b + k)) (asks.each k (below, one.1))
          | inr above ↦
              let e : n ≡ k = omega (arith, one.0) in
              let P : ℕ → Type 0 = λ m. Contains (ls ++ on (b + n) ∷ []) (on (b + m)) in
              subst P e (Contains-push ls (on (b + n)))
        ];
    only = All-push (IsAskedLiteral b h lemmas i also (n + 1) extra) ls (on (b + n))
        (All-weaker (IsAskedLiteral b h lemmas i also n extra) (IsAskedLiteral b h lemmas i also (n + 1) extra) (weaker_at n) ls asks.only)
        (inr (n, (omega arith, is), refl));
  }

  pub asked_skip : (n : ℕ) (ls : List Lit) → is_asked h lemmas i also n ≡ false → AreAsked b h lemmas i also n extra ls → AreAsked b h lemmas i also (n + 1) extra ls
  asked_skip n ls is asks = record {
    own = asks.own;
    each = λ k one.
        elim (cases_lt k n) [
          | inl below ↦ asks.each k (below, one.1)
          | inr above ↦
              let e : k ≡ n = omega (arith, one.0) in
              absurd (both_ways (is_asked h lemmas i also n) is (ap (is_asked h lemmas i also) (sym e) ∙ one.1))
        ];
    only = All-weaker (IsAskedLiteral b h lemmas i also n extra) (IsAskedLiteral b h lemmas i also (n + 1) extra) (weaker_at n) ls asks.only;
  }

  of_group : (n : ℕ) (l : Lit) → IsAskedLiteral b h lemmas i also n [] l → IsAskedLiteral b h lemmas i also n extra l
  of_group n l (inl here) = let lt : here.0 < 0 = here.1 in absurd (omega (arith, lt))
  of_group n l (inr group) = inr group

  -- the groups, and then the query's own literals
  pub asked_after : (n : ℕ) (ls : List Lit) → AreAsked b h lemmas i also n [] ls → AreAsked b h lemmas i also n extra (ls ++ extra)
  asked_after n ls asks = record {
    own = All-weaker (Contains extra) (Contains (ls ++ extra)) (λ l. Contains-append_right ls extra l) extra (All-contains_itself extra);
    each = λ k one. Contains-append_left ls extra (on (b + k)) (asks.each k one);
    only = All-append (IsAskedLiteral b h lemmas i also n extra) ls extra
        (All-weaker (IsAskedLiteral b h lemmas i also n []) (IsAskedLiteral b h lemmas i also n extra) (of_group n) ls asks.only)
        (All-weaker (Contains extra) (IsAskedLiteral b h lemmas i also n extra) (λ l here. inl here) extra (All-contains_itself extra));
  }

  pub answered : (s : State) (learned : List (List Lit)) (n : ℕ) (ls : List Lit) → AreAsked b h lemmas i also n extra ls → (budget : ℕ) (over : Bool) (answer : Answer) →
      AnswerSays s.vars s.given learned ls budget over answer → AskSays s b h lemmas i also n extra budget over answer
  answered s learned n ls asks budget over (Sat model) said =
      let a = assignment_of model in
      let T : Lit → Type 0 = IsTrueIn a in (
        said.0,
        said.1.0,
        (λ k one. All-contains T ls (on (b + k)) said.1.1 (asks.each k one)),
        All-weaker (Contains ls) T (λ l here. All-contains T ls l said.1.1 here) extra asks.own,
      )
  answered s learned n ls asks budget over (Unsat core) said = (
    All-weaker (Contains ls) (IsAskedLiteral b h lemmas i also n extra) (λ l here. All-contains (IsAskedLiteral b h lemmas i also n extra) ls l asks.only here) core.items said.0,
    refuted s.vars s.given learned core.items said.1,
  )
  answered s learned n ls asks budget over (Spent d budget') said = said

same_log : (b h : ℕ) (lemmas : List Lemma) (i also n : ℕ) (extra assumptions : List Lit) (old : State) (log : List Query) →
    AreAsked b h lemmas i also n extra assumptions → All (λ (q : Query). q ≡ query_of old assumptions q.learned) log →
    All (λ (q : Query). (q.own ≡ old.given) × AreAsked b h lemmas i also n extra q.assumptions) log
same_log b h lemmas i also n extra assumptions old log asks all =
    let A : List Lit → Type 0 = AreAsked b h lemmas i also n extra in
    All-weaker (λ (q : Query). q ≡ query_of old assumptions q.learned) (λ (q : Query). (q.own ≡ old.given) × A q.assumptions)
    (λ q e. (ap (λ (r : Query). r.own) e, subst A (sym (ap (λ (r : Query). r.assumptions) e)) asks)) log all

pub asked_once : (b h : ℕ) (lemmas : List Lemma) (i also n : ℕ) (extra assumptions : List Lit) (old new : State) (before after : List ℕ) →
    AreAsked b h lemmas i also n extra assumptions → PaysForOne old assumptions new before after → AsksOnce b h lemmas i also n extra old new before after
asked_once b h lemmas i also n extra assumptions old new before after asks pays =
    (pays.0, pays.1, pays.2, same_log b h lemmas i also n extra assumptions old pays.0 asks pays.3)

-- no query was asked
pub asked_nothing : (b h : ℕ) (lemmas : List Lemma) (i also n : ℕ) (extra : List Lit) (old new : State) (before after : List ℕ) →
    new.learned ≡ old.learned → after ≡ before → AsksOnce b h lemmas i also n extra old new before after
asked_nothing b h lemmas i also n extra old new before after same drawn =
    let P : List (List Lit) → Type 0 = All (Contains old.learned) in (
      [],
      log_none old.learned new.learned before after (subst P (sym same) (All-contains_itself old.learned)) drawn,
      omega arith,
      All-nil (λ (q : Query). (q.own ≡ old.given) × AreAsked b h lemmas i also n extra q.assumptions),
    )

within_at : (b h : ℕ) (lemmas : List Lemma) (i also : ℕ) (extra : List Lit) (vars n : ℕ) → b + n ≤ vars → Within vars extra → (l : Lit) →
    IsAskedLiteral b h lemmas i also n extra l → l.var < vars
within_at b h lemmas i also extra vars n fits within l (inl here) = All-contains (λ (m : Lit). m.var < vars) extra l within here
within_at b h lemmas i also extra vars n fits within l (inr (k, (lt, is), e)) =
    let v : l.var ≡ b + k = ap (λ (m : Lit). m.var) e in
    omega (arith, v)

pub asked_within : (b h : ℕ) (lemmas : List Lemma) (i also : ℕ) (extra : List Lit) (vars n : ℕ) (ls : List Lit) → b + n ≤ vars → Within vars extra →
    AreAsked b h lemmas i also n extra ls → Within vars ls
asked_within b h lemmas i also extra vars n ls fits within asks =
    All-weaker (IsAskedLiteral b h lemmas i also n extra) (λ (l : Lit). l.var < vars) (λ l is. within_at b h lemmas i also extra vars n fits within l is) ls asks.only
