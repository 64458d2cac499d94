-- The search of more lengths.
use Rattle.std.proofs.Common.{◌≡◌, ◌⊎◌, ℕ, Bool, ◌+◌, ◌<◌, ◌≤◌, List, [], ◌∷◌, ◌++◌, length, refl, sym, subst, ap, inl, inr, arith}
use Rattle.std.specs.Prelude.{map, All, Contains}
use Rattle.std.proofs.Math.ListN.{length-map}
use Rattle.std.proofs.lemmas.Bool.{cases_lt}
use Rattle.std.proofs.lemmas.List.{map-append}
use Rattle.std.proofs.lemmas.List.Elements.{All-append, All-nil, All-weaker, All-map, All-contains, All-contains_itself}
use Rattle.clause_core.specs.declared.literal.Lit.{Lit}
use Rattle.clause_core.specs.Systems.{TransitionSystem}
use Rattle.sat_core.specs.Paying.{Query, IsPaidLog}
use Rattle.sat_core.proofs.Payments.{log_join, log_none}
use Rattle.cert_make.proofs.Pairs.{pairs_join, no_pairs}
use Rattle.lasso_search.specs.declared.searched.Searched.{Searched}
use Rattle.lasso_search.specs.Lassos.{HasNoFairLasso}
use Rattle.lasso_search.specs.Paying.{IsQueryOf, PaysOne}
use Rattle.prove_ltl.specs.Lengths.{LengthQuery, IsOfLength, DifferInLength, PaysBetween, HasNoneBetween, StandsBetween, queries_of}
use Rattle.prove_ltl.specs.Searching.{Finds, LengthsSay, SearchSays, AreSearched}

abbrev of_states : ℕ → Query → LengthQuery
of_states n q = record { states = n; query = q }

queries_back : (n : ℕ) (log : List Query) → queries_of (map (of_states n) log) ≡ log
queries_back n [] = refl
queries_back n (q ∷ log) = ap (λ (qs : List Query). q ∷ qs) (queries_back n log)

-- nothing was searched
pub searched_none : (m : TransitionSystem) (first : ℕ) (known : List (List Lit)) (tickets : List ℕ) → AreSearched m first first known known tickets tickets
searched_none m first known tickets =
    record {
      log = [];
      pays = record {
        each = All-nil (IsOfLength m first first);
        apart = λ i j d lt below. absurd (omega (arith, below));
        paid = log_none known known tickets tickets (All-contains_itself known) refl;
      };
      none = λ n some le. absurd (omega (arith, some, le));
    }

-- queries for some lengths are queries for more
pub each_wider : (m : TransitionSystem) (first last low high : ℕ) (log : List LengthQuery) → low ≤ first → last ≤ high → All (IsOfLength m first last) log →
    All (IsOfLength m low high) log
each_wider m first last low high log less more each =
    All-weaker (IsOfLength m first last) (IsOfLength m low high)
    (λ q of. (let a = of.some in let b = of.within in record { some = omega (arith, a, less); within = omega (arith, b, more); asks = of.asks })) log each

pub pays_wider : (m : TransitionSystem) (first last low high : ℕ) (old new : List (List Lit)) (before after : List ℕ) (log : List LengthQuery) → low ≤ first →
    last ≤ high → PaysBetween m first last old new before after log → PaysBetween m low high old new before after log
pays_wider m first last low high old new before after log less more p =
    record { each = each_wider m first last low high log less more p.each; apart = p.apart; paid = p.paid }

-- queries for lengths that differ from those of earlier ones
pub pays_both : (m : TransitionSystem) (first last : ℕ) (old mid new : List (List Lit)) (before between after : List ℕ) (xs ys : List LengthQuery) →
    PaysBetween m first last old mid before between xs → PaysBetween m first last mid new between after ys →
    ((p q : LengthQuery) → Contains xs p → Contains ys q → DifferInLength p q) → PaysBetween m first last old new before after (xs ++ ys)
pays_both m first last old mid new before between after xs ys p q across =
    let P : List Query → Type 0 = IsPaidLog old new before after in
    let same : queries_of (xs ++ ys) ≡ queries_of xs ++ queries_of ys = map-append (λ (z : LengthQuery). z.query) xs ys in
    record {
      each = All-append (IsOfLength m first last) xs ys p.each q.each;
      apart = pairs_join DifferInLength xs ys p.apart q.apart across;
      paid = subst P (sym same) (log_join old mid new before between after (queries_of xs) (queries_of ys) p.paid q.paid);
    }

-- queries for greater lengths than those of earlier ones
pub pays_more : (m : TransitionSystem) (first k last : ℕ) (old mid new : List (List Lit)) (before between after : List ℕ) (xs ys : List LengthQuery) →
    first ≤ k → k ≤ last → PaysBetween m first k old mid before between xs → PaysBetween m k last mid new between after ys →
    PaysBetween m first last old new before after (xs ++ ys)
pays_more m first k last old mid new before between after xs ys low high p q =
    pays_both m first last old mid new before between after xs ys
    (pays_wider m first k first last old mid before between xs (omega arith) high p)
    (pays_wider m k last first last mid new between after ys low (omega arith) q)
    (λ x y here there same.
    (let a = (All-contains (IsOfLength m first k) xs x p.each here).within in
    let b = (All-contains (IsOfLength m k last) ys y q.each there).some in
    omega (arith, a, b, same)))

-- queries for shorter lengths than those of earlier ones
pub pays_less : (m : TransitionSystem) (first k last : ℕ) (old mid new : List (List Lit)) (before between after : List ℕ) (xs ys : List LengthQuery) →
    first ≤ k → k ≤ last → PaysBetween m k last old mid before between xs → PaysBetween m first k mid new between after ys →
    PaysBetween m first last old new before after (xs ++ ys)
pays_less m first k last old mid new before between after xs ys low high p q =
    pays_both m first last old mid new before between after xs ys
    (pays_wider m k last first last old mid before between xs low (omega arith) p)
    (pays_wider m first k first last mid new between after ys (omega arith) high q)
    (λ x y here there same.
    (let a = (All-contains (IsOfLength m k last) xs x p.each here).some in
    let b = (All-contains (IsOfLength m first k) ys y q.each there).within in
    omega (arith, a, b, same)))

-- at most one query was asked, for a length
module _ (m : TransitionSystem) (n : ℕ) (old new : List (List Lit)) (before after : List ℕ) (one : PaysOne m n old new before after) where
  abbrev pub added : List LengthQuery
  added = map (of_states n) one.0

  are_all : All (λ (z : LengthQuery). z.states ≡ n) added
  are_all = All-map (λ (z : LengthQuery). z.states ≡ n) (of_states n) one.0 (λ i d lt. refl)

  pub pays_one : (first last : ℕ) → first < n → n ≤ last → PaysBetween m first last old new before after added
  pays_one first last some within =
      let count : length added ≡ length one.0 = length-map one.0 (of_states n) in
      let few : length one.0 ≤ 1 = one.2 in
      let Of : Query → Type 0 = IsQueryOf m n in
      let P : List Query → Type 0 = IsPaidLog old new before after in
      record {
        each = All-map (IsOfLength m first last) (of_states n) one.0
            (All-weaker Of (λ (q : Query). IsOfLength m first last (of_states n q)) (λ q of. record { some = some; within = within; asks = of }) one.0 one.3);
        apart = no_pairs DifferInLength added (omega (arith, count, few));
        paid = subst P (sym (queries_back n one.0)) one.1;
      }

  -- it was not answered, where no length from `first` on up to `at` has a lasso, and the queries before were for these
  pub stands_after : (first at last : ℕ) (log : List LengthQuery) → All (IsOfLength m first at) log → HasNoneBetween m first at → first ≤ at → at < n → n ≤ last →
      StandsBetween m first last (log ++ added)
  stands_after first at last log each none from below inside =
      let Asked : LengthQuery → Type 0 = λ q. (q.states ≤ at) ⊎ (q.states ≡ n) in
      record {
        at = at;
        stands = n;
        from = from;
        below = below;
        inside = inside;
        none = none;
        asked = All-append Asked log added (All-weaker (IsOfLength m first at) Asked (λ q of. inl of.within) log each)
            (All-weaker (λ (z : LengthQuery). z.states ≡ n) Asked (λ q e. inr e) added are_all);
      }

-- the next length was asked for after those up to k
module _ (m : TransitionSystem) (first k : ℕ) (old mid new : List (List Lit)) (before between after : List ℕ)
    (s : AreSearched m first k old mid before between) (from : first ≤ k) (one : PaysOne m (k + 1) mid new between after) where
  abbrev pub all : List LengthQuery
  all = s.log ++ added m (k + 1) mid new between after one

  pub pays_next : (last : ℕ) → k < last → PaysBetween m first last old new before after all
  pays_next last lt =
      pays_more m first k last old mid new before between after s.log (added m (k + 1) mid new between after one) from (omega (arith, lt)) s.pays
      (pays_one m (k + 1) mid new between after one k last (omega arith) (omega (arith, lt)))

  -- it has none
  pub searched_next : HasNoFairLasso m (k + 1) → AreSearched m first (k + 1) old new before after
  searched_next none =
      record {
        log = all;
        pays = pays_next (k + 1) (omega arith);
        none = λ n some le. elim (cases_lt n (k + 1)) [
          | inl low ↦ s.none n some (omega (arith, low))
          | inr high ↦ let e : k + 1 ≡ n = omega (arith, high, le) in subst (HasNoFairLasso m) e none
        ];
      }

  -- it was not answered
  pub stands_next : (last : ℕ) → k < last → StandsBetween m first last all
  stands_next last lt =
      stands_after m (k + 1) mid new between after one first k last s.log s.pays.each s.none from (omega arith) (omega (arith, lt))

-- more lengths were searched after those up to k
module _ (m : TransitionSystem) (k high : ℕ) (known new : List (List Lit)) (before after : List ℕ) (s : AreSearched m 0 k [] known [] before) (over : Bool)
    (answer : Searched) (says : LengthsSay m k high known new before after over answer) (more : k ≤ high) where
  abbrev pub both : List LengthQuery
  both = s.log ++ says.log

  pays_further : PaysBetween m 0 high [] new [] after both
  pays_further = pays_more m 0 k high [] known new [] before after s.log says.log (omega arith) more s.pays says.pays

  pub says_further : (bound : ℕ) → high ≤ bound → Finds m 0 bound over both answer → SearchSays m bound after over answer
  says_further bound within finds =
      record { known = new; log = both; pays = pays_wider m 0 high 0 bound [] new [] after both (omega arith) within pays_further; finds = finds }

  none_further : HasNoneBetween m k high → HasNoneBetween m 0 high
  none_further none n some le = elim (cases_lt k n) [ inl later ↦ none n later le | inr early ↦ s.none n some early ]

  -- they have none
  pub searched_further : HasNoneBetween m k high → AreSearched m 0 high [] new [] after
  searched_further none = record { log = both; pays = pays_further; none = none_further none }

  -- one of them was not answered
  pub stands_further : (bound : ℕ) → high ≤ bound → StandsBetween m k high says.log → StandsBetween m 0 bound both
  stands_further bound within st =
      let from = st.from in
      let inside = st.inside in
      let Asked : LengthQuery → Type 0 = λ q. (q.states ≤ st.at) ⊎ (q.states ≡ st.stands) in
      record {
        at = st.at;
        stands = st.stands;
        from = omega arith;
        below = st.below;
        inside = omega (arith, inside, within);
        none = λ n some le. elim (cases_lt k n) [ inl later ↦ st.none n later le | inr early ↦ s.none n some early ];
        asked = All-append Asked s.log says.log
            (All-weaker (IsOfLength m 0 k) Asked (λ q of. let low = of.within in inl (omega (arith, low, from))) s.log s.pays.each) st.asked;
      }
