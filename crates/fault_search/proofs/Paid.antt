-- The log of the queries about items, as they are asked in their order.
use Rattle.std.proofs.Common.{◌≡◌, ℕ, ◌+◌, ◌<◌, ◌≤◌, List, [], ◌∷◌, ◌++◌, Option, None, Some, length, sym, subst, ap, refl, ◌∙◌, arith}
use Rattle.std.specs.Prelude.{map, All, Contains, IsSome, slice_get}
use Rattle.std.proofs.Math.ListN.{length-map}
use Rattle.std.proofs.lemmas.List.{map-append}
use Rattle.std.proofs.lemmas.List.Elements.{All-append, All-weaker, All-map, All-nil, All-contains}
use Rattle.clause_core.specs.declared.literal.Lit.{Lit}
use Rattle.bit_clauses.specs.declared.deciding.Decided.{Decided}
use Rattle.sat_core.specs.Queries.{State}
use Rattle.sat_core.specs.Paying.{Query, IsPaidLog, PaysForOne, learned_in}
use Rattle.sat_core.proofs.Payments.{log_none, log_join}
use Rattle.sound_check.specs.Questions.{AreNeverMetBelow}
use Rattle.fault_search.specs.Paying.{ItemQuery, queries_of, query_about, IsOfItem, PaysSome, PaysOpen, PaysQuestion, PaysBelow}
use Rattle.fault_search.proofs.Pairs.{pairs_one_more}

-- ---- One question

-- what a new solver of the question's clauses was asked, is the question
pub pays_fresh : (d : Decided) (s t : State) (before after : List ℕ) → s ≡ record { vars = d.vars; given = d.clauses; learned = [] } → PaysForOne s [] t before after →
    PaysQuestion (Some d) before after
pays_fresh d s t before after fresh one =
    let P : State → Type 0 = λ w. PaysForOne w [] t before after in
    let h = subst P fresh one in
    let none : List (List Lit) = [] in (
      h.0,
      record { asked = h.1.asked; known = All-nil (Contains (none ++ learned_in h.0)); drawn = h.1.drawn },
      h.2,
      h.3,
    )

-- nothing was asked
pub pays_nothing : (q : Option Decided) (before : List ℕ) → PaysQuestion q before before
pays_nothing None before = refl
pays_nothing (Some d) before = ([], log_none [] [] before before (All-nil (Contains [])) refl, omega arith, All-nil (λ (q : Query). q ≡ query_about d q.learned))

-- ---- Before all items

pub nothing_asked : (questions : List (Option Decided)) (start : List ℕ) → PaysBelow questions 0 start start
nothing_asked questions start =
    record {
      log = [];
      pays = record {
        each = All-nil (IsOfItem questions);
        in_order = λ i j d lt below. absurd (omega (arith, below));
        paid = log_none [] [] start start (All-nil (Contains [])) refl;
      };
      below = All-nil (λ (a : ItemQuery). a.item < 0);
    }

-- ---- One item more

abbrev about : ℕ → Query → ItemQuery
about item q = record { item = item; query = q }

queries_back : (item : ℕ) (log : List Query) → queries_of (map (about item) log) ≡ log
queries_back item [] = refl
queries_back item (q ∷ qs) = ap (λ xs. q ∷ xs) (queries_back item qs)

below_more : (n : ℕ) (log : List ItemQuery) → All (λ (a : ItemQuery). a.item < n) log → All (λ (a : ItemQuery). a.item < n + 1) log
below_more n log h = All-weaker (λ (a : ItemQuery). a.item < n) (λ (a : ItemQuery). a.item < n + 1) (λ a lt. omega (arith, lt)) log h

module _ (questions : List (Option Decided)) (n : ℕ) (d : Decided) (start before after : List ℕ) (here : slice_get questions n ≡ Some (Some d))
    (one : PaysQuestion (Some d) before after) (h : PaysBelow questions n start before) where
  abbrev added : List ItemQuery
  added = map (about n) one.0

  all_of_item : All (IsOfItem questions) added
  all_of_item =
      All-map (IsOfItem questions) (about n) one.0
      (All-weaker (λ (q : Query). q ≡ query_about d q.learned) (λ (q : Query). IsOfItem questions (about n q)) (λ q e. record { question = d; asked = here; query = e }) one.0 one.3)

  all_here : All (λ (a : ItemQuery). a.item ≡ n) added
  all_here = All-map (λ (a : ItemQuery). a.item ≡ n) (about n) one.0 (λ i x lt. refl)

  few : length added ≤ 1
  few = let same : length added ≡ length one.0 = length-map one.0 (about n) in omega (arith, one.2)

  across : (a b : ItemQuery) → Contains h.log a → Contains added b → a.item < b.item
  across a b first second =
      let lt : a.item < n = All-contains (λ (x : ItemQuery). x.item < n) h.log a h.below first in
      let e : b.item ≡ n = All-contains (λ (x : ItemQuery). x.item ≡ n) added b all_here second in
      omega (arith, lt, e)

  paid_both : IsPaidLog [] [] start after (queries_of (h.log ++ added))
  paid_both =
      let P : List Query → Type 0 = IsPaidLog [] [] start after in
      let same : queries_of (h.log ++ added) ≡ queries_of h.log ++ one.0 =
      map-append (λ (a : ItemQuery). a.query) h.log added ∙ ap (λ (qs : List Query). queries_of h.log ++ qs) (queries_back n one.0) in
      subst P (sym same) (log_join [] [] [] start before after (queries_of h.log) one.0 h.pays.paid one.1)

  pub asked_more : PaysBelow questions (n + 1) start after
  asked_more =
      record {
        log = h.log ++ added;
        pays = record {
          each = All-append (IsOfItem questions) h.log added h.pays.each all_of_item;
          in_order = pairs_one_more (λ (a b : ItemQuery). a.item < b.item) h.log added h.pays.in_order few across;
          paid = paid_both;
        };
        below = All-append (λ (a : ItemQuery). a.item < n + 1) h.log added (below_more n h.log h.below)
            (All-weaker (λ (a : ItemQuery). a.item ≡ n) (λ (a : ItemQuery). a.item < n + 1) (λ a e. omega (arith, e)) added all_here);
      }

nothing_more : (questions : List (Option Decided)) (n : ℕ) (start before after : List ℕ) → after ≡ before → PaysBelow questions n start before → PaysBelow questions (n + 1) start after
nothing_more questions n start before after same h =
    let P : List ℕ → Type 0 = PaysBelow questions (n + 1) start in
    subst P (sym same) (record { log = h.log; pays = h.pays; below = below_more n h.log h.below })

-- after one item more, asked about or not
pub pays_more : (questions : List (Option Decided)) (n : ℕ) (q : Option Decided) (start before after : List ℕ) → slice_get questions n ≡ Some q → PaysQuestion q before after →
    PaysBelow questions n start before → PaysBelow questions (n + 1) start after
pays_more questions n None start before after here one h = nothing_more questions n start before after one h
pays_more questions n (Some d) start before after here one h = asked_more questions n d start before after here one h

pub pays_some : (questions : List (Option Decided)) (n : ℕ) (start after : List ℕ) → PaysBelow questions n start after → PaysSome questions start after
pays_some questions n start after h = (h.log, h.pays)

-- this item was not answered
open_at : (questions : List (Option Decided)) (n : ℕ) (d : Decided) (start after : List ℕ) → slice_get questions n ≡ Some (Some d) → AreNeverMetBelow questions n →
    PaysBelow questions (n + 1) start after → PaysOpen questions start after
open_at questions n d start after here never h = (
  h.log,
  h.pays,
  record {
    item = n;
    question = d;
    asked = here;
    before = never;
    until = All-weaker (λ (a : ItemQuery). a.item < n + 1) (λ (a : ItemQuery). a.item ≤ n) (λ a lt. omega (arith, lt)) h.log h.below;
  },
)

pub pays_open : (questions : List (Option Decided)) (n : ℕ) (q : Option Decided) (start after : List ℕ) → slice_get questions n ≡ Some q → IsSome q → AreNeverMetBelow questions n →
    PaysBelow questions (n + 1) start after → PaysOpen questions start after
pays_open questions n None start after here some never h = absurd (let clash : ⊥ = cc in clash)
pays_open questions n (Some d) start after here some never h = open_at questions n d start after here never h
