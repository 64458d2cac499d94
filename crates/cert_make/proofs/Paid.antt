-- The log of the queries for parts, as they are asked in their order.
use Rattle.std.proofs.Common.{◌≡◌, ℕ, ◌+◌, ◌<◌, ◌≤◌, List, [], ◌∷◌, ◌++◌, length, get_or, refl, sym, subst, ap, ◌∙◌, inl, inr, arith, length-append}
use Rattle.std.specs.Prelude.{map, All, Contains, Result, Ok, Err, IfOk}
use Rattle.std.specs.declared.alloc.AllocError.{AllocError}
use Rattle.std.proofs.Math.ListN.{get_or-append, length-map}
use Rattle.std.proofs.lemmas.Bool.{cases_lt}
use Rattle.std.proofs.lemmas.List.{map-append}
use Rattle.std.proofs.lemmas.List.Elements.{All-append, All-weaker, All-map, All-nil, All-contains}
use Rattle.std.proofs.lemmas.Option.{slice_get_within, get_or_from_slice_get}
use Rattle.clause_core.specs.declared.literal.Lit.{Lit}
use Rattle.clause_core.specs.Systems.{TransitionSystem}
use Rattle.sat_core.specs.Queries.{State}
use Rattle.sat_core.specs.Paying.{Query, IsPaidLog, PaysForOne, query_of}
use Rattle.sat_core.proofs.Payments.{log_none, log_join}
use Rattle.cert_core.specs.declared.form.Part.{Part}
use Rattle.cert_make.specs.Paying.{PartQuery, queries_of, IsWanted, part_clauses, part_literals, IsOfPart, PaysParts, IsLastIn, PaysOpen, place_of, PaysBelow, PaysOn}
use Rattle.cert_make.specs.declared.asking.Asked.{Asked}
use Rattle.cert_make.specs.declared.asking.Asked.TheVariants as asked
use Rattle.cert_make.proofs.Pairs.{pairs_join, no_pairs}

-- ---- Before all parts

pub nothing_asked : (sys : TransitionSystem) (cs : List (List Lit)) (start : List ℕ) → PaysBelow sys cs 0 [] start start
nothing_asked sys cs start =
    record {
      log = [];
      pays = record {
        each = All-nil (IsOfPart sys cs);
        apart = λ i j d lt below. absurd (omega (arith, below));
        paid = log_none [] [] start start (All-nil (Contains [])) refl;
      };
      below = All-nil (λ (a : PartQuery). place_of (length cs) a.part < 0);
    }

-- a new solver has learned nothing
pub forgets_all : (sys : TransitionSystem) (cs known : List (List Lit)) (place : ℕ) (before after : List ℕ) → PaysBelow sys cs place known before after →
    PaysBelow sys cs place [] before after
forgets_all sys cs known place before after h =
    record {
      log = h.log;
      pays = record {
        each = h.pays.each;
        apart = h.pays.apart;
        paid = record { asked = h.pays.paid.asked; known = All-nil (Contains _); drawn = h.pays.paid.drawn };
      };
      below = h.below;
    }

-- ---- One part more

abbrev by_part : Part → Query → PartQuery
by_part part q = record { part = part; query = q }

queries_back : (part : Part) (log : List Query) → queries_of (map (by_part part) log) ≡ log
queries_back part [] = refl
queries_back part (q ∷ qs) = ap (λ xs. q ∷ xs) (queries_back part qs)

module _ (sys : TransitionSystem) (cs : List (List Lit)) (part : Part) (s t : State) (assumptions : List Lit) (before after : List ℕ) (wanted : IsWanted cs part)
    (vars : s.vars ≡ sys.all_bits) (own : s.given ≡ part_clauses sys cs part) (literals : assumptions ≡ part_literals sys cs part)
    (one : PaysForOne s assumptions t before after) where
  abbrev added : List PartQuery
  added = map (by_part part) one.0

  of_part : (q : Query) → q ≡ query_of s assumptions q.learned → IsOfPart sys cs (by_part part q)
  of_part q e =
      record {
        wanted = wanted;
        vars = ap (λ (p : Query). p.vars) e ∙ vars;
        own = ap (λ (p : Query). p.own) e ∙ own;
        assumptions = ap (λ (p : Query). p.assumptions) e ∙ literals;
      }

  all_of_part : All (IsOfPart sys cs) added
  all_of_part =
      All-map (IsOfPart sys cs) (by_part part) one.0 (All-weaker (λ (q : Query). q ≡ query_of s assumptions q.learned) (λ (q : Query). IsOfPart sys cs (by_part part q)) of_part one.0 one.3)

  all_same : All (λ (a : PartQuery). a.part ≡ part) added
  all_same = All-map (λ (a : PartQuery). a.part ≡ part) (by_part part) one.0 (λ i d lt. refl)

  few : length added ≤ 1
  few = let same : length added ≡ length one.0 = length-map one.0 (by_part part) in omega (arith, one.2)

  module _ (start : List ℕ) (h : PaysBelow sys cs (place_of (length cs) part) s.learned start before) where
    not_before : (a : PartQuery) → Contains h.log a → a.part ≡ part → ⊥
    not_before a there same =
        let lt : place_of (length cs) a.part < place_of (length cs) part = All-contains (λ (b : PartQuery). place_of (length cs) b.part < place_of (length cs) part) h.log a h.below there in
        let e : place_of (length cs) a.part ≡ place_of (length cs) part = ap (place_of (length cs)) same in
        omega (arith, lt, e)

    pays_both : PaysParts sys cs t.learned start after (h.log ++ added)
    pays_both =
        let P : List Query → Type 0 = IsPaidLog [] t.learned start after in
        let paid = log_join [] s.learned t.learned start before after (queries_of h.log) one.0 h.pays.paid one.1 in
        record {
          each = All-append (IsOfPart sys cs) h.log added h.pays.each all_of_part;
          apart = pairs_join (λ (p q : PartQuery). p.part ≡ q.part → ⊥) h.log added h.pays.apart (no_pairs (λ (p q : PartQuery). p.part ≡ q.part → ⊥) added few)
              (λ p q here there e. not_before p here (e ∙ All-contains (λ (a : PartQuery). a.part ≡ part) added q all_same there));
          paid = subst P (sym (map-append (λ (a : PartQuery). a.query) h.log added ∙ ap (λ (qs : List Query). queries_of h.log ++ qs) (queries_back part one.0))) paid;
        }

    -- the part was answered
    pub pays_more : PaysBelow sys cs (place_of (length cs) part + 1) t.learned start after
    pays_more =
        let n = length cs in
        let at = place_of n part in
        record {
          log = h.log ++ added;
          pays = pays_both;
          below = All-append (λ (a : PartQuery). place_of n a.part < at + 1) h.log added
              (All-weaker (λ (a : PartQuery). place_of n a.part < at) (λ (a : PartQuery). place_of n a.part < at + 1) (λ a lt. omega (arith, lt)) h.log h.below)
              (All-weaker (λ (a : PartQuery). a.part ≡ part) (λ (a : PartQuery). place_of n a.part < at + 1)
              (λ a e. (let same : place_of n a.part ≡ at = ap (place_of n) e in omega (arith, same))) added all_same);
        }

    last_in : IsLastIn (h.log ++ added) part
    last_in i a is same =
        let long = length-append h.log added in
        let lt : i < length (h.log ++ added) = slice_get_within (h.log ++ added) i a is in
        elim (cases_lt i (length h.log)) [
          | inl early ↦
              let here : get_or h.log i a ≡ a = sym (get_or-append h.log added a i early) ∙ get_or_from_slice_get (h.log ++ added) i a a is in
              absurd (not_before a (i, early, here) same)
          | inr late ↦ omega (arith, few, lt, late, long)
        ]

    -- the purse was spent
    pub pays_open : PaysOpen sys cs start after
    pays_open = (
      h.log ++ added,
      record {
        each = pays_both.each;
        apart = pays_both.apart;
        paid = record { asked = pays_both.paid.asked; known = All-nil (Contains _); drawn = pays_both.paid.drawn };
      },
      record { part = part; wanted = wanted; last = last_in },
    )

-- the same at equal places
pub at_place : (sys : TransitionSystem) (cs known : List (List Lit)) (i j : ℕ) (start after : List ℕ) → i ≡ j → PaysBelow sys cs i known start after →
    PaysBelow sys cs j known start after
at_place sys cs known i j start after e h = let P : ℕ → Type 0 = λ n. PaysBelow sys cs n known start after in subst P e h

-- a solver that has just been given its clauses
pub starts_new : (sys : TransitionSystem) (cs given : List (List Lit)) (i : ℕ) (s : State) (start after : List ℕ) → s ≡ record { vars = sys.all_bits; given = given; learned = [] } →
    PaysBelow sys cs i [] start after → PaysBelow sys cs i s.learned start after
starts_new sys cs given i s start after e h =
    let P : List (List Lit) → Type 0 = λ known. PaysBelow sys cs i known start after in
    subst P (sym (ap (λ (t : State). t.learned) e)) h

-- the only part that a new solver is asked for, whatever it answers
pub pays_alone : (sys : TransitionSystem) (cs given : List (List Lit)) (part : Part) (s t : State) (assumptions : List Lit) (before after : List ℕ) → IsWanted cs part →
    s ≡ record { vars = sys.all_bits; given = given; learned = [] } → given ≡ part_clauses sys cs part → assumptions ≡ part_literals sys cs part →
    PaysForOne s assumptions t before after → (r : Result Asked AllocError) →
    IfOk r (PaysOn sys cs (place_of (length cs) part) (place_of (length cs) part + 1) [] [] before after)
pays_alone sys cs given part s t assumptions before after wanted fresh own literals one (Ok asked.Refuted) = λ start h.
    forgets_all sys cs t.learned (place_of (length cs) part + 1) start after
    (pays_more sys cs part s t assumptions before after wanted (ap (λ (u : State). u.vars) fresh) (ap (λ (u : State). u.given) fresh ∙ own) literals one start
    (starts_new sys cs given (place_of (length cs) part) s start before fresh h))
pays_alone sys cs given part s t assumptions before after wanted fresh own literals one (Ok (asked.Spent d b)) = λ start h.
    pays_open sys cs part s t assumptions before after wanted (ap (λ (u : State). u.vars) fresh) (ap (λ (u : State). u.given) fresh ∙ own) literals one start
    (starts_new sys cs given (place_of (length cs) part) s start before fresh h)
pays_alone sys cs given part s t assumptions before after wanted fresh own literals one (Err e) = tt
