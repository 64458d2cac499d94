-- Tickets, and the log of the queries that they paid for.
use Rattle.std.proofs.Common.{◌≡◌, ℕ, ◌≤◌, ◌+◌, List, Bool, [], ◌∷◌, ◌++◌, length, take, get_or, refl, sym, subst, ap, ◌∙◌, inl, inr, arith, length-append, append_assoc, append-nil}
use Rattle.std.specs.List.{All, Contains}
use Rattle.std.proofs.Math.Seq.{get_or-append_seam, take-append_seam}
use Rattle.std.proofs.lemmas.Bool.{cases_lt}
use Rattle.std.proofs.lemmas.List.{get_or_append_left, take-append-le, take_all}
use Rattle.std.proofs.lemmas.List.Elements.{All-append, All-weaker, All-contains, All-contains_itself, All-nil, All-cons, All-take}
use Rattle.clause_core.specs.declared.literal.Lit.{Lit}
use Rattle.sat_core.specs.Queries.{State, IsLearned, Draws, given_of, learned_of, state_of}
use Rattle.sat_core.specs.Searching.{GrowsByLearning, PaidFor, PaysInTurn}
use Rattle.sat_core.specs.Paying.{Query, query_of, LearnedInTurn, learned_in, tickets_in, AreAsked, IsPaidLog, PaysForLearned, PaysForOne}
use Rattle.sat_core.proofs.Origins.{learned_append, both_in, covered}
use Rattle.sat_core.proofs.Results.{learned_same, sub_both, sub_left, sub_right, draws_query}

-- one clause more
pub turn_more : (vars : ℕ) (assumptions : List Lit) (old xs : List (List Lit)) (c : List Lit) → LearnedInTurn vars assumptions old xs →
    IsLearned vars assumptions (old ++ xs) c → LearnedInTurn vars assumptions old (xs ++ c ∷ [])
turn_more vars assumptions old xs c each step k lk =
    elim (cases_lt k (length xs)) [
      | inl lt ↦
          let e : get_or (xs ++ c ∷ []) k [] ≡ get_or xs k [] = get_or_append_left xs (c ∷ []) [] k lt in
          let f : take k (xs ++ c ∷ []) ≡ take k xs = take-append-le k xs (c ∷ []) (omega arith) in
          let P : List Lit → Type 0 = λ x. IsLearned vars assumptions (old ++ take k (xs ++ c ∷ [])) x in
          let Q : List (List Lit) → Type 0 = λ ys. IsLearned vars assumptions (old ++ ys) (get_or xs k []) in
          subst P (sym e) (subst Q (sym f) (each k lt))
      | inr ge ↦
          let last : k ≡ length xs = omega (arith, lk, length-append xs (c ∷ [])) in
          let e : get_or (xs ++ c ∷ []) k [] ≡ c = rw last (get_or-append_seam xs c [] []) in
          let f : take k (xs ++ c ∷ []) ≡ xs = rw last (take-append_seam xs (c ∷ [])) in
          let P : List Lit → Type 0 = λ x. IsLearned vars assumptions (old ++ take k (xs ++ c ∷ [])) x in
          let Q : List (List Lit) → Type 0 = λ ys. IsLearned vars assumptions (old ++ ys) c in
          subst P (sym e) (subst Q (sym f) step)
    ]

-- what was learned was kept and paid for
pub turn_paid : (vars : ℕ) (assumptions : List Lit) (old cs cs' : List (List Lit)) (before mid after : List ℕ) → GrowsByLearning vars assumptions old cs →
    PaidFor before mid old cs → cs' ≡ cs → after ≡ mid → PaysInTurn vars assumptions old cs' before after
turn_paid vars assumptions old cs cs' before mid after h paid same drawn =
    let xs = h.0 in
    let all : take (length xs) xs ≡ xs = take_all (length xs) xs (omega arith) in (
      xs,
      length xs,
      h.2,
      same ∙ h.1 ∙ ap (λ ys. old ++ ys) (sym all),
      (paid.0, drawn ∙ paid.1, omega (arith, paid.2, ap length h.1, length-append old xs)),
    )

-- one clause more was learned and paid for, and not kept
pub turn_lost : (vars : ℕ) (assumptions : List Lit) (old cs cs' : List (List Lit)) (before mid after : List ℕ) (n : ℕ) (c : List Lit) →
    GrowsByLearning vars assumptions old cs → PaidFor before mid old cs → IsLearned vars assumptions cs c → cs' ≡ cs → after ≡ mid ++ n ∷ [] →
    PaysInTurn vars assumptions old cs' before after
turn_lost vars assumptions old cs cs' before mid after n c h paid step same drawn =
    let xs = h.0 in
    let L : List (List Lit) → Type 0 = λ ys. IsLearned vars assumptions ys c in (
      xs ++ c ∷ [],
      length xs,
      turn_more vars assumptions old xs c h.2 (subst L h.1 step),
      same ∙ h.1 ∙ ap (λ ys. old ++ ys) (sym (take-append_seam xs (c ∷ []))),
      (
        paid.0 ++ n ∷ [],
        drawn ∙ ap (λ ys. ys ++ n ∷ []) paid.1 ∙ append_assoc before paid.0 (n ∷ []),
        omega (arith, paid.2, ap length h.1, length-append old xs, length-append paid.0 (n ∷ []), length-append xs (c ∷ [])),
      ),
    )

-- nothing was learned
pub turn_none : (vars : ℕ) (assumptions : List Lit) (old new : List (List Lit)) (before after : List ℕ) → new ≡ old → after ≡ before →
    PaysInTurn vars assumptions old new before after
turn_none vars assumptions old new before after same drawn =
    ([], 0, λ k lk. absurd (omega (arith, lk)), same ∙ sym (append-nil old), ([], drawn ∙ sym (append-nil before), refl))

-- as the query of a state
pub pays_learned : (vars vars' : ℕ) (marks : List Bool) (cs cs' : List (List Lit)) (assumptions : List Lit) (before after : List ℕ) → length marks ≤ length cs →
    PaysInTurn vars assumptions cs cs' before after → PaysForLearned (state_of vars marks cs) assumptions (state_of vars' marks cs') before after
pays_learned vars vars' marks cs cs' assumptions before after known h =
    let xs = h.0 in
    let kept = take h.1 xs in
    let ls = learned_of marks cs in
    let both = given_of marks cs ++ ls in
    let el : learned_of marks cs' ≡ ls ++ kept = ap (learned_of marks) h.3 ∙ learned_append marks cs kept known in
    let part : All (Contains (ls ++ xs)) (ls ++ kept) =
    All-append (Contains (ls ++ xs)) ls kept (sub_left ls xs) (All-take (Contains (ls ++ xs)) h.1 xs (sub_right ls xs)) in
    let P : List (List Lit) → Type 0 = All (Contains (ls ++ xs)) in (
      xs,
      λ k lk. learned_same vars assumptions (cs ++ take k xs) (both ++ take k xs) (get_or xs k [])
          (sub_both cs both (take k xs) (covered marks cs)) (sub_both both cs (take k xs) (both_in marks cs)) (h.2 k lk),
      subst P (sym el) part,
      h.4,
    )

-- the log of no query
pub log_none : (old new : List (List Lit)) (before after : List ℕ) → All (Contains old) new → after ≡ before → IsPaidLog old new before after []
log_none old new before after sub drawn =
    let P : List (List Lit) → Type 0 = λ ys. All (Contains ys) new in
    record { asked = tt; known = subst P (sym (append-nil old)) sub; drawn = ([], drawn ∙ sym (append-nil before), refl) }

-- no query was asked
pub pays_nothing : (s t : State) (assumptions : List Lit) (before after : List ℕ) → t.learned ≡ s.learned → after ≡ before →
    PaysForOne s assumptions t before after
pays_nothing s t assumptions before after same drawn =
    let P : List (List Lit) → Type 0 = All (Contains s.learned) in
    ([], log_none s.learned t.learned before after (subst P (sym same) (All-contains_itself s.learned)) drawn, omega arith, All-nil (λ (q : Query). q ≡ query_of s assumptions q.learned))

-- one query was asked
pub pays_query : (s t : State) (assumptions : List Lit) (before mid after : List ℕ) (n : ℕ) → mid ≡ before ++ n ∷ [] →
    PaysForLearned s assumptions t mid after → PaysForOne s assumptions t before after
pays_query s t assumptions before mid after n first h =
    let xs = h.0 in
    let q = query_of s assumptions xs in
    let all : xs ++ [] ≡ xs = append-nil xs in
    let P : List (List Lit) → Type 0 = λ ys. All (Contains (s.learned ++ ys)) t.learned in
    let D : ℕ → Type 0 = Draws before after in (
      q ∷ [],
      record {
        asked = (h.1, All-contains_itself s.learned, tt);
        known = subst P (sym all) h.2;
        drawn = subst D (omega arith) (draws_query before mid after n (length xs) first h.3);
      },
      omega arith,
      All-cons (λ (p : Query). p ≡ query_of s assumptions p.learned) q [] refl (All-nil (λ (p : Query). p ≡ query_of s assumptions p.learned)),
    )

-- two logs, one after the other
pub learned_join : (ps qs : List Query) → learned_in (ps ++ qs) ≡ learned_in ps ++ learned_in qs
learned_join [] qs = refl
learned_join (p ∷ ps) qs = ap (λ xs. p.learned ++ xs) (learned_join ps qs) ∙ sym (append_assoc p.learned (learned_in ps) (learned_in qs))

pub tickets_join : (ps qs : List Query) → tickets_in (ps ++ qs) ≡ tickets_in ps + tickets_in qs
tickets_join [] qs = omega arith
tickets_join (p ∷ ps) qs = omega (arith, tickets_join ps qs)

pub asked_more : (known more : List (List Lit)) (qs : List Query) → All (Contains more) known → AreAsked known qs → AreAsked more qs
asked_more known more [] sub h = tt
asked_more known more (q ∷ qs) sub h = (
  h.0,
  All-weaker (Contains known) (Contains more) (λ x here. All-contains (Contains more) known x sub here) q.earlier h.1,
  asked_more (known ++ q.learned) (more ++ q.learned) qs (sub_both known more q.learned sub) h.2,
)

pub asked_join : (known : List (List Lit)) (ps qs : List Query) → AreAsked known ps → AreAsked (known ++ learned_in ps) qs → AreAsked known (ps ++ qs)
asked_join known [] qs h k = let P : List (List Lit) → Type 0 = λ xs. AreAsked xs qs in subst P (append-nil known) k
asked_join known (p ∷ ps) qs h k =
    let P : List (List Lit) → Type 0 = λ xs. AreAsked xs qs in
    (h.0, h.1, asked_join (known ++ p.learned) ps qs h.2 (subst P (sym (append_assoc known p.learned (learned_in ps))) k))

pub log_join : (a b c : List (List Lit)) (x y z : List ℕ) (ps qs : List Query) → IsPaidLog a b x y ps → IsPaidLog b c y z qs → IsPaidLog a c x z (ps ++ qs)
log_join a b c x y z ps qs f s =
    let middle : All (Contains ((a ++ learned_in ps) ++ learned_in qs)) (b ++ learned_in qs) = sub_both b (a ++ learned_in ps) (learned_in qs) f.known in
    let e : (a ++ learned_in ps) ++ learned_in qs ≡ a ++ learned_in (ps ++ qs) =
    append_assoc a (learned_in ps) (learned_in qs) ∙ ap (λ xs. a ++ xs) (sym (learned_join ps qs)) in
    let end : All (Contains ((a ++ learned_in ps) ++ learned_in qs)) c =
    All-weaker (Contains (b ++ learned_in qs)) (Contains ((a ++ learned_in ps) ++ learned_in qs))
    (λ d here. All-contains (Contains ((a ++ learned_in ps) ++ learned_in qs)) (b ++ learned_in qs) d middle here) c s.known in
    let P : List (List Lit) → Type 0 = λ xs. All (Contains xs) c in
    record {
      asked = asked_join a ps qs f.asked (asked_more b (a ++ learned_in ps) qs f.known s.asked);
      known = subst P e end;
      drawn = (
        f.drawn.0 ++ s.drawn.0,
        s.drawn.1 ∙ ap (λ xs. xs ++ s.drawn.0) f.drawn.1 ∙ append_assoc x f.drawn.0 s.drawn.0,
        omega (arith, f.drawn.2, s.drawn.2, tickets_join ps qs, length-append f.drawn.0 s.drawn.0),
      );
    }
