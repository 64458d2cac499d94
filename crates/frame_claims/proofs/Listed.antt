-- Lists of queries, as the history goes on and as workers meet.
use Rattle.std.proofs.Common.{◌≡◌, ℕ, ◌+◌, ◌<◌, ◌≤◌, true, List, [], ◌∷◌, ◌++◌, length, take, refl, sym, subst, ap, ◌∙◌, inl, inr, arith, length-append, get_or, append_assoc}
use Rattle.std.specs.Prelude.{Option, Some, slice_get, map, All, AllPairs, Contains}
use Rattle.std.proofs.lemmas.Bool.{cases_eq, cases_lt}
use Rattle.std.proofs.lemmas.Option.{slice_get_within, slice_get_read, get_or_from_slice_get}
use Rattle.std.proofs.lemmas.List.{append-nil, map-append, length-take-le, get_or-take, take-take}
use Rattle.std.proofs.lemmas.List.Elements.{All-nil, All-cons, All-append, All-weaker, All-contains, All-map}
use Rattle.clause_core.specs.declared.literal.Lit.{Lit}
use Rattle.sat_core.specs.Paying.{Query, IsPaidLog, tickets_in}
use Rattle.sat_core.proofs.Payments.{log_join, log_none, tickets_join}
use Rattle.frame_history.specs.declared.entries.Limits.{Limits}
use Rattle.frame_history.specs.declared.entries.Subject.{Subject}
use Rattle.frame_history.specs.declared.entries.Made.{Made}
use Rattle.frame_history.specs.declared.entries.Entry.{Entry}
use Rattle.frame_history.specs.declared.entries.Entry.TheVariants.{Claim}
use Rattle.frame_history.specs.History.{BookState, replay, claim_at, IsLawful}
use Rattle.frame_solver.specs.Paying.{AskedQuery, IsQueryOf, Pays, AllDiffer, queries_of}
use Rattle.frame_claims.specs.Apart.{VoidsAreOld}
use Rattle.frame_claims.specs.Lists.{all_of, DifferInClaim, IsOfWorkers, IsPaidList, IsPaidFor, ArePaidLists, ArePaid}
use Rattle.frame_claims.specs.Paying.{ClaimQuery, Key, MayAsk, HasKey, IsOfClaim, DifferInKey, queries_in}
use Rattle.frame_claims.specs.Paying.{before as state_before}
use Rattle.frame_claims.proofs.Claimed.{made_by, claims_each}
use Rattle.frame_claims.proofs.Histories.{lawful_at}
use Rattle.frame_claims.proofs.Paid.{by_claim, claim_below, from_map, its_entry, its_state, map_map, still_of}
use Rattle.frame_claims.proofs.Pairs.{pairs_join, pairs_map}

-- ---- Lists one after another

pub all_of-append : (xs ys : List (List ClaimQuery)) → all_of (xs ++ ys) ≡ all_of xs ++ all_of ys
all_of-append [] ys = refl
all_of-append (x ∷ xs) ys = ap (λ (z : List ClaimQuery). x ++ z) (all_of-append xs ys) ∙ sym (append_assoc x (all_of xs) (all_of ys))

-- a list behind the others
pub all_of-last : (xs : List (List ClaimQuery)) (y : List ClaimQuery) → all_of (xs ++ y ∷ []) ≡ all_of xs ++ y
all_of-last xs y = all_of-append xs (y ∷ []) ∙ ap (λ (z : List ClaimQuery). all_of xs ++ z) (append-nil y)

queries_join : (ps qs : List ClaimQuery) → queries_in (ps ++ qs) ≡ queries_in ps ++ queries_in qs
queries_join ps qs = map-append (λ (q : ClaimQuery). q.asked.query) ps qs

tickets_both : (ps qs : List ClaimQuery) → tickets_in (queries_in (ps ++ qs)) ≡ tickets_in (queries_in ps) + tickets_in (queries_in qs)
tickets_both ps qs = ap tickets_in (queries_join ps qs) ∙ tickets_join (queries_in ps) (queries_in qs)

-- ---- Nothing was asked

pub list_none : (known : List (List Lit)) → known ≡ [] → IsPaidList known []
list_none known none =
    record { mine = []; paid = subst (λ (z : List (List Lit)). IsPaidLog [] z [] [] []) (sym none) (log_none [] [] [] [] (All-nil (Contains [])) refl) }

pub lists_none : (first : BookState) (history : List Entry) (from count : ℕ) (known : List (List Lit)) (drawn : ℕ) → known ≡ [] → drawn ≡ 0 →
    ArePaidLists first history from count known drawn [] []
lists_none first history from count known drawn none no_ticket =
    record {
      each = All-nil (IsOfWorkers first history from count);
      apart = λ i j d lt below. absurd (omega (arith, below));
      own_paid = list_none known none;
      others_paid = All-nil IsPaidFor;
      tickets = sym no_ticket;
    }

-- ---- More of the history is seen

still_workers : (first : BookState) (h es : List Entry) (from count : ℕ) (q : ClaimQuery) → IsOfWorkers first h from count q →
    IsOfWorkers first (h ++ es) from count q
unfolding still_of
still_workers first h es from count q w = record { of = still_of first h es q w.of; least = w.least; most = w.most }

pub lists_on : (first : BookState) (h es : List Entry) (from count : ℕ) (known : List (List Lit)) (drawn : ℕ) (own : List ClaimQuery)
    (others : List (List ClaimQuery)) → ArePaidLists first h from count known drawn own others →
    ArePaidLists first (h ++ es) from count known drawn own others
lists_on first h es from count known drawn own others l =
    record {
      each = All-weaker (IsOfWorkers first h from count) (IsOfWorkers first (h ++ es) from count) (still_workers first h es from count) (all_of others ++ own) l.each;
      apart = l.apart;
      own_paid = l.own_paid;
      others_paid = l.others_paid;
      tickets = l.tickets;
    }

-- ---- One claim more

-- a list goes on with what its solver was asked
list_more : (known later : List (List Lit)) (before after : List ℕ) (own : List ClaimQuery) (n : ℕ) (asked : List AskedQuery) → IsPaidList known own →
    IsPaidLog known later before after (queries_of asked) → IsPaidList later (own ++ map (by_claim n) asked)
list_more known later before after own n asked l paid =
    let more : List ℕ = paid.drawn.0 in
    let added : List ClaimQuery = map (by_claim n) asked in
    let next : IsPaidLog known later l.mine (l.mine ++ more) (queries_of asked) =
    record { asked = paid.asked; known = paid.known; drawn = (more, refl, paid.drawn.2) } in
    let both : IsPaidLog [] later [] (l.mine ++ more) (queries_in own ++ queries_of asked) =
    log_join [] known later [] l.mine (l.mine ++ more) (queries_in own) (queries_of asked) l.paid next in
    let same : queries_in (own ++ added) ≡ queries_in own ++ queries_of asked =
    queries_join own added ∙ ap (λ (qs : List Query). queries_in own ++ qs) (map_map n asked) in
    record { mine = l.mine ++ more; paid = subst (IsPaidLog [] later [] (l.mine ++ more)) (sym same) both }

pub lists_more : (first : BookState) (h : List Entry) (from count : ℕ) (u : Subject) (level : ℕ) (known later : List (List Lit)) (before after : List ℕ)
    (own : List ClaimQuery) (others : List (List ClaimQuery)) (asked : List AskedQuery) → 0 < count →
    ArePaidLists first h from count known (length before) own others →
    Pays (replay first h).frames.systems (replay first h).frames.lemmas known later before after asked → AllDiffer asked →
    All (λ (a : AskedQuery). MayAsk (replay first h).frames u level a.question) asked →
    ArePaidLists first (h ++ Claim from u level ∷ []) from count later (length after) (own ++ map (by_claim (length h)) asked) others
lists_more first h from count u level known later before after own others asked some l pays differ may =
    let e : Entry = Claim from u level in
    let n : ℕ = length h in
    let H : List Entry = h ++ e ∷ [] in
    let old : List ClaimQuery = all_of others ++ own in
    let added : List ClaimQuery = map (by_claim n) asked in
    let whole : old ++ added ≡ all_of others ++ (own ++ added) = append_assoc (all_of others) own added in
    let Of : AskedQuery → Type 0 = λ a. IsOfWorkers first H from count (by_claim n a) in
    let same : state_before first H n ≡ replay first h = its_state first h (e ∷ []) in
    let each_new : All Of asked = λ i d lt.
    (let a : AskedQuery = get_or asked i d in
    record {
      of = record {
        worker = from;
        subject = u;
        level = level;
        there = its_entry h [] e;
        may = subst (λ (z : BookState). MayAsk z.frames u level a.question) (sym same) (may i d lt);
        query = subst (λ (z : BookState). IsQueryOf z.frames.systems z.frames.lemmas a.question a.query) (sym same) (pays.each i d lt);
      };
      least = omega arith;
      most = omega arith;
    }) in
    let each_old : All (IsOfWorkers first H from count) old =
    All-weaker (IsOfWorkers first h from count) (IsOfWorkers first H from count) (still_workers first h (e ∷ []) from count) old l.each in
    let each_both : All (IsOfWorkers first H from count) (old ++ added) =
    All-append (IsOfWorkers first H from count) old added each_old (All-map (IsOfWorkers first H from count) (by_claim n) asked each_new) in
    let apart_new : AllPairs DifferInClaim added = pairs_map DifferInClaim (by_claim n) asked (λ i j d lt below one. differ i j d lt below) in
    let apart_both : AllPairs DifferInClaim (old ++ added) = pairs_join DifferInClaim old added l.apart apart_new
    (λ p q in_old in_new.
    let w = All-contains (IsOfWorkers first h from count) old p l.each in_old in
    let lt : p.claim < n = claim_below first h p w.of in
    from_map (DifferInClaim p) n asked (λ a one. absurd (omega (arith, lt))) q in_new) in
    let paid = pays.paid in
    let cost : tickets_in (queries_in added) ≡ length paid.drawn.0 = ap tickets_in (map_map n asked) ∙ sym paid.drawn.2 in
    let long : length after ≡ length before + length paid.drawn.0 = ap (λ (z : List ℕ). length z) paid.drawn.1 ∙ length-append before paid.drawn.0 in
    let was = l.tickets in
    let sum = tickets_both old added in
    let all : tickets_in (queries_in (old ++ added)) ≡ length after = omega (arith, sum, was, cost, long) in
    record {
      each = subst (All (IsOfWorkers first H from count)) whole each_both;
      apart = subst (AllPairs DifferInClaim) whole apart_both;
      own_paid = list_more known later before after own n asked l.own_paid paid;
      others_paid = l.others_paid;
      tickets = subst (λ (z : List ClaimQuery). tickets_in (queries_in z) ≡ length after) whole all;
    }

-- ---- Workers meet

wider : (first : BookState) (h : List Entry) (from count least more : ℕ) → least ≤ from → from + count ≤ least + more → (q : ClaimQuery) →
    IsOfWorkers first h from count q → IsOfWorkers first h least more q
wider first h from count least more low high q w =
    record { of = w.of; least = (let a = w.least in omega (arith, low)); most = (let b = w.most in omega (arith, high)) }

same_worker : (w v : ℕ) (u s : Subject) (level i : ℕ) → Some (Claim w u level) ≡ Some (Claim v s i) → w ≡ v
same_worker w v u s level i is = let h : Some (Claim w u level) ≡ Some (Claim v s i) = is in cc

-- claims of different workers are different
other_claims : (first : BookState) (h : List Entry) (f m g n : ℕ) → f + m ≤ g → (p q : ClaimQuery) → IsOfWorkers first h f m p → IsOfWorkers first h g n q →
    DifferInClaim p q
other_claims first h f m g n apart p q w v one same =
    let at : slice_get h q.claim ≡ Some (Claim w.of.worker w.of.subject w.of.level) =
    subst (λ (k : ℕ). slice_get h k ≡ Some (Claim w.of.worker w.of.subject w.of.level)) one w.of.there in
    let e : w.of.worker ≡ v.of.worker = same_worker w.of.worker v.of.worker w.of.subject v.of.subject w.of.level v.of.level (sym at ∙ v.of.there) in
    absurd (omega (arith, apart, w.most, v.least, e))

-- the lists of both, all of others by now
pub lists_join : (first : BookState) (h : List Entry) (f m g n : ℕ) (known known' : List (List Lit)) (drawn drawn' : ℕ) (own own' : List ClaimQuery)
    (others others' : List (List ClaimQuery)) → g ≡ f + m → ArePaidLists first h f m known drawn own others → ArePaidLists first h g n known' drawn' own' others' →
    ArePaidLists first h f (m + n) [] (drawn + drawn') [] ((others ++ own ∷ []) ++ (others' ++ own' ∷ []))
lists_join first h f m g n known known' drawn drawn' own own' others others' next l r =
    let A : List ClaimQuery = all_of others ++ own in
    let B : List ClaimQuery = all_of others' ++ own' in
    let left : List (List ClaimQuery) = others ++ own ∷ [] in
    let right : List (List ClaimQuery) = others' ++ own' ∷ [] in
    let whole : all_of (left ++ right) ++ [] ≡ A ++ B =
    append-nil (all_of (left ++ right)) ∙ all_of-append left right
    ∙ ap (λ (z : List ClaimQuery). z ++ all_of right) (all_of-last others own) ∙ ap (λ (z : List ClaimQuery). A ++ z) (all_of-last others' own') in
    let W : ClaimQuery → Type 0 = IsOfWorkers first h f (m + n) in
    let each : All W (A ++ B) = All-append W A B
    (All-weaker (IsOfWorkers first h f m) W (wider first h f m f (m + n) (omega arith) (omega arith)) A l.each)
    (All-weaker (IsOfWorkers first h g n) W (wider first h g n f (m + n) (omega (arith, next)) (omega (arith, next))) B r.each) in
    let apart : AllPairs DifferInClaim (A ++ B) = pairs_join DifferInClaim A B l.apart r.apart
    (λ p q in_a in_b. other_claims first h f m g n (omega (arith, next)) p q (All-contains (IsOfWorkers first h f m) A p l.each in_a)
    (All-contains (IsOfWorkers first h g n) B q r.each in_b)) in
    let sum = tickets_both A B in
    let one = l.tickets in
    let two = r.tickets in
    let all : tickets_in (queries_in (A ++ B)) ≡ drawn + drawn' = omega (arith, sum, one, two) in
    record {
      each = subst (All W) (sym whole) each;
      apart = subst (AllPairs DifferInClaim) (sym whole) apart;
      own_paid = list_none [] refl;
      others_paid = All-append IsPaidFor left right
          (All-append IsPaidFor others (own ∷ []) l.others_paid (All-cons IsPaidFor own [] (known, l.own_paid) (All-nil IsPaidFor)))
          (All-append IsPaidFor others' (own' ∷ []) r.others_paid (All-cons IsPaidFor own' [] (known', r.own_paid) (All-nil IsPaidFor)));
      tickets = subst (λ (z : List ClaimQuery). tickets_in (queries_in z) ≡ drawn + drawn') (sym whole) all;
    }

-- ---- No two queries have one key

-- of two claims with one key the first would be void when the second is made, and as young
no_later : (limits : Limits) (first : BookState) (history : List Entry) → first.claims ≡ [] → IsLawful limits first history → VoidsAreOld first history →
    (p q : ClaimQuery) (k : Key) → HasKey first history p k → HasKey first history q k → p.claim < q.claim → ⊥
no_later limits first history none lawful old p q k has_p has_q lt =
    let n : ℕ = q.claim in
    let within : n < length history = slice_get_within history n (Claim has_q.worker k.subject k.level) has_q.there in
    let h : List Entry = take n history in
    let long : length h ≡ n = length-take-le n history (omega arith) in
    let e : Entry = Claim has_p.worker k.subject k.level in
    let read : get_or history p.claim e ≡ e = get_or_from_slice_get history p.claim e e has_p.there in
    let there : slice_get h p.claim ≡ Some e =
    slice_get_read h (length h) p.claim e refl (omega (arith, long)) (sym (get_or-take n history p.claim e lt ∙ read)) in
    let made = made_by first h p.claim has_p.worker k.subject k.level there in
    let c : Made = made.0 in
    let may = lawful_at limits first history n (Claim has_q.worker k.subject k.level) lawful has_q.there in
    let before_p : take p.claim h ≡ take p.claim history = take-take p.claim n history (omega arith) in
    let growth : c.growth ≡ (state_before first history n).growth =
    made.1.growth_is ∙ ap (λ (z : List Entry). (replay first z).growth) before_p ∙ sym has_p.growth ∙ has_q.growth in
    let none_before : length first.claims ≡ 0 = ap (λ (z : List (Option Made)). length z) none in
    let number : length first.claims + p.claim ≡ p.claim = omega (arith, none_before) in
    let at : claim_at (state_before first history n).claims p.claim ≡ Some c =
    subst (λ (m : ℕ). claim_at (state_before first history n).claims m ≡ Some c) number made.1.there in
    let many = claims_each first h in
    let void : c.void ≡ true = may.new p.claim c (omega (arith, many, long, none_before)) at made.1.subject_is made.1.level_is growth in
    let less = old n (omega arith) p.claim c at void in
    absurd (omega (arith, less, growth))

key_apart : (limits : Limits) (first : BookState) (history : List Entry) → first.claims ≡ [] → IsLawful limits first history → VoidsAreOld first history →
    (p q : ClaimQuery) → DifferInClaim p q → DifferInKey first history p q
key_apart limits first history none lawful old p q differ k has_p has_q = elim (cases_eq p.claim q.claim) [
  | inl one ↦ differ one (sym has_p.question ∙ has_q.question)
  | inr ne ↦ elim (cases_lt p.claim q.claim) [
    | inl lt ↦ no_later limits first history none lawful old p q k has_p has_q lt
    | inr ge ↦ no_later limits first history none lawful old q p k has_q has_p (omega arith)
  ]
]

-- where no void claim is too young, the lists of all workers are paid for
pub lists_paid : (limits : Limits) (first : BookState) (history : List Entry) (from count : ℕ) (known : List (List Lit)) (drawn : ℕ) (own : List ClaimQuery)
    (others : List (List ClaimQuery)) → first.claims ≡ [] → IsLawful limits first history → VoidsAreOld first history →
    ArePaidLists first history from count known drawn own others → ArePaid first history drawn (others ++ own ∷ [])
lists_paid limits first history from count known drawn own others none lawful old l =
    let log : List ClaimQuery = all_of others ++ own in
    let whole : all_of (others ++ own ∷ []) ≡ log = all_of-last others own in
    let each : All (IsOfClaim first history) log =
    All-weaker (IsOfWorkers first history from count) (IsOfClaim first history) (λ q w. w.of) log l.each in
    let apart : AllPairs (DifferInKey first history) log = λ i j d lt below.
    key_apart limits first history none lawful old (get_or log i d) (get_or log j d) (l.apart i j d lt below) in
    record {
      each = subst (All (IsOfClaim first history)) (sym whole) each;
      apart = subst (AllPairs (DifferInKey first history)) (sym whole) apart;
      paid = All-append IsPaidFor others (own ∷ []) l.others_paid (All-cons IsPaidFor own [] (known, l.own_paid) (All-nil IsPaidFor));
      tickets = subst (λ (z : List ClaimQuery). tickets_in (queries_in z) ≡ drawn) (sym whole) l.tickets;
    }
