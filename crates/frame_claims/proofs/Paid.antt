-- The log of the queries of a history, as the history goes on.
use Rattle.std.proofs.Common.{◌≡◌, ℕ, ◌+◌, ◌<◌, ◌≤◌, true, false, List, [], ◌∷◌, ◌++◌, length, refl, sym, subst, ap, ◌∙◌, arith, length-append, get_or}
use Rattle.std.specs.Prelude.{Some, slice_get, map, All, AllPairs, Contains}
use Rattle.std.proofs.Math.Seq.{get_or-append_seam, take-append_seam}
use Rattle.std.proofs.Math.ListN.{get_or-append}
use Rattle.std.proofs.lemmas.Option.{slice_get_within, slice_get_read, get_or_from_slice_get}
use Rattle.std.proofs.lemmas.List.{map-append, take-append-le}
use Rattle.std.proofs.Math.ListN.{length-map}
use Rattle.std.proofs.lemmas.List.Elements.{All-append, All-weaker, All-contains, All-map}
use Rattle.clause_core.specs.declared.literal.Lit.{Lit}
use Rattle.sat_core.specs.Paying.{Query, IsPaidLog}
use Rattle.sat_core.proofs.Payments.{log_join}
use Rattle.frame_history.specs.declared.entries.Subject.{Subject}
use Rattle.frame_history.specs.declared.entries.Made.{Made}
use Rattle.frame_history.specs.declared.entries.Entry.{Entry}
use Rattle.frame_history.specs.declared.entries.Entry.TheVariants.{Claim}
use Rattle.frame_history.specs.History.{BookState, replay, claim_at, IsNew}
use Rattle.frame_solver.specs.Paying.{AskedQuery, IsQueryOf, Pays, AllDiffer, queries_of}
use Rattle.frame_claims.specs.Paying.{ClaimQuery, Key, MayAsk, HasKey, IsOfClaim, DifferInKey, IsPaidRun, queries_in}
use Rattle.frame_claims.specs.Paying.{before as state_before}
use Rattle.frame_claims.proofs.Pairs.{pairs_join, pairs_map}
use Rattle.frame_claims.proofs.Claimed.{made_by, claims_each}

-- ---- A history with more entries

pub more_entry : (h es : List Entry) (n : ℕ) (e : Entry) → slice_get h n ≡ Some e → slice_get (h ++ es) n ≡ Some e
more_entry h es n e is =
    let lt : n < length h = slice_get_within h n e is in
    let long = length-append h es in
    slice_get_read (h ++ es) (length (h ++ es)) n e refl (omega arith) (sym (get_or-append h es e n lt ∙ get_or_from_slice_get h n e e is))

pub fewer_entry : (h es : List Entry) (n : ℕ) (e : Entry) → n < length h → slice_get (h ++ es) n ≡ Some e → slice_get h n ≡ Some e
fewer_entry h es n e lt is =
    slice_get_read h (length h) n e refl lt (sym (sym (get_or-append h es e n lt) ∙ get_or_from_slice_get (h ++ es) n e e is))

pub same_before : (first : BookState) (h es : List Entry) (n : ℕ) → n ≤ length h → state_before first (h ++ es) n ≡ state_before first h n
same_before first h es n le = ap (replay first) (take-append-le n h es le)

unfoldable pub still_of : (first : BookState) (h es : List Entry) (q : ClaimQuery) → IsOfClaim first h q → IsOfClaim first (h ++ es) q
still_of first h es q o =
    let lt : q.claim < length h = slice_get_within h q.claim (Claim o.worker o.subject o.level) o.there in
    let same = same_before first h es q.claim (omega arith) in
    record {
      worker = o.worker;
      subject = o.subject;
      level = o.level;
      there = more_entry h es q.claim (Claim o.worker o.subject o.level) o.there;
      may = subst (λ (s : BookState). MayAsk s.frames o.subject o.level q.asked.question) (sym same) o.may;
      query = subst (λ (s : BookState). IsQueryOf s.frames.systems s.frames.lemmas q.asked.question q.asked.query) (sym same) o.query;
    }

key_back : (first : BookState) (h es : List Entry) (q : ClaimQuery) (k : Key) → q.claim < length h → HasKey first (h ++ es) q k → HasKey first h q k
key_back first h es q k lt has =
    record {
      worker = has.worker;
      there = fewer_entry h es q.claim (Claim has.worker k.subject k.level) lt has.there;
      growth = has.growth ∙ ap (λ (s : BookState). s.growth) (same_before first h es q.claim (omega arith));
      question = has.question;
    }

pub claim_below : (first : BookState) (h : List Entry) (q : ClaimQuery) → IsOfClaim first h q → q.claim < length h
claim_below first h q o = slice_get_within h q.claim (Claim o.worker o.subject o.level) o.there

still_apart : (first : BookState) (h es : List Entry) (log : List ClaimQuery) → All (IsOfClaim first h) log → AllPairs (DifferInKey first h) log →
    AllPairs (DifferInKey first (h ++ es)) log
still_apart first h es log each apart i j d lt below' k p q =
    let at : (n : ℕ) → n < length log → (get_or log n d).claim < length h = λ n here. claim_below first h (get_or log n d) (each n d here) in
    apart i j d lt below' k (key_back first h es (get_or log i d) k (at i (omega arith)) p) (key_back first h es (get_or log j d) k (at j below') q)

-- ---- The queries of one more claim

abbrev pub by_claim : ℕ → AskedQuery → ClaimQuery
by_claim n a = record { claim = n; asked = a }

-- the entry of the claim
pub its_entry : (h es : List Entry) (e : Entry) → slice_get (h ++ e ∷ es) (length h) ≡ Some e
its_entry h es e =
    slice_get_read (h ++ e ∷ es) (length (h ++ e ∷ es)) (length h) e refl (omega (arith, length-append h (e ∷ es))) (sym (get_or-append_seam h e es e))

pub its_state : (first : BookState) (h es : List Entry) → state_before first (h ++ es) (length h) ≡ replay first h
its_state first h es = ap (replay first) (take-append_seam h es)

same_subject : (w v : ℕ) (u s : Subject) (level i : ℕ) → Some (Claim w u level) ≡ Some (Claim v s i) → u ≡ s
same_subject w v u s level i is = let h : Some (Claim w u level) ≡ Some (Claim v s i) = is in cc

same_level : (w v : ℕ) (u s : Subject) (level i : ℕ) → Some (Claim w u level) ≡ Some (Claim v s i) → level ≡ i
same_level w v u s level i is = let h : Some (Claim w u level) ≡ Some (Claim v s i) = is in cc

no_way : true ≡ false → ⊥
no_way e = let h : true ≡ false = e in cc

-- a query of a claim before has another key
cross_apart : (first : BookState) (h es : List Entry) (worker : ℕ) (u : Subject) (level : ℕ) → IsNew (replay first h) u level →
    ((n : ℕ) (c : Made) → claim_at (replay first h).claims n ≡ Some c → c.void ≡ false) → (p : ClaimQuery) → IsOfClaim first h p → (a : AskedQuery) →
    DifferInKey first (h ++ Claim worker u level ∷ es) p (by_claim (length h) a)
cross_apart first h es worker u level new none_void p of a k has_p has_q =
    let rest : List Entry = Claim worker u level ∷ es in
    let lt : p.claim < length h = claim_below first h p of in
    let old = key_back first h rest p k lt has_p in
    let entry = sym (its_entry h es (Claim worker u level)) ∙ has_q.there in
    let subject : u ≡ k.subject = same_subject worker has_q.worker u k.subject level k.level entry in
    let at : level ≡ k.level = same_level worker has_q.worker u k.subject level k.level entry in
    let now : k.growth ≡ (replay first h).growth = has_q.growth ∙ ap (λ (s : BookState). s.growth) (its_state first h rest) in
    let made = made_by first h p.claim old.worker k.subject k.level old.there in
    let c : Made = made.0 in
    let long = claims_each first h in
    let void : c.void ≡ true = new (length first.claims + p.claim) c (omega arith) made.1.there (made.1.subject_is ∙ sym subject)
    (made.1.level_is ∙ sym at) (made.1.growth_is ∙ sym old.growth ∙ now) in
    no_way (sym void ∙ none_void (length first.claims + p.claim) c made.1.there)

pub map_map : (n : ℕ) (asked : List AskedQuery) → queries_in (map (by_claim n) asked) ≡ queries_of asked
map_map n [] = refl
map_map n (a ∷ asked) = ap (λ (qs : List Query). a.query ∷ qs) (map_map n asked)

pub from_map : (P : ClaimQuery → Type 0) (n : ℕ) (asked : List AskedQuery) → ((a : AskedQuery) → P (by_claim n a)) → (q : ClaimQuery) →
    Contains (map (by_claim n) asked) q → P q
from_map P n asked h q there =
    let long = length-map asked (by_claim n) in
    All-contains P (map (by_claim n) asked) q (All-map P (by_claim n) asked (λ i d lt. h (get_or asked i d))) there

-- the queries of one more claim, behind the log so far
pub paid_claim : (first : BookState) (h es : List Entry) (worker : ℕ) (u : Subject) (level : ℕ) (known later : List (List Lit)) (old before after : List ℕ)
    (log : List ClaimQuery) (asked : List AskedQuery) → IsPaidRun first h known old before log → IsNew (replay first h) u level →
    ((n : ℕ) (c : Made) → claim_at (replay first h).claims n ≡ Some c → c.void ≡ false) →
    Pays (replay first h).frames.systems (replay first h).frames.lemmas known later before after asked → AllDiffer asked →
    All (λ (a : AskedQuery). MayAsk (replay first h).frames u level a.question) asked →
    IsPaidRun first (h ++ Claim worker u level ∷ es) later old after (log ++ map (by_claim (length h)) asked)
paid_claim first h es worker u level known later old before after log asked paid new none_void pays differ may =
    let e : Entry = Claim worker u level in
    let rest : List Entry = e ∷ es in
    let n : ℕ = length h in
    let s : BookState = replay first h in
    let H : List Entry = h ++ rest in
    let added : List ClaimQuery = map (by_claim n) asked in
    let Of : AskedQuery → Type 0 = λ a. IsOfClaim first H (by_claim n a) in
    let each_new : All Of asked = λ i d lt.
    (let a : AskedQuery = get_or asked i d in
    let same : state_before first H n ≡ s = its_state first h rest in
    record {
      worker = worker;
      subject = u;
      level = level;
      there = its_entry h es e;
      may = subst (λ (z : BookState). MayAsk z.frames u level a.question) (sym same) (may i d lt);
      query = subst (λ (z : BookState). IsQueryOf z.frames.systems z.frames.lemmas a.question a.query) (sym same) (pays.each i d lt);
    }) in
    let apart_new : AllPairs (DifferInKey first H) added = pairs_map (DifferInKey first H) (by_claim n) asked
    (λ i j d lt below' k p q. differ i j d lt below' (sym p.question ∙ q.question)) in
    record {
      each = All-append (IsOfClaim first H) log added (All-weaker (IsOfClaim first h) (IsOfClaim first H) (λ q o. still_of first h rest q o) log paid.each)
          (All-map (IsOfClaim first H) (by_claim n) asked each_new);
      apart = pairs_join (DifferInKey first H) log added (still_apart first h rest log paid.each paid.apart) apart_new
          (λ p q in_log in_new.
          let of : IsOfClaim first h p = All-contains (IsOfClaim first h) log p paid.each in_log in
          from_map (DifferInKey first H p) n asked (λ a. cross_apart first h es worker u level new none_void p of a) q in_new);
      paid = subst (λ (qs : List Query). IsPaidLog [] later old after qs) (sym (map-append (λ (q : ClaimQuery). q.asked.query) log added ∙ ap (λ (qs : List Query). queries_in log ++ qs) (map_map n asked)))
          (log_join [] known later old before after (queries_in log) (queries_of asked) paid.paid pays.paid);
    }
