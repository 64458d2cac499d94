-- The book before the first turn, and when it is closed.
use Rattle.std.proofs.Common.{◌≡◌, ℕ, ◌+◌, ◌<◌, Bool, true, false, List, [], ◌∷◌, length, refl, sym, subst, ap, ◌∙◌, inl, inr, arith, length-append}
use Rattle.std.specs.Prelude.{All, AllPairs, Contains, None, slice_index_or}
use Rattle.std.proofs.lemmas.List.{get_or_past}
use Rattle.std.proofs.lemmas.List.Elements.{All-nil, All-cons}
use Rattle.clause_core.specs.declared.literal.Lit.{Lit}
use Rattle.clause_core.specs.Systems.{TransitionSystem}
use Rattle.sat_core.specs.Paying.{tickets_in}
use Rattle.sat_core.proofs.Payments.{log_none}
use Rattle.frame_core.specs.declared.parts.Lemma.{Lemma}
use Rattle.frame_history.specs.declared.entries.Limits.{Limits}
use Rattle.frame_history.specs.declared.entries.Entry.{Entry}
use Rattle.frame_history.specs.History.{BookState, start, IsClosed}
use Rattle.frame_history.proofs.Limiting.{limit_reached}
use Rattle.frame_history.proofs.Tracking.{none_is_some}
use Rattle.frame_query.specs.Findings.{SolverView}
use Rattle.frame_book.specs.Book.{BookView, IsBook, opened}
use Rattle.frame_claims.specs.Lists.{IsPaidFor, ArePaid, all_of}
use Rattle.frame_claims.specs.Paying.{ClaimQuery, IsOfClaim, DifferInKey, IsPaidRun, queries_in}
use Rattle.frame_claims.proofs.Listed.{all_of-last}
use Rattle.frame_worker.specs.Exploring.{IsExplored}
use Rattle.prove_run.specs.Playing.{IsPlayed}
use Rattle.prove_run.proofs.Going.{book_holds, book_systems}

no_way : false ≡ true → ⊥
no_way e = let h : false ≡ true = e in cc

-- ---- Before the first turn

started : (systems : List TransitionSystem) (limits : Limits) (carried : List Lemma) (old : List ℕ) (over : Bool) → IsBook (opened systems limits carried) →
    IsPlayed old (opened systems limits carried) record { systems = systems; lemmas = []; known = [] } old over
started systems limits carried old over book =
    record {
      book = book;
      systems = refl;
      older = record { shorter = omega arith; clause = λ n lt. absurd (omega (arith, lt)); live = λ n lt on. absurd (omega (arith, lt)) };
      ended = λ n c is. absurd (none_is_some c (sym (get_or_past [] n None (omega arith)) ∙ is));
      spent = λ on. absurd (no_way on);
      log = [];
      paid = record {
        each = All-nil (IsOfClaim (start limits systems carried) []);
        apart = λ i j d lt below. absurd (omega (arith, below));
        paid = log_none [] [] old old (All-nil (Contains [])) refl;
      };
    }

pub starts : (systems : List TransitionSystem) (limits : Limits) (carried : List Lemma) (b : BookView) (v : SolverView) (old tickets : List ℕ) (over : Bool) →
    b ≡ opened systems limits carried → v ≡ record { systems = systems; lemmas = []; known = [] } → old ≡ tickets → IsBook b → IsPlayed old b v tickets over
starts systems limits carried b v old tickets over is_b is_v same book =
    let one = started systems limits carried old over (subst IsBook is_b book) in
    subst (λ (z : BookView). IsPlayed old z v tickets over) (sym is_b)
    (subst (λ (z : SolverView). IsPlayed old (opened systems limits carried) z tickets over) (sym is_v)
    (subst (λ (t : List ℕ). IsPlayed old (opened systems limits carried) record { systems = systems; lemmas = []; known = [] } t over) same one))

-- ---- When it is closed

-- the queries of one worker, as a list beside no others
one_list : (first : BookState) (history : List Entry) (known : List (List Lit)) (old tickets : List ℕ) (log : List ClaimQuery) →
    IsPaidRun first history known old tickets log → ArePaid first history (tickets_in (queries_in log)) (log ∷ [])
one_list first history known old tickets log run =
    let whole : log ≡ all_of (log ∷ []) = sym (all_of-last [] log) in
    record {
      each = subst (All (IsOfClaim first history)) whole run.each;
      apart = subst (AllPairs (DifferInKey first history)) whole run.apart;
      paid = All-cons IsPaidFor log []
          (known, record { mine = run.paid.drawn.0; paid = record { asked = run.paid.asked; known = run.paid.known; drawn = (run.paid.drawn.0, refl, run.paid.drawn.2) } })
          (All-nil IsPaidFor);
      tickets = ap (λ (qs : List ClaimQuery). tickets_in (queries_in qs)) (sym whole);
    }

-- so many tickets were drawn for it
one_count : (first : BookState) (history : List Entry) (known : List (List Lit)) (old tickets : List ℕ) (log : List ClaimQuery) →
    IsPaidRun first history known old tickets log → length old + tickets_in (queries_in log) ≡ length tickets
one_count first history known old tickets log run =
    let d = run.paid.drawn in
    let e = ap (λ (z : List ℕ). length z) d.1 in
    let f = d.2 in
    omega (arith, length-append old d.0, e, f)

own : (b : BookView) (v : SolverView) (old tickets : List ℕ) (over : Bool) → IsPlayed old b v tickets over → IsClosed b.state →
    IsExplored b.systems b.limits b.carried b.history b.state.frames (length old) (length tickets) over
own b v old tickets over h closed =
    let first : BookState = start b.limits b.systems b.carried in
    record {
      lawful = h.book.lawful;
      frames = ap (λ (s : BookState). s.frames) h.book.replayed;
      holds = book_holds b h.book;
      drawn = tickets_in (queries_in h.log);
      all = one_count first b.history v.known old tickets h.log h.paid;
      logs = h.log ∷ [];
      paid = one_list first b.history v.known old tickets h.log h.paid;
      limit = λ not_over j lt none.
          (let here : j < length b.state.frames.systems = subst (λ (z : List TransitionSystem). j < length z) (sym (book_systems b h.book)) lt in
          elim closed [
            | inl spent ↦ absurd (no_way (sym not_over ∙ h.spent spent))
            | inr all ↦ elim (all j here) [
              | inl verdict ↦ absurd (none verdict)
              | inr limited ↦
                  limit_reached b.limits b.systems b.carried b.history h.book.carried h.book.lawful j lt
                  (subst (λ (s : BookState). slice_index_or s.limited j false ≡ true) h.book.replayed limited)
            ]
          ]);
    }

pub explored : (systems : List TransitionSystem) (limits : Limits) (carried : List Lemma) (b : BookView) (v : SolverView) (old tickets : List ℕ) (over : Bool) →
    b.systems ≡ systems → b.limits ≡ limits → b.carried ≡ carried → IsPlayed old b v tickets over → IsClosed b.state →
    IsExplored systems limits carried b.history b.state.frames (length old) (length tickets) over
explored systems limits carried b v old tickets over is at from h closed =
    subst (λ (z : List TransitionSystem). IsExplored z limits carried b.history b.state.frames (length old) (length tickets) over) is
    (subst (λ (z : Limits). IsExplored b.systems z carried b.history b.state.frames (length old) (length tickets) over) at
    (subst (λ (z : List Lemma). IsExplored b.systems b.limits z b.history b.state.frames (length old) (length tickets) over) from (own b v old tickets over h closed)))
