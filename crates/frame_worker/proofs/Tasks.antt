-- A task that was taken: what may be asked, what was paid for it, and what came of it.
use Rattle.std.proofs.Common.{◌≡◌, ℕ, Bool, List, [], ◌∷◌, ◌++◌, length, sym, subst, ap, ◌∙◌}
use Rattle.std.specs.Prelude.{Option, Some, IfSome, IfOk, Result, Ok, Err, map}
use Rattle.std.specs.Result.{result_ok}
use Rattle.clause_core.specs.declared.literal.Lit.{Lit}
use Rattle.clause_core.specs.Systems.{TransitionSystem}
use Rattle.effort_purse.specs.declared.seat.Seat.{Seat}
use Rattle.effort_purse.specs.declared.shared.SharedPurse.{SharedPurse}
use Rattle.effort_purse.specs.Seats.{IsSeatOf, shares_of, tickets_of}
use Rattle.frame_core.specs.declared.parts.Lemma.{Lemma}
use Rattle.frame_core.specs.FrameLaw.{FrameState}
use Rattle.frame_history.specs.declared.entries.Limits.{Limits}
use Rattle.frame_history.specs.declared.entries.Entry.{Entry}
use Rattle.frame_history.specs.declared.entries.Entry.TheVariants.{Claim}
use Rattle.frame_history.specs.History.{BookState, replay}
use Rattle.frame_query.specs.Findings.{SolverView, IsOlder}
use Rattle.frame_book.specs.declared.claim.ClaimOutcome.{ClaimOutcome}
use Rattle.frame_book.specs.Claims.{ClaimView}
use Rattle.frame_book.specs.Outcomes.{IsOutcomeOf}
use Rattle.frame_claims.specs.Asking.{AnswersClaim, MayBeAsked, PaysFor}
use Rattle.frame_claims.specs.Lists.{ArePaidLists}
use Rattle.frame_claims.specs.Outcomes.{IsUpToDate}
use Rattle.frame_claims.specs.Paying.{ClaimQuery, MayAskFor}
use Rattle.frame_claims.proofs.Histories.{replay-join}
use Rattle.frame_claims.proofs.Listed.{lists_more}
use Rattle.frame_claims.proofs.Outcomes.{asked_so}
use Rattle.frame_claims.proofs.Paid.{by_claim}
use Rattle.frame_claims.proofs.Taken.{may_be_asked, paid_so, there_by}
use Rattle.frame_claims.proofs.Turned.{older_itself}
use Rattle.work_crew.specs.declared.craft.Taking.{Taking}
use Rattle.work_crew.specs.declared.craft.Taking.TheVariants.{Task, Idle, Later, Ended}
use Rattle.work_crew.specs.Takings.{IfTask, IfNoTask}
use Rattle.frame_worker.specs.Working.{HandView, hand, known_of, Follows, IsHeld, IsClaimed, IsTaken, HasAll}

pub some_solver : (a b : SolverView) → Some a ≡ Some b → a ≡ b
some_solver a b e = let h : Some a ≡ Some b = e in cc

-- the solver of the task
its_solver : (s : BookState) (solver : Option SolverView) (v : SolverView) → HasAll s solver → solver ≡ Some v → IsUpToDate s.frames v
its_solver s solver v up is = subst (IsUpToDate s.frames) (some_solver up.0 v (sym up.1 ∙ is)) up.2

-- the frames are as they were before the claim
same_frames : (limits : Limits) (first : BookState) (worker : ℕ) (c : ClaimView) (earlier now : List Entry) → IsClaimed limits first worker c earlier now →
    (replay first now).frames ≡ (replay first earlier).frames
same_frames limits first worker c earlier now claimed =
    ap (λ (z : List Entry). (replay first z).frames) claimed.entry
    ∙ ap (λ (s : BookState). s.frames) (replay-join first earlier (Claim worker c.subject c.level ∷ []))

-- ---- A task is taken, or none

pub took_so : (systems : List TransitionSystem) (limits : Limits) (first : BookState) (purse : SharedPurse) (h : HandView) (front now : List Entry)
    (solver : Option SolverView) (r : Taking ClaimView) → IsHeld systems first purse (hand h.seat h.share front solver h.first h.parts) →
    HasAll (replay first front) solver → IfTask r (λ (c : ClaimView). IsClaimed limits first h.first c front now) →
    IfTask r (λ (c : ClaimView). IsTaken systems limits first purse (hand h.seat h.share now solver h.first h.parts) c)
took_so systems limits first purse h front now solver (Task c) held up claimed = record { earlier = front; held = held; up = up; claimed = claimed }
took_so systems limits first purse h front now solver Idle held up claimed = tt
took_so systems limits first purse h front now solver Later held up claimed = tt
took_so systems limits first purse h front now solver Ended held up claimed = tt

pub still_so : (systems : List TransitionSystem) (first : BookState) (purse : SharedPurse) (h : HandView) (front now : List Entry) (solver : Option SolverView)
    (r : Taking ClaimView) → IsHeld systems first purse (hand h.seat h.share front solver h.first h.parts) → IfNoTask r (now ≡ front) →
    IfNoTask r (IsHeld systems first purse (hand h.seat h.share now solver h.first h.parts))
still_so systems first purse h front now solver (Task c) held same = tt
still_so systems first purse h front now solver Idle held same =
    subst (λ (z : List Entry). IsHeld systems first purse (hand h.seat h.share z solver h.first h.parts)) (sym same) held
still_so systems first purse h front now solver Later held same =
    subst (λ (z : List Entry). IsHeld systems first purse (hand h.seat h.share z solver h.first h.parts)) (sym same) held
still_so systems first purse h front now solver Ended held same =
    subst (λ (z : List Entry). IsHeld systems first purse (hand h.seat h.share z solver h.first h.parts)) (sym same) held

-- ---- A task is done

module _ (systems : List TransitionSystem) (limits : Limits) (first : BookState) (purse : SharedPurse) (h : HandView) (c : ClaimView)
    (t : IsTaken systems limits first purse h c) (v : SolverView) (is : h.solver ≡ Some v) where
  up : IsUpToDate (replay first t.earlier).frames v
  up = its_solver (replay first t.earlier) h.solver v t.up is

  follows : Follows systems (replay first t.earlier) v
  follows = let f : IfSome h.solver (Follows systems (replay first t.earlier)) = t.held.follows in
      subst (λ (o : Option SolverView). IfSome o (Follows systems (replay first t.earlier))) is f

  pub task_asked : MayBeAsked v c c.subject
  task_asked = may_be_asked limits (replay first t.earlier) c v t.claimed.law up t.claimed.task t.claimed.target

  task_outcome : (over : Bool) (o : ClaimOutcome) → AnswersClaim v c c.subject over o → IsOutcomeOf systems c c.subject o
  task_outcome over o answer =
      let s : BookState = replay first t.earlier in
      let asked = asked_so s.frames c v over o t.claimed.law up (there_by limits s c.subject c.level t.claimed.task) t.claimed.target answer in
      subst (λ (z : List TransitionSystem). IsOutcomeOf z c c.subject o) (sym up.systems ∙ follows.same) asked.of

  pub task_outcomes : {E : Type 0} (over : Bool) (r : Result ClaimOutcome E) → IfOk r (AnswersClaim v c c.subject over) → IfSome (result_ok r) (IsOutcomeOf systems c c.subject)
  task_outcomes over (Ok o) answer = task_outcome over o answer
  task_outcomes over (Err e) answer = tt

  pub task_paid : (w : SolverView) (seat : Seat) → IsSeatOf purse seat → shares_of seat ≡ shares_of h.seat → w.systems ≡ v.systems → w.lemmas ≡ v.lemmas →
      PaysFor v w (tickets_of h.seat) (tickets_of seat) (MayAskFor c c.subject) →
      IsHeld systems first purse (hand seat h.share h.front (Some w) h.first h.parts)
  task_paid w seat own shares same_systems same_lemmas pays =
      let s : BookState = replay first t.earlier in
      let f : FrameState = s.frames in
      let entry : Entry = Claim h.first c.subject c.level in
      let has = t.held.has in
      let paid = paid_so f c v w (tickets_of h.seat) (tickets_of seat) up t.claimed.target pays in
      let log : List ClaimQuery = t.held.own ++ map (by_claim (length t.earlier)) paid.0 in
      let known : known_of h.solver ≡ v.known = ap known_of is in
      let before : ArePaidLists first t.earlier h.first h.parts v.known (length (tickets_of h.seat)) t.held.own t.held.others =
      subst (λ (z : List (List Lit)). ArePaidLists first t.earlier h.first h.parts z (length (tickets_of h.seat)) t.held.own t.held.others) known t.held.lists in
      let more : ArePaidLists first (t.earlier ++ entry ∷ []) h.first h.parts w.known (length (tickets_of seat)) log t.held.others =
      lists_more first t.earlier h.first h.parts c.subject c.level v.known w.known (tickets_of h.seat) (tickets_of seat) t.held.own t.held.others paid.0
      has.some before paid.1 paid.2 paid.3 in
      let now : (replay first h.front).frames ≡ f = same_frames limits first h.first c t.earlier h.front t.claimed in
      let lemmas : w.lemmas ≡ (replay first h.front).frames.lemmas =
      same_lemmas ∙ up.lemmas ∙ ap (λ (z : FrameState). z.lemmas) (sym now) in
      record {
        has = record { own = own; shares = shares ∙ has.shares; share_is = has.share_is; some = has.some; fits = has.fits };
        follows = record {
          same = same_systems ∙ follows.same;
          older = subst (λ (z : List Lemma). IsOlder w.lemmas z) lemmas (older_itself w.lemmas);
        };
        own = log;
        others = t.held.others;
        lists = subst (λ (z : List Entry). ArePaidLists first z h.first h.parts w.known (length (tickets_of seat)) log t.held.others) (sym t.claimed.entry) more;
      }
