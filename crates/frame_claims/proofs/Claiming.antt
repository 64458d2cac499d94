-- A claim of a subject that is known.
use Rattle.std.proofs.Common.{◌≡◌, ℕ, ◌+◌, Bool, List, sym, subst}
use Rattle.std.specs.Prelude.{Result, IfOk}
use Rattle.frame_core.specs.FrameLaw.{lemma_at}
use Rattle.frame_history.specs.declared.entries.Subject.{Subject}
use Rattle.frame_history.specs.declared.entries.Subject.TheVariants.{Push}
use Rattle.frame_query.specs.Findings.{SolverView}
use Rattle.frame_book.specs.declared.claim.ClaimOutcome.{ClaimOutcome}
use Rattle.frame_book.specs.Claims.{ClaimView}
use Rattle.clause_core.specs.declared.literal.Lit.{Lit}
use Rattle.frame_claims.specs.Asking.{AnswersClaim, AnswersPush, MayBeAsked, PaysFor}
use Rattle.frame_claims.specs.Paying.{MayAskFor, MayAskPush}

pub may_of : (v : SolverView) (c : ClaimView) (u : Subject) → u ≡ c.subject → MayBeAsked v c c.subject → MayBeAsked v c u
may_of v c u e h = subst (MayBeAsked v c) (sym e) h

pub answer_of : {E : Type 0} (v : SolverView) (c : ClaimView) (over : Bool) (r : Result ClaimOutcome E) (u : Subject) → u ≡ c.subject →
    IfOk r (AnswersClaim v c u over) → IfOk r (AnswersClaim v c c.subject over)
answer_of v c over r u e h = subst (λ (z : Subject). IfOk r (AnswersClaim v c z over)) e h

pub pays_of : (v w : SolverView) (c : ClaimView) (x y : List ℕ) (u : Subject) → u ≡ c.subject → PaysFor v w x y (MayAskFor c u) →
    PaysFor v w x y (MayAskFor c c.subject)
pays_of v w c x y u e h = subst (λ (z : Subject). PaysFor v w x y (MayAskFor c z)) e h

-- a push at the level of the claim, of its clause
pub push_answer : {E : Type 0} (v : SolverView) (c : ClaimView) (over : Bool) (r : Result ClaimOutcome E) (n : ℕ) → Push n ≡ c.subject → MayBeAsked v c c.subject →
    IfOk r (AnswersPush v n ((lemma_at v.lemmas n).level + 1) over) → IfOk r (AnswersClaim v c c.subject over)
push_answer v c over r n e may h =
    let m = may_of v c (Push n) e may in
    answer_of v c over r (Push n) e (subst (λ (i : ℕ). IfOk r (AnswersPush v n i over)) (sym m.1) h)

pub push_pays : (v w : SolverView) (c : ClaimView) (x y : List ℕ) (n : ℕ) → Push n ≡ c.subject → MayBeAsked v c c.subject →
    PaysFor v w x y (MayAskPush (lemma_at v.lemmas n).clause ((lemma_at v.lemmas n).level + 1)) → PaysFor v w x y (MayAskFor c c.subject)
push_pays v w c x y n e may h =
    let m = may_of v c (Push n) e may in
    pays_of v w c x y (Push n) e
    (subst (λ (i : ℕ). PaysFor v w x y (MayAskPush c.clause i)) (sym m.1)
    (subst (λ (cl : List Lit). PaysFor v w x y (MayAskPush cl ((lemma_at v.lemmas n).level + 1))) (sym m.2) h))
