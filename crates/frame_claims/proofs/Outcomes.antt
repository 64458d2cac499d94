-- What was asked gives outcomes of the claim.
use Rattle.std.proofs.Common.{◌≡◌, ℕ, ◌+◌, ◌-◌, ◌<◌, Bool, true, false, not, List, length, refl, sym, subst, ap, ◌∙◌}
use Rattle.std.specs.Prelude.{All, Contains}
use Rattle.std.proofs.lemmas.List.Elements.{All-contains}
use Rattle.clause_core.specs.declared.literal.Lit.{Lit}
use Rattle.clause_core.specs.Literals.{Within}
use Rattle.clause_core.specs.Assignments.{ClauseTrue, assignment_of}
use Rattle.clause_core.specs.Systems.{TransitionSystem, NextIs}
use Rattle.frame_core.specs.declared.parts.Lemma.{Lemma}
use Rattle.frame_core.specs.Differences.{IsSameSystem}
use Rattle.frame_core.specs.FrameLaw.{FrameState, FramesHold, system_at, lemma_at, obligation_at, InFrame, AllStand}
use Rattle.frame_core.proofs.States.{first_same}
use Rattle.frame_history.specs.declared.entries.Subject.{Subject}
use Rattle.frame_history.specs.declared.entries.Subject.TheVariants.{Bad, Block, Push}
use Rattle.frame_history.specs.History.{asked_level, asked_system}
use Rattle.frame_solver.specs.Firsts.{AllFirstsMeet}
use Rattle.frame_solver.specs.Stepping.{IsStepOut}
use Rattle.frame_query.specs.Findings.{SolverView}
use Rattle.frame_book.specs.declared.claim.ClaimOutcome.{ClaimOutcome}
use Rattle.frame_book.specs.declared.claim.ClaimOutcome.TheVariants.{Proved, Step, Found, Clear, Spent}
use Rattle.frame_book.specs.Claims.{ClaimView, IsOfSubject}
use Rattle.frame_book.specs.Outcomes.{IsOutcomeOf, Leaves}
use Rattle.frame_claims.specs.Asking.{AnswersBad, AnswersBlock, AnswersPush, AnswersClaim}
use Rattle.frame_claims.specs.Outcomes.{IsAsked, IsThere, IsUpToDate}

same_of : (w : Bool) (a b : TransitionSystem) → b ≡ a → IsSameSystem w a b
same_of w a b e =
    let itself : IsSameSystem w a a = record { state_bits = refl; all_bits = refl; init = refl; step = refl; bad = λ h. refl; good = λ h. refl } in
    subst (IsSameSystem w a) (sym e) itself

of_frames : (f : FrameState) (w : SolverView) (j : ℕ) → IsUpToDate f w → (s : TransitionSystem) → s ≡ system_at w.systems j → s ≡ system_at f.systems j
of_frames f w j u s e = e ∙ ap (λ (z : List TransitionSystem). system_at z j) u.systems

in_frames : (f : FrameState) (w : SolverView) (j i : ℕ) (x : ℕ → Bool) → IsUpToDate f w → InFrame (system_at w.systems j) w.lemmas i x →
    InFrame (system_at f.systems j) f.lemmas i x
in_frames f w j i x u h =
    subst (λ (z : List TransitionSystem). InFrame (system_at z j) f.lemmas i x) u.systems
    (subst (λ (z : List Lemma). InFrame (system_at w.systems j) z i x) u.lemmas h)

pub bad_asked : (f : FrameState) (v : ClaimView) (w : SolverView) (j level : ℕ) (over : Bool) (o : ClaimOutcome) → IsUpToDate f w → v.subject ≡ Bad j → level ≡ v.level →
    AnswersBad w j level over o → IsAsked f v over o
bad_asked f v w j level over (Found g) u of at h =
    let P : Subject → Type 0 = λ s. IsOutcomeOf f.systems v s (Found g) in
    let T : Subject → Type 0 = λ s. InFrame (system_at f.systems (asked_system f s)) f.lemmas (asked_level s v.level) (assignment_of g.values) in
    let there = in_frames f w j level (assignment_of g.values) u h.2 in
    let now : T (Bad j) = subst (λ (i : ℕ). InFrame (system_at f.systems j) f.lemmas i (assignment_of g.values)) at there in
    record {
      of = subst P (sym of) (h.1, same_of true (system_at f.systems j) g.system (of_frames f w j u g.system h.0));
      timely = subst T (sym of) now;
      spent = tt;
    }
bad_asked f v w j level over (Clear c) u of at h =
    let P : Subject → Type 0 = λ s. IsOutcomeOf f.systems v s (Clear c) in
    record {
      of = subst P (sym of) (h.1 ∙ at, same_of true (system_at f.systems j) c.system (of_frames f w j u c.system h.0));
      timely = subst (λ (i : ℕ). AllStand f.lemmas i c.parents) at (subst (λ (z : List Lemma). AllStand z level c.parents) u.lemmas h.2);
      spent = tt;
    }
bad_asked f v w j level over (Spent d b) u of at h =
    let P : Subject → Type 0 = λ s. IsOutcomeOf f.systems v s (Spent d b) in
    record { of = subst P (sym of) tt; timely = tt; spent = h }
bad_asked f v w j level over (Proved p) u of at h = absurd h
bad_asked f v w j level over (Step s) u of at h = absurd h

-- a state of a frame of the first system is one of each system's frame
in_each : (f : FrameState) (j i : ℕ) (x : ℕ → Bool) → FramesHold f → j < length f.systems → InFrame (system_at f.systems 0) f.lemmas i x →
    InFrame (system_at f.systems j) f.lemmas i x
in_each f j i x holds lt h = ((λ e. first_same false (system_at f.systems 0) (system_at f.systems j) (holds.alike j lt) x (h.0 e)), h.1)

pub block_asked : (f : FrameState) (v : ClaimView) (w : SolverView) (o level : ℕ) (over : Bool) (out : ClaimOutcome) → FramesHold f → IsUpToDate f w →
    v.subject ≡ Block o → o < length f.obligations → level ≡ v.level → AnswersBlock w v.values level over out → IsAsked f v over out
block_asked f v w o level over (Proved p) holds u of lt at h =
    let P : Subject → Type 0 = λ s. IsOutcomeOf f.systems v s (Proved p) in
    record {
      of = subst P (sym of) (h.1 ∙ at, h.2, same_of false (system_at f.systems 0) p.system (of_frames f w 0 u p.system h.0));
      timely = subst (λ (i : ℕ). AllStand f.lemmas (i - 1) p.parents) at (subst (λ (z : List Lemma). AllStand z (level - 1) p.parents) u.lemmas h.3);
      spent = tt;
    }
block_asked f v w o level over (Found g) holds u of lt at h =
    let P : Subject → Type 0 = λ s. IsOutcomeOf f.systems v s (Found g) in
    let T : Subject → Type 0 = λ s. InFrame (system_at f.systems (asked_system f s)) f.lemmas (asked_level s v.level) (assignment_of g.values) in
    let sys : TransitionSystem = system_at f.systems 0 in
    let is : g.system ≡ sys = of_frames f w 0 u g.system h.0 in
    let j : ℕ = (obligation_at f.obligations o).system in
    let there = in_frames f w 0 (level - 1) (assignment_of g.values) u h.3 in
    let here : InFrame (system_at f.systems j) f.lemmas (level - 1) (assignment_of g.values) =
    in_each f j (level - 1) (assignment_of g.values) holds (holds.obligations o lt).of there in
    let now : T (Block o) = subst (λ (i : ℕ). InFrame (system_at f.systems j) f.lemmas (i - 1) (assignment_of g.values)) at here in
    let ends : NextIs g.system.state_bits (assignment_of g.values) (assignment_of v.values) =
    subst (λ (z : TransitionSystem). NextIs z.state_bits (assignment_of g.values) (assignment_of v.values)) (sym h.0) h.2 in
    record { of = subst P (sym of) (h.1, ends, same_of false sys g.system is); timely = subst T (sym of) now; spent = tt }
block_asked f v w o level over (Spent d b) holds u of lt at h =
    let P : Subject → Type 0 = λ s. IsOutcomeOf f.systems v s (Spent d b) in
    record { of = subst P (sym of) tt; timely = tt; spent = h }
block_asked f v w o level over (Step s) holds u of lt at h = absurd h
block_asked f v w o level over (Clear c) holds u of lt at h = absurd h

not_itself : (b : Bool) → b ≡ not b → ⊥
not_itself true e = let h : true ≡ false = e in cc
not_itself false e = let h : false ≡ true = e in cc

-- a step out of a clause does not end in it
out_of_clause : (bits : ℕ) (values : List Bool) (clause : List Lit) (y : ℕ → Bool) → Within bits clause →
    All (λ (l : Lit). assignment_of values (bits + l.var) ≡ not l.positive) clause → NextIs bits (assignment_of values) y → ClauseTrue y clause → ⊥
out_of_clause bits values clause y within out next met =
    let l : Lit = met.1 in
    let there : Contains clause l = (met.0, met.2, met.3) in
    let lt : l.var < bits = All-contains (λ (m : Lit). m.var < bits) clause l within there in
    let off = All-contains (λ (m : Lit). assignment_of values (bits + m.var) ≡ not m.positive) clause l out there in
    not_itself l.positive (sym met.4 ∙ sym (next l.var lt) ∙ off)

pub lemma_first : (f : FrameState) (n : ℕ) → FramesHold f → n < length f.lemmas → AllFirstsMeet (system_at f.systems 0) (lemma_at f.lemmas n).clause
lemma_first f n holds lt x first = (holds.lemmas 0 holds.some).first n lt x first

push_asked : (f : FrameState) (v : ClaimView) (w : SolverView) (n : ℕ) (over : Bool) (out : ClaimOutcome) → FramesHold f → n < length f.lemmas → IsUpToDate f w → v.subject ≡ Push n →
    v.clause ≡ (lemma_at f.lemmas n).clause → AnswersPush w n v.level over out → IsAsked f v over out
push_asked f v w n over (Proved p) holds there u of clause h =
    let P : Subject → Type 0 = λ s. IsOutcomeOf f.systems v s (Proved p) in
    let same : p.clause ≡ v.clause = h.2 ∙ ap (λ (z : List Lemma). (lemma_at z n).clause) u.lemmas ∙ sym clause in
    record {
      of = subst P (sym of) (h.1, same, same_of false (system_at f.systems 0) p.system (of_frames f w 0 u p.system h.0));
      timely = subst (λ (z : List Lemma). AllStand z (v.level - 1) p.parents) u.lemmas h.3;
      spent = tt;
    }
push_asked f v w n over (Step s) holds there u of clause h =
    let P : Subject → Type 0 = λ z. IsOutcomeOf f.systems v z (Step s) in
    let sys : TransitionSystem = system_at w.systems 0 in
    let cl : List Lit = (lemma_at w.lemmas n).clause in
    let is : cl ≡ v.clause = ap (λ (z : List Lemma). (lemma_at z n).clause) u.lemmas ∙ sym clause in
    let out : IsStepOut sys w.lemmas v.level v.clause s.values = subst (λ (c : List Lit). IsStepOut sys w.lemmas v.level c s.values) is h.1 in
    let bits : ℕ = sys.state_bits in
    let lemma_within : Within (system_at f.systems 0).state_bits (lemma_at f.lemmas n).clause = (holds.lemmas 0 holds.some).within n there in
    let within : Within bits v.clause =
    subst (λ (z : List TransitionSystem). Within (system_at z 0).state_bits v.clause) (sym u.systems)
    (subst (Within (system_at f.systems 0).state_bits) (sym clause) lemma_within) in
    let leaves : Leaves s v = λ y next.
    out_of_clause bits s.values v.clause y within out.out
    (subst (λ (z : TransitionSystem). NextIs z.state_bits (assignment_of s.values) y) h.0 next) in
    record {
      of = subst P (sym of) (leaves, same_of false (system_at f.systems 0) s.system (of_frames f w 0 u s.system h.0));
      timely = in_frames f w 0 (v.level - 1) (assignment_of s.values) u out.from;
      spent = tt;
    }
push_asked f v w n over (Spent d b) holds there u of clause h =
    let P : Subject → Type 0 = λ s. IsOutcomeOf f.systems v s (Spent d b) in
    record { of = subst P (sym of) tt; timely = tt; spent = h }
push_asked f v w n over (Found g) holds there u of clause h = absurd h
push_asked f v w n over (Clear c) holds there u of clause h = absurd h

asked_case : (f : FrameState) (v : ClaimView) (w : SolverView) (u : Subject) (over : Bool) (out : ClaimOutcome) → FramesHold f → IsUpToDate f w → v.subject ≡ u →
    IsThere f u → IsOfSubject f u v.values v.clause → AnswersClaim w v u over out → IsAsked f v over out
asked_case f v w (Bad j) over out holds up of there target h = bad_asked f v w j v.level over out up of refl h
asked_case f v w (Block o) over out holds up of there target h = block_asked f v w o v.level over out holds up of there refl h
asked_case f v w (Push n) over out holds up of there target h = push_asked f v w n over out holds there up of target h

-- what is answered to a claim of these frames is an outcome of it, of the frames as they are
pub asked_so : (f : FrameState) (v : ClaimView) (w : SolverView) (over : Bool) (out : ClaimOutcome) → FramesHold f → IsUpToDate f w → IsThere f v.subject →
    IsOfSubject f v.subject v.values v.clause → AnswersClaim w v v.subject over out → IsAsked f v over out
asked_so f v w over out holds up there target h = asked_case f v w v.subject over out holds up refl there target h
