-- What a claim that was taken may ask, and that what was asked was paid for.
use Rattle.std.proofs.Common.{◌≡◌, ℕ, ◌+◌, ◌<◌, Bool, false, List, length, refl, sym, subst, ap, ◌∙◌, inl}
use Rattle.std.proofs.lemmas.List.Elements.{All-weaker}
use Rattle.clause_core.specs.declared.literal.Lit.{Lit}
use Rattle.clause_core.specs.Assignments.{assignment_of}
use Rattle.clause_core.specs.Systems.{TransitionSystem, FirstBits}
use Rattle.frame_core.specs.declared.parts.Lemma.{Lemma}
use Rattle.frame_core.specs.declared.outcomes.FramesVerdict.TheVariants.{Reached}
use Rattle.frame_core.specs.FrameLaw.{FrameState, FramesHold, system_at, lemma_at, obligation_at}
use Rattle.frame_core.proofs.States.{first_same}
use Rattle.frame_history.specs.declared.entries.Limits.{Limits}
use Rattle.frame_history.specs.declared.entries.Subject.{Subject}
use Rattle.frame_history.specs.declared.entries.Subject.TheVariants.{Bad, Block, Push}
use Rattle.frame_history.specs.History.{BookState, IsDecided, IsOpenTask}
use Rattle.frame_solver.specs.Firsts.{AllFirstsMeet}
use Rattle.frame_solver.specs.Paying.{Question, AskedQuery, Pays}
use Rattle.frame_query.specs.Findings.{SolverView}
use Rattle.frame_book.specs.Claims.{ClaimView, IsOfSubject}
use Rattle.frame_claims.specs.Asking.{MayBeAsked, PaysFor}
use Rattle.frame_claims.specs.Outcomes.{IsThere, IsUpToDate, PaysClaim}
use Rattle.frame_claims.specs.Paying.{MayAsk, MayAskBlock, MayAskFor, MayAskPush}
use Rattle.frame_claims.proofs.Outcomes.{lemma_first}

first_decided : (s : BookState) (o : ℕ) → FramesHold s.frames → o < length s.frames.obligations →
    FirstBits (system_at s.frames.systems 0) (assignment_of (obligation_at s.frames.obligations o).values) →
    IsDecided s (obligation_at s.frames.obligations o).system
first_decided s o holds lt first =
    let x = obligation_at s.frames.obligations o in
    let there = (holds.obligations o lt).of in
    inl (
      Reached o,
      (
        lt,
        refl,
        first_same false (system_at s.frames.systems 0) (system_at s.frames.systems x.system) (holds.alike x.system there)
            (assignment_of x.values) first,
      ),
    )

-- what the subject of a claim names is there
pub there_by : (limits : Limits) (s : BookState) (u : Subject) (level : ℕ) → IsOpenTask limits s u level → IsThere s.frames u
there_by limits s (Bad j) level task = task.0
there_by limits s (Block o) level task = task.0
there_by limits s (Push n) level task = task.0

may_case : (limits : Limits) (s : BookState) (c : ClaimView) (w : SolverView) (u : Subject) → FramesHold s.frames → IsUpToDate s.frames w →
    IsOpenTask limits s u c.level → IsOfSubject s.frames u c.values c.clause → MayBeAsked w c u
may_case limits s c w (Bad j) holds up task target = subst (λ (z : List TransitionSystem). j < length z) (sym up.systems) task.0
may_case limits s c w (Block o) holds up task target =
    let f : FrameState = s.frames in
    let x = obligation_at f.obligations o in
    let is = holds.obligations o task.0 in
    let whole : length c.values ≡ (system_at f.systems 0).all_bits =
    ap (λ (z : List Bool). length z) target ∙ is.whole ∙ sym (holds.alike x.system is.of).all_bits in
    let later : FirstBits (system_at f.systems 0) (assignment_of c.values) → ⊥ = λ first.
    task.1 (first_decided s o holds task.0 (subst (λ (y : List Bool). FirstBits (system_at f.systems 0) (assignment_of y)) target first)) in
    let M : List TransitionSystem → Type 0 = λ z.
    (0 < length z) × (0 < c.level) × (length c.values ≡ (system_at z 0).all_bits) × (FirstBits (system_at z 0) (assignment_of c.values) → ⊥) in
    subst M (sym up.systems) (holds.some, task.4.0, whole, later)
may_case limits s c w (Push n) holds up task target =
    let f : FrameState = s.frames in
    let M : List TransitionSystem → List Lemma → Type 0 = λ z ls.
    (n < length ls) × (c.level ≡ (lemma_at ls n).level + 1) × (c.clause ≡ (lemma_at ls n).clause)
    × AllFirstsMeet (system_at z 0) (lemma_at ls n).clause in
    subst (λ (z : List TransitionSystem). M z w.lemmas) (sym up.systems)
    (subst (M f.systems) (sym up.lemmas) (task.0, task.2, target, lemma_first f n holds task.0))

-- a claim that may be made may be asked by a solver that has the lemmas of the frames
pub may_be_asked : (limits : Limits) (s : BookState) (c : ClaimView) (w : SolverView) → FramesHold s.frames → IsUpToDate s.frames w →
    IsOpenTask limits s c.subject c.level → IsOfSubject s.frames c.subject c.values c.clause → MayBeAsked w c c.subject
may_be_asked limits s c w holds up task target = may_case limits s c w c.subject holds up task target

-- ---- What was paid

ask_case : (f : FrameState) (c : ClaimView) (u : Subject) (q : Question) → IsOfSubject f u c.values c.clause → MayAskFor c u q → MayAsk f u c.level q
ask_case f c (Bad j) q target may = may
ask_case f c (Block o) q target may = subst (λ (x : List Bool). MayAskBlock x c.level q) target may
ask_case f c (Push n) q target may = subst (λ (x : List Lit). MayAskPush x c.level q) target may

-- what was asked for a claim of these frames, by a solver that has their lemmas, was asked of the frames
pub paid_so : (f : FrameState) (c : ClaimView) (v w : SolverView) (before after : List ℕ) → IsUpToDate f v → IsOfSubject f c.subject c.values c.clause →
    PaysFor v w before after (MayAskFor c c.subject) → PaysClaim f c v.known w.known before after
paid_so f c v w before after up target paid =
    let P : List TransitionSystem → List Lemma → Type 0 = λ z ls. Pays z ls v.known w.known before after paid.0 in (
      paid.0,
      subst (λ (z : List TransitionSystem). P z f.lemmas) up.systems (subst (P v.systems) up.lemmas paid.1),
      paid.2,
      All-weaker (λ (a : AskedQuery). MayAskFor c c.subject a.question) (λ (a : AskedQuery). MayAsk f c.subject c.level a.question)
          (λ a may. ask_case f c c.subject a.question target may) paid.0 paid.3,
    )
