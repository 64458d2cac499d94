-- What is known of the frames of a counter, by one worker and by several.
use Rattle.std.proofs.Common.{◌≡◌, ◌∙◌, ℕ, ◌<◌, Bool, true, false, List, [], ◌∷◌, length, sym, subst, ap, arith}
use Rattle.std.specs.Prelude.{None}
use Rattle.clause_core.specs.Systems.{TransitionSystem, Gives}
use Rattle.effort_purse.specs.declared.plain.PlainPurse.{PlainPurse}
use Rattle.effort_purse.specs.Drawing.{numbers_below}
use Rattle.effort_purse.specs.Plain.{plain_budget, plain_count, plain_spent}
use Rattle.frame_core.specs.declared.parts.Lemma.{Lemma}
use Rattle.frame_core.specs.FrameLaw.{FrameState}
use Rattle.frame_history.specs.declared.entries.Limits.{Limits}
use Rattle.frame_history.specs.declared.entries.Entry.{Entry}
use Rattle.frame_worker.specs.Exploring.{IsExplored}
use Rattle.ltl_monitor.specs.Counted.{IsCounted}
use Rattle.prove_run.specs.declared.answers.Work.{Work}
use Rattle.prove_run.proofs.Finished.{below_long}
use Rattle.prove_ltl.specs.declared.effort.LtlEffort.{LtlEffort}
use Rattle.prove_ltl.specs.declared.answers.LtlDone.{LtlDone}
use Rattle.prove_ltl.specs.declared.counting.Climbed.{Climbed}
use Rattle.prove_ltl.specs.Climbing.{Begins, Climbs, ClimbsBy, IsDoneFor, IsUsedUp, Settles}
use Rattle.prove_ltl.specs.Early.{is_unknown}
use Rattle.prove_ltl.specs.Lengths.{HasNoneUpTo}
use Rattle.prove_ltl.specs.LtlAnswers.{limits_of}
use Rattle.prove_ltl.proofs.Beginning.{unasked}
use Rattle.prove_ltl.proofs.Stepping.{same_after}

-- where a purse of one worker is spent, each ticket was drawn
pub plain_used : (effort : LtlEffort) (p : PlainPurse) → plain_budget p ≡ effort.conflicts → IsUsedUp effort (numbers_below (plain_count p)) (plain_spent p)
plain_used effort p budget on = below_long (plain_count p) ∙ p.used_up on ∙ budget

-- where it is not spent there is nothing to show
pub unspent_used : (effort : LtlEffort) (tickets : List ℕ) (over : Bool) → over ≡ false → IsUsedUp effort tickets over
unspent_used effort tickets over off on = absurd (let h : false ≡ true = sym off ∙ on in let never : ⊥ = cc in never)

-- the frames are of some system
pub some_system : (m : TransitionSystem) (k : ℕ) (systems : List TransitionSystem) (limits : Limits) (carried : List Lemma) (history : List Entry)
    (f : FrameState) (old new : ℕ) (over : Bool) → (c : TransitionSystem) × (systems ≡ c ∷ []) × IsCounted m k c →
    IsExplored systems limits carried history f old new over → 0 < length f.systems
some_system m k systems limits carried history f old new over one e =
    let many : length f.systems ≡ 1 = ap (λ (z : List TransitionSystem). length z) (same_after systems limits carried history f old new over e ∙ one.1) in
    omega (arith, many)

-- what came of the counter, of the system and the lemmas that it began with
pub climbs_so : (effort : LtlEffort) (m : TransitionSystem) (k : ℕ) (history : List Entry) (f : FrameState) (over : Bool) (works : List Work)
    (before after : List ℕ) (late : Bool) (r : Climbed) → ClimbsBy effort m k history f over works before after late r →
    (systems : List TransitionSystem) (carried : List Lemma) (old : ℕ) → (c : TransitionSystem) × (systems ≡ c ∷ []) × IsCounted m k c →
    IsExplored systems (limits_of effort) carried history f old (length before) over → IsUsedUp effort after late →
    Climbs effort m k systems carried works old (length after) r
climbs_so effort m k history f over works before after late r by systems carried old one e whole =
    subst (λ (z : List TransitionSystem). Climbs effort m k z carried works old (length after) r) (sym one.1)
    (by one.0 carried old one.2 (subst (λ (z : List TransitionSystem). IsExplored z (limits_of effort) carried history f old (length before) over) one.1 e) whole)

-- all counters, after the lengths
pub done_for : (sys : TransitionSystem) (effort : LtlEffort) (m : TransitionSystem) (tickets : List ℕ) (over : Bool) (d : LtlDone) →
    Begins sys effort m tickets over None → Settles effort m 0 [] [] (length tickets) d → IsDoneFor sys effort m d
done_for sys effort m tickets over d begins settles f atoms ism =
    let b = begins.1 f atoms ism in settles sys f atoms b.0 b.1 (λ unknown. begins.0)

-- all counters, where no lasso was asked for; none has one, or the answer is known
pub done_beside : (sys : TransitionSystem) (effort : LtlEffort) (m : TransitionSystem) (d : LtlDone) → Gives sys.state_bits sys.fair sys.defs →
    Gives m.state_bits m.fair m.defs → (is_unknown d.answer ≡ true → HasNoneUpTo m effort.bound) → Settles effort m 0 [] [] 0 d → IsDoneFor sys effort m d
done_beside sys effort m d own gives none settles f atoms ism =
    let b = unasked sys effort m own gives f atoms ism in settles sys f atoms b.0 b.1 none
