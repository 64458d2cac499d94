use Rattle.std.proofs.Common.{◌≡◌, ◌∙◌, ℕ, Bool, true, List, [], ap, sym, subst, length}
use Rattle.clause_core.specs.Systems.{TransitionSystem}
use Rattle.effort_purse.specs.Drawing.{numbers_below}
use Rattle.effort_purse.specs.Plain.{plain_count}
use Rattle.frame_core.specs.FrameLaw.{FrameState}
use Rattle.frame_core.specs.declared.parts.Lemma.{Lemma}
use Rattle.frame_history.specs.declared.entries.Entry.{Entry}
use Rattle.prove_run.specs.declared.answers.Answer.{Answer}
use Rattle.prove_run.specs.Answers.{limits_of}
use Rattle.frame_worker.specs.Exploring.{IsExplored}
use Rattle.prove_run.proofs.Finished.{below_long, finished}
use Rattle.prove_run.proofs.proving.prove_alone.Goals as goal

pub returns : goal.returns
returns g c =
    let systems = c.args.systems.now in
    let effort = c.args.effort.now in
    let p = c.explore.new.purse in
    let q = c.answers.new.purse in
    let f : FrameState = c.in_ok-frames-2.field-0.frames in
    let over : Bool = c.seen_spent-over.result in
    let answers : List Answer = c.in_ok-answers.answers.items in
    let history : List Entry = c.in_ok-frames-2.field-0.history.items in
    let first : FrameState = c.in_ok-frames.frames in
    let is = c.in_ok-frames.ensures in
    let old : numbers_below (plain_count c.new-purse.result) ≡ [] = ap numbers_below c.new-purse.ensures.count in
    let new : List ℕ = numbers_below (plain_count p) in
    let E : List TransitionSystem → List Lemma → List ℕ → Bool → Type 0 = λ ss carried before late. IsExplored ss (limits_of effort) carried history f (length before) (length new) late in
    let h : E systems [] [] over =
    subst (λ (z : List TransitionSystem). E z [] [] over) (ap (λ (z : FrameState). z.systems) is)
    (subst (λ (z : List Lemma). E first.systems z [] over) (ap (λ (z : FrameState). z.lemmas) is)
    (subst (λ (z : List ℕ). E first.systems first.lemmas z over) old
    (subst (E first.systems first.lemmas (numbers_below (plain_count c.new-purse.result))) (sym c.seen_spent-over.ensures) c.in_ok-frames-2.ensures.explored))) in
    let told = c.in_ok-answers.ensures.answered in
    let spent : Bool = told.0 in
    let whole : spent ≡ true → length (numbers_below (plain_count q)) ≡ effort.conflicts = λ on.
    below_long (plain_count q) ∙ q.used_up (told.1 on) ∙ c.in_ok-answers.ensures.budget ∙ c.in_ok-frames-2.ensures.budget ∙ c.new-purse.ensures.budget in
    finished systems effort history f new (numbers_below (plain_count q)) over spent answers h whole c.in_ok-answers.ensures.each_one told.2
