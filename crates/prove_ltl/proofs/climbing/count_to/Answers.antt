use Rattle.std.proofs.Common.{◌∙◌, ℕ, Bool, List, length, sym, subst}
use Rattle.std.proofs.lemmas.Result.{IfOk-weaker}
use Rattle.effort_purse.specs.Drawing.{numbers_below}
use Rattle.effort_purse.specs.Plain.{plain_count, plain_spent}
use Rattle.frame_core.specs.FrameLaw.{FrameState}
use Rattle.frame_history.specs.declared.entries.Entry.{Entry}
use Rattle.frame_worker.specs.Exploring.{IsExplored}
use Rattle.prove_run.proofs.Finished.{below_long}
use Rattle.prove_ltl.specs.Climbing.{Climbs, ClimbsBy}
use Rattle.prove_ltl.specs.LtlAnswers.{limits_of}
use Rattle.prove_ltl.proofs.Counted.{climbs_so, plain_used}
use Rattle.prove_ltl.proofs.climbing.count_to.Goals as goal

pub returns-clause-climbs : goal.returns-clause-climbs
returns-clause-climbs g c =
    let effort = c.args.effort.now in
    let m = c.args.monitored.now.system in
    let k : ℕ = c.args.k in
    let f = c.args.frames in
    let works = c.args.work.items in
    let p = c.args.purse.now in
    let q = c.explore.new.purse in
    let r = c.climbed_by.new.purse in
    let fr : FrameState = c.in_ok-frames.field-0.frames in
    let history : List Entry = c.in_ok-frames.field-0.history.items in
    let over : Bool = c.seen_spent-over.result in
    let n : ℕ = plain_count p in
    let before : List ℕ = numbers_below (plain_count q) in
    let after : List ℕ = numbers_below (plain_count r) in
    let late : IsExplored f.systems (limits_of effort) f.lemmas history fr (length (numbers_below n)) (length before) over =
    subst (IsExplored f.systems (limits_of effort) f.lemmas history fr (length (numbers_below n)) (length before)) (sym c.seen_spent-over.ensures) c.in_ok-frames.ensures.explored in
    let e : IsExplored f.systems (limits_of effort) f.lemmas history fr n (length before) over =
    subst (λ (z : ℕ). IsExplored f.systems (limits_of effort) f.lemmas history fr z (length before) over) (below_long n) late in
    IfOk-weaker c.climbed_by.result (ClimbsBy effort m k history fr over works before after (plain_spent r))
    (Climbs effort m k f.systems f.lemmas works n (plain_count r))
    (λ z by. subst (λ (x : ℕ). Climbs effort m k f.systems f.lemmas works n x z) (below_long (plain_count r))
    (climbs_so effort m k history fr over works before after (plain_spent r) z by f.systems f.lemmas n c.requires.counted e
    (plain_used effort r (c.climbed_by.ensures.budget ∙ c.in_ok-frames.ensures.budget ∙ c.requires.budget)))) c.climbed_by.ensures.climbs
