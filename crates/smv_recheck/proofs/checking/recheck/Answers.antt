-- The text is a model, and its lines are judged by its systems.
use Rattle.std.proofs.Common.{◌≡◌, ◌∙◌, ℕ, ◌&&◌, cond, List, Option, None, ap, length, subst, sym}
use Rattle.hinted_log.specs.Hints.{HintedLog}
use lib.Dec.{ltb}
use Rattle.std.proofs.lemmas.List.{length-map}
use Rattle.smv_resolve.specs.Items.{item_by}
use Rattle.smv_recheck.specs.Checking.{IsSoundness, is_sound}
use Rattle.smv_recheck.specs.Refusing.{spec_count}
use Rattle.smv_recheck.proofs.checking.recheck.Goals as goal

pub returns-clause-checked : goal.returns-clause-checked
returns-clause-checked c =
    let typed = c.in_ok-flat.flat.typed in
    let p = typed.scope.program in
    let beside = c.in_ok-beside.beside in
    let count : c.len-count.result ≡ spec_count p = c.len-count.ensures ∙ sym (length-map c.in_ok-specs.specs (item_by typed.nodes)) ∙ ap length c.in_ok-specs.ensures.resolved in (
      p,
      record {
        model = c.in_ok-flat.ensures.model;
        built = c.in_ok-built.ensures;
        traces = beside.traces;
        sound = beside.sound;
        certificates = beside.certificates.items;
        held = c.in_ok-beside.ensures.held;
        soundness = c.in_ok-soundness.soundness;
        judged = subst (λ (o : Option (List (Option HintedLog))). IsSoundness p o c.in_ok-soundness.soundness) c.as_ref.ensures.value c.in_ok-soundness.ensures;
        again = c.sound_again-sound.ensures ∙ ap (λ (n : ℕ). cond (c.args.upgrade && is_sound c.in_ok-soundness.soundness && ltb 0 n) beside.sound None) count;
        records = c.in_ok-records.ensures;
      },
    )
