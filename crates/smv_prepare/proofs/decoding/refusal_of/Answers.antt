use Rattle.std.proofs.Common.{◌≡◌, ◌<◌, ℕ, Bool, List, length, map, sym, ap, subst, ◌∙◌}
use Rattle.std.proofs.lemmas.Option.{slice_get-get_or}
use Rattle.clause_core.specs.Assignments.{assignment_of}
use Rattle.smv_resolve.specs.Items.{item_by}
use Rattle.bit_faults.specs.Mending.{mended}
use Rattle.bit_faults.specs.Questions.{judged_items}
use Rattle.bit_states.specs.Layouts.{BitLayout}
use Rattle.smv_prepare.specs.Decoding.{IsValuation}
use Rattle.smv_prepare.proofs.Refusing.{AreJudges, item_there, refusal_found, refused_so}
use Rattle.smv_prepare.proofs.decoding.refusal_of.Goals as goal

-- the bits of the list are the mended ones
mended_bits : (list made : List Bool) (there those : ℕ → Bool) → list ≡ made → ((k : ℕ) → assignment_of made k ≡ there k) → there ≡ those → assignment_of list ≡ those
mended_bits list made there those is each same = ap assignment_of is ∙ (λ i k. each k i) ∙ same

pub unreachable-requires : goal.unreachable-requires
unreachable-requires c =
    let p = c.args.typed.now.scope.program in
    let nodes = c.args.typed.now.nodes in
    let items = c.as_slice-2.result.now in
    let judged : map (item_by nodes) items ≡ judged_items p = ap (map (item_by nodes)) c.as_slice-2.ensures ∙ c.in_ok-items.ensures in
    let inside : c.args.number < length items = item_there p nodes items c.args.questions.now c.args.number c.args.model.now judged c.requires.questions c.requires.faulty in
    let bits : assignment_of c.deref.result.now ≡ mended p (assignment_of c.args.model.now) =
    mended_bits c.deref.result.now c.in_ok-bits.bits.items (mended p (assignment_of c.as_slice.result.now)) (mended p (assignment_of c.args.model.now)) c.deref.ensures.value c.in_ok-bits.ensures
    (ap (λ (bs : List Bool). mended p (assignment_of bs)) c.as_slice.ensures) in
    let V : BitLayout → (ℕ → Bool) → Type 0 = λ y x. IsValuation y x c.in_ok-at.at in
    let judges : AreJudges p c.args.questions.now c.args.model.now c.args.number = record {
      met = λ x q is all. c.what_is_met.ensures p x q (assignment_of c.args.model.now) is all;
      before = c.what_is_never_met.ensures.before p c.args.questions.now c.args.number c.args.typed.now.right_types c.requires.questions c.requires.faulty.before;
    } in
    refusal_found p nodes items c.args.questions.now c.args.number _ c.args.model.now c.in_ok-at.at judged (slice_get-get_or items c.args.number _ inside) c.requires.questions c.requires.faulty
    (subst (λ (y : BitLayout). V y (mended p (assignment_of c.args.model.now))) c.requires.layout (subst (V c.args.layout.now) bits c.in_ok-at.ensures)) judges (sym c.in_ok-refusal.ensures ∙ c.in-None.is)

pub returns : goal.returns
returns c =
    let p = c.args.typed.now.scope.program in
    let nodes = c.args.typed.now.nodes in
    let items = c.as_slice-2.result.now in
    let judged : map (item_by nodes) items ≡ judged_items p = ap (map (item_by nodes)) c.as_slice-2.ensures ∙ c.in_ok-items.ensures in
    let inside : c.args.number < length items = item_there p nodes items c.args.questions.now c.args.number c.args.model.now judged c.requires.questions c.requires.faulty in
    let bits : assignment_of c.deref.result.now ≡ mended p (assignment_of c.args.model.now) =
    mended_bits c.deref.result.now c.in_ok-bits.bits.items (mended p (assignment_of c.as_slice.result.now)) (mended p (assignment_of c.args.model.now)) c.deref.ensures.value c.in_ok-bits.ensures
    (ap (λ (bs : List Bool). mended p (assignment_of bs)) c.as_slice.ensures) in
    let V : BitLayout → (ℕ → Bool) → Type 0 = λ y x. IsValuation y x c.in_ok-at.at in
    let judges : AreJudges p c.args.questions.now c.args.model.now c.args.number = record {
      met = λ x q is all. c.what_is_met.ensures p x q (assignment_of c.args.model.now) is all;
      before = c.what_is_never_met.ensures.before p c.args.questions.now c.args.number c.args.typed.now.right_types c.requires.questions c.requires.faulty.before;
    } in
    refused_so p nodes items c.args.questions.now c.args.number _ c.args.model.now c.in_ok-at.at judged (slice_get-get_or items c.args.number _ inside) c.requires.questions c.requires.faulty
    (subst (λ (y : BitLayout). V y (mended p (assignment_of c.args.model.now))) c.requires.layout (subst (V c.args.layout.now) bits c.in_ok-at.ensures)) judges c.in-Some.refusal (sym c.in_ok-refusal.ensures ∙ c.in-Some.is)
