use Rattle.std.proofs.Common.{◌≡◌, ◌<◌, ◌∙◌, List, length, set, false, sym, refl, subst}
use Rattle.frame_core.specs.declared.parts.Lemma.{Lemma}
use Rattle.frame_core.specs.FrameLaw.{lemma_at}
use Rattle.frame_core.specs.Marks.{AreMarked}
use Rattle.frame_core.specs.Signatures.{AreSigned}
use Rattle.frame_core.proofs.Marked.{others_set}
use Rattle.frame_core.proofs.Signed.{signed_set}
use Rattle.frame_core.proofs.lemma_list.Lemmas.retire.Goals as goal

pub invariant_of-self : goal.invariant_of-self
invariant_of-self c =
    let ls = c.self.inside.items.items in
    let n = c.args.n in
    let words = c.self.inside.signatures.items in
    let lt : n < length ls = subst (λ (z : List Lemma). n < length z) (sym c.self.view_is) c.requires in
    let a : Lemma = lemma_at ls n in
    let b : Lemma = record { clause = a.clause; level = a.level; live = false } in
    let seen : c.deref.result.now ≡ c.set_retired.new.lemmas.items = c.deref.ensures.value in
    let is : c.deref.result.now ≡ set ls n b = seen ∙ c.set_retired.ensures in (
      subst (λ (z : List Lemma). AreSigned z words) (sym c.set_retired.ensures) (signed_set ls n b words lt refl c.self.invariant.0),
      subst (λ (z : List Lemma). AreMarked z c.mark_anew.new.words.items) seen (c.mark_anew.ensures ls (others_set ls c.deref.result.now n b is) c.self.invariant.1),
    )
