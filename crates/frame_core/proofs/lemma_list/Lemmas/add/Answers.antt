use Rattle.std.proofs.Common.{◌≡◌, ◌∷◌, [], ◌++◌, ◌∙◌, length, ap, subst, sym, ℕ, List}
use Rattle.clause_core.specs.declared.literal.Lit.{Lit}
use Rattle.frame_core.specs.declared.parts.Lemma.{Lemma}
use Rattle.frame_core.specs.Marks.{AreMarked}
use Rattle.frame_core.specs.Signatures.{AreSigned, IsSignature}
use Rattle.frame_core.proofs.Marked.{others_more}
use Rattle.frame_core.proofs.Signed.{signed_more}
use Rattle.frame_core.proofs.lemma_list.Lemmas.add.Goals as goal

pub invariant_of-self-2 : goal.invariant_of-self-2
invariant_of-self-2 c =
    let l : Lemma = c.args.lemma in
    let s = c.signature_of-signature.result in
    let old = c.self.inside.items.items in
    let words = c.self.inside.signatures.items in
    let items : c.push_reserved.new.self.items ≡ old ++ l ∷ [] = c.push_reserved.ensures.items ∙ ap (λ (z : List Lemma). z ++ l ∷ []) c.reserve_one.ensures.lemmas in
    let more : c.push_reserved-2.new.self.items ≡ words ++ s ∷ [] = c.push_reserved-2.ensures.items ∙ ap (λ (z : List ℕ). z ++ s ∷ []) c.reserve_one.ensures.signatures in
    let is : IsSignature l.clause s = subst (λ (d : List Lit). IsSignature d s) c.as_slice.ensures c.signature_of-signature.ensures in
    let seen : c.deref.result.now ≡ c.push_reserved.new.self.items = c.deref.ensures.value in (
      subst (λ (z : List Lemma). AreSigned z c.push_reserved-2.new.self.items) (sym items)
          (subst (AreSigned (old ++ l ∷ [])) (sym more) (signed_more old l words s c.self.invariant.0 is)),
      subst (λ (z : List Lemma). AreMarked z c.mark_anew.new.words.items) seen
          (c.mark_anew.ensures old (others_more old c.deref.result.now c.len-n.result l (c.len-n.ensures ∙ ap length (sym c.self.view_is)) (seen ∙ items)) (c.add_word.ensures old c.self.invariant.1)),
    )

pub invariant_of-self-in_err-reserve_one : goal.invariant_of-self-in_err-reserve_one
invariant_of-self-in_err-reserve_one c =
    let words = c.reserve_one.new.signatures.items in
    let marks = c.add_word.new.words.items in (
      subst (λ (z : List Lemma). AreSigned z words) (sym c.reserve_one.ensures.lemmas)
          (subst (AreSigned c.self.inside.items.items) (sym c.reserve_one.ensures.signatures) c.self.invariant.0),
      subst (λ (z : List Lemma). AreMarked z marks) (sym c.reserve_one.ensures.lemmas) (c.add_word.ensures c.self.inside.items.items c.self.invariant.1),
    )

pub invariant_of-self : goal.invariant_of-self
invariant_of-self c = (c.self.invariant.0, c.add_word.ensures c.self.inside.items.items c.self.invariant.1)
