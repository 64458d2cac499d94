use Rattle.std.proofs.Common.{◌≡◌, sym, ap, subst, ◌∙◌}
use Rattle.std.specs.Prelude.{Some}
use Rattle.frame_core.specs.FrameLaw.{FrameState}
use Rattle.frame_history.specs.declared.entries.Made.{Made}
use Rattle.frame_history.specs.History.{claim_at}
use Rattle.frame_book.specs.Claims.{ClaimView}
use Rattle.frame_book.specs.Pages.{IsIn, FitsIn}
use Rattle.frame_book.proofs.Turning.{fits_in}
use Rattle.frame_book.proofs.pages.Pages.find.Goals as goal

pub is_of_subject-requires : goal.is_of_subject-requires
is_of_subject-requires c =
    let p = c.self.inside in
    let d : Made = c.in-Some.made in
    let at : claim_at p.register.made c.claim.inside.number ≡ Some d = sym c.made.ensures ∙ c.in-Some.is in
    let fits : FitsIn p.levels d.subject d.level = c.self.invariant.sane.fit c.claim.inside.number d at in
    let same : d.subject ≡ c.args.claim.now.subject = c.is_same.ensures.0 c.if-is_same.true ∙ ap (λ (v : ClaimView). v.subject) c.claim.view_is in
    subst (λ (f : FrameState). IsIn f c.args.claim.now.subject) (sym c.frames.ensures)
    (subst (IsIn p.levels) same (fits_in p.levels d.subject d.level fits))
