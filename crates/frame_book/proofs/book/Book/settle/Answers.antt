use Rattle.std.proofs.Common.{◌+◌, ℕ, sym, ap, subst, ◌∙◌}
use Rattle.frame_book.specs.declared.claim.ClaimOutcome.{ClaimOutcome}
use Rattle.frame_book.specs.declared.claim.Settling.{Settling}
use Rattle.frame_book.specs.declared.claim.Settling.TheVariants as settling
use Rattle.frame_book.specs.Claims.{ClaimView}
use Rattle.frame_book.specs.Book.{BookView, Settles}
use Rattle.frame_book.proofs.Picked.{settles_counted}
use Rattle.frame_book.proofs.book.Book.settle.Goals as goal

pub invariant_of-self-in-Ok-Settled : goal.invariant_of-self-in-Ok-Settled
invariant_of-self-in-Ok-Settled g c =
    let b : BookView = c.self.inside.pages in
    let now : BookView = c.settle.new.self in
    let v : ClaimView = c.args.claim in
    let o : ClaimOutcome = c.args.outcome in
    let done : Settles b v o settling.Settled now = subst (λ (r : Settling). Settles b v o r now) c.in-Ok-Settled.field-0-is c.in-Ok-Settled.ensures.done in
    c.add.ensures.total ∙ ap (λ (n : ℕ). n + 1) c.self.invariant ∙ sym (settles_counted b now v o done)
