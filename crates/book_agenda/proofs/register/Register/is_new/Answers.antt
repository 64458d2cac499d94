use Rattle.std.proofs.Common.{◌≡◌, ℕ, sym, ap, subst, ◌∙◌}
use Rattle.std.specs.Prelude.{Option, Some}
use Rattle.frame_history.specs.declared.entries.Made.{Made}
use Rattle.frame_history.specs.History.{claim_at}
use Rattle.book_agenda.specs.Register.{Claims, IsLatest, latest_at, AreOrderly}
use Rattle.book_agenda.proofs.Orderly.{new_after, new_back}
use Rattle.book_agenda.proofs.register.Register.is_new.Goals as goal

pub returns-in-Some-made : goal.returns-in-Some-made
returns-in-Some-made c =
    let s : Claims = c.args.self.now in
    let here : Claims = record { made = c.self.inside.claims.items; growth = c.self.inside.growth } in
    let same : here ≡ s = c.self.view_is in
    let d : Made = c.in-Some-made.c in
    let at : claim_at s.made c.in-Some.n ≡ Some d = sym c.made.ensures ∙ c.in-Some-made.is in
    let orderly : AreOrderly s = subst AreOrderly same c.self.invariant.orderly in
    let l = c.self.inside.latest in
    let latest : IsLatest s.made c.args.subject (Some c.in-Some.n) =
    subst (λ (o : Option ℕ). IsLatest s.made c.args.subject o) (sym c.get.ensures ∙ c.in-Some.is)
    (subst (λ (z : Claims). IsLatest z.made c.args.subject (latest_at l.bads.items l.blocks.items l.pushes.items c.args.subject)) same (c.self.invariant.latest c.args.subject)) in
    let growth : c.self.inside.growth ≡ s.growth = ap (λ (z : Claims). z.growth) same in (
      λ t. new_after s c.args.subject c.args.level c.in-Some.n d orderly c.requires latest at (λ g e. c.lets_again.ensures.0 t (g ∙ sym growth) e),
      λ new. c.lets_again.ensures.1 (λ g e. new_back s c.args.subject c.args.level c.in-Some.n d latest at new (g ∙ growth) e),
    )
