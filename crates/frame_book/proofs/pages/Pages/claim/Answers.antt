use Rattle.std.proofs.Common.{◌≡◌, ℕ, true, length, refl, sym, subst}
use Rattle.std.specs.Prelude.{Some}
use Rattle.frame_core.specs.FrameLaw.{FramesHold}
use Rattle.frame_history.specs.declared.entries.Subject.{Subject}
use Rattle.frame_history.specs.History.{BookState, IsClosed, IsLawfulClaim, IsNew}
use Rattle.frame_book.specs.Claims.{ClaimView, IsOfSubject}
use Rattle.frame_book.specs.Pages.{state_of}
use Rattle.frame_book.specs.Book.{BookView, entered}
use Rattle.frame_book.proofs.Picked.{not_closed}
use Rattle.frame_history.specs.declared.entries.Entry.TheVariants as entry
use Rattle.std.proofs.Common.{zero}
use Rattle.frame_history.specs.declared.entries.Made.{Made}
use Rattle.frame_history.specs.History.{IsOpenTask, claim_at}
use Rattle.book_agenda.specs.Register.{outs}
use Rattle.frame_book.specs.Picking.{IsOpenSystem}
use Rattle.frame_book.proofs.Backed.{not_stuck, some_out}
use Rattle.frame_book.proofs.pages.Pages.claim.Goals as goal

pub returns-in_default-clause-done : goal.returns-in_default-clause-done
returns-in_default-clause-done c = (subst (λ (z : BookView). IsClosed z.state) c.self.view_is c.in_default.ensures, refl)

pub returns-in_default-pick-clause-done : goal.returns-in_default-pick-clause-done
returns-in_default-pick-clause-done c =
    let p = c.self.inside in
    let s : BookState = state_of p.levels p.register p.marks in
    let j : ℕ = c.in-Some._open in
    let h : IsOpenSystem s j = c.in-Some.ensures in
    let law : FramesHold s.frames = subst FramesHold c.frames.ensures c.systems-systems.ensures.law in
    let nothing : (u : Subject) (level : ℕ) → IsOpenTask p.limits s u level → IsNew s u level → ⊥ = c.in_default-pick.ensures in
    let stuck : outs s.claims ≡ zero → ⊥ =
    λ none. not_stuck p.limits s c.follow.ensures.0 j record {
      law = law;
      follow = c.follow.ensures.1;
      backed = c.self.invariant.backed;
      none = none;
      unspent = h.unspent;
      in' = h.in';
      says = h.says;
      off = h.off;
      open' = h.open';
      nothing = nothing;
    } in
    let T : BookView → Type 0 =
    λ z. (IsClosed z.state → ⊥) × ((u : Subject) (level : ℕ) → IsLawfulClaim z.limits z.state u level → ⊥)
    × ((n : ℕ) × (d : Made) × (claim_at z.state.claims n ≡ Some d) × (d.out ≡ true)) in
    let r : T c.args.self.now =
    subst T c.self.view_is (not_closed s j h, λ u level l. nothing u level l.task l.new, some_out s.claims stuck) in
    (r.0, r.1, r.2, refl)

pub take-requires-clause-lawful : goal.take-requires-clause-lawful
take-requires-clause-lawful c =
    let p = c.self.inside in
    let s : BookState = state_of p.levels p.register p.marks in
    let open' : IsClosed s → ⊥ = not_closed s c.in-Some._open c.in-Some.ensures in
    let o = c.in-Some-pick.ensures in
    let lawful : IsLawfulClaim p.limits s c.in-Some-pick.task.subject c.in-Some-pick.task.level = record { still_open = open'; task = o.task; new = o.new } in
    subst (λ (z : BookView). IsLawfulClaim z.limits z.state c.in-Some-pick.task.subject c.in-Some-pick.task.level) c.self.view_is lawful

pub returns-clause-done : goal.returns-clause-done
returns-clause-done c =
    let b : BookView = c.args.self.now in
    let p = c.self.inside in
    let s : BookState = state_of p.levels p.register p.marks in
    let open' : IsClosed s → ⊥ = not_closed s c.in-Some._open c.in-Some.ensures in
    let o = c.in-Some-pick.ensures in
    let u : Subject = c.in-Some-pick.task.subject in
    let level : ℕ = c.in-Some-pick.task.level in
    let lawful : IsLawfulClaim b.limits b.state u level =
    subst (λ (z : BookView). IsLawfulClaim z.limits z.state u level) c.self.view_is record { still_open = open'; task = o.task; new = o.new } in
    let v : ClaimView = c.in_ok-claim.claim in
    let now : BookView = c.take.new.self in
    let done = c.in_ok-claim.ensures.done in
    let T : ClaimView → Type 0 =
    λ z. IsLawfulClaim b.limits b.state z.subject z.level × (now ≡ entered b (entry.Claim c.args.worker z.subject z.level)) × (z.number ≡ length b.history)
    × (z.worker ≡ c.args.worker) × (z.growth ≡ b.state.growth) × IsOfSubject b.state.frames z.subject z.values z.clause in
    subst T (sym done.1) (lawful, done.0, refl, refl, refl, done.2)
