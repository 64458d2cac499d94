use Rattle.std.proofs.Common.{◌≡◌, ◌≤◌, ℕ, true, [], ◌∷◌, ◌++◌, set, sym, ap, subst, ◌∙◌, arith, add-zero}
use Rattle.std.specs.Prelude.{Some, None, vec_capacity}
use Rattle.frame_history.specs.declared.entries.Made.{Made}
use Rattle.frame_history.specs.declared.entries.Entry.TheVariants as entry
use Rattle.frame_history.specs.History.{claim_at, ended, IsOut}
use Rattle.frame_book.specs.Claims.{ClaimView, IsClaimOf}
use Rattle.book_agenda.specs.Register.{outs}
use Rattle.frame_book.specs.Pages.{state_of}
use Rattle.frame_book.specs.Book.{BookView}
use Rattle.book_agenda.proofs.Orderly.{outs_some}
use Rattle.frame_book.proofs.Turning.{returned}
use Rattle.frame_book.proofs.pages.Pages.give_back.Goals as goal

pub push_reserved-requires : goal.push_reserved-requires
push_reserved-requires c =
    let p = c.self.inside in
    let d : Made = c.in-Some.made in
    let is : IsClaimOf c.args.self.now.state c.args.claim d = c.in-Some.ensures in
    let at : claim_at p.register.made c.args.claim.number ≡ Some d =
    subst (λ (z : BookView). claim_at z.state.claims c.args.claim.number ≡ Some d) (sym c.self.view_is) is.out.0 in
    let some : 1 ≤ outs p.register.made = outs_some p.register.made c.args.claim.number d at is.out.1 in
    let room = c.self.invariant.room in
    let len = p.history.ok.0 in
    omega (arith, some, room, len)

pub invariant_of-self : goal.invariant_of-self
invariant_of-self c =
    let p = c.self.inside in
    let b : BookView = record { systems = p.levels.systems; limits = p.limits; carried = p.carried; history = p.history.items; state = state_of p.levels p.register p.marks } in
    let d : Made = c.in-Some.made in
    let n : ℕ = c.args.claim.number in
    let w : ℕ = c.args.claim.worker in
    let is : IsClaimOf c.args.self.now.state c.args.claim d = c.in-Some.ensures in
    let out : IsOut b.state w n d = subst (λ (z : BookView). IsOut z.state w n d) (sym c.self.view_is) is.out in
    let number : c.spent-number.result ≡ n = c.spent-number.ensures in
    let worker : c.claim.inside.worker ≡ w = ap (λ (v : ClaimView). v.worker) c.claim.view_is in
    let ended' : c.end.new.self ≡ record { made = set b.state.claims n (ended true (Some d)) ++ None ∷ []; growth = b.state.growth } =
    c.end.ensures
    ∙ (λ i. record { made = set b.state.claims (number i) (ended true (Some d)) ++ None ∷ []; growth = add-zero b.state.growth i }) in
    let items : c.push_reserved.new.self.items ≡ b.history ++ entry.Back w n ∷ [] =
    c.push_reserved.ensures.items ∙ (λ i. b.history ++ entry.Back (worker i) (number i) ∷ []) in
    (returned b (vec_capacity p.history) (vec_capacity c.push_reserved.new.self) p.rooms w n d c.end.new.self c.push_reserved.new.self.items
    c.self.invariant out ended' items c.push_reserved.ensures.capacity).1
