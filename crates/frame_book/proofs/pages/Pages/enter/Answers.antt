use Rattle.std.proofs.Common.{◌≡◌, List, [], ◌∷◌, ◌++◌, length, sym, ap, subst, ◌∙◌, arith}
use Rattle.std.specs.Prelude.{vec_capacity, vec_len}
use Rattle.frame_core.specs.FrameLaw.{FramesHold}
use Rattle.frame_history.specs.declared.entries.Entry.{Entry}
use Rattle.frame_history.specs.declared.entries.Entry.TheVariants as entry
use Rattle.frame_history.specs.History.{IsLawfulClaim}
use Rattle.book_agenda.specs.Register.{Claims, IsNewIn, outs}
use Rattle.frame_book.specs.Picking.{IsLevelOf}
use Rattle.frame_book.specs.Pages.{state_of, ArePages}
use Rattle.frame_book.specs.Book.{BookView}
use Rattle.frame_book.proofs.Turning.{claimed, up_to_task, roomier}
use Rattle.frame_book.proofs.pages.Pages.enter.Goals as goal

pub claim-requires-clause-new : goal.claim-requires-clause-new
claim-requires-clause-new c =
    let p = c.self.inside in
    let new : IsNewIn p.register c.args.subject c.args.level =
    subst (λ (z : BookView). IsNewIn record { made = z.state.claims; growth = z.state.growth } c.args.subject c.args.level) (sym c.self.view_is) c.requires.lawful.new in
    new

pub claim-requires-clause-up_to : goal.claim-requires-clause-up_to
claim-requires-clause-up_to c =
    let p = c.self.inside in
    let is : IsLevelOf p.levels c.args.subject c.args.level =
    subst (λ (z : BookView). IsLevelOf z.state.frames c.args.subject c.args.level) (sym c.self.view_is) c.requires.level in
    up_to_task p.levels p.register c.args.subject c.args.level c.self.invariant.sane is

pub invariant_of-self : goal.invariant_of-self
invariant_of-self c =
    let p = c.self.inside in
    let b : BookView = record { systems = p.levels.systems; limits = p.limits; carried = p.carried; history = p.history.items; state = state_of p.levels p.register p.marks } in
    let e = c.in_err-make_room.ensures in
    subst (λ (z : List Entry). ArePages record b { history = z } (vec_capacity c.make_room.new.history) c.make_room.new.rooms) (sym e.items)
    (roomier b (vec_capacity p.history) (vec_capacity c.make_room.new.history) p.rooms c.make_room.new.rooms c.self.invariant e.capacity e.count e.size)

pub invariant_of-self-in_err-claim : goal.invariant_of-self-in_err-claim
invariant_of-self-in_err-claim c =
    let p = c.self.inside in
    let b : BookView = record { systems = p.levels.systems; limits = p.limits; carried = p.carried; history = p.history.items; state = state_of p.levels p.register p.marks } in
    let e = c.in_ok-make_room.ensures in
    let cap = vec_capacity c.make_room.new.history in
    let history = c.make_room.new.history.items in
    subst (λ (z : Claims). ArePages record b { history = history; state = state_of p.levels z p.marks } cap c.make_room.new.rooms) (sym c.in_err-claim.ensures.err)
    (subst (λ (z : List Entry). ArePages record b { history = z } cap c.make_room.new.rooms) (sym e.items)
    (roomier b (vec_capacity p.history) cap p.rooms c.make_room.new.rooms c.self.invariant e.capacity e.count e.size))

pub invariant_of-self-2 : goal.invariant_of-self-2
invariant_of-self-2 c =
    let p = c.self.inside in
    let b : BookView = record { systems = p.levels.systems; limits = p.limits; carried = p.carried; history = p.history.items; state = state_of p.levels p.register p.marks } in
    let is : IsLevelOf p.levels c.args.subject c.args.level =
    subst (λ (z : BookView). IsLevelOf z.state.frames c.args.subject c.args.level) (sym c.self.view_is) c.requires.level in
    let lawful : IsLawfulClaim b.limits b.state c.args.subject c.args.level =
    subst (λ (z : BookView). IsLawfulClaim z.limits z.state c.args.subject c.args.level) (sym c.self.view_is) c.requires.lawful in
    let law : FramesHold p.levels = subst FramesHold c.frames.ensures c.systems-systems.ensures.law in
    let e = c.in_ok-make_room.ensures in
    let items : c.push_reserved.new.self.items ≡ b.history ++ entry.Claim c.args.worker c.args.subject c.args.level ∷ [] =
    c.push_reserved.ensures.items ∙ ap (λ (z : List Entry). z ++ entry.Claim c.args.worker c.args.subject c.args.level ∷ []) e.items in
    let out : c.out-out.result ≡ outs p.register.made = c.out-out.ensures in
    let room = e.done.1 in
    let many = e.done.0 in
    let len : vec_len c.make_room.new.history ≡ length b.history = c.make_room.new.history.ok.0 ∙ ap length e.items in
    let cap = c.push_reserved.ensures.capacity in
    (claimed b (vec_capacity p.history) (vec_capacity c.push_reserved.new.self) p.rooms c.make_room.new.rooms c.args.worker c.args.subject c.args.level c.claim.new.self
    c.push_reserved.new.self.items c.self.invariant law lawful is c.in_ok-claim.ensures.done items (omega (arith, out, room, len, cap)) (omega (arith, out, many))
    e.size).1
