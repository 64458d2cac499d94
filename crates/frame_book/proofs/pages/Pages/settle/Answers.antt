use Rattle.std.proofs.Common.{◌≡◌, ◌+◌, ◌≤◌, ℕ, List, [], ◌∷◌, ◌++◌, length, set, sym, ap, subst, ◌∙◌, arith}
use Rattle.std.specs.Prelude.{Some, None, vec_capacity, if◌then◌else◌}
use Rattle.frame_core.specs.FrameLaw.{FrameState, FramesHold}
use Rattle.frame_history.specs.declared.entries.Made.{Made}
use Rattle.frame_history.specs.declared.entries.Change.{Change}
use Rattle.frame_history.specs.declared.entries.Entry.{Entry}
use Rattle.frame_history.specs.declared.entries.Entry.TheVariants as entry
use Rattle.frame_history.specs.History.{claim_at, ended}
use Rattle.frame_book.specs.Claims.{ClaimView, IsClaimOf}
use Rattle.book_agenda.specs.Register.{outs}
use Rattle.frame_book.specs.Marked.{Marking}
use Rattle.frame_book.specs.Steps.{lags, grows, head_of, HasSettled}
use Rattle.frame_book.specs.Pages.{state_of, ArePages}
use Rattle.frame_book.specs.Rooms.{Room}
use Rattle.frame_book.specs.Book.{BookView, entered}
use Rattle.book_agenda.proofs.Orderly.{outs_some}
use Rattle.frame_book.proofs.Turning.{turned, turned_by, roomier}
use Rattle.std.proofs.Common.{Vec, Global}
use Rattle.frame_book.specs.declared.claim.ClaimOutcome.{ClaimOutcome}
use Rattle.frame_book.specs.Claims.{IsOutHere}
use Rattle.frame_book.specs.Marked.{LimitIsLeft, NotesEach, marked}
use Rattle.frame_book.specs.Book.{SettlesBy}
use Rattle.frame_book.proofs.Sane.{settled_evolves}
use Rattle.frame_book.proofs.pages.Pages.settle.Goals as goal

pub take-changes-requires : goal.take-changes-requires
take-changes-requires c =
    let p = c.self.inside in
    let d : Made = c.in-Some.made in
    let is : IsClaimOf c.args.self.now.state c.args.claim d = c.in-Some.ensures in
    let at : claim_at p.register.made c.args.claim.number ≡ Some d =
    subst (λ (z : BookView). claim_at z.state.claims c.args.claim.number ≡ Some d) (sym c.self.view_is) is.out.0 in
    let some : 1 ≤ outs p.register.made = outs_some p.register.made c.args.claim.number d at is.out.1 in
    let rooms = c.self.invariant.rooms' in
    omega (arith, some, rooms)

pub push_reserved-requires : goal.push_reserved-requires
push_reserved-requires c =
    let p = c.self.inside in
    let d : Made = c.in-Some.made in
    let is : IsClaimOf c.args.self.now.state c.args.claim d = c.in-Some.ensures in
    let at : claim_at p.register.made c.args.claim.number ≡ Some d =
    subst (λ (z : BookView). claim_at z.state.claims c.args.claim.number ≡ Some d) (sym c.self.view_is) is.out.0 in
    let some : 1 ≤ outs p.register.made = outs_some p.register.made c.args.claim.number d at is.out.1 in
    let room = c.self.invariant.room in
    let len = p.history.ok.0 in
    omega (arith, some, room, len)

pub follow-ending-requires-clause-as_many : goal.follow-ending-requires-clause-as_many
follow-ending-requires-clause-as_many c =
    let p = c.self.inside in
    let b : BookView = record { systems = p.levels.systems; limits = p.limits; carried = p.carried; history = p.history.items; state = state_of p.levels p.register p.marks } in
    let v : ClaimView = c.args.claim in
    let d : Made = c.in-Some.made in
    let o : ClaimOutcome = c.args.outcome in
    let f : FrameState = c.come.new.levels in
    let xs : List Change = c.come.new.changes.items in
    let has : HasSettled p.levels d o xs f = c.in_default-come.ensures.done in
    let e = settled_evolves p.levels f d o xs has in
    c.self.invariant.limited ∙ ap length (sym e.0.systems) ∙ ap (λ (z : FrameState). length z.systems) (sym c.frames-2.ensures)

pub follow-ending-requires-clause-room : goal.follow-ending-requires-clause-room
follow-ending-requires-clause-room c =
    let p = c.self.inside in
    let b : BookView = record { systems = p.levels.systems; limits = p.limits; carried = p.carried; history = p.history.items; state = state_of p.levels p.register p.marks } in
    let v : ClaimView = c.args.claim in
    let d : Made = c.in-Some.made in
    let o : ClaimOutcome = c.args.outcome in
    let f : FrameState = c.come.new.levels in
    let xs : List Change = c.come.new.changes.items in
    let has : HasSettled p.levels d o xs f = c.in_default-come.ensures.done in
    let e = settled_evolves p.levels f d o xs has in
    let room = c.in_default-come.ensures.room in
    let more : length c.systems-more.result.now ≡ length p.levels.systems =
    ap length c.systems-more.ensures.value ∙ ap (λ (z : FrameState). length z.systems) c.frames.ensures in
    let now : length c.frames-2.result.now.systems ≡ length p.levels.systems =
    ap (λ (z : FrameState). length z.systems) c.frames-2.ensures ∙ ap length e.0.systems in
    omega (arith, room, more, now)

pub invariant_of-self-2 : goal.invariant_of-self-2
invariant_of-self-2 c =
    let p = c.self.inside in
    let b : BookView = record { systems = p.levels.systems; limits = p.limits; carried = p.carried; history = p.history.items; state = state_of p.levels p.register p.marks } in
    let v : ClaimView = c.args.claim in
    let d : Made = c.in-Some.made in
    let o : ClaimOutcome = c.args.outcome in
    let f : FrameState = c.come.new.levels in
    let xs : List Change = c.come.new.changes.items in
    let has : HasSettled p.levels d o xs f = c.in_default-come.ensures.done in
    let is : IsClaimOf b.state v d = subst (λ (z : BookView). IsClaimOf z.state v d) (sym c.self.view_is) c.in-Some.ensures in
    let law : FramesHold p.levels = subst FramesHold c.frames.ensures c.systems-more.ensures.law in
    let m : Marking = c.follow-ending.new.self in
    let ls : List Change = c.follow-ending.ensures.done.0 in
    let changes : Vec Change Global = c.follow-ending.new.changes in
    let notes : NotesEach b.limits f (marked p.marks (head_of xs)) ls m =
    subst (λ (z : FrameState). NotesEach b.limits z (marked p.marks (head_of xs)) ls m) c.frames-2.ensures c.follow-ending.ensures.done.2 in
    let none : (j : ℕ) → LimitIsLeft b.limits f m j → ⊥ =
    subst (λ (z : FrameState). (j : ℕ) → LimitIsLeft b.limits z m j → ⊥) c.frames-2.ensures c.follow-ending.ensures.none in
    let number : c.spent-number.result ≡ v.number = c.spent-number.ensures in
    let worker : c.claim.inside.worker ≡ v.worker = ap (λ (z : ClaimView). z.worker) c.claim.view_is in
    let lags' : c.follow-ending.result.lags ≡ lags (head_of xs) = c.follow-ending.ensures.lags in
    let grows' : c.follow-ending.result.grows ≡ grows (head_of xs) = c.follow-ending.ensures.grows in
    let ended' : c.end.new.self
    ≡ record { made = set b.state.claims v.number (ended (lags (head_of xs)) (Some d)) ++ None ∷ []; growth = b.state.growth + (if grows (head_of xs) then 1 else 0) } =
    c.end.ensures
    ∙ (λ i. record { made = set b.state.claims (number i) (ended (lags' i) (Some d)) ++ None ∷ []; growth = b.state.growth + (if grows' i then 1 else 0) }) in
    let items : c.push_reserved.new.self.items ≡ b.history ++ entry.Settle v.worker v.number changes ∷ [] =
    c.push_reserved.ensures.items ∙ (λ i. b.history ++ entry.Settle (worker i) (number i) changes ∷ []) in
    let t = turned_by b (vec_capacity p.history) (vec_capacity c.push_reserved.new.self) p.rooms c.take-changes.new.self v d o f xs ls m c.end.new.self changes
    c.push_reserved.new.self.items c.self.invariant law c.growth-growth.ensures.orderly is has c.follow-ending.ensures.done.1 notes none
    c.follow-ending.ensures.as_many ended' items c.push_reserved.ensures.capacity c.take-changes.ensures.count c.take-changes.ensures.size in
    t.1

pub returns-clause-done : goal.returns-clause-done
returns-clause-done c =
    let p = c.self.inside in
    let b : BookView = record { systems = p.levels.systems; limits = p.limits; carried = p.carried; history = p.history.items; state = state_of p.levels p.register p.marks } in
    let v : ClaimView = c.args.claim in
    let d : Made = c.in-Some.made in
    let o : ClaimOutcome = c.args.outcome in
    let f : FrameState = c.come.new.levels in
    let xs : List Change = c.come.new.changes.items in
    let has : HasSettled p.levels d o xs f = c.in_default-come.ensures.done in
    let is : IsClaimOf b.state v d = subst (λ (z : BookView). IsClaimOf z.state v d) (sym c.self.view_is) c.in-Some.ensures in
    let law : FramesHold p.levels = subst FramesHold c.frames.ensures c.systems-more.ensures.law in
    let m : Marking = c.follow-ending.new.self in
    let ls : List Change = c.follow-ending.ensures.done.0 in
    let changes : Vec Change Global = c.follow-ending.new.changes in
    let notes : NotesEach b.limits f (marked p.marks (head_of xs)) ls m =
    subst (λ (z : FrameState). NotesEach b.limits z (marked p.marks (head_of xs)) ls m) c.frames-2.ensures c.follow-ending.ensures.done.2 in
    let none : (j : ℕ) → LimitIsLeft b.limits f m j → ⊥ =
    subst (λ (z : FrameState). (j : ℕ) → LimitIsLeft b.limits z m j → ⊥) c.frames-2.ensures c.follow-ending.ensures.none in
    let number : c.spent-number.result ≡ v.number = c.spent-number.ensures in
    let worker : c.claim.inside.worker ≡ v.worker = ap (λ (z : ClaimView). z.worker) c.claim.view_is in
    let lags' : c.follow-ending.result.lags ≡ lags (head_of xs) = c.follow-ending.ensures.lags in
    let grows' : c.follow-ending.result.grows ≡ grows (head_of xs) = c.follow-ending.ensures.grows in
    let ended' : c.end.new.self
    ≡ record { made = set b.state.claims v.number (ended (lags (head_of xs)) (Some d)) ++ None ∷ []; growth = b.state.growth + (if grows (head_of xs) then 1 else 0) } =
    c.end.ensures
    ∙ (λ i. record { made = set b.state.claims (number i) (ended (lags' i) (Some d)) ++ None ∷ []; growth = b.state.growth + (if grows' i then 1 else 0) }) in
    let items : c.push_reserved.new.self.items ≡ b.history ++ entry.Settle v.worker v.number changes ∷ [] =
    c.push_reserved.ensures.items ∙ (λ i. b.history ++ entry.Settle (worker i) (number i) changes ∷ []) in
    let t = turned_by b (vec_capacity p.history) (vec_capacity c.push_reserved.new.self) p.rooms c.take-changes.new.self v d o f xs ls m c.end.new.self changes
    c.push_reserved.new.self.items c.self.invariant law c.growth-growth.ensures.orderly is has c.follow-ending.ensures.done.1 notes none
    c.follow-ending.ensures.as_many ended' items c.push_reserved.ensures.capacity c.take-changes.ensures.count c.take-changes.ensures.size in
    let e : Entry = entry.Settle v.worker v.number changes in
    let now : BookView = turned b f c.end.new.self m c.push_reserved.new.self.items in
    subst (λ (z : BookView). IsOutHere z.state v × ((x : Entry) × SettlesBy z v o x × (now ≡ entered z x))) c.self.view_is ((d, is), (e, t.2, t.0))

pub come-requires-clause-fits : goal.come-requires-clause-fits
come-requires-clause-fits c =
    let d : Made = c.in-Some.made in
    let is : IsClaimOf c.args.self.now.state c.args.claim d = c.in-Some.ensures in
    let at : claim_at c.self.inside.register.made c.args.claim.number ≡ Some d =
    subst (λ (z : BookView). claim_at z.state.claims c.args.claim.number ≡ Some d) (sym c.self.view_is) is.out.0 in
    c.self.invariant.sane.fit c.args.claim.number d at

pub invariant_of-self : goal.invariant_of-self
invariant_of-self c =
    let p = c.self.inside in
    let b : BookView = record { systems = p.levels.systems; limits = p.limits; carried = p.carried; history = p.history.items; state = state_of p.levels p.register p.marks } in
    let cap = vec_capacity p.history in
    let rooms : Room = c.give.new.self in
    let count : rooms.count ≡ c.take-changes.new.self.count + 1 = ap (λ (z : Room). z.count) c.give.ensures in
    let size : rooms.size ≡ c.take-changes.new.self.size = ap (λ (z : Room). z.size) c.give.ensures in
    let one = c.take-changes.ensures.count in
    let P : FrameState → Type 0 =
    λ f. ArePages record { systems = f.systems; limits = p.limits; carried = p.carried; history = p.history.items; state = state_of f p.register p.marks } cap rooms in
    subst P (sym c.in-Err.ensures.err.1) (roomier b cap cap p.rooms rooms c.self.invariant (omega arith) (omega arith) (size ∙ c.take-changes.ensures.size))
