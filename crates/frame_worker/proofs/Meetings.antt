-- When all workers have met.
use Rattle.std.proofs.Common.{◌≡◌, ℕ, ◌+◌, ◌<◌, Bool, true, false, List, [], ◌∷◌, ◌++◌, length, refl, sym, subst, ap, ◌∙◌, inl, inr, arith, length-append}
use Rattle.std.specs.Prelude.{Option, Some, None, IfSome, slice_index_or}
use mathlib.Core.List.{IsPrefix}
use Rattle.clause_core.specs.Systems.{TransitionSystem}
use Rattle.effort_purse.specs.declared.seat.Seat.{Seat}
use Rattle.effort_purse.specs.declared.shared.SharedPurse.{SharedPurse}
use Rattle.effort_purse.specs.Seats.{Joins, KeepsTickets, is_spent, tickets_of}
use Rattle.frame_core.specs.declared.parts.Lemma.{Lemma}
use Rattle.frame_core.specs.FrameLaw.{FrameState}
use Rattle.frame_history.specs.declared.entries.Limits.{Limits}
use Rattle.frame_history.specs.declared.entries.Entry.{Entry}
use Rattle.frame_history.specs.History.{BookState, start}
use Rattle.frame_history.proofs.Limiting.{limit_reached}
use Rattle.frame_book.specs.Book.{BookView, IsBook}
use Rattle.frame_claims.specs.Lists.{ArePaidLists}
use Rattle.frame_claims.specs.Paying.{ClaimQuery}
use Rattle.frame_claims.proofs.Listed.{lists_join, lists_paid}
use Rattle.frame_worker.specs.declared.explored.Explored.{Explored}
use Rattle.frame_worker.specs.Exploring.{IsExplored}
use Rattle.frame_worker.specs.Meeting.{ArePlayed, IsUsable}
use Rattle.frame_worker.specs.Working.{HandView, known_of, IsHeld}
use Rattle.frame_worker.proofs.Books.{BeganWith, book_holds, book_systems}
use Rattle.frame_worker.proofs.Hands.{lists_seen}

-- ---- What all of them drew

pub played : (systems : List TransitionSystem) (first : BookState) (purse : SharedPurse) (own theirs : HandView) (one two three four five : Seat) (front : List Entry) →
    IsHeld systems first purse own → IsHeld systems first purse theirs → own.first ≡ 0 → own.parts ≡ 1 → theirs.first ≡ 1 →
    KeepsTickets one two → Joins two theirs.seat three → KeepsTickets three four → Joins four own.seat five →
    IsPrefix own.front front → IsPrefix theirs.front front → ArePlayed first front (length (tickets_of one)) (length (tickets_of five))
played systems first purse own theirs one two three four five front held held' zero_is one_is next kept join kept' join' pre pre' =
    let d : ℕ = length (tickets_of own.seat) in
    let e : ℕ = length (tickets_of theirs.seat) in
    let l = lists_seen first own.front front own.first own.parts (known_of own.solver) d held.own held.others pre held.lists in
    let r = lists_seen first theirs.front front theirs.first theirs.parts (known_of theirs.solver) e held'.own held'.others pre' held'.lists in
    let both = lists_join first front own.first own.parts theirs.first theirs.parts (known_of own.solver) (known_of theirs.solver) d e held.own held'.own held.others
    held'.others (omega (arith, zero_is, one_is, next)) l r in
    let logs : List (List ClaimQuery) = (held.others ++ held.own ∷ []) ++ (held'.others ++ held'.own ∷ []) in
    let a = ap (λ (z : List ℕ). length z) kept.tickets in
    let b : length (tickets_of three) ≡ length (tickets_of two) + e = ap (λ (z : List ℕ). length z) join.tickets ∙ length-append (tickets_of two) (tickets_of theirs.seat) in
    let c = ap (λ (z : List ℕ). length z) kept'.tickets in
    let f : length (tickets_of five) ≡ length (tickets_of four) + d = ap (λ (z : List ℕ). length z) join'.tickets ∙ length-append (tickets_of four) (tickets_of own.seat) in
    record {
      drawn = d + e;
      all = omega (arith, a, b, c, f);
      count = own.parts + theirs.parts;
      own = [];
      others = logs;
      lists = subst (λ (n : ℕ). ArePaidLists first front n (own.parts + theirs.parts) [] (d + e) [] logs) zero_is both;
    }

-- ---- What the book says

no_way : false ≡ true → ⊥
no_way e = let h : false ≡ true = e in cc

said : (b : BookView) (front : List Entry) (seat : Seat) (old : ℕ) → IsBook b → IsUsable seat b → IsPrefix front b.history →
    ArePlayed (start b.limits b.systems b.carried) front old (length (tickets_of seat)) →
    IsExplored b.systems b.limits b.carried b.history b.state.frames old (length (tickets_of seat)) (is_spent seat)
said b front seat old is use' pre p =
    let first : BookState = start b.limits b.systems b.carried in
    let l = lists_seen first front b.history 0 p.count [] p.drawn p.own p.others pre p.lists in
    record {
      lawful = is.lawful;
      frames = ap (λ (s : BookState). s.frames) is.replayed;
      holds = book_holds b is;
      drawn = p.drawn;
      all = p.all;
      logs = p.others ++ p.own ∷ [];
      paid = lists_paid b.limits first b.history 0 p.count [] p.drawn p.own p.others refl is.lawful use'.apart l;
      limit = λ not_over j lt none.
          (let here : j < length b.state.frames.systems = subst (λ (z : List TransitionSystem). j < length z) (sym (book_systems b is)) lt in
          elim use'.closed [
            | inl spent ↦ absurd (no_way (sym (use'.unspent not_over) ∙ spent))
            | inr all ↦ elim (all j here) [
              | inl verdict ↦ absurd (none verdict)
              | inr limited ↦
                  limit_reached b.limits b.systems b.carried b.history is.carried is.lawful j lt
                  (subst (λ (s : BookState). slice_index_or s.limited j false ≡ true) is.replayed limited)
            ]
          ]);
    }

-- the same of what exploring began with
pub explored : (systems : List TransitionSystem) (limits : Limits) (carried : List Lemma) (b : BookView) (history : List Entry) (f : FrameState) (front : List Entry)
    (seat : Seat) (old : ℕ) → BeganWith systems limits carried b → IsBook b → IsUsable seat b → IsPrefix front b.history → history ≡ b.history →
    f ≡ b.state.frames → ArePlayed (start limits systems carried) front old (length (tickets_of seat)) →
    IsExplored systems limits carried history f old (length (tickets_of seat)) (is_spent seat)
explored systems limits carried b history f front seat old w is use' pre same at p =
    let now : ℕ = length (tickets_of seat) in
    let over : Bool = is_spent seat in
    let E : List TransitionSystem → Limits → List Lemma → Type 0 = λ z i k.
    ArePlayed (start i z k) front old now → IsExplored z i k b.history b.state.frames old now over in
    let one : E b.systems b.limits b.carried = said b front seat old is use' pre in
    let two : E systems limits carried = subst (λ (z : List TransitionSystem). E z limits carried) w.systems_are
    (subst (λ (z : Limits). E b.systems z carried) w.limits_are (subst (λ (z : List Lemma). E b.systems b.limits z) w.carried_are one)) in
    subst (λ (z : List Entry). IsExplored systems limits carried z f old now over) (sym same)
    (subst (λ (z : FrameState). IsExplored systems limits carried b.history z old now over) (sym at) (two p))

-- where it says something, it says it of what was drawn
pub told : (systems : List TransitionSystem) (limits : Limits) (carried : List Lemma) (o : Option Explored) (front : List Entry) (old now : ℕ) (over : Bool) →
    IfSome o (λ (e : Explored). (n : ℕ) → ArePlayed (start limits systems carried) front n now → IsExplored systems limits carried e.history.items e.frames n now over) →
    ArePlayed (start limits systems carried) front old now → IfSome o (λ (e : Explored). IsExplored systems limits carried e.history.items e.frames old now over)
told systems limits carried None front old now over said p = tt
told systems limits carried (Some e) front old now over said p = said old p
