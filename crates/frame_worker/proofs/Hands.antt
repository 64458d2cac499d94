-- What workers own: before the first task, as they part and meet, and as more of the history is seen.
use Rattle.std.proofs.Common.{◌≡◌, ℕ, ◌+◌, ◌-◌, ◌<◌, List, [], ◌∷◌, ◌++◌, length, refl, sym, subst, ap, ◌∙◌, arith, length-append}
use Rattle.std.specs.Prelude.{Option, Some, None, IfSome}
use mathlib.Core.List.{IsPrefix}
use Rattle.clause_core.specs.declared.literal.Lit.{Lit}
use Rattle.clause_core.specs.Systems.{TransitionSystem}
use Rattle.effort_purse.specs.declared.seat.Seat.{Seat}
use Rattle.effort_purse.specs.declared.shared.SharedPurse.{SharedPurse}
use Rattle.effort_purse.specs.Seats.{IsSeatOf, IsSplitFrom, Joins, KeepsTickets, shares_of, tickets_of}
use Rattle.frame_history.specs.declared.entries.Entry.{Entry}
use Rattle.frame_history.specs.History.{BookState, replay}
use Rattle.frame_query.specs.Findings.{SolverView}
use Rattle.frame_claims.specs.Lists.{ArePaidLists}
use Rattle.frame_claims.specs.Paying.{ClaimQuery}
use Rattle.frame_claims.proofs.Listed.{lists_join, lists_none, lists_on}
use Rattle.frame_worker.specs.Working.{HandView, hand, known_of, Follows, HasParts, IsFresh, IsHeld}

-- ---- As workers part

has_part : (purse : SharedPurse) (h : HandView) (seat : Seat) (share count : ℕ) (front : List Entry) → HasParts purse h → count < h.parts → IsSeatOf purse seat →
    shares_of seat ≡ shares_of h.seat - count → share + count ≡ h.share → HasParts purse (hand seat share front None h.first (h.parts - count))
has_part purse h seat share count front has some own shares parts =
    let a = has.shares in
    let b = has.share_is in
    let c = has.fits in
    record {
      own = own;
      shares = omega (arith, a, shares);
      share_is = omega (arith, b, parts, some);
      some = omega (arith, some);
      fits = omega (arith, c, some);
    }

-- what stays
pub fresh_stays : (purse : SharedPurse) (h : HandView) (seat : Seat) (share count : ℕ) (solver : Option SolverView) → IsFresh purse h → count < h.parts →
    solver ≡ h.solver → IsSeatOf purse seat → shares_of seat ≡ shares_of h.seat - count → KeepsTickets h.seat seat → share + count ≡ h.share →
    IsFresh purse (hand seat share h.front solver h.first (h.parts - count))
fresh_stays purse h seat share count solver fresh some same own shares kept parts =
    let has = has_part purse h seat share count h.front fresh.has some own shares parts in
    record {
      has = record { own = has.own; shares = has.shares; share_is = has.share_is; some = has.some; fits = has.fits };
      none = same ∙ fresh.none;
      unused = kept.tickets ∙ fresh.unused;
    }

-- what goes
pub fresh_goes : (purse : SharedPurse) (h : HandView) (seat : Seat) (share count : ℕ) (front : List Entry) → IsFresh purse h → 0 < count → count < h.parts →
    IsSeatOf purse seat → IsSplitFrom h.seat count seat → share ≡ count → IsFresh purse (hand seat share front None (h.first + (h.parts - count)) count)
fresh_goes purse h seat share count front fresh some less own split parts =
    let c = fresh.has.fits in
    record {
      has = record { own = own; shares = split.shares; share_is = parts; some = some; fits = omega (arith, c, less) };
      none = refl;
      unused = split.tickets;
    }

-- ---- Before the first task

held_first : (systems : List TransitionSystem) (first : BookState) (purse : SharedPurse) (h : HandView) (solver : Option SolverView) → IsFresh purse h →
    known_of solver ≡ [] → IfSome solver (Follows systems (replay first h.front)) →
    IsHeld systems first purse (hand h.seat h.share h.front solver h.first h.parts)
held_first systems first purse h solver fresh none follows =
    let has = fresh.has in
    record {
      has = record { own = has.own; shares = has.shares; share_is = has.share_is; some = has.some; fits = has.fits };
      follows = follows;
      own = [];
      others = [];
      lists = lists_none first h.front h.first h.parts (known_of solver) (length (tickets_of h.seat)) none (ap (λ (z : List ℕ). length z) fresh.unused);
    }

-- a solver without lemmas follows
follows_none : (systems : List TransitionSystem) (s : BookState) (v : SolverView) → v ≡ record { systems = systems; lemmas = []; known = [] } → Follows systems s v
follows_none systems s v is =
    let none : SolverView = record { systems = systems; lemmas = []; known = [] } in
    let one : Follows systems s none =
    record {
      same = refl;
      older = record { shorter = omega arith; clause = λ n lt. absurd (omega (arith, lt)); live = λ n lt on. absurd (omega (arith, lt)) };
    } in
    subst (Follows systems s) (sym is) one

begins : (systems z : List TransitionSystem) (s : BookState) → z ≡ systems → (o : Option SolverView) →
    IfSome o (λ (v : SolverView). v ≡ record { systems = z; lemmas = []; known = [] }) → (known_of o ≡ []) × IfSome o (Follows systems s)
begins systems z s same None is = (refl, tt)
begins systems z s same (Some v) is =
    let now : v ≡ record { systems = systems; lemmas = []; known = [] } =
    subst (λ (y : List TransitionSystem). v ≡ record { systems = y; lemmas = []; known = [] }) same is in
    (ap (λ (w : SolverView). w.known) is, follows_none systems s v now)

-- a solver without lemmas, or none
pub held_begun : (systems z : List TransitionSystem) (first : BookState) (purse : SharedPurse) (h : HandView) (solver : Option SolverView) → IsFresh purse h →
    z ≡ systems → IfSome solver (λ (v : SolverView). v ≡ record { systems = z; lemmas = []; known = [] }) →
    IsHeld systems first purse (hand h.seat h.share h.front solver h.first h.parts)
held_begun systems z first purse h solver fresh same is =
    let both = begins systems z (replay first h.front) same solver is in
    held_first systems first purse h solver fresh both.0 both.1

-- the same share
pub held_share : (systems : List TransitionSystem) (first : BookState) (purse : SharedPurse) (h : HandView) (share : ℕ) → IsHeld systems first purse h →
    share ≡ h.share → IsHeld systems first purse (hand h.seat share h.front h.solver h.first h.parts)
held_share systems first purse h share held same =
    subst (λ (n : ℕ). IsHeld systems first purse (hand h.seat n h.front h.solver h.first h.parts)) (sym same) held

-- ---- As more of the history is seen

pub lists_seen : (first : BookState) (h now : List Entry) (from count : ℕ) (known : List (List Lit)) (drawn : ℕ) (own : List ClaimQuery)
    (others : List (List ClaimQuery)) → IsPrefix h now → ArePaidLists first h from count known drawn own others →
    ArePaidLists first now from count known drawn own others
lists_seen first h now from count known drawn own others pre l =
    subst (λ (z : List Entry). ArePaidLists first z from count known drawn own others) pre.1
    (lists_on first h pre.0 from count known drawn own others l)

pub held_seen : (systems : List TransitionSystem) (first : BookState) (purse : SharedPurse) (h : HandView) (front : List Entry) (solver : Option SolverView) →
    IsHeld systems first purse h → IsPrefix h.front front → IfSome solver (Follows systems (replay first front)) → known_of solver ≡ known_of h.solver →
    IsHeld systems first purse (hand h.seat h.share front solver h.first h.parts)
held_seen systems first purse h front solver held pre follows same =
    let has = held.has in
    record {
      has = record { own = has.own; shares = has.shares; share_is = has.share_is; some = has.some; fits = has.fits };
      follows = follows;
      own = held.own;
      others = held.others;
      lists = subst (λ (z : List (List Lit)). ArePaidLists first front h.first h.parts z (length (tickets_of h.seat)) held.own held.others) (sym same)
          (lists_seen first h.front front h.first h.parts (known_of h.solver) (length (tickets_of h.seat)) held.own held.others pre held.lists);
    }

-- ---- As workers meet

pub held_both : (systems : List TransitionSystem) (first : BookState) (purse : SharedPurse) (a b : HandView) (seat : Seat) (share parts : ℕ) (front : List Entry) →
    IsHeld systems first purse a → IsHeld systems first purse b → b.first ≡ a.first + a.parts → IsSeatOf purse seat → Joins a.seat b.seat seat →
    share ≡ a.share + b.share → parts ≡ a.parts + b.parts → IsPrefix a.front front → IsPrefix b.front front →
    IsHeld systems first purse (hand seat share front None a.first parts)
held_both systems first purse a b seat share parts front one two next own joins shares all pre pre' =
    let l = lists_seen first a.front front a.first a.parts (known_of a.solver) (length (tickets_of a.seat)) one.own one.others pre one.lists in
    let r = lists_seen first b.front front b.first b.parts (known_of b.solver) (length (tickets_of b.seat)) two.own two.others pre' two.lists in
    let both = lists_join first front a.first a.parts b.first b.parts (known_of a.solver) (known_of b.solver) (length (tickets_of a.seat)) (length (tickets_of b.seat))
    one.own two.own one.others two.others next l r in
    let long : length (tickets_of seat) ≡ length (tickets_of a.seat) + length (tickets_of b.seat) =
    ap (λ (z : List ℕ). length z) joins.tickets ∙ length-append (tickets_of a.seat) (tickets_of b.seat) in
    let logs : List (List ClaimQuery) = (one.others ++ one.own ∷ []) ++ (two.others ++ two.own ∷ []) in
    let sa = one.has.shares in
    let sb = two.has.shares in
    let ja = joins.shares in
    let pa = one.has.share_is in
    let pb = two.has.share_is in
    let some = one.has.some in
    let fits = two.has.fits in
    record {
      has = record {
        own = own;
        shares = omega (arith, ja, sa, sb, all);
        share_is = omega (arith, pa, pb, shares, all);
        some = omega (arith, some, all);
        fits = omega (arith, fits, next, all);
      };
      follows = tt;
      own = [];
      others = logs;
      lists = subst (λ (n : ℕ). ArePaidLists first front a.first n [] (length (tickets_of seat)) [] logs) (sym all)
          (subst (λ (n : ℕ). ArePaidLists first front a.first (a.parts + b.parts) [] n [] logs) (sym long) both);
    }
