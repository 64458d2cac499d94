-- How far the assumptions were looked at.
use Rattle.std.proofs.Common.{◌≡◌, ℕ, ◌≤◌, true, List, [], length, take, sym, subst, ap, ◌∙◌, arith}
use Rattle.std.specs.List.{All}
use Rattle.std.proofs.lemmas.List.{take-take, take_all, length-take}
use Rattle.std.proofs.lemmas.List.Elements.{All-nil, All-weaker}
use Rattle.clause_core.specs.declared.literal.Lit.{Lit}
use Rattle.sat_prop.specs.Trails.{among}
use Rattle.sat_prop.proofs.Ways.{among_take_where, among_here}
use Rattle.sat_core.specs.declared.search.Seen.{Seen}
use Rattle.sat_core.specs.Ends.{IsSeen}

pub among_front : (tr : List Lit) (n : ℕ) (l : Lit) → n ≤ length tr → among (take n tr) l ≡ true → among tr l ≡ true
among_front tr n l le on =
    let h = among_take_where tr n l le on in among_here tr h.0 l (omega (arith, h.1, le)) h.2

pub seen_none : (tr assumptions : List Lit) → (let s : Seen = record { count = 0; until = 0 } in IsSeen tr assumptions s)
seen_none tr assumptions = (omega arith, All-nil (λ a. among [] a ≡ true))

-- the trail goes on
pub seen_went : (old new assumptions : List Lit) (s : Seen) → take (length old) new ≡ old → IsSeen old assumptions s → IsSeen new assumptions s
seen_went old new assumptions s e h =
    let len : length old ≤ length new = omega (arith, ap length e, length-take (length old) new) in
    let f : take s.until old ≡ take s.until new = ap (take s.until) (sym e) ∙ take-take s.until (length old) new h.0 in
    let P : List Lit → Type 0 = λ xs. All (λ a. among xs a ≡ true) (take s.count assumptions) in
    (omega (arith, h.0, len), subst P f h.1)

-- the trail goes back, but not so far
pub seen_back : (before tr assumptions : List Lit) (n : ℕ) (s : Seen) → tr ≡ take n before → s.until ≤ length tr → IsSeen before assumptions s → IsSeen tr assumptions s
seen_back before tr assumptions n s e le h =
    let short : s.until ≤ n = omega (arith, le, ap length e, length-take n before) in
    let f : take s.until before ≡ take s.until tr = sym (take-take s.until n before short) ∙ ap (take s.until) (sym e) in
    let P : List Lit → Type 0 = λ xs. All (λ a. among xs a ≡ true) (take s.count assumptions) in
    (le, subst P f h.1)

-- what is seen is true
pub seen_true : (tr assumptions : List Lit) (s : Seen) → IsSeen tr assumptions s → All (λ a. among tr a ≡ true) (take s.count assumptions)
seen_true tr assumptions s h =
    All-weaker (λ a. among (take s.until tr) a ≡ true) (λ a. among tr a ≡ true) (λ a on. among_front tr s.until a h.0 on) (take s.count assumptions) h.1

-- all that is true is seen by the whole trail
pub seen_whole : (tr assumptions : List Lit) (n until : ℕ) → until ≡ length tr → All (λ a. among tr a ≡ true) (take n assumptions) →
    (let s : Seen = record { count = n; until = until } in IsSeen tr assumptions s)
seen_whole tr assumptions n until e front =
    let P : List Lit → Type 0 = λ xs. All (λ a. among xs a ≡ true) (take n assumptions) in
    (omega (arith, e), subst P (sym (take_all until tr (omega (arith, e)))) front)
