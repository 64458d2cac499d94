use Rattle.std.proofs.Common.{ℕ, ◌≡◌, ◌≤◌, ◌+◌, List, [], ◌∷◌, ◌++◌, length, drop, refl, ◌∙◌, arith, length-drop}
use Rattle.std.proofs.lemmas.List.{take-append-le, drop-append-le, map-append, take_all}
use Rattle.std.proofs.Math.Seq.{drop-append_seam}
use Rattle.std.proofs.lemmas.List.Elements.{All-head, All-tail}
use Rattle.hinted_log.specs.declared.numbers.Place.{Place}
use Rattle.hinted_log.specs.Places.{list_at, lists, PlacesIn}

pub list_kept : (lits c : List ℕ) (s : Place) → s.from + s.len ≤ length lits → list_at (lits ++ c) s ≡ list_at lits s
list_kept lits c s h =
    let a : s.from ≤ length lits = omega arith in
    let b : s.len ≤ length (drop s.from lits) = simp length-drop (omega arith) in
    rw drop-append-le (take-append-le s.len (drop s.from lits) c b)

pub lists_kept : (lits c : List ℕ) (spans : List Place) → PlacesIn lits spans → lists (lits ++ c) spans ≡ lists lits spans
lists_kept lits c [] h = refl
lists_kept lits c (s ∷ ss) h =
    let e : list_at (lits ++ c) s ≡ list_at lits s = list_kept lits c s (All-head (λ s. s.from + s.len ≤ length lits) s ss h) in
    let f : lists (lits ++ c) ss ≡ lists lits ss = lists_kept lits c ss (All-tail (λ s. s.from + s.len ≤ length lits) s ss h) in
    cc

pub lists_push : (lits c : List ℕ) (spans : List Place) → PlacesIn lits spans →
    lists (lits ++ c) (spans ++ record { from = length lits; len = length c } ∷ []) ≡ lists lits spans ++ c ∷ []
lists_push lits c spans h =
    let s : Place = record { from = length lits; len = length c } in
    let e : lists (lits ++ c) (spans ++ s ∷ []) ≡ lists (lits ++ c) spans ++ list_at (lits ++ c) s ∷ [] = map-append _ _ _ in
    let f : list_at (lits ++ c) s ≡ c = rw drop-append_seam (take_all (length c) c (omega arith)) in
    e ∙ (rw (f, lists_kept lits c spans h) refl)
