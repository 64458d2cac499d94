use Rattle.std.proofs.Common.{◌≡◌, ℕ, ◌≤◌, ◌<◌, ◌+◌, List, [], ◌∷◌, ◌++◌, length, get_or, take, drop, refl, sym, ap, ◌∙◌, arith, length-drop, length-append, inl, inr}
use Rattle.std.proofs.lemmas.List.{take-append-le, drop-append-le, map-append, take_all, take-map, take-append-drop, length-take-le, get_or-take, get_or_append_left, get_or_default}
use Rattle.std.proofs.lemmas.Bool.{cases_lt}
use Rattle.std.proofs.Math.Seq.{drop-append_seam, get_or-append_seam}
use Rattle.std.proofs.lemmas.List.Elements.{All-head, All-tail, All-append, All-cons, All-nil}
use Rattle.clause_core.specs.declared.literal.Lit.{Lit}
use Rattle.clause_core.specs.declared.clause.Span.{Span}
use Rattle.clause_core.specs.Spans.{piece, pieces, SpansIn, AreInOrder, IsBuffer}

pub piece_kept : (lits c : List Lit) (s : Span) → s.from + s.len ≤ length lits → piece (lits ++ c) s ≡ piece lits s
piece_kept lits c s h =
    let a : s.from ≤ length lits = omega arith in
    let b : s.len ≤ length (drop s.from lits) = simp length-drop (omega arith) in
    rw drop-append-le (take-append-le s.len (drop s.from lits) c b)

pub pieces_kept : (lits c : List Lit) (spans : List Span) → SpansIn lits spans → pieces (lits ++ c) spans ≡ pieces lits spans
pieces_kept lits c [] h = refl
pieces_kept lits c (s ∷ ss) h =
    let e : piece (lits ++ c) s ≡ piece lits s = piece_kept lits c s (All-head (λ s. s.from + s.len ≤ length lits) s ss h) in
    let f : pieces (lits ++ c) ss ≡ pieces lits ss = pieces_kept lits c ss (All-tail (λ s. s.from + s.len ≤ length lits) s ss h) in
    cc

pub pieces_push : (lits c : List Lit) (spans : List Span) → SpansIn lits spans →
    pieces (lits ++ c) (spans ++ record { from = length lits; len = length c } ∷ []) ≡ pieces lits spans ++ c ∷ []
pieces_push lits c spans h =
    let s : Span = record { from = length lits; len = length c } in
    let e : pieces (lits ++ c) (spans ++ s ∷ []) ≡ pieces (lits ++ c) spans ++ piece (lits ++ c) s ∷ [] = map-append _ _ _ in
    let f : piece (lits ++ c) s ≡ c = rw drop-append_seam (take_all (length c) c (omega arith)) in
    e ∙ (rw (f, pieces_kept lits c spans h) refl)

-- more literals
pub SpansIn-more : (lits c : List Lit) (spans : List Span) → SpansIn lits spans → SpansIn (lits ++ c) spans
SpansIn-more lits c spans h k d lt = let a = h k d lt in rw length-append (omega (arith, a))

pub IsBuffer-more : (lits c : List Lit) (spans : List Span) → IsBuffer lits spans → IsBuffer (lits ++ c) spans
IsBuffer-more lits c spans h = record { within = SpansIn-more lits c spans h.within; in_order = h.in_order }

-- one clause more
pub IsBuffer-push : (lits c : List Lit) (spans : List Span) → IsBuffer lits spans →
    IsBuffer (lits ++ c) (spans ++ record { from = length lits; len = length c } ∷ [])
IsBuffer-push lits c spans h =
    let s : Span = record { from = length lits; len = length c } in
    let longer : length (lits ++ c) ≡ length lits + length c = length-append lits c in
    record {
      within =
          All-append (λ s. s.from + s.len ≤ length (lits ++ c)) spans (s ∷ [])
          (SpansIn-more lits c spans h.within)
          (All-cons (λ s. s.from + s.len ≤ length (lits ++ c)) s [] (omega (arith, longer)) (All-nil _));
      in_order = λ j k d before lt.
          let more : length (spans ++ s ∷ []) ≡ length spans + 1 = length-append spans (s ∷ []) in
          let j_old : j < length spans = omega (arith, before, lt, more) in
          let old_j : get_or (spans ++ s ∷ []) j d ≡ get_or spans j d = get_or_append_left spans (s ∷ []) d j j_old in
          let ends : (get_or spans j d).from + (get_or spans j d).len ≤ length lits = h.within j d j_old in
          elim (cases_lt k (length spans)) [
            | inr at_end ↦
                let same : k ≡ length spans = omega (arith, at_end, lt, more) in
                let new_k : get_or (spans ++ s ∷ []) (length spans) d ≡ s = get_or-append_seam spans s [] d in
                rw (old_j, same, new_k) ends
            | inl inside ↦
                let old_k : get_or (spans ++ s ∷ []) k d ≡ get_or spans k d = get_or_append_left spans (s ∷ []) d k inside in
                rw (old_j, old_k) (h.in_order j k d before inside)
          ];
    }

-- the clauses before one of them
pub SpansIn-take : (lits : List Lit) (spans : List Span) (len : ℕ) (d : Span) → IsBuffer lits spans → len < length spans →
    SpansIn (take (get_or spans len d).from lits) (take len spans)
SpansIn-take lits spans len d h lt k e below =
    let shorter : length (take len spans) ≡ len = length-take-le len spans (omega (arith, lt)) in
    let here : k < len = omega (arith, below, shorter) in
    let kept : get_or (take len spans) k e ≡ get_or spans k e = get_or-take len spans k e here in
    let same : get_or spans len e ≡ get_or spans len d = get_or_default spans len e d lt in
    let ends : (get_or spans k e).from + (get_or spans k e).len ≤ (get_or spans len e).from = h.in_order k len e here lt in
    let fits : (get_or spans len d).from + (get_or spans len d).len ≤ length lits = h.within len d lt in
    let cut : length (take (get_or spans len d).from lits) ≡ (get_or spans len d).from =
    length-take-le (get_or spans len d).from lits (omega (arith, fits)) in
    rw (kept, cut, ← same) ends

first_in_order : (len : ℕ) (spans : List Span) → AreInOrder spans → len ≤ length spans → AreInOrder (take len spans)
first_in_order len spans h le j k d before lt =
    let shorter : length (take len spans) ≡ len = length-take-le len spans le in
    let here : k < len = omega (arith, lt, shorter) in
    rw (get_or-take len spans j d (omega (arith, before, here)), get_or-take len spans k d here)
    (h j k d before (omega (arith, here, le)))

pub IsBuffer-take : (lits : List Lit) (spans : List Span) (len : ℕ) (d : Span) → IsBuffer lits spans → len < length spans →
    IsBuffer (take (get_or spans len d).from lits) (take len spans)
IsBuffer-take lits spans len d h lt = record { within = SpansIn-take lits spans len d h lt; in_order = first_in_order len spans h.in_order (omega (arith, lt)) }

pub pieces_take : (lits : List Lit) (spans : List Span) (len : ℕ) (d : Span) → IsBuffer lits spans → len < length spans →
    pieces (take (get_or spans len d).from lits) (take len spans) ≡ take len (pieces lits spans)
pieces_take lits spans len d h lt =
    let end = (get_or spans len d).from in
    let kept : pieces (take end lits ++ drop end lits) (take len spans) ≡ pieces (take end lits) (take len spans) =
    pieces_kept (take end lits) (drop end lits) (take len spans) (SpansIn-take lits spans len d h lt) in
    let whole : take end lits ++ drop end lits ≡ lits = take-append-drop end lits in
    let cut : take len (pieces lits spans) ≡ pieces lits (take len spans) = take-map (piece lits) len spans in
    sym kept ∙ ap (λ (ls : List Lit). pieces ls (take len spans)) whole ∙ sym cut
