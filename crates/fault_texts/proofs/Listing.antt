-- The texts of the slots that are marked, one after another.
use Rattle.std.proofs.Common.{◌≡◌, ℕ, zero, suc, ◌+◌, ◌<◌, ◌≤◌, Bool, true, false, List, [], ◌∷◌, ◌++◌, length, map, filter, if◌then◌else◌, refl, sym, ap, ◌∙◌, arith, append_assoc, append-nil}
use Rattle.std.specs.List.{range_with_len}
use Rattle.std.proofs.lemmas.List.{map-append}
use Rattle.std.proofs.lemmas.List.Elements.{filter-append}
use Rattle.std.proofs.lemmas.List.FromFn.{map-range_with_len_more}
use Rattle.smv_tree.specs.declared.tree.Program.{Program}
use Rattle.smv_resolve.specs.Resolved.{Resolved}
use Rattle.smv_slots.specs.Slots.{slots_of}
use Rattle.smv_flat.specs.Assignments.{occurs, slot_numbers}
use Rattle.fault_texts.specs.Marks.{TellsSlots, mark}
use Rattle.fault_texts.specs.Valuations.{slots_in}

-- the numbers below n that pass the test
abbrev pub passing : (ℕ → Bool) → ℕ → List ℕ
passing test n = filter test (range_with_len 0 n)

range_more : (n : ℕ) → range_with_len 0 (n + 1) ≡ range_with_len 0 n ++ n ∷ []
range_more n = sym (map-id-range (n + 1)) ∙ map-range_with_len_more (λ k. k) 0 n n (omega arith) ∙ ap (λ ns. ns ++ n ∷ []) (map-id-range n)
  where
    unchanged : (ns : List ℕ) → map (λ i. i) ns ≡ ns
    unchanged [] = refl
    unchanged (m ∷ ns) = ap (λ rest. m ∷ rest) (unchanged ns)

    map-id-range : (k : ℕ) → map (λ i. i) (range_with_len 0 k) ≡ range_with_len 0 k
    map-id-range k = unchanged (range_with_len 0 k)

pub passing_more : (test : ℕ → Bool) (n : ℕ) → test n ≡ true → passing test (n + 1) ≡ passing test n ++ n ∷ []
passing_more test n on =
    ap (filter test) (range_more n) ∙ filter-append test (range_with_len 0 n) (n ∷ [])
    ∙ ap (λ b. passing test n ++ (if b then n ∷ [] else [])) on

pub passing_same : (test : ℕ → Bool) (n : ℕ) → test n ≡ false → passing test (n + 1) ≡ passing test n
passing_same test n off =
    ap (filter test) (range_more n) ∙ filter-append test (range_with_len 0 n) (n ∷ [])
    ∙ ap (λ b. passing test n ++ (if b then n ∷ [] else [])) off ∙ append-nil (passing test n)

-- tests that agree below n pass the same numbers
pub passing_alike : (first second : ℕ → Bool) (n : ℕ) → ((k : ℕ) → k < n → first k ≡ second k) → passing first n ≡ passing second n
passing_alike first second n same = from 0 n (λ k le less. same k (omega (arith, less)))
  where
    from : (start count : ℕ) → ((k : ℕ) → start ≤ k → k < start + count → first k ≡ second k) → filter first (range_with_len start count) ≡ filter second (range_with_len start count)
    from start zero agree = refl
    from start (suc count) agree =
        ap (λ b. if b then start ∷ filter first (range_with_len (start + 1) count) else filter first (range_with_len (start + 1) count)) (agree start (omega arith) (omega arith))
        ∙ ap (λ rest. if second start then start ∷ rest else rest) (from (start + 1) count (λ k le less. agree k (omega (arith, le)) (omega (arith, less))))

-- the text of a number that passes comes behind the others
pub told_more : (f : ℕ → List ℕ) (test : ℕ → Bool) (n : ℕ) (old now : List (List ℕ)) (text : List ℕ) → now ≡ old ++ map f (passing test n) → text ≡ f n → test n ≡ true
    → now ++ text ∷ [] ≡ old ++ map f (passing test (n + 1))
told_more f test n old now text so_far is on =
    ap (λ ts. ts ++ text ∷ []) so_far ∙ append_assoc old (map f (passing test n)) (text ∷ [])
    ∙ ap (λ x. old ++ (map f (passing test n) ++ x ∷ [])) is
    ∙ ap (λ ts. old ++ ts) (sym (map-append f (passing test n) (n ∷ [])) ∙ ap (map f) (sym (passing_more test n on)))

-- and one that does not pass has none
pub told_same : (f : ℕ → List ℕ) (test : ℕ → Bool) (n : ℕ) (old now : List (List ℕ)) → now ≡ old ++ map f (passing test n) → test n ≡ false
    → now ≡ old ++ map f (passing test (n + 1))
told_same f test n old now so_far off = so_far ∙ ap (λ ns. old ++ map f ns) (sym (passing_same test n off))

-- the slots that are marked where it is told which ones occur
pub slots_told : (p : Program) (ahead : Bool) (r : Resolved) (marks : List Bool) (count : ℕ) → count ≡ length (slots_of p) → TellsSlots ahead r count marks
    → filter (mark marks) (slot_numbers p) ≡ slots_in p ahead r
slots_told p ahead r marks count size tells = passing_alike (mark marks) (λ n. occurs ahead n r) (length (slots_of p)) (λ k less. tells k (omega (arith, size, less)))
