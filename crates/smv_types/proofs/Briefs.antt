-- What is noted of nodes, with one node more.
use Rattle.std.proofs.Common.{◌≡◌, ◌∙◌, ℕ, zero, suc, ◌+◌, ◌-◌, ◌<◌, true, List, [], ◌∷◌, ◌++◌, length, map, drop, Option, None, Some, refl, sym, ap, arith, length-append}
use Rattle.std.specs.List.{list_all}
use Rattle.std.specs.Option.{is_none}
use Rattle.std.proofs.lemmas.Bool.{and_parts, false≢true, lt-ltb, ltb-true}
use Rattle.std.proofs.lemmas.List.{length-map, map-append}
use Rattle.std.proofs.lemmas.List.Folds.{list_all-append}
use Rattle.smv_resolve.specs.Resolved.{last_of}
use Rattle.smv_types.specs.declared.judged.Judged.{Judged}
use Rattle.smv_types.specs.declared.judged.Notes.{Notes}
use Rattle.smv_types.specs.declared.judged.TimedViolation.{TimedViolation}
use Rattle.smv_types.specs.declared.judged.Violation.{Violation}
use Rattle.smv_types.specs.declared.judged_list.Brief.{Brief}
use Rattle.smv_types.specs.declared.judged_list.Broken.{Broken}
use Rattle.smv_types.specs.Judged.{no_notes}
use Rattle.smv_types.specs.Briefs.{brief_of, breaks_nothing, broken_at, broken_of, broken_within, has_no_notes, is_number, is_there, judged_by, judged_with, no_break}

none_of : {A : Type 0} (x : Option A) → is_none x ≡ true → x ≡ None
none_of None e = refl
none_of (Some x) e = absurd (false≢true e)

from_seven : (a b c d e f : Option Violation) (g : Option TimedViolation) → a ≡ None → b ≡ None → c ≡ None → d ≡ None → e ≡ None → f ≡ None → g ≡ None →
    record { step = a; step_set = b; name = c; name_set = d; state = e; state_set = f; path = g } ≡ no_notes
from_seven a b c d e f g p q r s t u v = rw (p, q, r, s, t, u, v) refl

no_notes_are : (n : Notes) → has_no_notes n ≡ true → n ≡ no_notes
no_notes_are n h =
    let a = and_parts (is_none n.step) _ h in
    let b = and_parts (is_none n.step_set) _ a.1 in
    let c = and_parts (is_none n.name) _ b.1 in
    let d = and_parts (is_none n.name_set) _ c.1 in
    let e = and_parts (is_none n.state) _ d.1 in
    let f = and_parts (is_none n.state_set) (is_none n.path) e.1 in
    from_seven n.step n.step_set n.name n.name_set n.state n.state_set n.path (none_of n.step a.0) (none_of n.step_set b.0) (none_of n.name c.0) (none_of n.name_set d.0)
    (none_of n.state e.0) (none_of n.state_set f.0) (none_of n.path f.1)

from_three : (n : Notes) (a b : Option Violation) → n ≡ no_notes → a ≡ None → b ≡ None → record { notes = n; inner = a; defined = b } ≡ no_break
from_three n a b p q r = rw (p, q, r) refl

nothing_broken : (b : Broken) → breaks_nothing b ≡ true → b ≡ no_break
nothing_broken b h =
    let i = and_parts (is_none b.inner) _ h in
    let d = and_parts (is_none b.defined) (has_no_notes b.notes) i.1 in
    from_three b.notes b.inner b.defined (no_notes_are b.notes d.1) (none_of b.inner i.0) (none_of b.defined d.0)

-- what breaks nothing is kept without a number
pub clean_is : (broken : List Broken) (j : Judged) → breaks_nothing (broken_of j) ≡ true → judged_by broken (brief_of j None) ≡ j
clean_is broken j h = ap (judged_with (brief_of j None)) (sym (nothing_broken (broken_of j) h))

pushed_at : (broken : List Broken) (b : Broken) → broken_at (broken ++ b ∷ []) (length broken) ≡ b
pushed_at [] b = refl
pushed_at (x ∷ broken) b = pushed_at broken b

-- what breaks something is kept by the number of that
pub broken_is : (broken : List Broken) (j : Judged) → judged_by (broken ++ broken_of j ∷ []) (brief_of j (Some (length broken))) ≡ j
broken_is broken j = ap (judged_with (brief_of j (Some (length broken)))) (pushed_at broken (broken_of j))

kept_at : (broken : List Broken) (b : Broken) (n : ℕ) → n < length broken → broken_at (broken ++ b ∷ []) n ≡ broken_at broken n
kept_at [] b n l = absurd (omega (arith, l))
kept_at (x ∷ broken) b zero l = refl
kept_at (x ∷ broken) b (suc n) l = kept_at broken b n (omega (arith, l))

kept_within : (broken : List Broken) (b : Broken) (number : Option ℕ) → is_number (length broken) number ≡ true → broken_within (broken ++ b ∷ []) number ≡ broken_within broken number
kept_within broken b None h = refl
kept_within broken b (Some n) h = kept_at broken b n (ltb-true n (length broken) h)

-- one more that is broken changes none before it
pub all_kept : (broken : List Broken) (b : Broken) (briefs : List Brief) → list_all (is_there (length broken)) briefs ≡ true → map (judged_by (broken ++ b ∷ [])) briefs ≡ map (judged_by broken) briefs
all_kept broken b [] h = refl
all_kept broken b (x ∷ briefs) h =
    let p = and_parts (is_there (length broken) x) _ h in
    ap (λ y. y ∷ map (judged_by (broken ++ b ∷ [])) briefs) (ap (judged_with x) (kept_within broken b x.broken p.0)) ∙ ap (λ xs. judged_by broken x ∷ xs) (all_kept broken b briefs p.1)

wider : (count : ℕ) (number : Option ℕ) → is_number count number ≡ true → is_number (count + 1) number ≡ true
wider count None h = refl
wider count (Some n) h = lt-ltb n (count + 1) (let l = ltb-true n count h in omega (arith, l))

all_wider : (count : ℕ) (briefs : List Brief) → list_all (is_there count) briefs ≡ true → list_all (is_there (count + 1)) briefs ≡ true
all_wider count [] h = refl
all_wider count (x ∷ briefs) h =
    let p = and_parts (is_there count x) _ h in
    rw (wider count x.broken p.0, all_wider count briefs p.1) refl

all_pushed : (count : ℕ) (briefs : List Brief) (x : Brief) → list_all (is_there count) briefs ≡ true → is_there count x ≡ true → list_all (is_there count) (briefs ++ x ∷ []) ≡ true
all_pushed count briefs x h is = list_all-append (is_there count) briefs (x ∷ []) ∙ (rw (h, is) refl)

module _ (broken : List Broken) (briefs : List Brief) (j : Judged) (there : list_all (is_there (length broken)) briefs ≡ true) where
  abbrev more : List Broken
  more = broken ++ broken_of j ∷ []

  longer : length more ≡ length broken + 1
  longer = length-append broken (broken_of j ∷ [])

  -- the numbers stay those of what is there
  pub there_before : list_all (is_there (length more)) briefs ≡ true
  there_before = rw longer (all_wider (length broken) briefs there)

  pub there_behind : list_all (is_there (length more)) (briefs ++ brief_of j (Some (length broken)) ∷ []) ≡ true
  there_behind = all_pushed (length more) briefs (brief_of j (Some (length broken))) there_before (lt-ltb (length broken) (length more) (omega (arith, longer)))

  -- one node more
  pub one_broken : map (judged_by more) (briefs ++ brief_of j (Some (length broken)) ∷ []) ≡ map (judged_by broken) briefs ++ j ∷ []
  one_broken =
      map-append (judged_by more) briefs (brief_of j (Some (length broken)) ∷ [])
      ∙ ap (λ xs. xs ++ judged_by more (brief_of j (Some (length broken))) ∷ []) (all_kept broken (broken_of j) briefs there)
      ∙ ap (λ x. map (judged_by broken) briefs ++ x ∷ []) (broken_is broken j)

drop-briefs : (broken : List Broken) (k : ℕ) (briefs : List Brief) → drop k (map (judged_by broken) briefs) ≡ map (judged_by broken) (drop k briefs)
drop-briefs broken zero briefs = refl
drop-briefs broken (suc k) [] = refl
drop-briefs broken (suc k) (x ∷ briefs) = drop-briefs broken k briefs

-- the last of them
pub last_judged : (broken : List Broken) (count : ℕ) (briefs : List Brief) → last_of count (map (judged_by broken) briefs) ≡ map (judged_by broken) (last_of count briefs)
last_judged broken count briefs = ap (λ n. drop (n - count) (map (judged_by broken) briefs)) (length-map briefs (judged_by broken)) ∙ drop-briefs broken (length briefs - count) briefs
