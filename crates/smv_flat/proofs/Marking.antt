-- What the marks of the slots say after one more assignment.
use Rattle.std.proofs.Common.{◌≡◌, inl, inr, ℕ, ◌<◌, ◌+◌, Bool, true, false, ◌&&◌, ◌||◌, ◌==◌, List, [], ◌∷◌, ◌++◌, length, get_or, set, take, drop, refl, sym, ap, ◌∙◌, eq-eqb, get_or-set_other, drop-cons, add-one, suc, if◌then◌else◌, Option, Some}
use Rattle.std.proofs.lemmas.Bool.{cases_eq, ne_eqb}
use Rattle.std.proofs.lemmas.List.{get_or-set_same, take_more}
use Rattle.std.proofs.lemmas.List.Folds.{list_any_more}
use Rattle.smv_tree.specs.declared.refusal.Refusal.{Refusal}
use Rattle.smv_tree.specs.declared.tree.Program.{Program}
use Rattle.smv_tree.specs.declared.tree.AssignmentKind.{AssignmentKind}
use Rattle.smv_tree.specs.declared.tree.AssignmentKind.TheVariants as side
use Rattle.smv_flat.specs.declared.twice.Taken.{Taken}
use Rattle.smv_flat.specs.Assignments.{SlotAssignment, kinds_meet, twice, twice_refusal}
use Rattle.smv_flat.specs.Marks.{Knows, any_meets, free, is_taken, taken_at, taken_by}

or_false : (a : Bool) → a ≡ (a || false)
or_false true = refl
or_false false = refl

-- a kind meets what was taken before it, and the kind that is taken
both : (f g : AssignmentKind) (a b : Bool) → is_taken (taken_by (record { first = a; next = b }) f) g ≡ (is_taken (record { first = a; next = b }) g || kinds_meet f g)
both side.Init side.Init true b = refl
both side.Init side.Init false b = refl
both side.Init side.Next a b = or_false b
both side.Init side.Current true b = refl
both side.Init side.Current false true = refl
both side.Init side.Current false false = refl
both side.Next side.Init a b = or_false a
both side.Next side.Next a true = refl
both side.Next side.Next a false = refl
both side.Next side.Current true b = refl
both side.Next side.Current false true = refl
both side.Next side.Current false false = refl
both side.Current side.Init true b = refl
both side.Current side.Init false b = refl
both side.Current side.Next a true = refl
both side.Current side.Next a false = refl
both side.Current side.Current true b = refl
both side.Current side.Current false true = refl
both side.Current side.Current false false = refl

-- one more assignment may meet another
any_more : (as' : List SlotAssignment) (k m : ℕ) (a : SlotAssignment) (kind : AssignmentKind) → k < length as' → a ≡ get_or as' k a
    → any_meets (take (k + 1) as') m kind ≡ (any_meets (take k as') m kind || (a.slot == m && kinds_meet a.kind kind))
any_more as' k m a kind lt is =
    list_any_more (λ (b : SlotAssignment). b.slot == m && kinds_meet b.kind kind) as' k a lt
    ∙ ap (λ (b : SlotAssignment). any_meets (take k as') m kind || (b.slot == m && kinds_meet b.kind kind)) (sym is)

-- an assignment of a slot is marked there
pub knows_more : (ts : List Taken) (as' : List SlotAssignment) (k : ℕ) (a : SlotAssignment) (t : Taken) → k < length as' → a ≡ get_or as' k a
    → t ≡ taken_at ts a.slot → a.slot < length ts → Knows ts (take k as') → Knows (set ts a.slot (taken_by t a.kind)) (take (k + 1) as')
knows_more ts as' k a t lt is here within known m kind =
    let n = a.slot in
    let more = any_more as' k m a kind lt is in
    elim (cases_eq m n) [
      | inl e ↦
          ap (λ s. is_taken (taken_at (set ts n (taken_by t a.kind)) s) kind) e
          ∙ ap (λ x. is_taken x kind) (get_or-set_same ts n (taken_by t a.kind) free within)
          ∙ both a.kind kind t.first t.next
          ∙ ap (λ x. is_taken x kind || kinds_meet a.kind kind) (here ∙ ap (taken_at ts) (sym e))
          ∙ ap (λ b. b || kinds_meet a.kind kind) (known m kind)
          ∙ ap (λ b. any_meets (take k as') m kind || (b && kinds_meet a.kind kind)) (sym (eq-eqb n m (sym e)))
          ∙ sym more
      | inr ne ↦
          ap (λ x. is_taken x kind) (get_or-set_other ts n m (taken_by t a.kind) free ne) ∙ known m kind
          ∙ or_false (any_meets (take k as') m kind)
          ∙ ap (λ b. any_meets (take k as') m kind || (b && kinds_meet a.kind kind)) (sym (ne_eqb n m (λ e. ne (sym e))))
          ∙ sym more
    ]

-- the search goes on where the next assignment meets none before it
pub goes_on : (p : Program) (as' : List SlotAssignment) (k : ℕ) (a : SlotAssignment) (r : Option Refusal) → k < length as' → a ≡ get_or as' k a
    → any_meets (take k as') a.slot a.kind ≡ false → twice p (take k as') (drop k as') ≡ r → twice p (take (k + 1) as') (drop (k + 1) as') ≡ r
goes_on p as' k a r lt is clear left =
    let turn : drop k as' ≡ a ∷ drop (k + 1) as' = drop-cons as' k a lt ∙ ap (λ y. y ∷ drop (suc k) as') (sym is) ∙ ap (λ n. a ∷ drop n as') (sym (add-one k)) in
    let more : take (k + 1) as' ≡ take k as' ++ a ∷ [] = take_more as' k a lt ∙ ap (λ y. take k as' ++ y ∷ []) (sym is) in
    ap (λ xs. twice p xs (drop (k + 1) as')) more
    ∙ sym (ap (λ b. if b then Some (twice_refusal p a) else twice p (take k as' ++ a ∷ []) (drop (k + 1) as')) clear)
    ∙ sym (ap (λ ys. twice p (take k as') ys) turn) ∙ left

-- the search ends where the next assignment meets one before it
pub ends_here : (p : Program) (as' : List SlotAssignment) (k : ℕ) (a : SlotAssignment) (r : Option Refusal) → k < length as' → a ≡ get_or as' k a
    → any_meets (take k as') a.slot a.kind ≡ true → twice p (take k as') (drop k as') ≡ r → r ≡ Some (twice_refusal p a)
ends_here p as' k a r lt is meets left =
    let turn : drop k as' ≡ a ∷ drop (k + 1) as' = drop-cons as' k a lt ∙ ap (λ y. y ∷ drop (suc k) as') (sym is) ∙ ap (λ n. a ∷ drop n as') (sym (add-one k)) in
    sym left ∙ ap (λ ys. twice p (take k as') ys) turn
    ∙ ap (λ b. if b then Some (twice_refusal p a) else twice p (take k as' ++ a ∷ []) (drop (k + 1) as')) meets
