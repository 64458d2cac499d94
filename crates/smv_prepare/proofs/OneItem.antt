-- Two refusals by faults tell of one item.
use Rattle.std.proofs.Common.{◌≡◌, ℕ, ◌<◌, Bool, true, not, Option, None, Some, All, slice_get, option_map, refl, ap, subst, arith}
use Rattle.std.specs.Option.{is_none}
use Rattle.std.proofs.lemmas.List.Elements.{All-append, All-filter}
use Rattle.std.proofs.lemmas.List.Sums.{AllPass-from_list_all}
use Rattle.std.proofs.lemmas.Option.{get_or_from_slice_get, slice_get_within}
use Rattle.smv_tree.specs.declared.refusal.Refusal.{Refusal}
use Rattle.smv_tree.specs.declared.tree.Program.{Program}
use Rattle.smv_resolve.specs.Items.{ResolvedItem}
use Rattle.smv_layout.specs.Layout.{items_of}
use Rattle.smv_slots.specs.Slots.{slots_of, types_of}
use Rattle.smv_meaning.specs.Faults.{IsFaultFree, item_fault}
use Rattle.smv_meaning.specs.Runs.{is_claim}
use Rattle.bit_faults.specs.Questions.{NeverFaults, judged_items}
use Rattle.fault_texts.specs.Refusals.{TellsFault, refusal_at, refusal_of}
use Rattle.smv_prepare.specs.Preparing.{IsRefusedByFaults}

-- an item of which a fault is told faults
pub told_faults : (p : Program) (x : ResolvedItem) (r : Refusal) → NeverFaults p x → TellsFault p x r → ⊥
told_faults p x r never told =
    let none = ap (option_map (refusal_of p told.s told.u told.t x)) (never told.s told.u told.t told.state told.inputs told.next) in
    let both : Option Refusal = None in
    cc (none, told.told)

-- an item before the one that is told never faults, so that no other refusal tells it
pub not_before : (p : Program) (r s : Refusal) (a : IsRefusedByFaults p r) (b : IsRefusedByFaults p s) → a.number < b.number → ⊥
not_before p r s a b less = told_faults p a.item r (b.before a.number a.item less a.judged) a.told

pub one_number : (p : Program) (r s : Refusal) (a : IsRefusedByFaults p r) (b : IsRefusedByFaults p s) → a.number ≡ b.number
one_number p r s a b = omega (arith, not_before p r s a b, not_before p s r b a)

pub one_item : (p : Program) (r s : Refusal) (a : IsRefusedByFaults p r) (b : IsRefusedByFaults p s) → a.item ≡ b.item
one_item p r s a b =
    let here : slice_get (judged_items p) a.number ≡ Some a.item = a.judged in
    let there : slice_get (judged_items p) b.number ≡ Some b.item = b.judged in
    let same : a.number ≡ b.number = one_number p r s a b in
    one_given (slice_get (judged_items p)) a.number b.number a.item b.item same here there
  where
    one_given : {A B : Type 0} (f : A → Option B) (m n : A) (x y : B) → m ≡ n → f m ≡ Some x → f n ≡ Some y → x ≡ y
    one_given f m n x y e here there = cc

pub one_refusal : (p : Program) (r s : Refusal) (a : IsRefusedByFaults p r) (b : IsRefusedByFaults p s)
    → a.told.s ≡ b.told.s → a.told.u ≡ b.told.u → a.told.t ≡ b.told.t → r ≡ s
one_refusal p r s a b state inputs next = one_given (refusal_at p) _ _ _ _ _ _ _ _ r s state inputs next (one_item p r s a b) a.told.told b.told.told
  where
    one_given : {A B C : Type 0} (f : A → A → A → B → Option C) (s s2 u u2 t t2 : A) (x y : B) (r q : C)
        → s ≡ s2 → u ≡ u2 → t ≡ t2 → x ≡ y → f s u t x ≡ Some r → f s2 u2 t2 y ≡ Some q → r ≡ q
    one_given f s s2 u u2 t t2 x y r q es eu et ex here there = cc

none_of : {A : Type 0} (o : Option A) → is_none o ≡ true → o ≡ None
none_of None e = refl
none_of (Some x) e = absurd cc

-- each item that is judged is one of the program
never_by_free : (p : Program) (free : IsFaultFree p) (j : ℕ) (x : ResolvedItem) → slice_get (judged_items p) j ≡ Some x → NeverFaults p x
never_by_free p free j x here s u t state inputs next =
    let q : ResolvedItem → Bool = λ y. is_none (item_fault (types_of p) (slots_of p) s u t y) in
    let passes : ResolvedItem → Type 0 = λ y. q y ≡ true in
    let all : All passes (items_of p) = AllPass-from_list_all q (items_of p) (free s u t state inputs next) in
    let judged : All passes (judged_items p) =
    All-append passes _ _ (All-filter (λ y. not (is_claim y.kind)) passes (items_of p) all) (All-filter (λ y. is_claim y.kind) passes (items_of p) all) in
    none_of _ (subst passes (get_or_from_slice_get (judged_items p) j x x here) (judged j x (slice_get_within (judged_items p) j x here)))

-- what is free of faults is not refused so
pub free_apart : (p : Program) (r : Refusal) → IsFaultFree p → IsRefusedByFaults p r → ⊥
free_apart p r free a = told_faults p a.item r (never_by_free p free a.number a.item a.judged) a.told
