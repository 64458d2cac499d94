-- What the type of the frames keeps is kept by each change.
use Rattle.std.proofs.Common.{◌≡◌, ℕ, suc, ◌+◌, ◌-◌, ◌<◌, ◌≤◌, Bool, true, false, List, [], ◌∷◌, length, get_or, set, sym, ◌∙◌, refl, subst, inl, inr, arith, length-set, get_or-set_same, get_or-set_other}
use Rattle.std.specs.Prelude.{Option, Some, None, is_none}
use Rattle.std.proofs.Math.ListN.{replicate}
use Rattle.std.proofs.lemmas.Bool.{cases_eq}
use Rattle.std.proofs.lemmas.List.{length-replicate, get_or-replicate}
use Rattle.clause_core.specs.Systems.{TransitionSystem}
use Rattle.frame_core.specs.declared.outcomes.FramesVerdict.TheVariants.{Invariant, Reached}
use Rattle.frame_core.specs.Facts.{ProvedClause, IsProved, ClearLevel, IsClear, FoundState, IsFound}
use Rattle.frame_core.specs.FrameLaw.{FrameState, AreAlike, system_at, top_at, lemma_at, AllStand}
use Rattle.frame_core.specs.Changes.{with_lemma, with_level, with_retired, with_top, with_obligation, IsOfSystem, NeedsNoRaise, IsCovered, MayHaveParent, IsCut, fresh, VerdictSays}
use Rattle.frame_core.specs.Counting.{AreCounts, more_at, less_at, marked_at, IsMark, IsKept}
use Rattle.frame_core.proofs.Reaching.{inductive_live}
use Rattle.frame_core.proofs.States.{inserted, lifted, is_live, dropped_one, opened_one, noted, made, none_hold, carried_over}
use Rattle.frame_core.proofs.Counts.{counted_added, counted_raised, counted_retired, counted_none, counted_some, marked_more, marked_none}

pub kept_inserted : (f : FrameState) (p : ProvedClause) (counts : List ℕ) (marks : List (Option ℕ)) → IsKept f counts marks →
    IsOfSystem f 0 false p.system → IsProved p → AllStand f.lemmas (p.level - 1) p.parents →
    IsKept (with_lemma f p.clause p.level) (more_at counts p.level) marks
kept_inserted f p counts marks k same proved stand =
    record {
      law = inserted f p k.law same proved stand;
      counted = counted_added f.lemmas (record { clause = p.clause; level = p.level; live = true }) counts refl k.counted;
      enough = λ j lt. let e = k.enough j lt in omega (arith, length-set counts p.level (get_or counts p.level 0 + 1));
      all_marked = k.all_marked;
      marked = k.marked;
    }

pub kept_lifted : (f : FrameState) (n : ℕ) (p : ProvedClause) (counts : List ℕ) (marks : List (Option ℕ)) → IsKept f counts marks →
    n < length f.lemmas → p.clause ≡ (lemma_at f.lemmas n).clause → IsOfSystem f 0 false p.system → IsProved p →
    (NeedsNoRaise f n p.level → ⊥) → AllStand f.lemmas (p.level - 1) p.parents →
    IsKept (with_level f n p.level) (more_at (less_at true counts (lemma_at f.lemmas n).level) p.level) marks
kept_lifted f n p counts marks k lt is same proved needed stand =
    let less = less_at true counts (lemma_at f.lemmas n).level in
    record {
      law = lifted f n p k.law lt is same proved needed stand;
      counted = counted_raised f.lemmas n p.level counts lt (is_live f n p.level needed) k.counted;
      enough = λ j below. let e = k.enough j below in
          omega (arith, length-set less p.level (get_or less p.level 0 + 1), length-set counts (lemma_at f.lemmas n).level (get_or counts (lemma_at f.lemmas n).level 0 - 1));
      all_marked = k.all_marked;
      marked = k.marked;
    }

less_long : (live : Bool) (counts : List ℕ) (i : ℕ) → length (less_at live counts i) ≡ length counts
less_long true counts i = length-set counts i (get_or counts i 0 - 1)
less_long false counts i = refl

pub kept_retired : (f : FrameState) (n : ℕ) (counts : List ℕ) (marks : List (Option ℕ)) → IsKept f counts marks → n < length f.lemmas → IsCovered f n →
    IsKept (with_retired f n) (less_at (lemma_at f.lemmas n).live counts (lemma_at f.lemmas n).level) marks
kept_retired f n counts marks k lt c =
    record {
      law = dropped_one f n k.law lt c;
      counted = counted_retired f.lemmas n (lemma_at f.lemmas n).live counts lt refl k.counted;
      enough = λ j below. let e = k.enough j below in let l = less_long (lemma_at f.lemmas n).live counts (lemma_at f.lemmas n).level in omega arith;
      all_marked = k.all_marked;
      marked = k.marked;
    }

-- more levels are counted
pub kept_counted : (f : FrameState) (counts more : List ℕ) (marks : List (Option ℕ)) → IsKept f counts marks → AreCounts f.lemmas more →
    length counts ≤ length more → IsKept f more marks
kept_counted f counts more marks k are longer =
    record {
      law = k.law;
      counted = are;
      enough = λ j lt. let e = k.enough j lt in omega arith;
      all_marked = k.all_marked;
      marked = k.marked;
    }

pub kept_opened : (f : FrameState) (j : ℕ) (c : ClearLevel) (counts : List ℕ) (marks : List (Option ℕ)) → IsKept f counts marks → j < length f.systems →
    IsOfSystem f j true c.system → IsClear c → c.level ≡ top_at f.tops j → AllStand f.lemmas (top_at f.tops j) c.parents →
    top_at f.tops j + 1 ≤ length counts → IsKept (with_top f j) counts marks
kept_opened f j c counts marks k lt same clear at stand enough =
    record {
      law = opened_one f j c k.law lt same clear at stand;
      counted = k.counted;
      enough = λ m below. elim (cases_eq m j) [
        | inl e ↦
            let here : j < length f.tops = let e' = k.law.tops in omega arith in
            let at' : top_at (set f.tops j (top_at f.tops j + 1)) m ≡ top_at f.tops j + 1 =
            rw e (get_or-set_same f.tops j (top_at f.tops j + 1) 0 here) in
            omega arith
        | inr ne ↦
            let at' : top_at (set f.tops j (top_at f.tops j + 1)) m ≡ top_at f.tops m = get_or-set_other f.tops j m (top_at f.tops j + 1) 0 ne in
            let e = k.enough m below in
            omega arith
      ];
      all_marked = k.all_marked;
      marked = k.marked;
    }

pub kept_noted : (f : FrameState) (j : ℕ) (g : FoundState) (parent : Option ℕ) (counts : List ℕ) (marks : List (Option ℕ)) → IsKept f counts marks →
    j < length f.systems → IsOfSystem f j (is_none parent) g.system → IsFound g → MayHaveParent f j g parent →
    IsKept (with_obligation f j g parent) counts (marked_at marks j g.first (length f.obligations))
kept_noted f j g parent counts marks k lt same found may =
    record {
      law = noted f j g parent k.law lt same found may;
      counted = k.counted;
      enough = k.enough;
      all_marked = length-set marks j _ ∙ k.all_marked;
      marked = marked_more f.obligations (record { system = j; values = g.values; parent = parent; first = g.first }) marks k.marked;
    }

none_long : (systems : List TransitionSystem) (j : ℕ) → j < length (replicate {A = Option ℕ} (length systems) None) → j < length systems
none_long systems j lt = let e : length (replicate {A = Option ℕ} (length systems) None) ≡ length systems = length-replicate (length systems) None in omega arith

pub kept_made : (systems : List TransitionSystem) → 0 < length systems → AreAlike systems → IsKept (fresh systems []) [] (replicate (length systems) None)
kept_made systems some alike =
    record {
      law = made systems [] some alike (λ j lt. none_hold (system_at systems j));
      counted = λ i lt. absurd (omega (arith, lt));
      enough = λ j lt. let e : top_at (replicate (length systems) 0) j ≡ 0 = get_or-replicate (length systems) j 0 0 lt in omega arith;
      all_marked = length-replicate (length systems) None;
      marked = marked_none (replicate (length systems) None) (λ j lt. get_or-replicate (length systems) j None None (none_long systems j lt));
    }

pub kept_carried : (f : FrameState) (systems : List TransitionSystem) (counts : List ℕ) (marks more : List (Option ℕ)) → IsKept f counts marks →
    length systems ≡ length f.systems → AreAlike systems → IsCut (system_at f.systems 0) (system_at systems 0) → length more ≡ length marks →
    ((j : ℕ) → j < length more → get_or more j None ≡ None) → IsKept (fresh systems f.lemmas) counts more
kept_carried f systems counts marks more k number alike cut len none =
    record {
      law = carried_over f systems k.law number alike cut;
      counted = k.counted;
      enough = λ j lt. let e : top_at (replicate (length systems) 0) j ≡ 0 = get_or-replicate (length systems) j 0 0 lt in omega arith;
      all_marked = len ∙ k.all_marked ∙ sym number;
      marked = marked_none more none;
    }

-- tops that are all 0
pub all_zero : (xs : List ℕ) → ((i : ℕ) → i < length xs → get_or xs i 0 ≡ 0) → xs ≡ replicate (length xs) 0
all_zero [] h = refl
all_zero (x ∷ xs) h =
    let a : x ≡ 0 = h 0 (omega arith) in
    let b : xs ≡ replicate (length xs) 0 = all_zero xs (λ i lt. h (suc i) (omega arith)) in
    λ i. a i ∷ b i

-- what a mark says, and what no mark and no empty level say
pub says_reached : (f : FrameState) (j n : ℕ) (counts : List ℕ) (marks : List (Option ℕ)) → IsKept f counts marks → j < length f.systems →
    get_or marks j None ≡ Some n → VerdictSays f j (Some (Reached n))
says_reached f j n counts marks k lt is =
    let m : IsMark f.obligations j (Some n) = subst (IsMark f.obligations j) is (k.marked j (let e = k.all_marked in omega arith)) in
    (m.0, m.1, (k.law.obligations n m.0).flag.is_first m.2)

pub says_invariant : (f : FrameState) (j i : ℕ) (counts : List ℕ) (marks : List (Option ℕ)) → IsKept f counts marks → j < length f.systems →
    0 < i → i < top_at f.tops j → get_or counts i 0 ≡ 0 → VerdictSays f j (Some (Invariant i))
says_invariant f j i counts marks k lt some below zero =
    let e = k.enough j lt in
    let none = counted_none f.lemmas i (sym (k.counted i (omega arith)) ∙ zero) in
    (some, below, none, inductive_live (system_at f.systems j) f.lemmas (top_at f.tops j) i (k.law.lemmas j lt) (k.law.safe j lt) some below none)

pub says_none : (f : FrameState) (j : ℕ) (counts : List ℕ) (marks : List (Option ℕ)) → IsKept f counts marks → j < length f.systems →
    get_or marks j None ≡ None → ((i : ℕ) → 0 < i → i < top_at f.tops j → get_or counts i 0 ≡ 0 → ⊥) → VerdictSays f j None
says_none f j counts marks k lt is full =
    let e = k.enough j lt in
    let m : IsMark f.obligations j None = subst (IsMark f.obligations j) is (k.marked j (let a = k.all_marked in omega arith)) in (
      λ i some below. counted_some f.lemmas i (let c = k.counted i (omega arith) in let ne = full i some below in omega arith),
      λ n low of first. (k.law.obligations n low).flag.not_first (m n low of) first,
    )
