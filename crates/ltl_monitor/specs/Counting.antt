-- Marks, signal and counter as clauses, drafted one set and one bit after another.
use Rattle.std.specs.Prelude.{ℕ, zero, suc, ◌+◌, true, List, [], ◌∷◌, ◌++◌, map, length}
use Rattle.clause_core.specs.declared.literal.Lit.{Lit}
use Rattle.clause_core.specs.Literals.{negate, at}
use Rattle.clause_core.specs.Systems.{TransitionSystem}
use Rattle.ltl_monitor.specs.declared.layout.Layout.{Layout}
use Rattle.ltl_monitor.specs.declared.layout.Space.{Space}
use Rattle.ltl_monitor.specs.declared.draft.Draft.{Draft}
use Rattle.ltl_monitor.specs.declared.counting.Counting.{Counting}
use Rattle.ltl_monitor.specs.Drafting.{moved, all_moved, plain, is_or, is_or_and, gate_added, row_added, start_added, Drafted}
use Rattle.ltl_monitor.specs.Assembly.{layout_of, empty_draft, assembled}

-- bit j after the given ones, false at first
abbrev pub bit : Layout → ℕ → Lit
bit p j = plain (p.given + j)

abbrev pub unset_added : Layout → ℕ → Draft → Draft
unset_added p j d = start_added ((negate (bit p j) ∷ []) ∷ []) d

-- the signal of one set more: it is marked or holds
abbrev pub set_fired : Layout → ℕ → Lit → Drafted → Drafted
set_fired p j l x =
    let d = gate_added (is_or (plain x.draft.gate) (bit p j) l) x.draft in
    record {
      draft = gate_added (is_or (plain d.gate) (negate x.lit) (negate (plain x.draft.gate))) d;
      lit = negate (plain d.gate);
    }

-- the signal of the first n sets
abbrev pub fired : Layout → List Lit → ℕ → Drafted → Drafted
fired p ls zero x = x
fired p ls (suc n) x = set_fired p n (at ls n) (fired p ls n x)

-- one mark's rules
abbrev pub set_marked : Layout → Lit → ℕ → Lit → Draft → Draft
set_marked p signal j l d =
    unset_added p j
    (row_added
    (is_or_and (negate (moved p Space.Next (bit p j))) (negate (negate (moved p Space.Now signal)))
    (negate (moved p Space.Now (bit p j))) (negate (moved p Space.Now l))) d)

abbrev pub marked : Layout → Lit → List Lit → ℕ → Draft → Draft
marked p signal ls zero d = d
marked p signal ls (suc n) d = set_marked p signal n (at ls n) (marked p signal ls n d)

-- the rules of a counter's bit, where x's literal says that there were as many signals
abbrev pub bit_counted : Layout → Lit → ℕ → Drafted → Drafted
bit_counted p signal j x = record {
  draft =
      unset_added p j
      (row_added
      (is_or_and (moved p Space.Next (bit p j)) (moved p Space.Now (bit p j)) (moved p Space.Now x.lit)
      (moved p Space.Now signal)) x.draft);
  lit = bit p j;
}

-- the counter's first n bits, which follow the marks

abbrev pub counted_up : Layout → ℕ → Lit → ℕ → Drafted → Drafted
counted_up p sets signal zero x = x
counted_up p sets signal (suc n) x = bit_counted p signal (sets + n) (counted_up p sets signal n x)

-- a draft with a literal that is true
abbrev pub yes_added : Draft → Drafted
yes_added d = record { draft = gate_added ((plain d.gate ∷ []) ∷ []) d; lit = record { var = d.gate; positive = true } }

-- signal and counter of a system's sets
abbrev pub counting : Layout → TransitionSystem → ℕ → Counting
counting p m k =
    let ls = map (moved p Space.Local) m.fair in
    let yes = yes_added (empty_draft p m) in
    let x = fired p ls (length m.fair) yes in
    let y = counted_up p (length m.fair) x.lit k record { draft = marked p x.lit ls (length m.fair) x.draft; lit = yes.lit } in
    record { draft = y.draft; signal = x.lit; full = y.lit }

-- bad where the count is full and the signal is true
abbrev pub bad_of : Layout → Counting → List (List Lit)
bad_of p x =
    all_moved p Space.Now x.draft.defs ++ (moved p Space.Now x.signal ∷ []) ∷ [] ++ (moved p Space.Now x.full ∷ []) ∷ []

-- good where the signal is false or the count is not full
abbrev pub good_of : Layout → Counting → List (List Lit)
good_of p x =
    all_moved p Space.Now x.draft.defs
    ++ (negate (moved p Space.Now x.signal) ∷ negate (moved p Space.Now x.full) ∷ []) ∷ []

-- the counted system
abbrev pub counted_at : Layout → TransitionSystem → ℕ → TransitionSystem
counted_at p m k = assembled p m (bad_of p (counting p m k)) (good_of p (counting p m k)) (counting p m k).draft

abbrev pub counted_of : TransitionSystem → ℕ → TransitionSystem
counted_of m k = counted_at (layout_of m (length m.fair + k)) m k
