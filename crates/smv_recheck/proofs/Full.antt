-- Full parts are rejected for a reason of the program alone.
use Rattle.std.proofs.Common.{◌≡◌, ◌∙◌, ◌⊎◌, ℕ, zero, suc, ◌<◌, ◌≤◌, Bool, true, false, List, [], ◌∷◌, ◌++◌, length, take, slice_get, Option, None, Some, sym, subst, arith, inl, inr}
use borrow.Author.Count.{below_more}
use Rattle.std.specs.List.{All, Any}
use Rattle.std.specs.Prelude.{slice_index_or}
use Rattle.std.proofs.lemmas.Bool.{cases_Bool}
use Rattle.std.proofs.lemmas.Option.{slice_get-get_or}
use Rattle.std.proofs.lemmas.List.Elements.{All-append, All-cons, All-head, All-nil, All-tail, All-weaker}
use Rattle.clause_core.specs.declared.literal.Lit.{Lit}
use Rattle.clause_core.specs.Literals.{Within, negate}
use Rattle.clause_core.specs.Propagation.{AllFalse, Closed, Follows, HasConflict, UnitIn}
use Rattle.clause_core.specs.Derivations.{Derives}
use Rattle.clause_core.specs.Systems.{TransitionSystem}
use Rattle.clause_core.proofs.Lists.{Closed-left, Closed-right}
use Rattle.clause_core.proofs.Live.{HasConflict-more}
use Rattle.hinted_log.specs.Hints.{HintedLog}
use Rattle.cert_core.specs.declared.form.Form.{Form}
use Rattle.cert_core.specs.declared.form.Form.TheVariants.{Plain}
use Rattle.cert_core.specs.declared.form.Part.{Part}
use Rattle.cert_core.specs.declared.form.Part.TheVariants.{Shared, First, Kept, Safe}
use Rattle.cert_core.specs.Blocks.{Block, part_of}
use Rattle.cert_core.specs.Certificates.{SharedFollow, Shows, first_clauses, kept_clauses, negated, negated_next, safe_clauses, shared_clauses, shared_steps, unit_clauses}
use Rattle.cert_check.specs.Judgements.{FailsFirst, IsFarAt}
use Rattle.smv_tree.specs.declared.tree.Program.{Program}
use Rattle.smv_resolve.specs.Items.{ResolvedItem}
use Rattle.smv_meaning.specs.Runs.{is_first_state, is_step}
use Rattle.bit_clauses.specs.Deciding.{Decides, Sets}
use Rattle.bit_clauses.specs.declared.deciding.Decided.{Decided}
use Rattle.bit_states.specs.Layouts.{named_width, state_width}
use Rattle.bit_states.specs.Coding.{inputs_of, next_of, state_of}
use Rattle.bit_conditions.specs.Asked.{is_broken_in}
use Rattle.bit_faults.specs.Mending.{mended}
use Rattle.bit_faults.specs.Questions.{AreFaultQuestions, IsFaultQuestion, judged_items}
use Rattle.bit_faults.proofs.Bits.{faults_same}
use Rattle.bit_system.specs.Standing.{StandsFor}
use Rattle.sound_check.specs.Judgements.{PartShows, FailsFirst as FailsFirstItem}
use Rattle.smv_recheck.proofs.Reaching.{reached}
use Rattle.smv_recheck.proofs.Recording.{element_at}
use Rattle.smv_recheck.specs.Full.{HasFault, HasReason, IsFull, IsFullItem, IsFullPart}

-- A conflict stays one behind other clauses.

any_behind : {X : Type 0} (P : X → Type 0) (x : X) (xs : List X) → Any P xs → Any P (x ∷ xs)
any_behind P x xs h = (suc h.0, h.1, omega (arith, h.2), h.3, h.4)

conflict_behind : (t : Lit → Bool) (bs cs : List (List Lit)) → HasConflict t cs → HasConflict t (bs ++ cs)
conflict_behind t [] cs h = h
conflict_behind t (b ∷ bs) cs h = elim (conflict_behind t bs cs h) [ inl found ↦ inl (any_behind (AllFalse t) b (bs ++ cs) found) | inr both ↦ inr both ]

-- the clauses hold those that decide and those that are given
pub record Covers (whole decided given : List (List Lit)) : Type 0 where
  pub decided_in : (t : Lit → Bool) → Closed t whole → Closed t decided
  pub given_in : (t : Lit → Bool) → Closed t whole → Closed t given
  pub conflict : (t : Lit → Bool) → HasConflict t decided → HasConflict t whole

module _ (n vars : ℕ) (whole decided given log : List (List Lit)) (f : (ℕ → Bool) → Bool) (room : n ≤ vars) (decides : Decides n decided f) (covers : Covers whole decided given) (full : IsFull n given log) where
  -- a step whose values are refuted follows
  follows : (k : ℕ) → k < length log → f (full.values k) ≡ false → Follows (whole ++ take k log) (slice_index_or log k [])
  follows k lt never t false_in closed =
      let front : Closed t whole = Closed-left t whole (take k log) closed in
      let back : Closed t (take k log) = Closed-right t whole (take k log) closed in
      let own : Closed t (given ++ take k log) = All-append (λ (c : List Lit). (l : Lit) → UnitIn t c l → t l ≡ true) given (take k log) (covers.given_in t front) back in
      let set : Sets n (full.values k) t = full.sets k lt t false_in own in
      HasConflict-more t whole (take k log) (covers.conflict t ((decides.refuted (full.values k)).1 never t set (covers.decided_in t front)))

  derives : ((k : ℕ) → k < length log → f (full.values k) ≡ false) → Derives vars whole log
  derives none = (
    λ k lt. (
      All-weaker (λ (l : Lit). l.var < n) (λ (l : Lit). l.var < vars) (λ l below. omega (arith, below, room)) (slice_index_or log k []) (full.steps k [] lt),
      follows k lt (none k lt),
    ),
    full.ends,
  )

  -- each of the first m steps has values that are refuted, or one has not
  look : (m : ℕ) → ((k : ℕ) → k < m → f (full.values k) ≡ false) ⊎ ((k : ℕ) × (k < m) × (f (full.values k) ≡ true))
  look zero = inl (λ k lt. absurd (let never : ⊥ = omega (arith, lt) in never))
  look (suc m) = elim (look m) [
    | inr hit ↦ inr (hit.0, omega (arith, hit.1), hit.2)
    | inl none ↦ elim (cases_Bool (f (full.values m))) [
      | inl hit ↦ inr (m, omega arith, hit)
      | inr miss ↦ inl (λ k lt. below_more (λ (i : ℕ). f (full.values i) ≡ false) m none miss k (omega (arith, lt)))
    ]
  ]

  pub reason : (Derives vars whole log → ⊥) → (k : ℕ) × (k < length log) × (f (full.values k) ≡ true)
  reason fails = elim (look (length log)) [ inr hit ↦ hit | inl none ↦ absurd (fails (derives none)) ]

-- What parts follow from.

first_covers : (sys : TransitionSystem) (units : List (List Lit)) → Covers (sys.init ++ units) sys.init units
first_covers sys units = record {
  decided_in = λ t h. Closed-left t sys.init units h;
  given_in = λ t h. Closed-right t sys.init units h;
  conflict = λ t h. HasConflict-more t sys.init units h;
}

kept_covers : (cs step units : List (List Lit)) → Covers (cs ++ step ++ [] ++ units) step (cs ++ units)
kept_covers cs step units = record {
  decided_in = λ t h. Closed-right t cs step (Closed-left t (cs ++ step) [] (Closed-left t (cs ++ step ++ []) units h));
  given_in = λ t h. All-append (λ (c : List Lit). (l : Lit) → UnitIn t c l → t l ≡ true) cs units
      (Closed-left t cs step (Closed-left t (cs ++ step) [] (Closed-left t (cs ++ step ++ []) units h))) (Closed-right t (cs ++ step ++ []) units h);
  conflict = λ t h. HasConflict-more t (cs ++ step ++ []) units (HasConflict-more t (cs ++ step) [] (conflict_behind t cs step h));
}

safe_covers : (cs bad : List (List Lit)) → Covers (cs ++ bad) bad cs
safe_covers cs bad = record {
  decided_in = λ t h. Closed-right t cs bad h;
  given_in = λ t h. Closed-left t cs bad h;
  conflict = λ t h. conflict_behind t cs bad h;
}

-- the clause has the bits that its negated literals have
units_within : (n : ℕ) (c : List Lit) → All (Within n) (unit_clauses (negated c)) → Within n c
units_within n [] h = λ k d lt. absurd (let never : ⊥ = omega (arith, lt) in never)
units_within n (l ∷ c) h =
    let here : (negate l).var < n = All-head (Within n) (negate l ∷ []) (unit_clauses (negated c)) h 0 l (omega arith) in
    All-cons (λ (m : Lit). m.var < n) l c here (units_within n c (All-tail (Within n) (negate l ∷ []) (unit_clauses (negated c)) h))

-- Rejected parts.

module _ (p : Program) (spec : ResolvedItem) (sys : TransitionSystem) (cert : Block) (stands : StandsFor p spec sys) where
  room : state_width p ≤ sys.all_bits
  room = omega (arith, stands.room)

  first_reason : (k : ℕ) (log : HintedLog) (full : IsFullPart p cert (First k) log) → FailsFirst sys cert (First k) → HasReason p spec cert (First k) log full
  first_reason k log full h =
      let c = slice_index_or cert.clauses k [] in
      let fails : Derives sys.all_bits (first_clauses sys c) log.steps → ⊥ = λ d. elim h [
        | inl far ↦ absurd (subst (λ (form : Form). IsFarAt form sys.state_bits cert.clauses k) full.plain far)
        | inr judged ↦ judged.1.2 (
          subst (λ (n : ℕ). Within n c) (sym stands.bits) (units_within (state_width p) c full.full.given),
          subst (λ (form : Form). Shows form sys.all_bits (first_clauses sys c) (part_of cert (First k))) (sym full.plain)
              (subst (λ (o : Option HintedLog). Shows Plain sys.all_bits (first_clauses sys c) o) (sym full.there) d),
        )
      ] in
      let found = reason (state_width p) sys.all_bits (first_clauses sys c) sys.init (unit_clauses (negated c)) log.steps (λ x. is_first_state p (state_of p x)) room stands.first
      (first_covers sys (unit_clauses (negated c))) full.full fails in
      record { step = found.0; within = found.1; reason = found.2 }

  kept_reason : (k : ℕ) (log : HintedLog) (full : IsFullPart p cert (Kept k) log) → FailsFirst sys cert (Kept k) → HasReason p spec cert (Kept k) log full
  kept_reason k log full h =
      let c = slice_index_or cert.clauses k [] in
      let units = unit_clauses (negated_next (state_width p) c) in
      let whole = cert.clauses ++ sys.step ++ [] ++ units in
      let fails : Derives sys.all_bits whole log.steps → ⊥ = λ d. h.2.2 (
      subst (λ (form : Form). Shows form sys.all_bits (kept_clauses sys cert.clauses (shared_steps form cert.shared) c) (part_of cert (Kept k))) (sym full.plain)
      (subst (λ (o : Option HintedLog). Shows Plain sys.all_bits (kept_clauses sys cert.clauses [] c) o) (sym full.there)
      (subst (λ (n : ℕ). Derives sys.all_bits (cert.clauses ++ sys.step ++ [] ++ unit_clauses (negated_next n c)) log.steps) (sym stands.bits) d))) in
      let found = reason (named_width p) sys.all_bits whole sys.step (cert.clauses ++ units) log.steps (λ x. is_step p (state_of p x) (inputs_of p x) (next_of p x)) stands.room stands.step
      (kept_covers cert.clauses sys.step units) full.full fails in
      record { step = found.0; within = found.1; reason = found.2 }

  safe_reason : (log : HintedLog) (full : IsFullPart p cert Safe log) → FailsFirst sys cert Safe → HasReason p spec cert Safe log full
  safe_reason log full h =
      let fails : Derives sys.all_bits (safe_clauses sys cert.clauses) log.steps → ⊥ = λ d. h.3 (
      subst (λ (form : Form). Shows form sys.all_bits (safe_clauses sys cert.clauses) cert.safe) (sym full.plain)
      (subst (λ (o : Option HintedLog). Shows Plain sys.all_bits (safe_clauses sys cert.clauses) o) (sym full.there) d)) in
      let found = reason (state_width p) sys.all_bits (safe_clauses sys cert.clauses) sys.bad cert.clauses log.steps (λ x. is_broken_in p spec (state_of p x)) room stands.bad
      (safe_covers cert.clauses sys.bad) full.full fails in
      record { step = found.0; within = found.1; reason = found.2 }

  pub has_reason : (part : Part) (log : HintedLog) (full : IsFullPart p cert part log) → FailsFirst sys cert part → HasReason p spec cert part log full
  has_reason Shared log full h =
      let follow : SharedFollow Plain sys.all_bits (shared_clauses sys cert.clauses) cert.shared = tt in
      absurd (h.1 (subst (λ (form : Form). SharedFollow form sys.all_bits (shared_clauses sys cert.clauses) cert.shared) (sym full.plain) follow))
  has_reason (First k) log full h = first_reason k log full h
  has_reason (Kept k) log full h = kept_reason k log full h
  has_reason Safe log full h = safe_reason log full h

-- Rejected items.

own_covers : (cs : List (List Lit)) → Covers cs cs []
own_covers cs = record {
  decided_in = λ t h. h;
  given_in = λ t h. All-nil (λ (c : List Lit). (l : Lit) → UnitIn t c l → t l ≡ true);
  conflict = λ t h. h;
}

item_fails : (p : Program) (x : ResolvedItem) (q : Option Decided) (parts : List (Option HintedLog)) (item : ℕ) (log : HintedLog) (full : IsFullItem p parts item log) →
    slice_get (judged_items p) item ≡ Some x → IsFaultQuestion p x q → (PartShows q (slice_index_or parts item None) → ⊥) → HasFault p parts item log full
item_fails p x None parts item log full at is fails = absurd (fails tt)
item_fails p x (Some d) parts item log full at is fails =
    let never : Derives d.vars d.clauses log.steps → ⊥ = λ shown. fails (subst (λ (o : Option HintedLog). Shows Plain d.vars d.clauses o) (sym full.there) shown) in
    let found = reason (named_width p) d.vars d.clauses d.clauses [] log.steps is.test is.room is.decides (own_covers d.clauses) full.full never in
    let bits = mended p (full.full.values found.0) in
    let there = reached bits (named_width p) log.steps full.full in
    record {
      judged = x;
      is_it = at;
      step = there.0;
      within = there.1;
      faults = sym (faults_same p x bits (full.full.values there.0) there.2) ∙ is.faulty (full.full.values found.0) found.2;
    }

pub has_fault : (p : Program) (questions : List (Option Decided)) (parts : List (Option HintedLog)) (item : ℕ) (log : HintedLog) (full : IsFullItem p parts item log) →
    AreFaultQuestions p questions → FailsFirstItem questions parts item → HasFault p parts item log full
has_fault p questions parts item log full asked fails =
    let q = slice_index_or questions item None in
    let at : slice_get questions item ≡ Some q = slice_get-get_or questions item None fails.within in
    let within : item < length (judged_items p) = omega (arith, fails.within, asked.long) in
    let here = element_at (judged_items p) item within in
    item_fails p here.0 q parts item log full here.1 (asked.each item here.0 q here.1 at) fails.fails
