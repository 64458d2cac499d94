-- Copies of lemmas that are brought up to date.
use Rattle.std.proofs.Common.{◌≡◌, inl, inr, ℕ, ◌+◌, ◌<◌, ◌≤◌, Bool, true, false, List, [], ◌∷◌, ◌++◌, length, take, set, get_or, Option, refl, sym, ◌∙◌, ap, subst, arith, length-set, get_or-set_same, get_or-set_other}
use Rattle.std.specs.Prelude.{All}
use Rattle.std.proofs.lemmas.Bool.{cases_lt, cases_eq}
use Rattle.std.proofs.lemmas.List.{set-set, ext_get_or, get_or-take, length-take-le, take-take, take_all}
use Rattle.std.proofs.lemmas.List.Elements.{All-take}
use Rattle.clause_core.specs.declared.literal.Lit.{Lit}
use Rattle.clause_core.specs.Literals.{Within}
use Rattle.clause_core.specs.Systems.{TransitionSystem}
use Rattle.frame_core.specs.declared.parts.Lemma.{Lemma}
use Rattle.std.proofs.Math.Seq.{get_or-append_seam, set-append_seam}
use Rattle.frame_core.specs.Copies.{IsNextChange}
use Rattle.frame_core.specs.FrameLaw.{no_lemma, lemma_at, system_at, raised_at, retired_at}
use Rattle.frame_solver.specs.declared.loading.Engine.{Engine}
use Rattle.frame_solver.specs.Guards.{HoldsGroups}
use Rattle.frame_solver.specs.Groups.{clauses_of, groups, base, step_heads, state_heads}
use Rattle.frame_solver.specs.Engines.{IsLoaded}
use Rattle.frame_query.specs.Keeping.{IsKept}
use Rattle.frame_query.specs.Findings.{IsOlder}
use Rattle.frame_query.specs.declared.kept_proofs.KeptProof.{KeptProof}
use Rattle.frame_query.proofs.Again.{kept_later}
use Rattle.frame_solver.proofs.Framed.{clauses_count, clause_of}

pub lemma_same : (a l : Lemma) → a.clause ≡ l.clause → a.live ≡ l.live → record { clause = a.clause; level = l.level; live = a.live } ≡ l
lemma_same a l c v =
    ap (λ (x : List Lit). let r : Lemma = record { clause = x; level = l.level; live = a.live } in r) c
    ∙ ap (λ (x : Bool). let r : Lemma = record { clause = l.clause; level = l.level; live = x } in r) v

-- the first n lemmas of the copy are followed, the others are as they were
pub record IsFollowed (lemmas old : List Lemma) (n : ℕ) (copy : List Lemma) : Type 0 where
  pub long : length copy ≡ length old
  pub new : (k : ℕ) → k < n → lemma_at copy k ≡ lemma_at lemmas k
  pub same : (k : ℕ) → n ≤ k → lemma_at copy k ≡ lemma_at old k

pub followed_none : (lemmas old : List Lemma) → IsFollowed lemmas old 0 old
followed_none lemmas old = record { long = refl; new = λ k lt. absurd (omega arith); same = λ k le. refl }

pub followed_more : (lemmas old : List Lemma) (n : ℕ) (copy more : List Lemma) → IsFollowed lemmas old n copy → n < length copy →
    more ≡ set copy n (lemma_at lemmas n) → IsFollowed lemmas old (n + 1) more
followed_more lemmas old n copy more h lt is =
    let x = lemma_at lemmas n in
    let P : List Lemma → Type 0 = IsFollowed lemmas old (n + 1) in
    subst P (sym is) record {
      long = length-set copy n x ∙ h.long;
      new = λ k low.
          elim (cases_eq k n) [
            | inl e ↦
                let Q : ℕ → Type 0 = λ j. get_or (set copy n x) j no_lemma ≡ lemma_at lemmas j in
                subst Q (sym e) (get_or-set_same copy n x no_lemma lt)
            | inr ne ↦ get_or-set_other copy n k x no_lemma ne ∙ h.new k (omega (arith, ne))
          ];
      same = λ k high. get_or-set_other copy n k x no_lemma (λ e. omega (arith, e)) ∙ h.same k (omega arith);
    }

lemma_is : (a l : Lemma) → a.clause ≡ l.clause → a.level ≡ l.level → a.live ≡ l.live → a ≡ l
lemma_is a l c e v = ap (λ (x : ℕ). let r : Lemma = record { clause = a.clause; level = x; live = a.live } in r) e ∙ lemma_same a l c v

-- the lemmas up to the next change are the same
pub followed_skip : (lemmas old copy : List Lemma) (n next : ℕ) → IsOlder old lemmas → IsFollowed lemmas old n copy → IsNextChange copy lemmas n next →
    IsFollowed lemmas old next copy
followed_skip lemmas old copy n next older h skips =
    let past : n ≤ next = skips.past in
    let within : next ≤ length copy = skips.within in
    let long : length copy ≡ length old = h.long in
    record {
      long = long;
      new = λ k lt.
          elim (cases_lt k n) [
            | inl low ↦ h.new k low
            | inr high ↦
                let level = skips.same k high lt in
                let clause = ap (λ (l : Lemma). l.clause) (h.same k high) ∙ older.clause k (omega arith) in
                lemma_is (lemma_at copy k) (lemma_at lemmas k) clause level.0 level.1
          ];
      same = λ k high. h.same k (omega arith);
    }

pub followed_all : (lemmas old copy : List Lemma) → length old ≤ length lemmas → IsFollowed lemmas old (length old) copy → copy ≡ take (length old) lemmas
followed_all lemmas old copy short h =
    let n = length old in
    let taken : length (take n lemmas) ≡ n = length-take-le n lemmas short in
    ext_get_or no_lemma copy (take n lemmas) (h.long ∙ sym taken) (λ k lt. h.new k (omega (arith, h.long)) ∙ sym (get_or-take n lemmas k no_lemma (omega (arith, h.long))))

pub prefix_short : (copy lemmas : List Lemma) → copy ≡ take (length copy) lemmas → length copy ≤ length lemmas
prefix_short copy lemmas is =
    elim (cases_lt (length lemmas) (length copy)) [
      | inl low ↦
          let e : length copy ≡ length lemmas = ap length (is ∙ take_all (length copy) lemmas (omega arith)) in
          omega (arith, e)
      | inr high ↦ high
    ]

-- a copy of the first lemmas is older
pub prefix_older : (copy lemmas : List Lemma) → copy ≡ take (length copy) lemmas → IsOlder copy lemmas
prefix_older copy lemmas is =
    let at : (n : ℕ) → n < length copy → lemma_at copy n ≡ lemma_at lemmas n = λ n lt. ap (λ xs. lemma_at xs n) is ∙ get_or-take (length copy) lemmas n no_lemma lt in
    record {
      shorter = prefix_short copy lemmas is;
      clause = λ n lt. ap (λ (l : Lemma). l.clause) (at n lt);
      live = λ n lt v. ap (λ (l : Lemma). l.live) (at n lt) ∙ v;
    }

-- a solver that had loaded some of the old lemmas has loaded some of the new ones
loaded_followed : (b : ℕ) (heads : List (List (List Lit))) (old new : List (List Lit)) (e : Engine) → length old ≤ length new → old ≡ take (length old) new →
    IsLoaded b heads old e → IsLoaded b heads new e
loaded_followed b heads old new e le is h =
    let P : List (List Lit) → Type 0 = λ cs. HoldsGroups b (groups heads cs) e.used e.solver.given in
    let first : take e.loaded old ≡ take e.loaded new = ap (take e.loaded) is ∙ take-take e.loaded (length old) new h.some in
    record {
      base = h.base;
      count = h.count;
      some = omega (arith, h.some);
      room = h.room;
      fits = h.fits;
      holds = subst P first h.holds;
    }

clauses_prefix : (old new lemmas : List Lemma) → IsOlder old lemmas → new ≡ take (length new) lemmas → length old ≤ length new →
    clauses_of old ≡ take (length (clauses_of old)) (clauses_of new)
clauses_prefix old new lemmas older is le =
    let n = length old in
    let many : length (clauses_of old) ≡ n = clauses_count old in
    let taken : length (take (length (clauses_of old)) (clauses_of new)) ≡ length (clauses_of old) =
    length-take-le (length (clauses_of old)) (clauses_of new) (omega (arith, many, clauses_count new)) in
    ext_get_or [] (clauses_of old) (take (length (clauses_of old)) (clauses_of new)) (sym taken) (λ k lt.
    clause_of old k (omega (arith, many))
    ∙ older.clause k (omega (arith, many))
    ∙ sym (ap (λ (l : Lemma). l.clause) (ap (λ xs. lemma_at xs k) is ∙ get_or-take (length new) lemmas k no_lemma (omega (arith, many))))
    ∙ sym (clause_of new k (omega (arith, many)))
    ∙ sym (get_or-take (length (clauses_of old)) (clauses_of new) k [] lt))

-- what a solver of frames keeps when its copy of the lemmas follows
pub kept_followed : (systems : List TransitionSystem) (old new lemmas : List Lemma) (steps states : Engine) (known : TransitionSystem) (proofs : List (Option KeptProof)) → IsKept systems old steps states known proofs → IsOlder old lemmas →
    All (λ (l : Lemma). Within (system_at systems 0).state_bits l.clause) lemmas → new ≡ take (length new) lemmas → length old ≤ length new → IsKept systems new steps states known proofs
kept_followed systems old new lemmas steps states known proofs h older within is le =
    let e = clauses_prefix old new lemmas older is le in
    let more : length (clauses_of old) ≤ length (clauses_of new) = omega (arith, clauses_count old, clauses_count new) in
    let W : List Lemma → Type 0 = All (λ (l : Lemma). Within (system_at systems 0).state_bits l.clause) in
    record {
      some = h.some;
      alike = h.alike;
      within = subst W (sym is) (All-take (λ (l : Lemma). Within (system_at systems 0).state_bits l.clause) (length new) lemmas within);
      for_steps = loaded_followed (base (system_at systems 0)) (step_heads (system_at systems 0)) (clauses_of old) (clauses_of new) steps more e h.for_steps;
      for_states = loaded_followed (base (system_at systems 0)) (state_heads systems) (clauses_of old) (clauses_of new) states more e h.for_states;
      of_first = h.of_first;
      again = kept_later (system_at systems 0) old new proofs le (λ k lt.
          older.clause k lt
          ∙ sym (ap (λ (l : Lemma). l.clause) (ap (λ xs. lemma_at xs k) is ∙ get_or-take (length new) lemmas k no_lemma (omega (arith, lt, le))))) h.again;
    }

retired_record : (c : List Lit) (v : ℕ) (l : Lemma) → c ≡ l.clause → v ≡ l.level → l.live ≡ false → record { clause = c; level = v; live = false } ≡ l
retired_record c v l is up dead =
    ap (λ (x : List Lit). let r : Lemma = record { clause = x; level = v; live = false } in r) is
    ∙ ap (λ (x : ℕ). let r : Lemma = record { clause = l.clause; level = x; live = false } in r) up
    ∙ ap (λ (x : Bool). let r : Lemma = record { clause = l.clause; level = l.level; live = x } in r) (sym dead)

-- a lemma that was raised and then retired
pub follow_retired : (copy once twice : List Lemma) (n : ℕ) (m l : Lemma) → n < length copy → once ≡ raised_at copy n m.level → twice ≡ retired_at once n → m ≡ l →
    (lemma_at copy n).clause ≡ l.clause → m.live ≡ false → twice ≡ set copy n l
follow_retired copy once twice n m l lt first second same clause dead =
    let x : Lemma = record { clause = (lemma_at copy n).clause; level = m.level; live = (lemma_at copy n).live } in
    let here : lemma_at once n ≡ x = ap (λ xs. lemma_at xs n) first ∙ get_or-set_same copy n x no_lemma lt in
    let is = retired_record (lemma_at once n).clause (lemma_at once n).level l (ap (λ (q : Lemma). q.clause) here ∙ clause)
    (ap (λ (q : Lemma). q.level) here ∙ ap (λ (q : Lemma). q.level) same) (sym (ap (λ (q : Lemma). q.live) same) ∙ dead) in
    second ∙ ap (λ q. set once n q) is ∙ ap (λ xs. set xs n l) first ∙ set-set copy n x l

-- a lemma that was added and then retired
pub added_retired : (copy once twice : List Lemma) (n : ℕ) (c : List Lit) (v : ℕ) (l : Lemma) → n ≡ length copy →
    once ≡ copy ++ record { clause = c; level = v; live = true } ∷ [] → twice ≡ retired_at once n → c ≡ l.clause → v ≡ l.level → l.live ≡ false → twice ≡ copy ++ l ∷ []
added_retired copy once twice n c v l at first second clause level dead =
    let y : Lemma = record { clause = c; level = v; live = true } in
    let here : lemma_at once n ≡ y = ap (λ xs. lemma_at xs n) first ∙ ap (λ k. lemma_at (copy ++ y ∷ []) k) at ∙ get_or-append_seam copy y [] no_lemma in
    let is = retired_record (lemma_at once n).clause (lemma_at once n).level l (ap (λ (q : Lemma). q.clause) here ∙ clause) (ap (λ (q : Lemma). q.level) here ∙ level) dead in
    second ∙ ap (λ q. set once n q) is ∙ ap (λ xs. set xs n l) first ∙ ap (λ k. set (copy ++ y ∷ []) k l) at ∙ set-append_seam copy y [] l
