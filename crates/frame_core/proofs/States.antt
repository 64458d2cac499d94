-- The law of the frames is kept by each change.
use Rattle.std.proofs.Common.{◌≡◌, ℕ, ◌+◌, ◌-◌, ◌<◌, ◌≤◌, Bool, true, false, List, [], ◌∷◌, ◌++◌, length, get_or, set, sym, ap, ◌∙◌, refl, subst, inl, inr, arith, length-append, length-set, get_or-set_same, get_or-set_other}
use Rattle.std.specs.Prelude.{Option, Some, None, is_none}
use Rattle.std.specs.List.{All}
use Rattle.std.proofs.Math.ListN.{get_or-append, replicate}
use Rattle.std.proofs.Math.Seq.{get_or-append_seam}
use Rattle.std.proofs.lemmas.Bool.{cases_Bool, cases_lt, cases_eq}
use Rattle.std.proofs.lemmas.List.{length-replicate, get_or-replicate}
use Rattle.clause_core.specs.declared.literal.Lit.{Lit}
use Rattle.clause_core.specs.Literals.{Within}
use Rattle.clause_core.specs.Assignments.{ClauseTrue, Agrees, assignment_of}
use Rattle.clause_core.specs.Systems.{TransitionSystem, FirstBits, StepBits, BadBits, NextIs}
use Rattle.frame_core.specs.declared.parts.Lemma.{Lemma}
use Rattle.frame_core.specs.declared.parts.Parent.{Parent}
use Rattle.frame_core.specs.declared.parts.Obligation.{Obligation}
use Rattle.frame_core.specs.declared.outcomes.Insertion.{Insertion}
use Rattle.frame_core.specs.declared.outcomes.Insertion.TheVariants as insertion
use Rattle.frame_core.specs.declared.outcomes.Raising.{Raising}
use Rattle.frame_core.specs.declared.outcomes.Raising.TheVariants as raising
use Rattle.frame_core.specs.declared.outcomes.Opening.{Opening}
use Rattle.frame_core.specs.declared.outcomes.Opening.TheVariants as opening
use Rattle.frame_core.specs.declared.outcomes.Noting.{Noting}
use Rattle.frame_core.specs.declared.outcomes.Noting.TheVariants as noting
use Rattle.frame_core.specs.Facts.{ProvedClause, IsProved, ClearLevel, IsClear, FoundState, IsFound, FoundStep, IsStep, IsFirstFlag}
use Rattle.frame_core.specs.Differences.{IsSameSystem}
use Rattle.frame_core.specs.FrameLaw.{FrameState, FramesHold, LemmasHold, IsSafe, AreAlike, system_at, top_at, lemma_at, AllStand, raised_at, no_obligation, obligation_at, IsObligation, LeadsToBad}
use Rattle.frame_core.specs.Changes.{with_lemma, with_level, with_retired, with_top, with_obligation, IsOfSystem, NeedsNoRaise, IsCovered, MayHaveParent, IsCut, fresh, Inserts, InsertsSame, Raises, RaisesSame, Opens, OpensSame, Notes, NotesSame}
use Rattle.frame_core.proofs.Changing.{Shown, shown, added, raised, opened, retired, carried, safe_more, safe_without, Extends-added, Extends-raised}

pub first_same : (w : Bool) (a b : TransitionSystem) → IsSameSystem w a b → (x : ℕ → Bool) → FirstBits a x → FirstBits b x
first_same w a b same x f =
    (f.0, subst (λ (n : ℕ). Agrees n f.0 x) same.state_bits f.1, subst (λ (cs : List (List Lit)). All (ClauseTrue f.0) cs) same.init f.2)

pub step_same : (w : Bool) (a b : TransitionSystem) → IsSameSystem w a b → (x y : ℕ → Bool) → StepBits a x y → StepBits b x y
step_same w a b same x y f = (
  f.0,
  subst (λ (n : ℕ). Agrees n f.0 x) same.state_bits f.1,
  subst (λ (n : ℕ). NextIs n f.0 y) same.state_bits f.2,
  subst (λ (cs : List (List Lit)). All (ClauseTrue f.0) cs) same.step f.3,
)

pub bad_same : (a b : TransitionSystem) → IsSameSystem true a b → (x : ℕ → Bool) → BadBits a x → BadBits b x
bad_same a b same x f =
    (f.0, subst (λ (n : ℕ). Agrees n f.0 x) same.state_bits f.1, subst (λ (cs : List (List Lit)). All (ClauseTrue f.0) cs) (same.bad refl) f.2)

pub shown_same : (w : Bool) (a b : TransitionSystem) (clause : List Lit) (level : ℕ) (parents : List Parent) → IsSameSystem w a b →
    Shown b clause level parents → Shown a clause level parents
shown_same w a b clause level parents same p =
    record {
      above = p.above;
      within = subst (λ (n : ℕ). Within n clause) (sym same.state_bits) p.within;
      first = λ x f. p.first x (first_same w a b same x f);
      step = λ x y low high s. p.step x y (λ one. first_same w a b same x (low one)) high (step_same w a b same x y s);
    }

pub same_back : (w : Bool) (a b : TransitionSystem) → IsSameSystem w a b → IsSameSystem w b a
same_back w a b s = record { state_bits = sym s.state_bits; all_bits = sym s.all_bits; init = sym s.init; step = sym s.step; bad = λ e. sym (s.bad e); good = λ e. sym (s.good e) }

-- what is shown of the first of systems that are alike is shown of each
shown_each : (systems : List TransitionSystem) (j : ℕ) (t : TransitionSystem) (clause : List Lit) (level : ℕ) (parents : List Parent) → AreAlike systems →
    j < length systems → IsSameSystem false (system_at systems 0) t → Shown t clause level parents → Shown (system_at systems j) clause level parents
shown_each systems j t clause level parents alike lt same p =
    shown_same false (system_at systems j) (system_at systems 0) clause level parents (same_back false (system_at systems 0) (system_at systems j) (alike j lt))
    (shown_same false (system_at systems 0) t clause level parents same p)

pub is_live : (f : FrameState) (n level : ℕ) → (NeedsNoRaise f n level → ⊥) → (lemma_at f.lemmas n).live ≡ true
is_live f n level needed = elim (cases_Bool (lemma_at f.lemmas n).live) [
  | inl on ↦ on
  | inr off ↦ absurd (needed (inl off))
]

pub inserted : (f : FrameState) (p : ProvedClause) → FramesHold f → IsOfSystem f 0 false p.system → IsProved p →
    AllStand f.lemmas (p.level - 1) p.parents → FramesHold (with_lemma f p.clause p.level)
inserted f p h same proved stand =
    let l : Lemma = record { clause = p.clause; level = p.level; live = true } in
    record {
      some = h.some;
      alike = h.alike;
      tops = h.tops;
      lemmas = λ j lt. added (system_at f.systems j) f.lemmas p.clause p.level p.parents (h.lemmas j lt)
          (shown_each f.systems j p.system p.clause p.level p.parents h.alike lt same (shown p proved)) stand;
      safe = λ j lt. safe_more (system_at f.systems j) f.lemmas (f.lemmas ++ l ∷ []) (top_at f.tops j) (Extends-added f.lemmas l) (h.safe j lt);
      obligations = h.obligations;
    }

pub lifted : (f : FrameState) (n : ℕ) (p : ProvedClause) → FramesHold f → n < length f.lemmas → p.clause ≡ (lemma_at f.lemmas n).clause →
    IsOfSystem f 0 false p.system → IsProved p → (NeedsNoRaise f n p.level → ⊥) → AllStand f.lemmas (p.level - 1) p.parents →
    FramesHold (with_level f n p.level)
lifted f n p h lt is same proved needed stand =
    let live : (lemma_at f.lemmas n).live ≡ true = is_live f n p.level needed in
    let low : (lemma_at f.lemmas n).level ≤ p.level = elim (cases_lt (lemma_at f.lemmas n).level p.level) [
      | inl less ↦ omega arith
      | inr more ↦ absurd (needed (inr (omega arith)))
    ] in
    record {
      some = h.some;
      alike = h.alike;
      tops = h.tops;
      lemmas = λ j below. raised (system_at f.systems j) f.lemmas n p.level p.parents (h.lemmas j below) lt low live
          (subst (λ (c : List Lit). Shown (system_at f.systems j) c p.level p.parents) is
          (shown_each f.systems j p.system p.clause p.level p.parents h.alike below same (shown p proved))) stand;
      safe = λ j below. safe_more (system_at f.systems j) f.lemmas (raised_at f.lemmas n p.level) (top_at f.tops j)
          (Extends-raised f.lemmas n p.level lt low) (h.safe j below);
      obligations = h.obligations;
    }

pub dropped_one : (f : FrameState) (n : ℕ) → FramesHold f → n < length f.lemmas → IsCovered f n → FramesHold (with_retired f n)
dropped_one f n h lt c =
    record {
      some = h.some;
      alike = h.alike;
      tops = h.tops;
      lemmas = λ j below. retired (system_at f.systems j) f.lemmas n c.0 (h.lemmas j below) lt c.1 c.2 c.3;
      safe = λ j below. safe_without (system_at f.systems j) f.lemmas n (top_at f.tops j) lt (h.safe j below);
      obligations = h.obligations;
    }

pub opened_one : (f : FrameState) (j : ℕ) (c : ClearLevel) → FramesHold f → j < length f.systems → IsOfSystem f j true c.system → IsClear c →
    c.level ≡ top_at f.tops j → AllStand f.lemmas (top_at f.tops j) c.parents → FramesHold (with_top f j)
opened_one f j c h lt same clear at stand =
    let sys = system_at f.systems j in
    let top = top_at f.tops j in
    let here : j < length f.tops = let e = h.tops in omega arith in
    let more : IsSafe sys f.lemmas (top + 1) =
    opened sys f.lemmas top (h.safe j lt) (λ x inside bad.
    clear.safe x
    (λ none. first_same true sys c.system same x (inside.0 (omega arith)))
    (λ some k d below.
    let high : 0 < top = omega arith in
    let s = stand high k d below in
    subst (ClauseTrue x) s.1 (inside.1 high (get_or c.parents k d).number s.0 s.2))
    (bad_same sys c.system same x bad)) in
    record {
      some = h.some;
      alike = h.alike;
      tops = length-set f.tops j (top + 1) ∙ h.tops;
      lemmas = h.lemmas;
      safe = λ k below. elim (cases_eq k j) [
        | inl e ↦
            let at' : top_at (set f.tops j (top + 1)) k ≡ top + 1 = rw e (get_or-set_same f.tops j (top + 1) 0 here) in
            subst (IsSafe (system_at f.systems k) f.lemmas) (sym at') (subst (λ (m : ℕ). IsSafe (system_at f.systems m) f.lemmas (top + 1)) (sym e) more)
        | inr ne ↦ subst (IsSafe (system_at f.systems k) f.lemmas) (sym (get_or-set_other f.tops j k (top + 1) 0 ne)) (h.safe k below)
      ];
      obligations = h.obligations;
    }

pub leads_more : (systems : List TransitionSystem) (os : List Obligation) (o : Obligation) (n j : ℕ) (values : List Bool) (parent : Option ℕ) → n ≤ length os →
    LeadsToBad systems os n j values parent → LeadsToBad systems (os ++ o ∷ []) n j values parent
leads_more systems os o n j values None le h = h
leads_more systems os o n j values (Some p) le h =
    let same : obligation_at (os ++ o ∷ []) p ≡ obligation_at os p = get_or-append os (o ∷ []) no_obligation p (omega (arith, h.0)) in (
      h.0,
      ap (λ (q : Obligation). q.system) same ∙ h.1,
      h.2,
      subst (λ (q : Obligation). NextIs (system_at systems j).state_bits (assignment_of values) (assignment_of q.values)) (sym same) h.3,
    )

pub leads_found : (f : FrameState) (j : ℕ) (g : FoundState) (parent : Option ℕ) → IsOfSystem f j (is_none parent) g.system → IsFound g →
    MayHaveParent f j g parent → LeadsToBad f.systems f.obligations (length f.obligations) j g.values parent
leads_found f j g None same found may = subst (λ (cs : List (List Lit)). All (ClauseTrue (assignment_of g.values)) cs) (sym (same.bad refl)) (found.bad may)
leads_found f j g (Some p) same found may = (
  may.1,
  may.2,
  subst (λ (cs : List (List Lit)). All (ClauseTrue (assignment_of g.values)) cs) (sym same.step) (found.step may.0),
  subst (λ (n : ℕ). NextIs n (assignment_of g.values) (assignment_of (obligation_at f.obligations p).values)) (sym same.state_bits) may.3,
)

pub noted : (f : FrameState) (j : ℕ) (g : FoundState) (parent : Option ℕ) → FramesHold f → j < length f.systems →
    IsOfSystem f j (is_none parent) g.system → IsFound g → MayHaveParent f j g parent → FramesHold (with_obligation f j g parent)
noted f j g parent h lt same found may =
    let o : Obligation = record { system = j; values = g.values; parent = parent; first = g.first } in
    let os = f.obligations ++ o ∷ [] in
    let last : obligation_at os (length f.obligations) ≡ o = get_or-append_seam f.obligations o [] no_obligation in
    let new : IsObligation f.systems os (length f.obligations) o =
    record {
      of = lt;
      whole = found.whole ∙ sym same.all_bits;
      leads = leads_more f.systems f.obligations o (length f.obligations) j g.values parent (omega arith) (leads_found f j g parent same found may);
      flag = record {
        is_first = λ e. first_same (is_none parent) g.system (system_at f.systems j) (same_back (is_none parent) (system_at f.systems j) g.system same)
            (assignment_of g.values) (found.flag.is_first e);
        not_first = λ e x. found.flag.not_first e (first_same (is_none parent) (system_at f.systems j) g.system same (assignment_of g.values) x);
      };
    } in
    record {
      some = h.some;
      alike = h.alike;
      tops = h.tops;
      lemmas = h.lemmas;
      safe = h.safe;
      obligations = λ n below. elim (cases_lt n (length f.obligations)) [
        | inl old ↦
            let same' : obligation_at os n ≡ obligation_at f.obligations n = get_or-append f.obligations (o ∷ []) no_obligation n old in
            let was = h.obligations n old in
            subst (IsObligation f.systems os n) (sym same') (record {
              of = was.of;
              whole = was.whole;
              leads = leads_more f.systems f.obligations o n (obligation_at f.obligations n).system (obligation_at f.obligations n).values
                  (obligation_at f.obligations n).parent (omega arith) was.leads;
              flag = was.flag;
            })
        | inr at ↦
            let e : n ≡ length f.obligations = omega (arith, length-append f.obligations (o ∷ [])) in
            subst (λ (k : ℕ). IsObligation f.systems os k (obligation_at os k)) (sym e)
            (subst (IsObligation f.systems os (length f.obligations)) (sym last) new)
      ];
    }

-- a system is like those that are like the first of systems that are alike
cut_each : (old new : TransitionSystem) (systems : List TransitionSystem) (j : ℕ) → AreAlike systems → j < length systems → new ≡ system_at systems 0 →
    IsCut old new → IsCut old (system_at systems j)
cut_each old new systems j alike lt is cut =
    let same : IsSameSystem false new (system_at systems j) = subst (λ (t : TransitionSystem). IsSameSystem false t (system_at systems j)) (sym is) (alike j lt) in
    let back' = same_back false new (system_at systems j) same in
    record {
      bits = let b = cut.bits in let e = same.state_bits in omega arith;
      first = λ x f. cut.first x (first_same false (system_at systems j) new back' x f);
      step = λ x y s. cut.step x y (step_same false (system_at systems j) new back' x y s);
    }

-- fresh frames with lemmas that hold
pub made : (systems : List TransitionSystem) (ls : List Lemma) → 0 < length systems → AreAlike systems →
    ((j : ℕ) → j < length systems → LemmasHold (system_at systems j) ls) → FramesHold (fresh systems ls)
made systems ls some alike hold =
    record {
      some = some;
      alike = alike;
      tops = length-replicate (length systems) 0;
      lemmas = hold;
      safe = λ j lt i below. absurd (let e : top_at (replicate (length systems) 0) j ≡ 0 = get_or-replicate (length systems) j 0 0 lt in omega arith);
      obligations = λ n lt. absurd (omega (arith, lt));
    }

pub none_hold : (sys : TransitionSystem) → LemmasHold sys []
none_hold sys =
    record {
      above = λ n lt. absurd (omega (arith, lt));
      within = λ n lt. absurd (omega (arith, lt));
      first = λ n lt. absurd (omega (arith, lt));
      step = λ n lt. absurd (omega (arith, lt));
      covered = λ n lt. absurd (omega (arith, lt));
    }

pub carried_over : (f : FrameState) (systems : List TransitionSystem) → FramesHold f → length systems ≡ length f.systems → AreAlike systems →
    IsCut (system_at f.systems 0) (system_at systems 0) → FramesHold (fresh systems f.lemmas)
carried_over f systems h number alike cut =
    made systems f.lemmas (let s = h.some in omega arith) alike (λ j lt.
    carried (system_at f.systems 0) (system_at systems j) f.lemmas (cut_each (system_at f.systems 0) (system_at systems 0) systems j alike lt refl cut)
    (h.lemmas 0 h.some))

pub inserts_any : (f g : FrameState) (p : ProvedClause) (r : Insertion) → IsOfSystem f 0 false p.system → InsertsSame f p r g → Inserts f p r g
inserts_any f g p (insertion.Added n) same h = (same, h)
inserts_any f g p (insertion.Held n) same h = (same, h)
inserts_any f g p (insertion.Behind k level) same h = (same, h)
inserts_any f g p (insertion.OtherSystem place) same h = absurd h

pub raises_any : (f g : FrameState) (n : ℕ) (p : ProvedClause) (r : Raising) → IsOfSystem f 0 false p.system → RaisesSame f n p r g → Raises f n p r g
raises_any f g n p raising.Raised same h = (same, h)
raises_any f g n p raising.Dropped same h = (same, h)
raises_any f g n p (raising.Behind k level) same h = (same, h)
raises_any f g n p (raising.OtherSystem place) same h = absurd h

pub opens_any : (f g : FrameState) (j : ℕ) (c : ClearLevel) (r : Opening) → IsOfSystem f j true c.system → OpensSame f j c r g → Opens f j c r g
opens_any f g j c opening.Opened same h = (same, h)
opens_any f g j c opening.Dropped same h = (same, h)
opens_any f g j c (opening.Behind k level) same h = (same, h)
opens_any f g j c (opening.OtherSystem place) same h = absurd h

pub notes_any : (f g : FrameState) (j : ℕ) (s : FoundState) (parent : Option ℕ) (r : Noting) → IsOfSystem f j (is_none parent) s.system →
    NotesSame f j s parent r g → Notes f j s parent r g
notes_any f g j s parent (noting.Noted n) same h = (same, h)
notes_any f g j s parent (noting.OtherSystem place) same h = absurd h

pub found_of_step : (s : FoundStep) (sys : TransitionSystem) (values : List Bool) (first : Bool) → sys ≡ s.system → values ≡ s.values → IsStep s →
    IsFirstFlag s.system s.values first → IsFound record { system = sys; values = values; is_step = true; first = first }
found_of_step s sys values first e d step flag =
    let P : TransitionSystem → Type 0 = λ t. IsFound record { system = t; values = values; is_step = true; first = first } in
    let Q : List Bool → Type 0 = λ vs. IsFound record { system = s.system; values = vs; is_step = true; first = first } in
    subst P (sym e) (subst Q (sym d) (record {
      whole = step.whole;
      step = λ _. step.step;
      bad = λ no. absurd (let no_way : true ≡ false = no in cc);
      flag = flag;
    }))

-- one system is like itself
pub alike_one : (systems : List TransitionSystem) (sys : TransitionSystem) → systems ≡ sys ∷ [] → AreAlike systems
alike_one systems sys is j lt =
    let e : j ≡ 0 = omega (arith, lt, ap length is) in
    let P : ℕ → Type 0 = λ k. IsSameSystem false (system_at systems 0) (system_at systems k) in
    subst P (sym e) (record { state_bits = refl; all_bits = refl; init = refl; step = refl; bad = λ _. refl; good = λ _. refl })

-- a system is cut from itself
pub cut_same : (a b : TransitionSystem) → a ≡ b → IsCut a b
cut_same a b e =
    subst (IsCut a) e (record { bits = omega arith; first = λ x f. f; step = λ x y s. s })
