-- A generalisation under way.
use Rattle.std.proofs.Common.{◌≡◌, ◌⊎◌, inl, inr, ℕ, ◌+◌, ◌-◌, ◌<◌, ◌≤◌, Bool, not, List, [], ◌∷◌, ◌++◌, length, Option, Some, None, get_or, refl, sym, ◌∙◌, ap, subst, arith, length-append}
use Rattle.std.specs.Prelude.{All, Contains, IfSome, IsTrue, MatchBool, ◌↔◌, true, false}
use Rattle.std.proofs.lemmas.Bool.{both_ways}
use Rattle.std.proofs.lemmas.List.Elements.{All-append, All-contains, All-weaker, All-nil, All-push, All-contains_itself, Contains-get_or, Contains-append_left, Contains-append_right, Contains-append_cases, Contains-push, Contains-push_cases}
use Rattle.clause_core.specs.declared.literal.Lit.{Lit}
use Rattle.clause_core.specs.Literals.{Within}
use Rattle.clause_core.specs.Assignments.{assignment_of}
use Rattle.clause_core.specs.Systems.{TransitionSystem}
use Rattle.frame_core.specs.declared.parts.Lemma.{Lemma}
use Rattle.frame_core.specs.declared.parts.Parent.{Parent}
use Rattle.frame_core.specs.Facts.{IsPart, IsProved, ProvedClause}
use Rattle.frame_core.specs.FrameLaw.{AllStand}
use Rattle.frame_query.specs.declared.trying.Trial.{Trial}
use Rattle.frame_query.specs.declared.trying.Trial.TheVariants as trial
use Rattle.frame_query.specs.declared.trying.Draft.{Draft}
use Rattle.frame_query.specs.declared.trying.Walk.{Walk}
use Rattle.frame_query.specs.declared.trying.Turn.{Turn}
use Rattle.frame_solver.specs.Firsts.{AllFirstsMeet}
use Rattle.frame_solver.specs.Stepping.{Ends}
use Rattle.frame_solver.specs.Paying.{Question, Firsts, Steps, AskedQuery, AllDiffer}
use Rattle.frame_query.specs.Dropping.{IsBroken, IsWitness, AllNeeded, AsksOf, AsksOfSome, IsProperPart, PaysParts}
use Rattle.frame_query.specs.Trying.{Tries, PaysFor, PaysNew, IsSame, IsOthers, IsNeeded, IsUnderWay, IsGoing, IsPast, IsPaidSoFar, IsCandidate, Fits, DropsTo, Moves, MovesBy, HintMovesBy, TurnSays, Drops, Keeps, Falls}
use Rattle.frame_solver.proofs.Paid.{differ_append, pays_then, pays_none}
use Rattle.frame_query.proofs.Tried.{lit_cases, part_trans, in_part, part_true, proved_part}

left_part : (a b c d : List Lit) → IsPart a c → IsPart b d → IsPart (a ++ b) (c ++ d)
left_part a b c d first second =
    All-append (Contains (c ++ d)) a b (All-weaker (Contains c) (Contains (c ++ d)) (λ m. Contains-append_left c d m) a first)
    (All-weaker (Contains d) (Contains (c ++ d)) (λ m. Contains-append_right c d m) b second)

self : (a : List Lit) → IsPart a a
self a = All-contains_itself a

pub within_part : (vars : ℕ) (part whole : List Lit) → IsPart part whole → Within vars whole → Within vars part
within_part vars part whole is_part within =
    All-weaker (Contains whole) (λ (l : Lit). l.var < vars) (λ l here. All-contains (λ (m : Lit). m.var < vars) whole l within here) part is_part

-- some of the literals, without l
pub record IsLess (xs : List Lit) (l : Lit) (ys : List Lit) : Type 0 where
  pub only : IsPart ys xs
  pub lacks : Contains ys l → ⊥
  pub fewer : length ys ≤ length xs

pub others_less : (xs : List Lit) (l : Lit) (ys : List Lit) → IsOthers xs l ys → IsLess xs l ys
others_less xs l ys o = record { only = o.only; lacks = o.lacks; fewer = o.fewer }

-- that a literal is left is said twice
pub way_twice : (sys : TransitionSystem) (lemmas : List Lemma) (given : ProvedClause) (draft : Draft) (kept rest : List Lit) (l : Lit) → Contains rest l →
    IsUnderWay sys lemmas given draft kept rest → IsUnderWay sys lemmas given draft kept (rest ++ l ∷ [])
way_twice sys lemmas given draft kept rest l at h =
    let best = draft.clause.items in
    record {
      proved = h.proved;
      stands = h.stands;
      part = h.part;
      to = part_trans best (kept ++ rest) (kept ++ (rest ++ l ∷ [])) h.to
          (left_part kept rest kept (rest ++ l ∷ []) (self kept) (All-weaker (Contains rest) (Contains (rest ++ l ∷ [])) (λ m. Contains-append_left rest (l ∷ []) m) rest (self rest)));
      from = part_trans (kept ++ (rest ++ l ∷ [])) (kept ++ rest) best
          (left_part kept (rest ++ l ∷ []) kept rest (self kept) (All-push (Contains rest) rest l (self rest) at)) h.from;
      needed = h.needed;
      apart = λ q in_kept in_more. elim (Contains-push_cases rest l q in_more) [
        | inl before ↦ h.apart q in_kept before
        | inr same ↦ (let P : Lit → Type 0 = Contains rest in h.apart q in_kept (subst P same at))
      ];
    }

module _ (sys : TransitionSystem) (lemmas : List Lemma) (given : ProvedClause) (draft : Draft) (kept rest : List Lit) (l : Lit)
    (h : IsUnderWay sys lemmas given draft kept (rest ++ l ∷ [])) where
  abbrev best : List Lit
  best = draft.clause.items

  l_in_best : Contains best l
  l_in_best = in_part (kept ++ (rest ++ l ∷ [])) best l h.from (Contains-append_right kept (rest ++ l ∷ []) l (Contains-push rest l))

  kept_lacks : Contains kept l → ⊥
  kept_lacks here = h.apart l here (Contains-push rest l)

  pub kept_candidate : IsCandidate kept (rest ++ l ∷ []) l kept
  kept_candidate = record {
    at = Contains-push rest l;
    lacks = kept_lacks;
    kept_in = self kept;
    inside = All-weaker (Contains kept) (Contains (kept ++ (rest ++ l ∷ []))) (λ m. Contains-append_left kept (rest ++ l ∷ []) m) kept (self kept);
  }

  front : IsPart (kept ++ rest) best
  front = part_trans (kept ++ rest) (kept ++ (rest ++ l ∷ [])) best
      (left_part kept rest kept (rest ++ l ∷ []) (self kept) (All-weaker (Contains rest) (Contains (rest ++ l ∷ [])) (λ m. Contains-append_left rest (l ∷ []) m) rest (self rest)))
      h.from

  module _ (left : List Lit) (o : IsLess rest l left) where
    abbrev candidate : List Lit
    candidate = kept ++ left

    candidate_lacks : Contains candidate l → ⊥
    candidate_lacks here = elim (Contains-append_cases kept left l here) [ inl in_kept ↦ kept_lacks in_kept | inr in_left ↦ o.lacks in_left ]

    inside : IsPart candidate (kept ++ rest)
    inside = left_part kept left kept rest (self kept) o.only

    pub is_candidate : IsCandidate kept (rest ++ l ∷ []) l (kept ++ left)
    is_candidate = record {
      at = Contains-push rest l;
      lacks = candidate_lacks;
      kept_in = All-weaker (Contains kept) (Contains candidate) (λ m. Contains-append_left kept left m) kept (self kept);
      inside = left_part kept left kept (rest ++ l ∷ []) (self kept)
          (All-weaker (Contains rest) (Contains (rest ++ l ∷ [])) (λ m. Contains-append_left rest (l ∷ []) m) left o.only);
    }

    pub candidate_best : IsPart (kept ++ left) draft.clause.items
    candidate_best = part_trans candidate (kept ++ rest) best inside front

    candidate_given : IsPart candidate given.clause
    candidate_given = part_trans candidate best given.clause candidate_best h.part

    candidate_holds : ((m : Lit) → Contains rest m → (m ≡ l → ⊥) → Contains left m) → (m : Lit) → Contains best m → (m ≡ l → ⊥) → Contains candidate m
    candidate_holds enough m here other =
        elim (Contains-append_cases kept (rest ++ l ∷ []) m (in_part best (kept ++ (rest ++ l ∷ [])) m h.to here)) [
          | inl in_kept ↦ Contains-append_left kept left m in_kept
          | inr in_r ↦
              elim (Contains-push_cases rest l m in_r) [
                | inl in_before ↦ Contains-append_right kept left m (enough m in_before other)
                | inr same ↦ absurd (other (sym same))
              ]
        ]

    -- the literal is needed
    pub way_keep : ((m : Lit) → Contains rest m → (m ≡ l → ⊥) → Contains left m) → IsBroken sys lemmas given.level (kept ++ left) → IsUnderWay sys lemmas given draft (kept ++ l ∷ []) left
    way_keep enough broken = record {
      proved = h.proved;
      stands = h.stands;
      part = h.part;
      to = λ k d lt.
          (let m : Lit = get_or best k d in
          let here : Contains best m = Contains-get_or best k d lt in
          elim (lit_cases m l) [
            | inl same ↦
                let P : Lit → Type 0 = Contains ((kept ++ l ∷ []) ++ left) in
                subst P (sym same) (Contains-append_left (kept ++ l ∷ []) left l (Contains-push kept l))
            | inr other ↦
                in_part candidate ((kept ++ l ∷ []) ++ left) m
                (left_part kept left (kept ++ l ∷ []) left (All-weaker (Contains kept) (Contains (kept ++ l ∷ [])) (λ q. Contains-append_left kept (l ∷ []) q) kept (self kept)) (self left))
                (candidate_holds enough m here other)
          ]);
      from = All-append (Contains best) (kept ++ l ∷ []) left
          (All-push (Contains best) kept l (λ i e below. in_part (kept ++ rest) best (get_or kept i e) front (Contains-append_left kept rest (get_or kept i e) (Contains-get_or kept i e below))) l_in_best)
          (λ i e below. in_part candidate best (get_or left i e) candidate_best (Contains-append_right kept left (get_or left i e) (Contains-get_or left i e below)));
      needed = All-push (λ q. (d : List Lit) × IsWitness sys lemmas given.level given.clause best q d) kept l h.needed
          (candidate, record { part = candidate_given; lacks = candidate_lacks; holds = candidate_holds enough; broken = broken });
      apart = λ q in_kept in_left.
          elim (Contains-push_cases kept l q in_kept) [
            | inl earlier ↦ h.apart q earlier (Contains-append_left rest (l ∷ []) q (in_part left rest q o.only in_left))
            | inr same ↦ (let P : Lit → Type 0 = Contains left in o.lacks (subst P (sym same) in_left))
          ];
    }

    module _ (part met needed : List Lit) (parents : List Parent) (n : IsNeeded left part met needed) (part_in : IsPart part (kept ++ left)) (met_in : IsPart met (kept ++ left)) where
      abbrev smaller : List Lit
      smaller = kept ++ needed

      pub smaller_in : IsPart (kept ++ needed) (kept ++ left)
      smaller_in = left_part kept needed kept left (self kept) n.only

      pub smaller_best : IsPart (kept ++ needed) draft.clause.items
      smaller_best = part_trans smaller candidate best smaller_in candidate_best

      part_smaller : IsPart part smaller
      part_smaller = All-weaker (λ m. Contains candidate m × Contains part m) (Contains smaller) (λ m both.
          elim (Contains-append_cases kept left m both.0) [
            | inl in_kept ↦ Contains-append_left kept needed m in_kept
            | inr in_left ↦ Contains-append_right kept needed m (n.enough m in_left (inl both.1))
          ]) part (λ k d lt. (part_in k d lt, Contains-get_or part k d lt))

      met_smaller : IsPart met smaller
      met_smaller = All-weaker (λ m. Contains candidate m × Contains met m) (Contains smaller) (λ m both.
          elim (Contains-append_cases kept left m both.0) [
            | inl in_kept ↦ Contains-append_left kept needed m in_kept
            | inr in_left ↦ Contains-append_right kept needed m (n.enough m in_left (inr both.1))
          ]) met (λ k d lt. (met_in k d lt, Contains-get_or met k d lt))

      proved_smaller : Ends sys given.level (kept ++ left) parents part → AllFirstsMeet sys met →
          IsProved record { system = sys; clause = kept ++ needed; part = part; level = given.level; parents = parents }
      proved_smaller ends meets =
          proved_part sys given.level candidate smaller part met parents h.proved.above (within_part sys.state_bits smaller best smaller_best h.proved.within) smaller_in
          part_smaller met_smaller meets ends

      -- the literal is dropped, and others that neither part has
      pub way_drop : (next : Draft) → next.clause.items ≡ kept ++ needed → next.part.items ≡ part → next.parents.items ≡ parents →
          Ends sys given.level (kept ++ left) parents part → AllFirstsMeet sys met →
          (AllStand lemmas (given.level - 1) draft.parents.items → AllStand lemmas (given.level - 1) parents) → IsUnderWay sys lemmas given next kept needed
      way_drop next clause_is part_is parents_is ends meets stand =
          let C : List Lit → Type 0 = λ xs. IsProved record { system = sys; clause = xs; part = part; level = given.level; parents = parents } in
          let P : List Lit → Type 0 = λ xs. IsProved record { system = sys; clause = next.clause.items; part = xs; level = given.level; parents = parents } in
          let Q : List Parent → Type 0 = λ xs. IsProved record { system = sys; clause = next.clause.items; part = next.part.items; level = given.level; parents = xs } in
          let S : List Parent → Type 0 = AllStand lemmas (given.level - 1) in
          let G : List Lit → Type 0 = λ xs. IsPart xs given.clause in
          let T : List Lit → Type 0 = λ xs. IsPart xs smaller in
          let F : List Lit → Type 0 = λ xs. IsPart smaller xs in
          let N : List Lit → Type 0 = λ xs. AllNeeded sys lemmas given.level given.clause xs kept in
          record {
            proved = subst Q (sym parents_is) (subst P (sym part_is) (subst C (sym clause_is) (proved_smaller ends meets)));
            stands = λ s. subst S (sym parents_is) (stand (h.stands s));
            part = subst G (sym clause_is) (part_trans smaller best given.clause smaller_best h.part);
            to = subst T (sym clause_is) (self smaller);
            from = subst F (sym clause_is) (self smaller);
            needed = subst N (sym clause_is)
                (All-weaker (λ q. (d : List Lit) × IsWitness sys lemmas given.level given.clause best q d) (λ q. (d : List Lit) × IsWitness sys lemmas given.level given.clause smaller q d)
                (λ q w. (w.0, record { part = w.1.part; lacks = w.1.lacks; holds = λ m here other. w.1.holds m (in_part smaller best m smaller_best here) other; broken = w.1.broken }))
                kept h.needed);
            apart = λ q in_kept in_needed. h.apart q in_kept (Contains-append_left rest (l ∷ []) q (in_part left rest q o.only (in_part needed left q n.only in_needed)));
          }

-- what a walk says once a trial holds
says_dropped : (sys : TransitionSystem) (lemmas : List Lemma) (given : ProvedClause) (old new : Walk) (rest : List Lit) (l : Lit) → IsGoing sys lemmas given old (rest ++ l ∷ []) →
    (left : List Lit) → IsLess rest l left → (part met : List Lit) (parents : List Parent) →
    Ends sys given.level (old.kept.items ++ left) parents part → IsPart part (old.kept.items ++ left) → AllFirstsMeet sys met → IsPart met (old.kept.items ++ left) →
    (AllStand lemmas (given.level - 1) old.draft.parents.items → AllStand lemmas (given.level - 1) parents) → DropsTo old.kept.items old.failed left part met parents new →
    (0 < length new.hint.items → 0 < length old.hint.items) → length left ≤ new.asks →
    IsGoing sys lemmas given new new.rest.items × Moves old new l (old.kept.items ++ left)
says_dropped sys lemmas given old new rest l going left o part met parents ends part_in meets met_in stand moves hint room =
    let h = going.way in
    let kept = old.kept.items in
    let needed = new.rest.items in
    let K : List Lit → Type 0 = λ xs. IsUnderWay sys lemmas given new.draft xs needed in
    let D : List Lit → Type 0 = λ xs. IsPart xs (kept ++ left) in
    let B : List Lit → Type 0 = λ xs. IsPart xs old.draft.clause.items in
    let F : Option (List Lit) → Type 0 = λ f. IfSome f (IsBroken sys lemmas given.level) in
    let n = moves.rest in
    let way = way_drop sys lemmas given old.draft kept rest l h left o part met needed parents n part_in met_in new.draft moves.clause_is moves.part_is moves.parents_are ends meets stand in (
      record {
        way = subst K (sym moves.kept_is) way;
        fell = subst F (sym moves.failed_is) going.fell;
        once = λ some. moves.failed_is ∙ going.once (hint some);
        room = omega (arith, n.fewer, room);
      },
      Drops (subst D (sym moves.clause_is) (smaller_in sys lemmas given old.draft kept rest l h left o part met needed parents n part_in met_in))
          (subst B (sym moves.clause_is) (smaller_best sys lemmas given old.draft kept rest l h left o part met needed parents n part_in met_in)) moves.kept_is moves.failed_is,
    )

-- what a turn says, by what was found
pub turn_says : (sys : TransitionSystem) (lemmas : List Lemma) (given : ProvedClause) (old new : Walk) (l : Lit) →
    IsGoing sys lemmas given old (old.rest.items ++ l ∷ []) → (left : List Lit) → IsOthers old.rest.items l left → (budget : ℕ) (over : Bool) (found : Trial) (t : Turn) →
    Tries sys lemmas given.level old.draft.parents.items (old.kept.items ++ left) budget over found → MovesBy old l left found new t →
    TurnSays sys lemmas given old new l (old.kept.items ++ left) (length old.rest.items + 1 + length old.hint.items) budget over t
turn_says sys lemmas given old new l going left o budget over (trial.Holds parents part met) t tries moves =
    let kept = old.kept.items in
    let T : Turn → Type 0 = TurnSays sys lemmas given old new l (kept ++ left) (length old.rest.items + 1 + length old.hint.items) budget over in
    let hint = ap length moves.3 in
    let room : length old.rest.items + 1 ≤ old.asks = omega (arith, going.room, length-append old.rest.items (l ∷ [])) in
    let said = says_dropped sys lemmas given old new old.rest.items l going left (others_less old.rest.items l left o) part.items met parents.items tries.0 tries.1 tries.2 tries.3 tries.4 moves.1
    (λ some. omega (arith, hint, some)) (omega (arith, o.fewer, moves.2, room)) in
    subst T (sym moves.0) (said.0, said.1, omega (arith, moves.2, room), omega (arith, moves.1.rest.fewer, o.fewer, hint))
turn_says sys lemmas given old new l going left o budget over trial.Fails t tries moves =
    let kept = old.kept.items in
    let T : Turn → Type 0 = TurnSays sys lemmas given old new l (kept ++ left) (length old.rest.items + 1 + length old.hint.items) budget over in
    let K : List Lit → Type 0 = λ xs. IsUnderWay sys lemmas given new.draft xs new.rest.items in
    let R : List Lit → Type 0 = λ xs. IsUnderWay sys lemmas given new.draft (kept ++ l ∷ []) xs in
    let D : Draft → Type 0 = λ x. IsUnderWay sys lemmas given x (kept ++ l ∷ []) left in
    let F : Option (List Lit) → Type 0 = λ f. IfSome f (IsBroken sys lemmas given.level) in
    let hint = ap length moves.6 in
    let rest = ap length moves.2 in
    let room : length old.rest.items + 1 ≤ old.asks = omega (arith, going.room, length-append old.rest.items (l ∷ [])) in
    let way = way_keep sys lemmas given old.draft kept old.rest.items l going.way left (others_less old.rest.items l left o) o.enough tries in
    let next : IsGoing sys lemmas given new new.rest.items = record {
      way = subst K (sym moves.1) (subst R (sym moves.2) (subst D (sym moves.3) way));
      fell = subst F (sym moves.4) going.fell;
      once = λ some. moves.4 ∙ going.once (omega (arith, hint, some));
      room = omega (arith, rest, o.fewer, moves.5, room);
    } in
    subst T (sym moves.0) (next, Keeps moves.3 moves.1 moves.4, omega (arith, moves.5, room), omega (arith, rest, o.fewer, hint))
turn_says sys lemmas given old new l going left o budget over (trial.Spent drawn b) t tries moves =
    let T : Turn → Type 0 = TurnSays sys lemmas given old new l (old.kept.items ++ left) (length old.rest.items + 1 + length old.hint.items) budget over in
    subst T (sym moves) tries

-- what is left of the literals for a hint
pub hint_less : (old : Walk) (l : Lit) → Fits old l → (left : List Lit) → IsPart left old.rest.items → IsPart left old.hint.items → length left ≤ length old.rest.items → IsLess old.rest.items l left
hint_less old l fits left only inside fewer = record { only = only; lacks = λ here. fits.lacks (in_part left old.hint.items l inside here); fewer = fewer }

module _ (sys : TransitionSystem) (lemmas : List Lemma) (given : ProvedClause) (old : Walk) (l : Lit) (going : IsGoing sys lemmas given old old.rest.items) (fits : Fits old l) where
  abbrev kept_now : List Lit
  kept_now = old.kept.items

  not_kept : Contains kept_now l → ⊥
  not_kept here = going.way.apart l here fits.at

  pub hint_kept : IsCandidate old.kept.items old.rest.items l old.kept.items
  hint_kept = record {
    at = fits.at;
    lacks = not_kept;
    kept_in = self kept_now;
    inside = All-weaker (Contains kept_now) (Contains (kept_now ++ old.rest.items)) (λ m. Contains-append_left kept_now old.rest.items m) kept_now (self kept_now);
  }

  module _ (left : List Lit) (o : IsLess old.rest.items l left) where
    hint_inside : IsPart (kept_now ++ left) (kept_now ++ old.rest.items)
    hint_inside = left_part kept_now left kept_now old.rest.items (self kept_now) o.only

    pub hint_candidate : IsCandidate old.kept.items old.rest.items l (old.kept.items ++ left)
    hint_candidate = record {
      at = fits.at;
      lacks = λ here. elim (Contains-append_cases kept_now left l here) [ inl in_kept ↦ not_kept in_kept | inr in_left ↦ o.lacks in_left ];
      kept_in = All-weaker (Contains kept_now) (Contains (kept_now ++ left)) (λ m. Contains-append_left kept_now left m) kept_now (self kept_now);
      inside = hint_inside;
    }

    pub hint_best : IsPart (old.kept.items ++ left) old.draft.clause.items
    hint_best = part_trans (kept_now ++ left) (kept_now ++ old.rest.items) old.draft.clause.items hint_inside going.way.from

-- what the turn of a hint says, by what was found
pub hint_says : (sys : TransitionSystem) (lemmas : List Lemma) (given : ProvedClause) (old new : Walk) (l : Lit) → IsGoing sys lemmas given old old.rest.items → Fits old l →
    (left : List Lit) → IsLess old.rest.items l left → (budget : ℕ) (over : Bool) (found : Trial) (t : Turn) →
    Tries sys lemmas given.level old.draft.parents.items (old.kept.items ++ left) budget over found → HintMovesBy old left (old.kept.items ++ left) found new t →
    TurnSays sys lemmas given old new l (old.kept.items ++ left) (length old.rest.items + length old.hint.items) budget over t
hint_says sys lemmas given old new l going fits left o budget over (trial.Holds parents part met) t tries moves =
    let kept = old.kept.items in
    let rest = old.rest.items in
    let T : Turn → Type 0 = TurnSays sys lemmas given old new l (kept ++ left) (length rest + length old.hint.items) budget over in
    let none = ap length moves.3 in
    let twice : IsGoing sys lemmas given old (rest ++ l ∷ []) = record {
      way = way_twice sys lemmas given old.draft kept rest l fits.at going.way;
      fell = going.fell;
      once = going.once;
      room = omega (arith, fits.room, length-append rest (l ∷ []));
    } in
    let said = says_dropped sys lemmas given old new rest l twice left o part.items met parents.items tries.0 tries.1 tries.2 tries.3 tries.4 moves.1
    (λ some. absurd (omega (arith, none, some))) (omega (arith, o.fewer, moves.2, fits.room)) in
    subst T (sym moves.0) (said.0, said.1, omega (arith, moves.2, fits.room), omega (arith, moves.1.rest.fewer, o.fewer, none, fits.some))
hint_says sys lemmas given old new l going fits left o budget over trial.Fails t tries moves =
    let kept = old.kept.items in
    let rest = old.rest.items in
    let T : Turn → Type 0 = TurnSays sys lemmas given old new l (kept ++ left) (length rest + length old.hint.items) budget over in
    let K : List Lit → Type 0 = λ xs. IsUnderWay sys lemmas given new.draft xs new.rest.items in
    let R : List Lit → Type 0 = λ xs. IsUnderWay sys lemmas given new.draft kept xs in
    let D : Draft → Type 0 = λ x. IsUnderWay sys lemmas given x kept rest in
    let F : Option (List Lit) → Type 0 = λ f. IfSome f (IsBroken sys lemmas given.level) in
    let none = ap length moves.6 in
    let same = ap length moves.2 in
    let next : IsGoing sys lemmas given new new.rest.items = record {
      way = subst K (sym moves.1) (subst R (sym moves.2) (subst D (sym moves.3) going.way));
      fell = subst F (sym moves.4) tries;
      once = λ some. absurd (omega (arith, none, some));
      room = omega (arith, same, moves.5, fits.room);
    } in
    subst T (sym moves.0) (next, Falls moves.3 moves.1 (going.once fits.some) moves.4, omega (arith, moves.5, fits.room), omega (arith, same, none, fits.some))
hint_says sys lemmas given old new l going fits left o budget over (trial.Spent drawn b) t tries moves =
    let T : Turn → Type 0 = TurnSays sys lemmas given old new l (old.kept.items ++ left) (length old.rest.items + length old.hint.items) budget over in
    subst T (sym moves) tries

-- two questions that are equal ask of one clause
same_question : (level : ℕ) (c d : List Lit) (a b : Question) → (a ≡ Firsts c) ⊎ (a ≡ Steps level c) → (b ≡ Firsts d) ⊎ (b ≡ Steps level d) → a ≡ b → c ≡ d
same_question level c d a b (inl p) (inl q) e = (let r : Firsts c ≡ Firsts d = sym p ∙ e ∙ q in cc)
same_question level c d a b (inl p) (inr q) e = (let r : Firsts c ≡ Steps level d = sym p ∙ e ∙ q in cc)
same_question level c d a b (inr p) (inl q) e = (let r : Steps level c ≡ Firsts d = sym p ∙ e ∙ q in cc)
same_question level c d a b (inr p) (inr q) e = (let r : Steps level c ≡ Steps level d = sym p ∙ e ∙ q in cc)

some_more : (level : ℕ) (parts : List (List Lit)) (d : List Lit) (log : List AskedQuery) → All (AsksOfSome level parts) log → All (AsksOfSome level (parts ++ d ∷ [])) log
some_more level parts d log all =
    All-weaker (AsksOfSome level parts) (AsksOfSome level (parts ++ d ∷ [])) (λ a s. (s.0, Contains-append_left parts (d ∷ []) s.0 s.1, s.2)) log all

some_new : (level : ℕ) (parts : List (List Lit)) (d : List Lit) (log : List AskedQuery) → All (AsksOf level d) log → All (AsksOfSome level (parts ++ d ∷ [])) log
some_new level parts d log all =
    All-weaker (AsksOf level d) (AsksOfSome level (parts ++ d ∷ [])) (λ a s. (d, Contains-push parts d, s)) log all

-- the queries of one turn more
module _ (sys : TransitionSystem) (systems : List TransitionSystem) (lemmas : List Lemma) (given : ProvedClause) (draft : Draft) (kept rest : List Lit) (failed : Option (List Lit)) (l : Lit)
    (h : IsUnderWay sys lemmas given draft kept rest) (d : List Lit) (cand : IsCandidate kept rest l d) (a b c : List (List Lit)) (x y z : List ℕ) (count : ℕ)
    (some : 1 ≤ count) (paid : IsPaidSoFar systems lemmas a b x y given.level given.clause draft.clause.items kept failed count)
    (more : PaysNew systems lemmas b c y z given.level failed d) where
  in_best : Contains draft.clause.items l
  in_best = in_part (kept ++ rest) draft.clause.items l h.from (Contains-append_right kept rest l cand.at)

  not_past : (e : List Lit) → e ≡ d → 0 < length more.0 → IsPast draft.clause.items kept failed e → ⊥
  not_past e same asked (inl part) =
      let P : List Lit → Type 0 = λ q. Contains q l in
      cand.lacks (subst P same (in_part draft.clause.items e l part in_best))
  not_past e same asked (inr (inl (m, here, lacks))) =
      let P : List Lit → Type 0 = λ q. Contains q m in
      lacks (subst P (sym same) (in_part kept d m cand.kept_in here))
  not_past e same asked (inr (inr again)) =
      let P : List Lit → Type 0 = IsSame failed in
      omega (arith, asked, more.4 (subst P same again))

  both_differ : AllDiffer (paid.log ++ more.0)
  both_differ = differ_append paid.log more.0 paid.differ more.3
      (λ p q here there e.
      let was = All-contains (AsksOfSome given.level paid.parts) paid.log p paid.asked here in
      let now = All-contains (AsksOf given.level d) more.0 q more.2 there in
      let past = All-contains (IsPast draft.clause.items kept failed) paid.parts was.0 paid.past was.1 in
      not_past was.0 (same_question given.level was.0 d p.question q.question was.2 now e) (omega (arith, there.1)) past)

  is_proper : IsProperPart given.clause d
  is_proper = (
    part_trans d (kept ++ rest) given.clause cand.inside (part_trans (kept ++ rest) draft.clause.items given.clause h.from h.part),
    (l, in_part draft.clause.items given.clause l h.part in_best, cand.lacks),
  )

  pub paid_last : PaysParts systems lemmas a c x z given.level given.clause
  paid_last = (
    paid.log ++ more.0,
    paid.parts ++ d ∷ [],
    pays_then systems lemmas a b c x y z paid.log more.0 paid.pays more.1,
    both_differ,
    omega (arith, length-append paid.parts (d ∷ []), paid.few, some),
    All-push (IsProperPart given.clause) paid.parts d paid.proper is_proper,
    All-append (AsksOfSome given.level (paid.parts ++ d ∷ [])) paid.log more.0 (some_more given.level paid.parts d paid.log paid.asked) (some_new given.level paid.parts d more.0 more.2),
  )

  paid_with : (best now : List Lit) (fell : Option (List Lit)) (n : ℕ) → n + 1 ≡ count → All (IsPast best now fell) paid.parts → IsPast best now fell d →
      IsPaidSoFar systems lemmas a c x z given.level given.clause best now fell n
  paid_with best now fell n fewer all past = record {
    log = paid.log ++ more.0;
    parts = paid.parts ++ d ∷ [];
    pays = pays_then systems lemmas a b c x y z paid.log more.0 paid.pays more.1;
    differ = both_differ;
    proper = All-push (IsProperPart given.clause) paid.parts d paid.proper is_proper;
    past = All-push (IsPast best now fell) paid.parts d all past;
    asked = All-append (AsksOfSome given.level (paid.parts ++ d ∷ [])) paid.log more.0 (some_more given.level paid.parts d paid.log paid.asked) (some_new given.level paid.parts d more.0 more.2);
    few = omega (arith, length-append paid.parts (d ∷ []), paid.few, fewer);
  }

  past_drop : (best : List Lit) → IsPart best draft.clause.items → All (IsPast best kept failed) paid.parts
  past_drop best smaller = All-weaker (IsPast draft.clause.items kept failed) (IsPast best kept failed)
      (λ e p. elim p [ inl part ↦ inl (part_trans best draft.clause.items e smaller part) | inr other ↦ inr other ]) paid.parts paid.past

  past_keep : All (IsPast draft.clause.items (kept ++ l ∷ []) failed) paid.parts
  past_keep = All-weaker (IsPast draft.clause.items kept failed) (IsPast draft.clause.items (kept ++ l ∷ []) failed)
      (λ e p. elim p [
        | inl part ↦ inl part
        | inr other ↦ elim other [
          | inl lacking ↦ inr (inl (lacking.0, Contains-append_left kept (l ∷ []) lacking.0 lacking.1, lacking.2))
          | inr again ↦ inr (inr again)
        ]
      ]) paid.parts paid.past

  past_fall : failed ≡ None → All (IsPast draft.clause.items kept (Some d)) paid.parts
  past_fall none = All-weaker (IsPast draft.clause.items kept failed) (IsPast draft.clause.items kept (Some d))
      (λ e p. elim p [
        | inl part ↦ inl part
        | inr other ↦ elim other [
          | inl lacking ↦ inr (inl lacking)
          | inr again ↦ (let P : Option (List Lit) → Type 0 = λ f. IsSame f e in absurd (subst P none again))
        ]
      ]) paid.parts paid.past

  pub paid_more : (old new : Walk) → old.draft ≡ draft → old.kept.items ≡ kept → old.failed ≡ failed → Moves old new l d → new.asks + 1 ≡ count →
      IsPaidSoFar systems lemmas a c x z given.level given.clause new.draft.clause.items new.kept.items new.failed new.asks
  paid_more old new draft_is kept_is failed_is (Drops in_d smaller same fell) fewer =
      let n = new.asks in
      let K : List Lit → Type 0 = λ q. IsPaidSoFar systems lemmas a c x z given.level given.clause new.draft.clause.items q new.failed n in
      let F : Option (List Lit) → Type 0 = λ q. IsPaidSoFar systems lemmas a c x z given.level given.clause new.draft.clause.items kept q n in
      let B : Draft → Type 0 = λ q. IsPart new.draft.clause.items q.clause.items in
      subst K (sym (same ∙ kept_is)) (subst F (sym (fell ∙ failed_is))
      (paid_with new.draft.clause.items kept failed n fewer (past_drop new.draft.clause.items (subst B draft_is smaller)) (inl in_d)))
  paid_more old new draft_is kept_is failed_is (Keeps same_draft same fell) fewer =
      let n = new.asks in
      let K : List Lit → Type 0 = λ q. IsPaidSoFar systems lemmas a c x z given.level given.clause new.draft.clause.items q new.failed n in
      let F : Option (List Lit) → Type 0 = λ q. IsPaidSoFar systems lemmas a c x z given.level given.clause new.draft.clause.items (kept ++ l ∷ []) q n in
      let D : Draft → Type 0 = λ q. IsPaidSoFar systems lemmas a c x z given.level given.clause q.clause.items (kept ++ l ∷ []) failed n in
      let kept_now : new.kept.items ≡ kept ++ l ∷ [] = same ∙ ap (λ q. q ++ l ∷ []) kept_is in
      subst K (sym kept_now) (subst F (sym (fell ∙ failed_is)) (subst D (sym (same_draft ∙ draft_is))
      (paid_with draft.clause.items (kept ++ l ∷ []) failed n fewer past_keep (inr (inl (l, Contains-push kept l, cand.lacks))))))
  paid_more old new draft_is kept_is failed_is (Falls same_draft same none fell) fewer =
      let n = new.asks in
      let K : List Lit → Type 0 = λ q. IsPaidSoFar systems lemmas a c x z given.level given.clause new.draft.clause.items q new.failed n in
      let F : Option (List Lit) → Type 0 = λ q. IsPaidSoFar systems lemmas a c x z given.level given.clause new.draft.clause.items kept q n in
      let D : Draft → Type 0 = λ q. IsPaidSoFar systems lemmas a c x z given.level given.clause q.clause.items kept (Some d) n in
      subst K (sym (same ∙ kept_is)) (subst F (sym fell) (subst D (sym (same_draft ∙ draft_is))
      (paid_with draft.clause.items kept (Some d) n fewer (past_fall (sym failed_is ∙ none)) (inr (inr (self d, self d))))))

-- the start
pub way_start : (sys : TransitionSystem) (lemmas : List Lemma) (given : ProvedClause) (draft : Draft) (kept rest : List Lit) → IsProved given → given.system ≡ sys →
    draft.clause.items ≡ given.clause → draft.part.items ≡ given.part → draft.parents.items ≡ given.parents → kept ≡ [] → IsPart given.clause rest → IsPart rest given.clause →
    IsUnderWay sys lemmas given draft kept rest
way_start sys lemmas given draft kept rest shown system clause part parents none all only =
    let S : TransitionSystem → Type 0 = λ s. IsProved record { system = s; clause = given.clause; part = given.part; level = given.level; parents = given.parents } in
    let C : List Lit → Type 0 = λ q. IsProved record { system = sys; clause = q; part = given.part; level = given.level; parents = given.parents } in
    let P : List Lit → Type 0 = λ q. IsProved record { system = sys; clause = draft.clause.items; part = q; level = given.level; parents = given.parents } in
    let Q : List Parent → Type 0 = λ q. IsProved record { system = sys; clause = draft.clause.items; part = draft.part.items; level = given.level; parents = q } in
    let A : List Parent → Type 0 = AllStand lemmas (given.level - 1) in
    let whole : kept ++ rest ≡ rest = ap (λ q. q ++ rest) none in
    let G : List Lit → Type 0 = λ q. IsPart q given.clause in
    let T : List Lit → Type 0 = λ q. IsPart q (kept ++ rest) in
    let U : List Lit → Type 0 = λ q. IsPart given.clause q in
    let F : List Lit → Type 0 = λ q. IsPart (kept ++ rest) q in
    let N : List Lit → Type 0 = AllNeeded sys lemmas given.level given.clause draft.clause.items in
    let K : List Lit → Type 0 = λ q. (m : Lit) → Contains q m → Contains rest m → ⊥ in
    record {
      proved = subst Q (sym parents) (subst P (sym part) (subst C (sym clause) (subst S system shown)));
      stands = λ s. subst A (sym parents) s;
      part = subst G (sym clause) (self given.clause);
      to = subst T (sym clause) (subst U (sym whole) all);
      from = subst F (sym clause) (subst G (sym whole) only);
      needed = subst N (sym none) (All-nil (λ q. (d : List Lit) × IsWitness sys lemmas given.level given.clause draft.clause.items q d));
      apart = subst K (sym none) (λ m in_none in_rest. absurd (omega (arith, in_none.1)));
    }

pub paid_start : (systems : List TransitionSystem) (lemmas : List Lemma) (known : List (List Lit)) (t : List ℕ) (level : ℕ) (given best kept rest : List Lit) → length rest ≡ length given →
    IsPaidSoFar systems lemmas known known t t level given best kept None (length rest)
paid_start systems lemmas known t level given best kept rest is = record {
  log = [];
  parts = [];
  pays = pays_none systems lemmas known known t t (All-contains_itself known) refl;
  differ = λ i j d lt in_j. absurd (omega arith);
  proper = All-nil (IsProperPart given);
  past = All-nil (IsPast best kept None);
  asked = All-nil (AsksOfSome level []);
  few = omega (arith, is);
}

pub paid_nothing : (systems : List TransitionSystem) (lemmas : List Lemma) (known : List (List Lit)) (t : List ℕ) (level : ℕ) (given : List Lit) →
    PaysParts systems lemmas known known t t level given
paid_nothing systems lemmas known t level given = (
  [],
  [],
  pays_none systems lemmas known known t t (All-contains_itself known) refl,
  (λ i j d lt in_j. absurd (omega arith)),
  omega arith,
  All-nil (IsProperPart given),
  All-nil (AsksOfSome level []),
)

pub paid_end : (systems : List TransitionSystem) (lemmas : List Lemma) (old new : List (List Lit)) (before after : List ℕ) (level : ℕ) (given best kept : List Lit) (failed : Option (List Lit)) (asks : ℕ) →
    IsPaidSoFar systems lemmas old new before after level given best kept failed asks → PaysParts systems lemmas old new before after level given
paid_end systems lemmas old new before after level given best kept failed asks h = (h.log, h.parts, h.pays, h.differ, omega (arith, h.few), h.proper, h.asked)

-- no query was asked of the clause
pub nothing_new : (systems : List TransitionSystem) (lemmas : List Lemma) (known : List (List Lit)) (t : List ℕ) (level : ℕ) (failed : Option (List Lit)) (d : List Lit) →
    PaysNew systems lemmas known known t t level failed d
nothing_new systems lemmas known t level failed d =
    ([], pays_none systems lemmas known known t t (All-contains_itself known) refl, All-nil (AsksOf level d), (λ i j e lt in_j. absurd (omega arith)), λ _. refl)

-- the clause is not that which failed
pub all_new : (systems : List TransitionSystem) (lemmas : List Lemma) (old new : List (List Lit)) (before after : List ℕ) (level : ℕ) (failed : Option (List Lit)) (d : List Lit) →
    (IsSame failed d → ⊥) → PaysFor systems lemmas old new before after level d → PaysNew systems lemmas old new before after level failed d
all_new systems lemmas old new before after level failed d other h = (h.0, h.1, h.2, h.3, λ same. absurd (other same))

-- a clause with the literals of one that is broken is broken
broken_same : (sys : TransitionSystem) (lemmas : List Lemma) (level : ℕ) (a b : List Lit) → IsPart a b → IsPart b a → IsBroken sys lemmas level a → IsBroken sys lemmas level b
broken_same sys lemmas level a b to from (inl (v, out)) =
    let P : Lit → Type 0 = λ l. assignment_of v l.var ≡ not l.positive in
    inl (v, record { whole = out.whole; first = out.first; out = All-weaker (Contains a) P (λ m here. All-contains P a m out.out here) b from })
broken_same sys lemmas level a b to from (inr (v, out)) =
    let P : Lit → Type 0 = λ l. assignment_of v (sys.state_bits + l.var) ≡ not l.positive in
    inr (
      v,
      record {
        whole = out.whole;
        step = out.step;
        from = out.from;
        meets = part_true (assignment_of v) a b to out.meets;
        out = All-weaker (Contains a) P (λ m here. All-contains P a m out.out here) b from;
      },
    )

pub failed_broken : (sys : TransitionSystem) (lemmas : List Lemma) (level : ℕ) (failed : Option (List Lit)) (d : List Lit) →
    IfSome failed (IsBroken sys lemmas level) → IsSame failed d → IsBroken sys lemmas level d
failed_broken sys lemmas level None d broken same = absurd same
failed_broken sys lemmas level (Some f) d broken same = broken_same sys lemmas level f d same.0 same.1 broken

-- the end
pub way_end : (sys : TransitionSystem) (lemmas : List Lemma) (given : ProvedClause) (draft : Draft) (kept rest : List Lit) → length rest ≡ 0 →
    IsUnderWay sys lemmas given draft kept rest → AllNeeded sys lemmas given.level given.clause draft.clause.items draft.clause.items
way_end sys lemmas given draft kept rest none h =
    let best = draft.clause.items in
    let part : IsPart best kept = λ k d lt.
    elim (Contains-append_cases kept rest (get_or best k d) (h.to k d lt)) [ inl here ↦ here | inr there ↦ absurd (omega (arith, there.1, none)) ] in
    All-weaker (Contains kept) (λ q. (d : List Lit) × IsWitness sys lemmas given.level given.clause best q d)
    (λ q here. All-contains (λ m. (d : List Lit) × IsWitness sys lemmas given.level given.clause best m d) kept q h.needed here) best part

-- whether both tests say that the clause has just the literals of the one that failed
pub same_told : (r : Bool) (failed : Option (List Lit)) (f d : List Lit) → failed ≡ Some f → IsPart f d → (IsTrue r ↔ IsPart d f) → MatchBool r (IsSame failed d) (IsSame failed d → ⊥)
same_told true failed f d is first tells = (let P : Option (List Lit) → Type 0 = λ x. IsSame x d in subst P (sym is) (first, tells.0 refl))
same_told false failed f d is first tells =
    λ same. (let P : Option (List Lit) → Type 0 = λ x. IsSame x d in let e : false ≡ true = tells.1 (subst P is same).1 in cc)

pub other_told : (r : Bool) (failed : Option (List Lit)) (f d : List Lit) → failed ≡ Some f → r ≡ false → (IsTrue r ↔ IsPart f d) → MatchBool r (IsSame failed d) (IsSame failed d → ⊥)
other_told true failed f d is fails tells = absurd (both_ways true fails refl)
other_told false failed f d is fails tells =
    λ same. (let P : Option (List Lit) → Type 0 = λ x. IsSame x d in let e : false ≡ true = tells.1 (subst P is same).0 in cc)
