-- A clause without one of its literals.
use Rattle.std.proofs.Common.{get_or, ◌≡◌, ◌⊎◌, inl, inr, ℕ, ◌<◌, Bool, true, false, List, [], ◌∷◌, ◌++◌, refl, sym, ◌∙◌, ap, subst, arith, length-append}
use Rattle.std.specs.Prelude.{Contains}
use Rattle.std.proofs.lemmas.Bool.Decides.{eqb_tells}
use Rattle.std.proofs.lemmas.List.Elements.{All-nil, Contains-get_or, Contains-append_right, All-append, All-contains, All-weaker, All-push, Contains-append_left, Contains-push, Contains-push_cases}
use Rattle.clause_core.specs.declared.literal.Lit.{Lit}
use Rattle.clause_core.specs.Literals.{Within}
use Rattle.clause_core.specs.Assignments.{ClauseTrue}
use Rattle.clause_core.specs.Systems.{TransitionSystem}
use Rattle.clause_core.proofs.Lists.{lit_same}
use Rattle.frame_core.specs.declared.parts.Lemma.{Lemma}
use Rattle.frame_core.specs.declared.parts.Parent.{Parent}
use Rattle.frame_core.specs.Facts.{IsPart, IsProved, ProvedClause}
use Rattle.frame_solver.specs.Firsts.{AllFirstsMeet}
use Rattle.frame_solver.specs.Stepping.{Ends}
use Rattle.frame_solver.specs.Paying.{Firsts, Steps, AskedQuery, PaysOne}
use Rattle.frame_query.specs.Dropping.{AsksOf}
use Rattle.frame_query.specs.Trying.{IsOthers, IsNeeded, IsSplit, PaysFor}
use Rattle.frame_solver.proofs.Guarding.{true_in}
use Rattle.frame_solver.proofs.Paid.{differ_append, apart, one_differs, pays_then}

sign_cases : (a b : Bool) → (a ≡ b) ⊎ (a ≡ b → ⊥)
sign_cases true true = inl refl
sign_cases true false = inr (λ e. cc)
sign_cases false true = inr (λ e. cc)
sign_cases false false = inl refl

pub lit_cases : (m l : Lit) → (m ≡ l) ⊎ (m ≡ l → ⊥)
lit_cases m l =
    elim (eqb_tells m.var l.var) [
      | inl (_, same) ↦
          elim (sign_cases m.positive l.positive) [
            | inl sign ↦ inl (lit_same m l same sign)
            | inr differs ↦ inr (λ e. differs (ap (λ (x : Lit). x.positive) e))
          ]
      | inr (_, differs) ↦ inr (λ e. differs (ap (λ (x : Lit). x.var) e))
    ]

module _ (xs : List Lit) (l : Lit) (ys : List Lit) (m : Lit) where
  pub others_push : (m ≡ l → ⊥) → IsOthers xs l ys → IsOthers (xs ++ m ∷ []) l (ys ++ m ∷ [])
  others_push differs h = record {
    enough = λ q here other.
        elim (Contains-push_cases xs m q here) [
          | inl before ↦ Contains-append_left ys (m ∷ []) q (h.enough q before other)
          | inr same ↦ (let P : Lit → Type 0 = Contains (ys ++ m ∷ []) in subst P same (Contains-push ys m))
        ];
    only = All-push (Contains (xs ++ m ∷ [])) ys m (All-weaker (Contains xs) (Contains (xs ++ m ∷ [])) (λ q. Contains-append_left xs (m ∷ []) q) ys h.only) (Contains-push xs m);
    lacks = λ here. elim (Contains-push_cases ys m l here) [ inl before ↦ h.lacks before | inr same ↦ differs same ];
    fewer = omega (arith, h.fewer, length-append xs (m ∷ []), length-append ys (m ∷ []));
  }

  pub others_skip : m ≡ l → IsOthers xs l ys → IsOthers (xs ++ m ∷ []) l ys
  others_skip same h = record {
    enough = λ q here other.
        elim (Contains-push_cases xs m q here) [
          | inl before ↦ h.enough q before other
          | inr is ↦ absurd (other (sym is ∙ same))
        ];
    only = All-weaker (Contains xs) (Contains (xs ++ m ∷ [])) (λ q. Contains-append_left xs (m ∷ []) q) ys h.only;
    lacks = h.lacks;
    fewer = omega (arith, h.fewer, length-append xs (m ∷ []));
  }

module _ (left part met needed : List Lit) (l : Lit) (h : IsNeeded left part met needed) where
  pub needed_push : IsNeeded (left ++ l ∷ []) part met (needed ++ l ∷ [])
  needed_push = record {
    enough = λ m here some.
        elim (Contains-push_cases left l m here) [
          | inl before ↦ Contains-append_left needed (l ∷ []) m (h.enough m before some)
          | inr same ↦ (let P : Lit → Type 0 = Contains (needed ++ l ∷ []) in subst P same (Contains-push needed l))
        ];
    only = All-push (Contains (left ++ l ∷ [])) needed l
        (All-weaker (Contains left) (Contains (left ++ l ∷ [])) (λ m. Contains-append_left left (l ∷ []) m) needed h.only) (Contains-push left l);
    fewer = omega (arith, h.fewer, length-append left (l ∷ []), length-append needed (l ∷ []));
  }

  pub needed_skip : (Contains part l ⊎ Contains met l → ⊥) → IsNeeded (left ++ l ∷ []) part met needed
  needed_skip none = record {
    enough = λ m here some.
        elim (Contains-push_cases left l m here) [
          | inl before ↦ h.enough m before some
          | inr same ↦ (let P : Lit → Type 0 = λ q. Contains part q ⊎ Contains met q in absurd (none (subst P (sym same) some)))
        ];
    only = All-weaker (Contains left) (Contains (left ++ l ∷ [])) (λ m. Contains-append_left left (l ∷ []) m) needed h.only;
    fewer = omega (arith, h.fewer, length-append left (l ∷ []));
  }

pub split_none : IsSplit [] [] []
split_none = record {
  enough = λ m here. absurd (omega (arith, here.1));
  inside_only = All-nil (Contains []);
  outside_only = All-nil (Contains []);
  many = omega arith;
}

module _ (xs inside outside : List Lit) (l : Lit) (h : IsSplit xs inside outside) where
  grown : (ys : List Lit) → IsPart ys xs → IsPart ys (xs ++ l ∷ [])
  grown ys only = All-weaker (Contains xs) (Contains (xs ++ l ∷ [])) (λ m. Contains-append_left xs (l ∷ []) m) ys only

  pub split_inside : IsSplit (xs ++ l ∷ []) (inside ++ l ∷ []) outside
  split_inside = record {
    enough = λ m here.
        elim (Contains-push_cases xs l m here) [
          | inl before ↦ elim (h.enough m before) [ inl a ↦ inl (Contains-append_left inside (l ∷ []) m a) | inr b ↦ inr b ]
          | inr same ↦ (let P : Lit → Type 0 = Contains (inside ++ l ∷ []) in inl (subst P same (Contains-push inside l)))
        ];
    inside_only = All-push (Contains (xs ++ l ∷ [])) inside l (grown inside h.inside_only) (Contains-push xs l);
    outside_only = grown outside h.outside_only;
    many = omega (arith, h.many, length-append xs (l ∷ []), length-append inside (l ∷ []));
  }

  pub split_outside : IsSplit (xs ++ l ∷ []) inside (outside ++ l ∷ [])
  split_outside = record {
    enough = λ m here.
        elim (Contains-push_cases xs l m here) [
          | inl before ↦ elim (h.enough m before) [ inl a ↦ inl a | inr b ↦ inr (Contains-append_left outside (l ∷ []) m b) ]
          | inr same ↦ (let P : Lit → Type 0 = Contains (outside ++ l ∷ []) in inr (subst P same (Contains-push outside l)))
        ];
    inside_only = grown inside h.inside_only;
    outside_only = All-push (Contains (xs ++ l ∷ [])) outside l (grown outside h.outside_only) (Contains-push xs l);
    many = omega (arith, h.many, length-append xs (l ∷ []), length-append outside (l ∷ []));
  }

  pub split_all : IsPart xs (inside ++ outside)
  split_all k d lt =
      elim (h.enough (get_or xs k d) (Contains-get_or xs k d lt)) [
        | inl a ↦ Contains-append_left inside outside (get_or xs k d) a
        | inr b ↦ Contains-append_right inside outside (get_or xs k d) b
      ]

  pub split_only : IsPart (inside ++ outside) xs
  split_only = All-append (Contains xs) inside outside h.inside_only h.outside_only

pub parent_same : (p : Parent) (c : List Lit) → c ≡ p.clause → record { number = p.number; clause = c } ≡ p
parent_same p c e = ap (λ (x : List Lit). let r : Parent = record { number = p.number; clause = x } in r) e

pub part_trans : (a b c : List Lit) → IsPart a b → IsPart b c → IsPart a c
part_trans a b c first second = All-weaker (Contains b) (Contains c) (λ m here. All-contains (Contains c) b m second here) a first

pub in_part : (a b : List Lit) (m : Lit) → IsPart a b → Contains a m → Contains b m
in_part a b m h here = All-contains (Contains b) a m h here

pub part_true : (x : ℕ → Bool) (part whole : List Lit) → IsPart part whole → ClauseTrue x part → ClauseTrue x whole
part_true x part whole is_part h = true_in x whole h.1 (in_part part whole h.1 is_part (h.0, h.2, h.3)) h.4

pub meets_more : (sys : TransitionSystem) (part whole : List Lit) → IsPart part whole → AllFirstsMeet sys part → AllFirstsMeet sys whole
meets_more sys part whole is_part h x start = part_true x part whole is_part (h x start)

-- the steps that a proof speaks of, from states that meet a part of its clause
pub ends_part : (p : ProvedClause) → IsProved p → (d : List Lit) → IsPart d p.clause → Ends p.system p.level d p.parents p.part
ends_part p h d is_part x y first from step = h.step x y first (λ up. (part_true x d p.clause is_part (from up).0, (from up).1)) step

-- a smaller clause is proved
pub proved_part : (sys : TransitionSystem) (level : ℕ) (d clause part met : List Lit) (parents : List Parent) → 0 < level → Within sys.state_bits clause → IsPart clause d →
    IsPart part clause → IsPart met clause → AllFirstsMeet sys met → Ends sys level d parents part →
    IsProved record { system = sys; clause = clause; part = part; level = level; parents = parents }
proved_part sys level d clause part met parents above within is_part part_in met_in meets ends = record {
  above = above;
  within = within;
  part_in = part_in;
  first = meets_more sys met clause met_in meets;
  step = λ x y first from step. ends x y first (λ up. (part_true x clause d is_part (from up).0, (from up).1)) step;
}

firsts_not_steps : (c d : List Lit) (level : ℕ) → Firsts c ≡ Steps level d → ⊥
firsts_not_steps c d level e = cc

module _ (systems : List TransitionSystem) (lemmas : List Lemma) (level : ℕ) (clause : List Lit) where
  pub paid_first : (a b : List (List Lit)) (t u : List ℕ) → PaysOne systems lemmas a b t u (Firsts clause) → PaysFor systems lemmas a b t u level clause
  paid_first a b t u h =
      (h.0, h.1, All-weaker (λ (q : AskedQuery). q.question ≡ Firsts clause) (AsksOf level clause) (λ q e. inl e) h.0 h.3, one_differs h.0 h.2)

  pub paid_both : (a b c : List (List Lit)) (t u v : List ℕ) → PaysOne systems lemmas a b t u (Firsts clause) → PaysOne systems lemmas b c u v (Steps level clause) →
      PaysFor systems lemmas a c t v level clause
  paid_both a b c t u v p q = (
    p.0 ++ q.0,
    pays_then systems lemmas a b c t u v p.0 q.0 p.1 q.1,
    All-append (AsksOf level clause) p.0 q.0 (All-weaker (λ (x : AskedQuery). x.question ≡ Firsts clause) (AsksOf level clause) (λ x e. inl e) p.0 p.3)
        (All-weaker (λ (x : AskedQuery). x.question ≡ Steps level clause) (AsksOf level clause) (λ x e. inr e) q.0 q.3),
    differ_append p.0 q.0 (one_differs p.0 p.2) (one_differs q.0 q.2)
        (apart (Firsts clause) (Steps level clause) (firsts_not_steps clause clause level) p.0 q.0 p.3 q.3),
  )
