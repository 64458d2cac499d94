-- Queries about bad states that were paid for.
use Rattle.std.proofs.Common.{◌≡◌, ◌⊎◌, inl, inr, ℕ, Bool, List, ◌++◌, arith, length-append}
use Rattle.std.specs.Prelude.{All, Contains}
use Rattle.std.proofs.lemmas.List.Elements.{All-append, All-weaker}
use Rattle.clause_core.specs.declared.literal.Lit.{Lit}
use Rattle.clause_core.specs.Systems.{TransitionSystem}
use Rattle.frame_core.specs.declared.parts.Lemma.{Lemma}
use Rattle.frame_core.specs.FrameLaw.{system_at}
use Rattle.frame_solver.specs.Firsts.{negation_of}
use Rattle.frame_solver.specs.Paying.{AskedQuery, PaysOne, Firsts, Bads, queries_of}
use Rattle.frame_query.specs.Findings.{PaysBad}
use Rattle.frame_solver.proofs.Paid.{pays_then, pays_right, one_differs, differ_append, apart, log_sub}

bads_not_firsts : (j top : ℕ) (c : List Lit) → Bads j top ≡ Firsts c → ⊥
bads_not_firsts j top c e = cc

module _ (systems : List TransitionSystem) (lemmas : List Lemma) (j top : ℕ) where
  abbrev IsOfBad : List Bool → AskedQuery → Type 0
  IsOfBad values a = (a.question ≡ Bads j top) ⊎ (a.question ≡ Firsts (negation_of values (system_at systems 0).state_bits))

  -- only bad states were asked for
  pub bad_one : (old new : List (List Lit)) (before after : List ℕ) (IsState : List Bool → Type 0) (values : List Bool) → IsState values →
      PaysOne systems lemmas old new before after (Bads j top) → PaysBad systems lemmas old new before after j top IsState
  bad_one old new before after IsState values is h =
      (h.0, values, h.1, omega (arith, h.2), one_differs h.0 h.2, All-weaker (λ (a : AskedQuery). a.question ≡ Bads j top) (IsOfBad values) (λ a e. inl e) h.0 h.3, is)

  -- then the state was asked about
  pub bad_two : (a b c : List (List Lit)) (x y z : List ℕ) (IsState : List Bool → Type 0) (values : List Bool) → IsState values →
      PaysOne systems lemmas a b x y (Bads j top) → PaysOne systems lemmas b c y z (Firsts (negation_of values (system_at systems 0).state_bits)) →
      PaysBad systems lemmas a c x z j top IsState
  bad_two a b c x y z IsState values is p q =
      let clause = negation_of values (system_at systems 0).state_bits in (
        p.0 ++ q.0,
        values,
        pays_then systems lemmas a b c x y z p.0 q.0 p.1 q.1,
        omega (arith, length-append p.0 q.0, p.2, q.2),
        differ_append p.0 q.0 (one_differs p.0 p.2) (one_differs q.0 q.2) (apart (Bads j top) (Firsts clause) (bads_not_firsts j top clause) p.0 q.0 p.3 q.3),
        All-append (IsOfBad values) p.0 q.0
            (All-weaker (λ (r : AskedQuery). r.question ≡ Bads j top) (IsOfBad values) (λ r e. inl e) p.0 p.3)
            (All-weaker (λ (r : AskedQuery). r.question ≡ Firsts clause) (IsOfBad values) (λ r e. inr e) q.0 q.3),
        is,
      )

  pub bad_sub : (old mid new : List (List Lit)) (before after : List ℕ) (IsState Other : List Bool → Type 0) → ((v : List Bool) → IsState v → Other v) →
      All (Contains old) mid → PaysBad systems lemmas mid new before after j top IsState → PaysBad systems lemmas old new before after j top Other
  bad_sub old mid new before after IsState Other weaker sub h =
      (h.0, h.1, record { each = h.2.each; paid = log_sub old mid new before after (queries_of h.0) sub h.2.paid }, h.3, h.4, h.5, weaker h.1 h.6)

  -- beside what the other solver knows
  pub bad_right : (old new side : List (List Lit)) (before after : List ℕ) (IsState Other : List Bool → Type 0) → ((v : List Bool) → IsState v → Other v) →
      PaysBad systems lemmas old new before after j top IsState → PaysBad systems lemmas (side ++ old) (side ++ new) before after j top Other
  bad_right old new side before after IsState Other weaker h =
      (h.0, h.1, pays_right systems lemmas old new side before after h.0 h.2, h.3, h.4, h.5, weaker h.1 h.6)
