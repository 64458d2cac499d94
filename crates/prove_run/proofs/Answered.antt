-- Answers, one after another.
use Rattle.std.proofs.Common.{◌≡◌, ℕ, ◌+◌, ◌<◌, Bool, true, false, List, [], ◌∷◌, ◌++◌, length, get_or, refl, sym, subst, ◌∙◌, inl, inr, arith, length-append}
use Rattle.std.specs.Prelude.{None, Some, map, slice_get}
use Rattle.std.proofs.Math.ListN.{get_or-append}
use Rattle.std.proofs.Math.Seq.{get_or-append_seam}
use Rattle.std.proofs.lemmas.Bool.{cases_lt}
use Rattle.std.proofs.lemmas.List.{get_or_read}
use Rattle.std.proofs.lemmas.List.Elements.{All-weaker}
use Rattle.std.proofs.lemmas.Option.{slice_get_read, get_or_from_slice_get}
use Rattle.clause_core.specs.Systems.{TransitionSystem}
use Rattle.cert_core.specs.Blocks.{Block}
use Rattle.cert_core.specs.Certificates.{Certifies}
use Rattle.cert_make.specs.Paying.{PartQuery, PaysParts, PaysOpen}
use Rattle.frame_core.specs.declared.outcomes.FramesVerdict.TheVariants.{Invariant}
use Rattle.frame_core.specs.FrameLaw.{FrameState, system_at, no_system}
use Rattle.frame_core.specs.Changes.{VerdictSays}
use Rattle.prove_run.specs.declared.answers.Answer.{Answer}
use Rattle.prove_run.specs.declared.answers.Answer.TheVariants.{True, False, Unknown}
use Rattle.prove_run.specs.declared.answers.Cause.{Cause}
use Rattle.prove_run.specs.declared.effort.Effort.{Effort}
use Rattle.prove_run.specs.Answers.{Answers, AnswersAt, AnswersNext, CertifySays, spent_cause}
use Rattle.prove_run.specs.Certifying.{CertQuery, PaysCertificates, clauses_above}
use Rattle.prove_run.proofs.Certified.{AllBefore, by_system, lacks_all, lacks_some, pays_more, all_before}

no_way : true ≡ false → ⊥
no_way e = let h : true ≡ false = e in cc

more_answers : (effort : Effort) (f : FrameState) (over : Bool) (parts : List CertQuery) (spent : Bool) (xs : List Answer) (a : Answer) →
    ((j : ℕ) → j < length xs → AnswersAt effort f over parts spent xs j) → Answers effort f over parts spent (length xs) a → (j : ℕ) → j < length (xs ++ a ∷ []) →
    AnswersAt effort f over parts spent (xs ++ a ∷ []) j
more_answers effort f over parts spent xs a h last j lt =
    let long = length-append xs (a ∷ []) in
    elim (cases_lt j (length xs)) [
      | inl early ↦
          let old = h j early in
          let x : Answer = old.0 in
          (x, slice_get_read (xs ++ a ∷ []) (length (xs ++ a ∷ [])) j x refl lt (sym (get_or-append xs (a ∷ []) x j early ∙ get_or_from_slice_get xs j x x old.1)), old.2)
      | inr late ↦
          let e : j ≡ length xs = omega arith in
          let there : slice_get (xs ++ a ∷ []) (length xs) ≡ Some a =
          slice_get_read (xs ++ a ∷ []) (length (xs ++ a ∷ [])) (length xs) a refl (omega arith) (sym (get_or-append_seam xs a [] a)) in
          subst (AnswersAt effort f over parts spent (xs ++ a ∷ [])) (sym e) (a, there, last)
    ]

-- while the purse is not spent no certificate lacks a part, whatever is asked later
later : (effort : Effort) (f : FrameState) (over : Bool) (parts more : List CertQuery) (spent now : Bool) (j : ℕ) (a : Answer) → spent ≡ false →
    Answers effort f over parts spent j a → Answers effort f over more now j a
later effort f over parts more spent now j (True cert) not_yet h = h
later effort f over parts more spent now j (False run) not_yet h = h
later effort f over parts more spent now j (Unknown cause) not_yet h = elim h [
  | inl none ↦ inl none
  | inr lacks ↦ absurd (no_way (sym lacks.1 ∙ not_yet))
]

-- nothing more was asked
pub answers_alike : (effort : Effort) (f : FrameState) (over : Bool) (j : ℕ) (tickets : List ℕ) (spent : Bool) (a : Answer) →
    ((parts : List CertQuery) → AllBefore j parts → Answers effort f over parts spent j a) → AnswersNext effort f over j tickets spent tickets spent a
answers_alike effort f over j tickets spent a is start answers many h =
    let n : ℕ = length answers in
    let long = length-append answers (a ∷ []) in
    let here : AllBefore j h.parts = subst (λ (m : ℕ). AllBefore m h.parts) many h.of_these in
    record {
      parts = h.parts;
      paid = h.paid;
      of_these = All-weaker (λ (q : CertQuery). q.system < n) (λ (q : CertQuery). q.system < length (answers ++ a ∷ [])) (λ q lt. omega (arith, lt, long)) h.parts h.of_these;
      still = h.still;
      each = more_answers effort f over h.parts spent answers a h.each (subst (λ (m : ℕ). Answers effort f over h.parts spent m a) (sym many) (is h.parts here));
    }

-- queries were asked for its certificate
asked_too : (effort : Effort) (f : FrameState) (over : Bool) (j level : ℕ) (old new : List ℕ) (was now : Bool) (a : Answer) → VerdictSays f j (Some (Invariant level)) →
    was ≡ false → (log : List PartQuery) → PaysParts (system_at f.systems j) (clauses_above level f.lemmas) [] old new log →
    ((start : List ℕ) (parts : List CertQuery) → PaysCertificates f start old parts → AllBefore j parts → Answers effort f over (parts ++ map (by_system j) log) now j a) →
    AnswersNext effort f over j old was new now a
asked_too effort f over j level old new was now a verdict not_yet log pays is start answers many h =
    let n : ℕ = length answers in
    let long = length-append answers (a ∷ []) in
    let here : AllBefore j h.parts = subst (λ (m : ℕ). AllBefore m h.parts) many h.of_these in
    let parts : List CertQuery = h.parts ++ map (by_system j) log in
    let before : AllBefore (j + 1) parts = all_before f j level verdict start old new h.parts h.paid here log pays in
    record {
      parts = parts;
      paid = pays_more f j level verdict start old new h.parts h.paid here log pays;
      of_these = All-weaker (λ (q : CertQuery). q.system < j + 1) (λ (q : CertQuery). q.system < length (answers ++ a ∷ [])) (λ q lt. omega (arith, lt, long, many)) parts before;
      still = λ on. absurd (no_way (sym (h.still on) ∙ not_yet));
      each = more_answers effort f over parts now answers a
          (λ k lt. (let at = h.each k lt in (at.0, at.1, later effort f over h.parts parts was now k at.0 not_yet at.2)))
          (subst (λ (m : ℕ). Answers effort f over parts now m a) (sym many) (is start h.parts h.paid here));
    }

-- it is certified
pub certified_next : (effort : Effort) (f : FrameState) (over : Bool) (j level : ℕ) (old new : List ℕ) (was now : Bool) (cert : Block) →
    VerdictSays f j (Some (Invariant level)) → was ≡ false → Certifies (system_at f.systems j) cert → cert.counter ≡ None → (log : List PartQuery) →
    PaysParts (system_at f.systems j) (clauses_above level f.lemmas) [] old new log → AnswersNext effort f over j old was new now (True cert)
certified_next effort f over j level old new was now cert verdict not_yet certifies none log pays =
    asked_too effort f over j level old new was now (True cert) verdict not_yet log pays (λ start parts paid before. (certifies, none))

-- the purse was spent on its certificate
pub open_next : (effort : Effort) (f : FrameState) (over : Bool) (j level : ℕ) (old new : List ℕ) (was now : Bool) (cause : Cause) → VerdictSays f j (Some (Invariant level)) →
    was ≡ false → now ≡ true → cause ≡ spent_cause effort → PaysOpen (system_at f.systems j) (clauses_above level f.lemmas) old new →
    AnswersNext effort f over j old was new now (Unknown cause)
open_next effort f over j level old new was now cause verdict not_yet on is pays =
    asked_too effort f over j level old new was now (Unknown cause) verdict not_yet pays.0 pays.1
    (λ start parts paid before. inr (lacks_some f j level verdict start old new parts paid before pays.0 pays.1 pays.2, on, is))

-- the purse was spent before its certificate
pub spent_next : (effort : Effort) (f : FrameState) (over : Bool) (j level : ℕ) (tickets : List ℕ) (spent : Bool) (cause : Cause) → VerdictSays f j (Some (Invariant level)) →
    spent ≡ true → cause ≡ spent_cause effort → AnswersNext effort f over j tickets spent tickets spent (Unknown cause)
spent_next effort f over j level tickets spent cause verdict on is =
    answers_alike effort f over j tickets spent (Unknown cause) (λ parts before. inr (lacks_all f parts j level verdict before, on, is))

-- ---- The same of what the code has at hand

-- the system that was read
pub is_system : (xs fs : List TransitionSystem) (j : ℕ) (s : TransitionSystem) → xs ≡ fs → j < length fs → s ≡ get_or xs j s → s ≡ system_at fs j
is_system xs fs j s e lt is =
    let P : List TransitionSystem → Type 0 = λ z. s ≡ get_or z j s in
    get_or_read fs j s lt (subst P e is) no_system

module _ (effort : Effort) (f : FrameState) (over : Bool) (j level : ℕ) (old new : List ℕ) (was now spent : Bool)
    (verdict : VerdictSays f j (Some (Invariant level))) (not_yet : was ≡ false) where
  pub certified_at : (cert : Block) → CertifySays (system_at f.systems j) (clauses_above level f.lemmas) None old new spent (Some cert) →
      AnswersNext effort f over j old was new now (True cert)
  certified_at cert said = certified_next effort f over j level old new was now cert verdict not_yet said.0 said.1 said.2.0 said.2.1

  pub open_at : (cause : Cause) → now ≡ true → cause ≡ spent_cause effort →
      CertifySays (system_at f.systems j) (clauses_above level f.lemmas) None old new spent None → AnswersNext effort f over j old was new now (Unknown cause)
  open_at cause on e said = open_next effort f over j level old new was now cause verdict not_yet on e said.1
