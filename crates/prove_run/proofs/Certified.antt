-- Certificates of systems that are shown true, and what was paid for them.
use Rattle.std.proofs.Common.{◌≡◌, ℕ, ◌+◌, ◌-◌, ◌<◌, List, [], ◌∷◌, ◌++◌, length, get_or, refl, sym, subst, ap, ◌∙◌, inl, inr, arith, length-append}
use Rattle.std.specs.Prelude.{map, All, Contains, Some, slice_get}
use Rattle.std.proofs.Math.ListN.{get_or-append, length-map}
use Rattle.std.proofs.lemmas.Bool.{cases_lt}
use Rattle.std.proofs.lemmas.List.{map-append, get_or-append_right, get_or-map}
use Rattle.std.proofs.lemmas.List.Elements.{All-append, All-weaker, All-map, All-contains}
use Rattle.std.proofs.lemmas.Option.{slice_get_within, get_or_from_slice_get, slice_get-get_or}
use Rattle.clause_core.specs.declared.literal.Lit.{Lit}
use Rattle.clause_core.specs.Literals.{Within}
use Rattle.clause_core.specs.Systems.{TransitionSystem}
use Rattle.sat_core.specs.Paying.{Query, IsPaidLog}
use Rattle.sat_core.proofs.Payments.{log_join}
use Rattle.cert_core.specs.declared.form.Form.{Form}
use Rattle.cert_core.specs.declared.form.Form.TheVariants.{Plain, Hinted}
use Rattle.cert_core.specs.declared.form.Part.{Part}
use Rattle.cert_core.specs.declared.form.Part.TheVariants.{Shared, First, Kept, Safe}
use Rattle.cert_core.specs.Blocks.{Block}
use Rattle.cert_core.specs.Certificates.{Certifies}
use Rattle.cert_check.specs.Judgements.{FailsFirst, IsFarAt}
use Rattle.cert_make.specs.Paying.{PartQuery, IsOfPart, PaysParts, LeavesOpen}
use Rattle.cert_make.proofs.Pairs.{pairs_join, pairs_map}
use Rattle.frame_core.specs.declared.outcomes.FramesVerdict.TheVariants.{Invariant}
use Rattle.frame_core.specs.FrameLaw.{FrameState, system_at}
use Rattle.frame_core.specs.Changes.{VerdictSays}
use Rattle.prove_run.specs.Certifying.{CertQuery, IsOfCertificate, DifferInPart, PaysCertificates, LacksPart, clauses_above, queries_of}

-- ---- What certifies has no part that fails

far_never : (form : Form) (n : ℕ) (cs : List (List Lit)) (k : ℕ) → IsFarAt form n cs k → All (Within n) cs → ⊥
far_never Plain n cs k far all = absurd far
far_never Hinted n cs k far all = far.2 (all k [] far.0)

pub fails_never : (sys : TransitionSystem) (cert : Block) (part : Part) → FailsFirst sys cert part → Certifies sys cert → ⊥
fails_never sys cert Shared f h = f.1 h.shared
fails_never sys cert (First k) f h = elim f [
  | inl far ↦ far_never cert.form sys.state_bits cert.clauses k far h.within
  | inr fails ↦ fails.1.2 (h.within k [] fails.1.0, h.first k fails.1.0)
]
fails_never sys cert (Kept k) f h = f.2.2 (h.kept k f.2.0)
fails_never sys cert Safe f h = f.3 h.safe

-- ---- The queries of one more certificate

abbrev pub by_system : ℕ → PartQuery → CertQuery
by_system j a = record { system = j; asked = a }

queries_back : (j : ℕ) (log : List PartQuery) → queries_of (map (by_system j) log) ≡ map (λ (a : PartQuery). a.query) log
queries_back j [] = refl
queries_back j (a ∷ log) = ap (λ (qs : List Query). a.query ∷ qs) (queries_back j log)

-- queries of systems before j are of no certificate of j
abbrev pub AllBefore : ℕ → List CertQuery → Type 0
AllBefore j parts = All (λ (q : CertQuery). q.system < j) parts

not_before : (j : ℕ) (parts : List CertQuery) (q : CertQuery) → AllBefore j parts → Contains parts q → q.system ≡ j → ⊥
not_before j parts q all there same =
    let lt = All-contains (λ (p : CertQuery). p.system < j) parts q all there in
    omega (arith, lt, same)

-- nothing was asked for the certificate of system j
pub lacks_all : (f : FrameState) (parts : List CertQuery) (j level : ℕ) → VerdictSays f j (Some (Invariant level)) → AllBefore j parts → LacksPart f parts j
lacks_all f parts j level verdict all =
    record {
      level = level;
      verdict = verdict;
      part = Safe;
      wanted = tt;
      last = λ i q is of same. absurd (not_before j parts q all (i, slice_get_within parts i q is, get_or_from_slice_get parts i q q is) of);
    }

module _ (f : FrameState) (j level : ℕ) (verdict : VerdictSays f j (Some (Invariant level))) (start before after : List ℕ) (parts : List CertQuery)
    (paid : PaysCertificates f start before parts) (all : AllBefore j parts) (log : List PartQuery)
    (pays : PaysParts (system_at f.systems j) (clauses_above level f.lemmas) [] before after log) where
  abbrev added : List CertQuery
  added = map (by_system j) log

  all_of : All (λ (q : CertQuery). q.system ≡ j) added
  all_of = All-map (λ (q : CertQuery). q.system ≡ j) (by_system j) log (λ i d lt. refl)

  pub pays_more : PaysCertificates f start after (parts ++ added)
  pays_more =
      let Of : PartQuery → Type 0 = IsOfPart (system_at f.systems j) (clauses_above level f.lemmas) in
      let P : List Query → Type 0 = IsPaidLog [] [] start after in
      let same : queries_of (parts ++ added) ≡ queries_of parts ++ map (λ (a : PartQuery). a.query) log =
      map-append (λ (q : CertQuery). q.asked.query) parts added ∙ ap (λ (qs : List Query). queries_of parts ++ qs) (queries_back j log) in
      record {
        each = All-append (IsOfCertificate f) parts added paid.each
            (All-map (IsOfCertificate f) (by_system j) log
            (All-weaker Of (λ (a : PartQuery). IsOfCertificate f (by_system j a)) (λ a of. record { level = level; verdict = verdict; of_part = of }) log pays.each));
        apart = pairs_join DifferInPart parts added paid.apart
            (pairs_map DifferInPart (by_system j) log (λ i k d lt below' e. pays.apart i k d lt below'))
            (λ p q here there e. absurd (not_before j parts p all here (e ∙ All-contains (λ (r : CertQuery). r.system ≡ j) added q all_of there)));
        paid = subst P (sym same)
            (log_join [] [] [] start before after (queries_of parts) (map (λ (a : PartQuery). a.query) log) paid.paid pays.paid);
      }

  pub all_before : AllBefore (j + 1) (parts ++ added)
  all_before =
      All-append (λ (q : CertQuery). q.system < j + 1) parts added
      (All-weaker (λ (q : CertQuery). q.system < j) (λ (q : CertQuery). q.system < j + 1) (λ q lt. omega (arith, lt)) parts all)
      (All-weaker (λ (q : CertQuery). q.system ≡ j) (λ (q : CertQuery). q.system < j + 1) (λ q e. omega (arith, e)) added all_of)

  last_of : (part : Part) → ((i : ℕ) (a : PartQuery) → slice_get log i ≡ Some a → a.part ≡ part → i + 1 ≡ length log) → (i : ℕ) (q : CertQuery) →
      slice_get (parts ++ added) i ≡ Some q → q.system ≡ j → q.asked.part ≡ part → i + 1 ≡ length (parts ++ added)
  last_of part last i q is of same =
      let long = length-append parts added in
      let count : length added ≡ length log = length-map log (by_system j) in
      let lt : i < length (parts ++ added) = slice_get_within (parts ++ added) i q is in
      let here : get_or (parts ++ added) i q ≡ q = get_or_from_slice_get (parts ++ added) i q q is in
      elim (cases_lt i (length parts)) [
        | inl early ↦
            let there : get_or parts i q ≡ q = sym (get_or-append parts added q i early) ∙ here in
            absurd (not_before j parts q all (i, early, there) of)
        | inr late ↦
            let k : ℕ = i - length parts in
            let below' : k < length log = omega (arith, lt, late, long, count) in
            let a : PartQuery = get_or log k q.asked in
            let e : by_system j a ≡ q =
            sym (get_or-map (by_system j) log k q.asked q below') ∙ sym (get_or-append_right parts added (length parts) i q refl (omega (arith, late))) ∙ here in
            let at = last k a (slice_get-get_or log k q.asked below') (ap (λ (r : CertQuery). r.asked.part) e ∙ same) in
            omega (arith, at, late, long, count)
      ]

  -- some part of it was not answered
  pub lacks_some : LeavesOpen (clauses_above level f.lemmas) log → LacksPart f (parts ++ added) j
  lacks_some open' =
      record {
        level = level;
        verdict = verdict;
        part = open'.part;
        wanted = open'.wanted;
        last = last_of open'.part open'.last;
      }
