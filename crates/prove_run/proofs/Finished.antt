-- What is answered of frames that were explored.
use Rattle.std.proofs.Common.{◌≡◌, ℕ, zero, suc, ◌+◌, ◌<◌, Bool, true, false, List, [], ◌∷◌, length, refl, sym, subst, ap, ◌∙◌, inl, inr, arith, length-append}
use Rattle.std.specs.Prelude.{Contains, Some}
use Rattle.std.proofs.lemmas.List.Elements.{All-nil}
use Rattle.std.proofs.lemmas.Option.{slice_get_within}
use Rattle.clause_core.specs.Systems.{TransitionSystem}
use Rattle.cert_core.specs.Certificates.{Certifies}
use Rattle.effort_purse.specs.Drawing.{numbers_below}
use Rattle.sat_core.specs.Paying.{tickets_in}
use Rattle.sat_core.proofs.Payments.{log_none}
use Rattle.frame_core.specs.FrameLaw.{FrameState, system_at}
use Rattle.frame_core.specs.Runs.{IsBadRun}
use Rattle.frame_history.specs.declared.entries.Entry.{Entry}
use Rattle.frame_history.specs.History.{HasVerdict}
use Rattle.frame_history.proofs.Keeping.{same_systems}
use Rattle.frame_worker.specs.Exploring.{IsExplored}
use Rattle.prove_run.specs.declared.answers.Answer.{Answer}
use Rattle.prove_run.specs.declared.answers.Answer.TheVariants.{True, False, Unknown}
use Rattle.prove_run.specs.declared.effort.Effort.{Effort}
use Rattle.prove_run.specs.declared.answers.Cause.TheVariants.{Frames}
use Rattle.prove_run.specs.Answers.{limits_of, first_of, frames_of, IsLeftOpen, IsCause, IsRight, IsDone, Answers, AreAnswered, cause_of, spent_cause}
use Rattle.prove_run.specs.Certifying.{CertQuery, IsOfCertificate, PaysCertificates, queries_of}

add_up : (t u x y n : ℕ) → x ≡ t → u ≡ t + y → u ≡ n → x + y ≡ n
add_up t u x y n a b c = omega arith

some_answer : (a b : Answer) → Some a ≡ Some b → a ≡ b
some_answer a b e = let h : Some a ≡ Some b = e in cc

pub below_long : (n : ℕ) → length (numbers_below n) ≡ n
below_long zero = refl
below_long (suc n) = omega (arith, length-append (numbers_below n) (n ∷ []), below_long n)

module _ (systems : List TransitionSystem) (effort : Effort) (history : List Entry) (f : FrameState) (tickets : List ℕ) (over : Bool)
    (h : IsExplored systems (limits_of effort) [] history f 0 (length tickets) over) where
  -- the budget was spent, which left system j open
  by_conflicts : (after : List ℕ) (parts : List CertQuery) (j : ℕ) → PaysCertificates f tickets after parts → length after ≡ effort.conflicts →
      IsLeftOpen f parts j → IsCause systems effort history j (spent_cause effort)
  by_conflicts after parts j certified all left =
      let more = certified.paid.drawn in
      let count : h.drawn ≡ length tickets = let e = h.all in omega arith in
      let long : length after ≡ length tickets + tickets_in (queries_of parts) =
      ap (λ (z : List ℕ). length z) more.1 ∙ length-append tickets more.0 ∙ ap (λ (n : ℕ). length tickets + n) more.2 in (
        refl,
        refl,
        (
          parts,
          record {
            drawn = h.drawn;
            logs = h.logs;
            paid = h.paid;
            claimed = tickets;
            spent = after;
            count = sym count;
            certified = subst (λ (z : FrameState). PaysCertificates z tickets after parts) h.frames certified;
            all = add_up (length tickets) (length after) h.drawn (tickets_in (queries_of parts)) effort.conflicts count long all;
          },
          subst (λ (z : FrameState). IsLeftOpen z parts j) h.frames left,
        ),
      )

  -- the limit of its frames was met
  by_frames : (j : ℕ) → over ≡ false → j < length systems → (HasVerdict f j → ⊥) → IsCause systems effort history j (Frames effort.frames)
  by_frames j not_over lt none =
      let undecided : HasVerdict (frames_of systems effort history) j → ⊥ = subst (λ (z : FrameState). HasVerdict z j → ⊥) h.frames none in
      let both = h.limit not_over j lt none in
      (refl, undecided, both.0, both.1)

  systems_are : f.systems ≡ systems
  systems_are = ap (λ (z : FrameState). z.systems) h.frames ∙ same_systems (first_of systems effort) history

cause_is : (systems : List TransitionSystem) (effort : Effort) (history : List Entry) (f : FrameState) (tickets after : List ℕ) (over : Bool)
    (parts : List CertQuery) (j : ℕ) → IsExplored systems (limits_of effort) [] history f 0 (length tickets) over → PaysCertificates f tickets after parts →
    (over ≡ true → length after ≡ effort.conflicts) → j < length systems → (HasVerdict f j → ⊥) → IsCause systems effort history j (cause_of over effort)
cause_is systems effort history f tickets after true parts j h certified whole lt none =
    by_conflicts systems effort history f tickets true h after parts j certified (whole refl) (inl none)
cause_is systems effort history f tickets after false parts j h certified whole lt none =
    by_frames systems effort history f tickets false h j refl lt none

right_of : (systems : List TransitionSystem) (effort : Effort) (history : List Entry) (f : FrameState) (tickets after : List ℕ) (over spent : Bool)
    (parts : List CertQuery) (j : ℕ) (a : Answer) → IsExplored systems (limits_of effort) [] history f 0 (length tickets) over → PaysCertificates f tickets after parts →
    (over ≡ true → spent ≡ true) → (spent ≡ true → length after ≡ effort.conflicts) → j < length systems → Answers effort f over parts spent j a →
    IsRight systems effort history j a
right_of systems effort history f tickets after over spent parts j (True cert) h certified still whole lt said =
    (subst (λ (z : List TransitionSystem). Certifies (system_at z j) cert) (systems_are systems effort history f tickets over h) said.0, said.1)
right_of systems effort history f tickets after over spent parts j (False run) h certified still whole lt said =
    subst (λ (z : List TransitionSystem). IsBadRun (system_at z j) run) (systems_are systems effort history f tickets over h) said
right_of systems effort history f tickets after over spent parts j (Unknown cause) h certified still whole lt said = elim said [
  | inl none ↦
      subst (IsCause systems effort history j) (sym none.1)
      (cause_is systems effort history f tickets after over parts j h certified (λ on. whole (still on)) lt none.0)
  | inr lacks ↦
      subst (IsCause systems effort history j) (sym lacks.2)
      (by_conflicts systems effort history f tickets over h after parts j certified (whole lacks.1) (inr lacks.0))
]

pub finished : (systems : List TransitionSystem) (effort : Effort) (history : List Entry) (f : FrameState) (tickets after : List ℕ) (over spent : Bool)
    (answers : List Answer) → IsExplored systems (limits_of effort) [] history f 0 (length tickets) over → (spent ≡ true → length after ≡ effort.conflicts) →
    length answers ≡ length f.systems → AreAnswered effort f over tickets after spent answers → IsDone systems effort history answers
finished systems effort history f tickets after over spent answers h whole many are =
    let long : length answers ≡ length systems = many ∙ ap (λ (z : List TransitionSystem). length z) (systems_are systems effort history f tickets over h) in
    record {
      lawful = h.lawful;
      each_one = long;
      right = λ j a at.
          (let lt : j < length answers = slice_get_within answers j a at in
          let said = are.each j lt in
          let same : said.0 ≡ a = some_answer said.0 a (sym said.1 ∙ at) in
          right_of systems effort history f tickets after over spent are.parts j a h are.paid are.still whole (subst (λ (n : ℕ). j < n) long lt)
          (subst (Answers effort f over are.parts spent j) same said.2));
    }

-- no system is answered yet
pub none_answered : (effort : Effort) (f : FrameState) (over : Bool) (tickets : List ℕ) → AreAnswered effort f over tickets tickets over []
none_answered effort f over tickets =
    record {
      parts = [];
      paid = record {
        each = All-nil (IsOfCertificate f);
        apart = λ i j d lt below. absurd (omega (arith, below));
        paid = log_none [] [] tickets tickets (All-nil (Contains [])) refl;
      };
      of_these = All-nil (λ (q : CertQuery). q.system < 0);
      still = λ on. on;
      each = λ j lt. absurd (omega (arith, lt));
    }

pub nothing_done : (effort : Effort) (systems : List TransitionSystem) → systems ≡ [] → IsDone systems effort [] []
nothing_done effort systems none =
    record {
      lawful = tt;
      each_one = ap (λ (z : List TransitionSystem). length z) (sym none);
      right = λ j a at. absurd (let lt : j < 0 = slice_get_within [] j a at in omega arith);
    }
