-- What parts show can't be met.
use Rattle.std.proofs.Common.{◌≡◌, ℕ, ◌<◌, List, Option, None, Some, length, get_or, sym, subst, inl, inr}
use Rattle.std.proofs.lemmas.Option.{slice_get_within, get_or_from_slice_get}
use Rattle.clause_core.specs.declared.literal.Lit.{Lit}
use Rattle.clause_core.specs.Derivations.{Derives}
use Rattle.clause_core.proofs.Sound.{refutes}
use Rattle.rup_check.specs.Verdicts.{FailsFirstAt}
use Rattle.bit_clauses.specs.declared.deciding.Decided.{Decided}
use Rattle.hinted_log.specs.Hints.{HintedLog}
use Rattle.cert_core.specs.declared.form.Form.TheVariants.{Plain}
use Rattle.cert_core.specs.Certificates.{Shows}
use Rattle.sound_check.specs.Judgements.{IsSoundBlock, PartShows, part_of}
use Rattle.sound_check.specs.Questions.{CannotBeMet, AreNeverMet}

-- what derives the empty clause from clauses leaves no assignment that meets them
pub shown_cannot_be_met : (vars : ℕ) (cs : List (List Lit)) (part : Option HintedLog) → Shows Plain vars cs part → CannotBeMet cs
shown_cannot_be_met vars cs None s a all = absurd s
shown_cannot_be_met vars cs (Some log) s a all = refutes vars cs log.steps s a all

pub sound_never_met : (questions : List (Option Decided)) (parts : List (Option HintedLog)) → IsSoundBlock questions parts → AreNeverMet questions
sound_never_met questions parts sound item d is =
    let within : item < length questions = slice_get_within questions item (Some d) is in
    let same : get_or questions item None ≡ Some d = get_or_from_slice_get questions item (Some d) None is in
    let P : Option Decided → Type 0 = λ q. PartShows q (part_of parts item) in
    shown_cannot_be_met d.vars d.clauses (part_of parts item) (subst P same (sound item within))

-- a part that is there is judged by its steps
pub steps_show : (vars m : ℕ) (cs log : List (List Lit)) (part : Option HintedLog) (h : HintedLog) → part ≡ Some h → m ≡ vars → log ≡ h.steps → Derives m cs log → Shows Plain vars cs part
steps_show vars m cs log part h there same steps d =
    let P : Option HintedLog → Type 0 = Shows Plain vars cs in
    let Q : ℕ → Type 0 = λ n. Derives n cs h.steps in
    let R : List (List Lit) → Type 0 = Derives m cs in
    subst P (sym there) (subst Q same (subst R steps d))

pub steps_fail : (vars m : ℕ) (cs log : List (List Lit)) (part : Option HintedLog) (h : HintedLog) (step : ℕ) → part ≡ Some h → m ≡ vars → log ≡ h.steps →
    FailsFirstAt m cs log step → Shows Plain vars cs part → ⊥
steps_fail vars m cs log part h step there same steps fails shows =
    let P : Option HintedLog → Type 0 = Shows Plain vars cs in
    let Q : ℕ → Type 0 = λ n. Derives n cs h.steps in
    let R : List (List Lit) → Type 0 = Derives m cs in
    let d : Derives m cs log = subst R (sym steps) (subst Q (sym same) (subst P there shows)) in
    elim fails.1 [ inl h ↦ h.1 (d.0 step h.0) | inr h ↦ h.1 d.1 ]
