-- The items that were answered so far.
use Rattle.std.proofs.Common.{◌≡◌, ℕ, ◌+◌, ◌<◌, ◌≤◌, Bool, List, Option, None, Some, Result, Ok, Err, length, get_or, set, replicate, sym, subst, ap, ◌∙◌, inl, inr, arith, below_more}
use Rattle.std.specs.Prelude.{slice_get, MatchResult}
use Rattle.std.specs.Result.{IsErr}
use Rattle.std.proofs.lemmas.Bool.{cases_lt}
use Rattle.std.proofs.lemmas.List.{length-set, length-replicate, get_or-replicate, get_or-set_same, get_or-set_other, get_or_past}
use Rattle.std.proofs.lemmas.Option.{slice_get-get_or, slice_get_within, get_or_from_slice_get}
use Rattle.bit_clauses.specs.declared.deciding.Decided.{Decided}
use Rattle.hinted_log.specs.Hints.{HintedLog}
use Rattle.sound_check.specs.Judgements.{IsSoundBlock, PartShows, part_of}
use Rattle.sound_check.specs.Questions.{AreNeverMetBelow, CannotBeMet, question_of}
use Rattle.sound_check.proofs.Meeting.{shown_cannot_be_met}
use Rattle.fault_search.specs.Answering.{AreAnsweredBelow, AreFree, IsFaulty, IsMetBy, PartAnswers}

-- the first n items have the parts that answer them, and the others have none
pub record AnsweredBelow (questions : List (Option Decided)) (parts : List (Option HintedLog)) (n : ℕ) : Type 0 where
  pub count : length parts ≡ length questions
  pub each : AreAnsweredBelow questions parts n
  pub rest : (item : ℕ) → n ≤ item → part_of parts item ≡ None

none_of : (count item : ℕ) → part_of (replicate count None) item ≡ None
none_of count item =
    let none : Option HintedLog = None in
    elim (cases_lt item count) [
      | inl lt ↦ get_or-replicate count item none none lt
      | inr le ↦ get_or_past (replicate count none) item none (omega (arith, length-replicate count none))
    ]

pub answered_none : (questions : List (Option Decided)) (parts : List (Option HintedLog)) → parts ≡ replicate (length questions) None → AnsweredBelow questions parts 0
answered_none questions parts e =
    let P : List (Option HintedLog) → Type 0 = λ w. AnsweredBelow questions w 0 in
    let none : Option HintedLog = None in
    subst P (sym e) (record {
      count = length-replicate (length questions) none;
      each = λ item lt. absurd (omega (arith, lt));
      rest = λ item le. none_of (length questions) item;
    })

-- one item more
pub answered_more : (questions : List (Option Decided)) (old new : List (Option HintedLog)) (n : ℕ) (q : Option Decided) (part : Option HintedLog) → slice_get questions n ≡ Some q →
    new ≡ set old n part → PartAnswers q part → AnsweredBelow questions old n → AnsweredBelow questions new (n + 1)
answered_more questions old new n q part here e answers h =
    let P : List (Option HintedLog) → Type 0 = λ w. AnsweredBelow questions w (n + 1) in
    let lt : n < length old = omega (arith, slice_get_within questions n q here, h.count) in
    let same : question_of questions n ≡ q = get_or_from_slice_get questions n q None here in
    let Q : Option Decided → Type 0 = λ w. PartAnswers w part in
    let R : Option HintedLog → Type 0 = PartAnswers (question_of questions n) in
    let now = subst R (sym (get_or-set_same old n part None lt)) (subst Q (sym same) answers) in
    subst P (sym e) (record {
      count = length-set old n part ∙ h.count;
      each = below_more (λ item. PartAnswers (question_of questions item) (part_of (set old n part) item)) n
          (λ item below. (let S : Option HintedLog → Type 0 = PartAnswers (question_of questions item) in
          subst S (sym (get_or-set_other old n item part None (omega (arith, below)))) (h.each item below))) now;
      rest = λ item le. get_or-set_other old n item part None (omega (arith, le)) ∙ h.rest item (omega (arith, le));
    })

-- all items
pub answered_all : (questions : List (Option Decided)) (parts : List (Option HintedLog)) (n : ℕ) → n ≡ length questions → AnsweredBelow questions parts n → AreFree questions parts
answered_all questions parts n e h =
    let P : ℕ → Type 0 = AreAnsweredBelow questions parts in
    record { count = h.count; each = subst P e h.each }

-- an item that was answered can't be met
answer_refutes : (q : Option Decided) (part : Option HintedLog) (d : Decided) → q ≡ Some d → PartAnswers q part → CannotBeMet d.clauses
answer_refutes q part d e answers =
    let P : Option Decided → Type 0 = λ w. PartAnswers w part in
    shown_cannot_be_met d.vars d.clauses part (subst P e answers)

pub answered_never : (questions : List (Option Decided)) (parts : List (Option HintedLog)) (n : ℕ) → AreAnsweredBelow questions parts n →
    AreNeverMetBelow questions n
answered_never questions parts n each item d below is =
    answer_refutes (question_of questions item) (part_of parts item) d (get_or_from_slice_get questions item (Some d) None is) (each item below)

-- what answers shows
pub answer_shows : (q : Option Decided) (part : Option HintedLog) → PartAnswers q part → PartShows q part
answer_shows None part answers = tt
answer_shows (Some d) part answers = answers

pub free_sound : (questions : List (Option Decided)) (parts : List (Option HintedLog)) → AreFree questions parts → IsSoundBlock questions parts
free_sound questions parts free item below = answer_shows (question_of questions item) (part_of parts item) (free.each item below)

-- the question about an item
pub question_at : (questions : List (Option Decided)) (n : ℕ) (q : Option Decided) → n < length questions → q ≡ get_or questions n q → slice_get questions n ≡ Some q
question_at questions n q lt is = slice_get-get_or questions n q lt ∙ ap (λ (w : Option Decided). Some w) (sym is)

-- an item that is met
pub faulty_at : (questions : List (Option Decided)) (n : ℕ) (q : Option Decided) (model : List Bool) → slice_get questions n ≡ Some q → IsMetBy q model → AreNeverMetBelow questions n →
    IsFaulty questions n model
faulty_at questions n None model here met never = absurd met
faulty_at questions n (Some d) model here met never = record { question = d; asked = here; long = met.0; met = met.1; before = never }

-- an error is handed on
pub on_error : {T E : Type 0} (r : Result T E) (P : T → Type 0) (Q : Type 0) → IsErr r → Q → MatchResult r P (λ e. Q)
on_error (Ok x) P Q is q = absurd (let clash : ⊥ = cc in clash)
on_error (Err e) P Q is q = q
