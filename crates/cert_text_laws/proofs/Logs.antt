-- The printed steps of a part.
use Rattle.std.proofs.Common.{◌≡◌, ℕ, ◌≤◌, List, [], ◌∷◌, ◌++◌, length, Some, refl, sym, subst, ap₂, arith, append_assoc, append-nil}
use Rattle.std.specs.List.{All}
use Rattle.std.proofs.lemmas.List.Elements.{All-head, All-tail}
use Rattle.clause_core.specs.declared.literal.Lit.{Lit}
use Rattle.clause_core.specs.Literals.{Within}
use Rattle.hinted_log.specs.Hints.{HintedLog}
use Rattle.cert_core.specs.declared.form.Form.{Form}
use Rattle.cert_core.specs.declared.form.Form.TheVariants.{Plain, Hinted}
use Rattle.cert_core.specs.declared.form.TheConstants.{MAX_VARS}
use Rattle.cert_core.specs.Blocks.{HintsFit, LogFits}
use Rattle.cert_text.specs.declared.token.Token.{Token}
use Rattle.cert_text.specs.declared.token.Token.TheVariants.{Mark, Step as StepWord}
use Rattle.cert_text.specs.Tokens.{greatest}
use Rattle.cert_text.specs.Lines.{Step, step_of}
use Rattle.cert_text.specs.Open.{no_steps, with_step}
use Rattle.cert_text.specs.Printed.{steps_text}
use Rattle.cert_text.specs.Reading.{ReadSoFar, added}
use Rattle.cert_text_laws.specs.Readable.{AreReadableHints}
use Rattle.cert_text_laws.proofs.Leading.{Leads, leads_line, leads_none, leads_then}
use Rattle.cert_text_laws.proofs.Steps.{NoneIfPlain, step_read, step_said, tokens_of_step}

plain_hints : (form : Form) (hs : List (List ℕ)) → HintsFit form hs → All (NoneIfPlain form) hs
plain_hints Plain hs h = λ k d within e. h k d within
plain_hints Hinted hs h = λ k d within e. absurd (let never : ⊥ = cc in never)

-- `state` is what was read with these steps of a part that is open, and a line with a step adds it
module _ (items : ℕ) (form : Form) (state : HintedLog → ReadSoFar) (adds : (log : HintedLog) (ts : List Token) (s : Step) → step_of form ts ≡ Some s → added items (state log) (Mark ∷ StepWord ∷ ts) ≡ Some (state (with_step log s))) where
  more_lead : (ss : List (List Lit)) (hs : List (List ℕ)) (done : HintedLog) → length hs ≡ length ss → All (Within MAX_VARS) ss → All (NoneIfPlain form) hs → All (λ l. All (λ h. h ≤ greatest) l) hs
      → Leads items (steps_text form ss hs) (state done) (state record { steps = done.steps ++ ss; hints = done.hints ++ hs })
  more_lead [] [] done same within fits small =
      subst (λ (log : HintedLog). Leads items [] (state done) (state log))
      (ap₂ (λ (x : List (List Lit)) (y : List (List ℕ)). record { steps = x; hints = y }) (sym (append-nil done.steps)) (sym (append-nil done.hints)))
      (leads_none items (state done))
  more_lead [] (h ∷ hs) done same within fits small = absurd (let never : ⊥ = omega (arith, same) in never)
  more_lead (x ∷ ss) [] done same within fits small = absurd (let never : ⊥ = omega (arith, same) in never)
  more_lead (x ∷ ss) (h ∷ hs) done same within fits small =
      let step : Step = record { lits = x; hints = h } in
      let more : HintedLog = with_step done step in
      let first : Within MAX_VARS x = All-head (Within MAX_VARS) x ss within in
      let fit : NoneIfPlain form h = All-head (NoneIfPlain form) h hs fits in
      let few = All-head (λ l. All (λ k. k ≤ greatest) l) h hs small in
      let rest = more_lead ss hs more (omega (arith, same)) (All-tail (Within MAX_VARS) x ss within) (All-tail (NoneIfPlain form) h hs fits) (All-tail (λ l. All (λ k. k ≤ greatest) l) h hs small) in
      subst (λ (log : HintedLog). Leads items (steps_text form (x ∷ ss) (h ∷ hs)) (state done) (state log))
      (ap₂ (λ (y : List (List Lit)) (z : List (List ℕ)). record { steps = y; hints = z }) (append_assoc done.steps (x ∷ []) ss) (append_assoc done.hints (h ∷ []) hs))
      (leads_then items _ (steps_text form ss hs) (state done) (state more) (state record { steps = more.steps ++ ss; hints = more.hints ++ hs })
      (leads_line items _ (Mark ∷ StepWord ∷ tokens_of_step form x h) (state done) (state more) (step_said form x h first few) refl (adds done (tokens_of_step form x h) step (step_read form x h first fit few)))
      rest)

  pub steps_lead : (log : HintedLog) → LogFits form log → AreReadableHints log → Leads items (steps_text form log.steps log.hints) (state no_steps) (state log)
  steps_lead log fits hints = more_lead log.steps log.hints no_steps hints.count fits.vars (plain_hints form log.hints fits.hints) hints.small
