-- What is kept when a clause is added, or a part gets its steps.
use Rattle.std.proofs.Common.{ℕ, Bor, get_or, inl, inr, sym, subst, ◌≡◌, List, [], ◌∷◌, Option, None, Some, length, ◌∙◌, arith, length-append}
use Rattle.std.proofs.lemmas.List.{length-set, get_or_past}
use Rattle.std.proofs.lemmas.List.Elements.{All-push, All-set, All-get_or}
use Rattle.std.specs.List.{All}
use Rattle.std.proofs.lemmas.Bool.{cases_lt}
use Rattle.std.specs.Option.{IfSome, option_copied}
use Rattle.clause_core.specs.declared.literal.Lit.{Lit}
use Rattle.clause_core.specs.Literals.{Within}
use Rattle.hinted_log.specs.Hints.{HintedLog}
use Rattle.cert_core.specs.declared.form.Form.{Form}
use Rattle.cert_core.specs.declared.form.Form.TheVariants.{Plain, Hinted}
use Rattle.cert_core.specs.declared.form.Part.{Part}
use Rattle.cert_core.specs.declared.form.Part.TheVariants.{Shared, First, Kept, Safe}
use Rattle.cert_core.specs.declared.form.TheConstants.{MAX_VARS}
use Rattle.cert_core.specs.Blocks.{Block, with_clause, with_part, HasPlace, LogFits, PartFits, IsBlock}

fits_some : (form : Form) (log : HintedLog) → LogFits form log → PartFits form (Some log)
fits_some form log fits x e = let P : HintedLog → Type 0 = LogFits form in let same : log ≡ x = cc in subst P same fits

pub fits_none : (form : Form) → PartFits form None
fits_none form x e = cc

pub IsBlock-with_clause : (b : Block) (c : List Lit) → Within MAX_VARS c → IsBlock b → IsBlock (with_clause b c)
IsBlock-with_clause b c within h = record {
  counter = h.counter;
  vars = All-push (Within MAX_VARS) b.clauses c h.vars within;
  first_count = omega (arith, h.first_count, length-append b.first (None ∷ []), length-append b.clauses (c ∷ []));
  kept_count = omega (arith, h.kept_count, length-append b.kept (None ∷ []), length-append b.clauses (c ∷ []));
  plain = h.plain;
  shared = h.shared;
  first = All-push (PartFits b.form) b.first None h.first (fits_none b.form);
  kept = All-push (PartFits b.form) b.kept None h.kept (fits_none b.form);
  safe = h.safe;
}

plain_hinted : (form : Form) (A : Type 0) → form ≡ Hinted → form ≡ Plain → A
plain_hinted form A a b = cc

pub IsBlock-with_part : (b : Block) (part : Part) (log : HintedLog) → HasPlace b part → LogFits b.form log → IsBlock b → IsBlock (with_part b part log)
IsBlock-with_part b Shared log place fits h = record {
  counter = h.counter;
  vars = h.vars;
  first_count = h.first_count;
  kept_count = h.kept_count;
  plain = λ e. plain_hinted b.form _ place e;
  shared = fits_some b.form log fits;
  first = h.first;
  kept = h.kept;
  safe = h.safe;
}
IsBlock-with_part b (First k) log place fits h = record {
  counter = h.counter;
  vars = h.vars;
  first_count = length-set b.first k (Some log) ∙ h.first_count;
  kept_count = h.kept_count;
  plain = h.plain;
  shared = h.shared;
  first = All-set (PartFits b.form) b.first k (Some log) (fits_some b.form log fits) h.first;
  kept = h.kept;
  safe = h.safe;
}
IsBlock-with_part b (Kept k) log place fits h = record {
  counter = h.counter;
  vars = h.vars;
  first_count = h.first_count;
  kept_count = length-set b.kept k (Some log) ∙ h.kept_count;
  plain = h.plain;
  shared = h.shared;
  first = h.first;
  kept = All-set (PartFits b.form) b.kept k (Some log) (fits_some b.form log fits) h.kept;
  safe = h.safe;
}
IsBlock-with_part b Safe log place fits h = record {
  counter = h.counter;
  vars = h.vars;
  first_count = h.first_count;
  kept_count = h.kept_count;
  plain = h.plain;
  shared = h.shared;
  first = h.first;
  kept = h.kept;
  safe = fits_some b.form log fits;
}

-- the same of a block and a part that are known by equations
pub put_keeps : (b now : Block) (p q : Part) (log : HintedLog) → b ≡ now → p ≡ q → HasPlace now p → LogFits now.form log → IsBlock b → IsBlock (with_part b q log)
put_keeps b now p q log e f place fits h =
    let P : Block → Type 0 = λ w. HasPlace w p in
    let Q : Part → Type 0 = HasPlace b in
    let R : Block → Type 0 = λ w. LogFits w.form log in
    IsBlock-with_part b q log (subst Q f (subst P (sym e) place)) (subst R (sym e) fits) h

-- the steps of a part that is there
pub some_fits : (form : Form) (ref : Option (Bor HintedLog)) (part : Option HintedLog) → option_copied ref ≡ part → PartFits form part → IfSome ref (λ log. LogFits form log.now)
some_fits form None part e fits = tt
some_fits form (Some log) part e fits = fits log.now (sym e)

pub at_fits : (form : Form) (parts : List (Option HintedLog)) (k : ℕ) → All (PartFits form) parts → PartFits form (get_or parts k None)
at_fits form parts k all =
    elim (cases_lt k (length parts)) [
      | inl lt ↦ All-get_or (PartFits form) parts k None lt all
      | inr le ↦ let P : Option HintedLog → Type 0 = PartFits form in subst P (sym (get_or_past parts k None le)) (fits_none form)
    ]
