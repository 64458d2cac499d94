-- What is answered of the formula of an LTLSPEC.
use Rattle.std.proofs.Common.{◌≡◌, Bool, true, false, if◌then◌else◌, List, ◌++◌, ℕ, Some, None, subst, sym}
use Rattle.clause_core.specs.declared.literal.Lit.{Lit}
use Rattle.clause_core.specs.Systems.{Gives}
use Rattle.cert_core.specs.Blocks.{Block}
use Rattle.command_words.specs.declared.command.Effort.{Effort}
use Rattle.smv_tree.specs.declared.tree.Program.{Program}
use Rattle.smv_resolve.specs.Items.{ResolvedItem}
use Rattle.bit_clauses.proofs.Deciders.{all_right}
use Rattle.bit_formula.specs.Standing.{FormulaSystem, StandsForFormula}
use Rattle.bit_lassos.specs.Claims.{IsUnviolatedWithin}
use Rattle.ltl_lassos.specs.Violating.{NeverViolatedWithin}
use Rattle.ltl_meaning.specs.Ltl.{past_height}
use Rattle.ltl_meaning.specs.Unfolded.{unfolded}
use Rattle.prove_ltl.specs.declared.answers.LtlCause.{LtlCause}
use Rattle.prove_ltl.specs.declared.answers.LtlCause.TheVariants.{Conflicts, Bound, Frames}
use Rattle.prove_ltl.specs.declared.effort.LtlEffort.{LtlEffort}
use Rattle.prove_ltl.specs.LtlAnswers.{IsLtlCause, LtlLog}
use Rattle.smv_cli.specs.Records.{IsFormulaCertified, IsFormulaShownBy, SaysOfLassos}

-- a certificate is shown where one is asked for
pub formula_shown_if : (p : Program) (effort : Effort) (spec : ResolvedItem) (wanted : Bool) (cert : Block) → IsFormulaCertified p effort spec cert
    → IsFormulaShownBy wanted p effort spec (if wanted then Some cert else None)
formula_shown_if p effort spec true cert h = h
formula_shown_if p effort spec false cert h = tt

gives_right : (n : ℕ) (xs ys : List Lit) (defs : List (List Lit)) → Gives n (xs ++ ys) defs → Gives n ys defs
gives_right n xs ys defs g = record {
  extends = g.extends;
  one_way = λ a b same left right. (let both = g.one_way a b same left right in (all_right (λ (l : Lit). a l.var ≡ b l.var) xs ys both.0, both.1));
}

-- what a cause says of lassos over bits it says of those of the program
pub lassos_say : (p : Program) (spec : ResolvedItem) (r : FormulaSystem) (effort : LtlEffort) (log : LtlLog)
    → ((h bound : ℕ) → NeverViolatedWithin r.system (unfolded r.formula) r.atoms h bound → IsUnviolatedWithin p spec h bound)
    → (cause : LtlCause) → IsLtlCause r.system (unfolded r.formula) r.atoms effort log cause → SaysOfLassos p spec (past_height (unfolded r.formula)) cause
lassos_say p spec r effort log within (Conflicts drawn budget) c = tt
lassos_say p spec r effort log within (Bound bound counter) c = within (past_height (unfolded r.formula)) bound c.2
lassos_say p spec r effort log within (Frames bound frames counter) c = within (past_height (unfolded r.formula)) bound c.3

-- the literals of the atoms are given
pub atoms_given : (p : Program) (spec : ResolvedItem) (r : FormulaSystem) → StandsForFormula p spec r → Gives r.system.state_bits r.atoms r.system.defs
atoms_given p spec r stands = subst (λ n. Gives n r.atoms r.system.defs) (sym stands.bits) (gives_right _ r.system.fair r.atoms r.system.defs stands.defs)
