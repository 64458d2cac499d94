-- What was asked of the prover is right of the specifications.
use Rattle.std.proofs.Common.{◌≡◌, ◌∙◌, ℕ, zero, suc, ◌-◌, ◌<◌, ◌≤◌, Bool, true, false, if◌then◌else◌, List, [], ◌∷◌, ◌++◌, drop, length, map, length-append, reverse, refl, sym, subst, ap, arith, inl, inr}
use Rattle.std.specs.Prelude.{◌+◌, filter, slice_get, Option, None, Some}
use Rattle.std.proofs.lemmas.List.{length-map, length-reverse, reverse-append}
use Rattle.std.proofs.lemmas.Option.{slice_get_within}
use Rattle.cert_core.specs.Blocks.{Block}
use Rattle.clause_core.specs.Systems.{TransitionSystem}
use Rattle.command_words.specs.declared.command.Effort.{Effort}
use Rattle.smv_tree.specs.declared.tree.Program.{Program}
use Rattle.smv_resolve.specs.declared.item.Item.{Item}
use Rattle.smv_resolve.specs.declared.node.ExprNode.{ExprNode}
use Rattle.smv_resolve.specs.Items.{ResolvedItem, item_by}
use Rattle.smv_meaning.specs.Runs.{specifications_of}
use Rattle.frame_core.specs.FrameLaw.{system_at}
use Rattle.frame_history.specs.declared.entries.Entry.{Entry}
use Rattle.frame_history.specs.History.{IsLawful}
use Rattle.bit_system.specs.Building.{BitProgram, IsBuilt, system_of}
use Rattle.bit_conditions.specs.Asked.{is_invariant}
use Rattle.bit_system.specs.Standing.{StandsFor}
use Rattle.bit_system.proofs.Agreeing.{agreeing}
use Rattle.bit_states.proofs.Codes.{coding}
use Rattle.bit_system.specs.Claims.{NeverBadWithin}
use Rattle.bit_system.proofs.Reaching.{unbroken_within}
use Rattle.prove_run.specs.declared.answers.Answer.{Answer}
use Rattle.prove_run.specs.declared.answers.Answer.TheVariants.{True, False, Unknown}
use Rattle.prove_run.specs.declared.answers.Cause.{Cause}
use Rattle.prove_run.specs.declared.answers.Cause.TheVariants.{Conflicts, Frames}
use Rattle.prove_run.specs.Answers.{IsCause, IsDone, IsRight, first_of, limits_of}
use Rattle.smv_cli.specs.Records.{IsCertified, IsShownBy, SaysOfRuns, StandForAll, asked_with, invariants_of, prover_effort}
use Rattle.smv_cli.specs.Written.{AreAnswersOf, IsAnswered, IsPool, pooled}
use Rattle.smv_cli.proofs.Pooling.{all_told, as_many_systems, each_stands, first_told, from_here, none_told, some_told, systems_from_here}

module _ (p : Program) (spec : ResolvedItem) (sys : TransitionSystem) (stands : StandsFor p spec sys) where
  -- where no bad state is reached in so many steps, no run of so many steps breaks it
  cause_says : (effort : Effort) (systems : List TransitionSystem) (history : List Entry) (j : ℕ) → system_at systems j ≡ sys → (cause : Cause) → IsCause systems (prover_effort effort) history j cause → SaysOfRuns p spec cause
  cause_says effort systems history j same (Conflicts drawn budget) c = tt
  cause_says effort systems history j same (Frames n) c = unbroken_within p spec sys (agreeing p spec sys stands) (coding p stands.types) n (subst (λ (s : TransitionSystem). NeverBadWithin s n) same c.3)

module _ (p : Program) (effort : Effort) (spec : ResolvedItem) (systems : List TransitionSystem) (history : List Entry) (j : ℕ) (stand : StandForAll p systems (asked_with effort p spec))
    (asked : slice_get (asked_with effort p spec) j ≡ Some spec) (lawful : IsLawful (limits_of (prover_effort effort)) (first_of systems (prover_effort effort)) history) where
  answered : (a : Answer) → IsRight systems (prover_effort effort) history j a → IsAnswered p effort (system_at systems j) spec a
  answered (True cert) right = right
  answered (False run) right = right
  answered (Unknown cause) right = record {
    systems = systems;
    history = history;
    number = j;
    stand = stand;
    asked = asked;
    lawful = lawful;
    cause = right;
    runs = cause_says p spec (system_at systems j) (stand.stands j spec asked) effort systems history j refl cause right;
  }

-- ---- one specification alone

-- the last of one answer is the first
only_one : (answers rest : List Answer) (a : Answer) → length answers ≡ 1 → answers ≡ rest ++ a ∷ [] → slice_get answers 0 ≡ Some a
only_one answers [] a one e = ap (λ (xs : List Answer). slice_get xs 0) e
only_one answers (x ∷ xs) a one e = absurd (omega (arith, one, ap length e, length-append (x ∷ xs) (a ∷ [])))

abbrev alone : ResolvedItem → List ResolvedItem
alone spec = spec ∷ []

one_stands : (p : Program) (spec : ResolvedItem) (sys : TransitionSystem) → StandsFor p spec sys → StandForAll p (sys ∷ []) (alone spec)
one_stands p spec sys stands = record { each_one = refl; stands = each }
  where
    each : (j : ℕ) (x : ResolvedItem) → slice_get (alone spec) j ≡ Some x → StandsFor p x (system_at (sys ∷ []) j)
    each zero x e = let same : spec ≡ x = cc in subst (λ (y : ResolvedItem). StandsFor p y sys) same stands
    each (suc j) x e = cc

asked_alone : (p : Program) (effort : Effort) (spec : ResolvedItem) → effort.together ≡ false → alone spec ≡ asked_with effort p spec
asked_alone p effort spec e = ap (λ (b : Bool). if b then invariants_of p else alone spec) (sym e)

pub answered_alone : (p : Program) (effort : Effort) (spec : ResolvedItem) (sys : TransitionSystem) (history : List Entry) (answers : List Answer) (a : Answer) → effort.together ≡ false → StandsFor p spec sys
    → IsDone (sys ∷ []) (prover_effort effort) history answers → (rest : List Answer) → answers ≡ rest ++ a ∷ [] → IsAnswered p effort sys spec a
answered_alone p effort spec sys history answers a e stands done rest last =
    let there : slice_get answers 0 ≡ Some a = only_one answers rest a done.each_one last in
    let same = asked_alone p effort spec e in
    answered p effort spec (sys ∷ []) history 0 (subst (StandForAll p (sys ∷ [])) same (one_stands p spec sys stands))
    (subst (λ (xs : List ResolvedItem). slice_get xs 0 ≡ Some spec) same refl) done.lawful a (done.right 0 a there)

-- ---- all INVARSPECs at once

abbrev systems_in : Program → BitProgram → List TransitionSystem
systems_in p b = pooled (specifications_of p) b.systems

all_stand : (p : Program) (b : BitProgram) → IsBuilt p b → StandForAll p (systems_in p b) (invariants_of p)
all_stand p b built = record {
  each_one = as_many_systems (specifications_of p) b.systems built.each_one;
  stands = each_stands p (specifications_of p) b.systems built.each_one built.stands;
}

asked_together : (p : Program) (effort : Effort) (spec : ResolvedItem) → effort.together ≡ true → invariants_of p ≡ asked_with effort p spec
asked_together p effort spec e = ap (λ (b : Bool). if b then invariants_of p else alone spec) (sym e)

-- what was answered of all at once is right of each
pub all_answered : (p : Program) (effort : Effort) (b : BitProgram) (history : List Entry) (answers : List Answer) → effort.together ≡ true → IsBuilt p b
    → IsDone (systems_in p b) (prover_effort effort) history answers → AreAnswersOf p effort (specifications_of p) b.systems answers
all_answered p effort b history answers e built done =
    all_told p effort (specifications_of p) b.systems answers built.each_one (done.each_one ∙ as_many_systems (specifications_of p) b.systems built.each_one)
    (λ j spec a asked there. (
    let same = asked_together p effort spec e in
    answered p effort spec (systems_in p b) history j (subst (StandForAll p (systems_in p b)) same (all_stand p b built))
    (subst (λ (xs : List ResolvedItem). slice_get xs j ≡ Some spec) same asked) done.lawful a (done.right j a there)
    ))

-- there is a system for each specification
pub enough : (p : Program) (b : BitProgram) (specs : List Item) (nodes : List ExprNode) → IsBuilt p b → map (item_by nodes) specs ≡ specifications_of p → length specs ≤ length b.systems
enough p b specs nodes built listed = omega (arith, built.each_one, ap length listed, length-map specs (item_by nodes))

fits : (i n m : ℕ) → n ≡ m → i < m → i < n
fits i n m e h = omega (arith, e, h)

module _ (p : Program) (effort : Effort) (b : BitProgram) (i : ℕ) (spec : ResolvedItem) (built : IsBuilt p b) (numbered : slice_get (specifications_of p) i ≡ Some spec) where
  -- the answers that are left, from the next specification on
  left : (answers : List Answer) → IsPool p b.systems effort i answers → effort.together ≡ true
      → AreAnswersOf p effort (spec ∷ drop (i + 1) (specifications_of p)) (system_of b i ∷ drop (i + 1) b.systems) (reverse answers)
  left answers pool e =
      let inside = fits i (length b.systems) (length (specifications_of p)) built.each_one (slice_get_within (specifications_of p) i spec numbered) in
      subst (λ (ss : List TransitionSystem). AreAnswersOf p effort (spec ∷ drop (i + 1) (specifications_of p)) ss (reverse answers)) (systems_from_here b.systems i inside)
      (subst (λ (xs : List ResolvedItem). AreAnswersOf p effort xs (drop i b.systems) (reverse answers)) (from_here (specifications_of p) i spec numbered) (pool e))

  -- the last of them is that of an INVARSPEC, and the others are left
  pub last_answered : (answers rest : List Answer) (a : Answer) → is_invariant spec.kind ≡ true → effort.together ≡ true → IsPool p b.systems effort i answers → answers ≡ rest ++ a ∷ []
      → IsAnswered p effort (system_of b i) spec a × IsPool p b.systems effort (i + 1) rest
  last_answered answers rest a inv e pool last =
      let turned : reverse answers ≡ a ∷ reverse rest = ap reverse last ∙ reverse-append rest (a ∷ []) in
      let both = first_told p effort spec (system_of b i) (drop (i + 1) (specifications_of p)) (drop (i + 1) b.systems) a (reverse rest) inv
      (subst (AreAnswersOf p effort (spec ∷ drop (i + 1) (specifications_of p)) (system_of b i ∷ drop (i + 1) b.systems)) turned (left answers pool e)) in
      (both.0, λ _. both.1)

  -- as long as an INVARSPEC is left there is an answer
  pub some_left : (answers : List Answer) → is_invariant spec.kind ≡ true → effort.together ≡ true → IsPool p b.systems effort i answers → 0 < length answers
  some_left answers inv e pool =
      subst (λ n. 0 < n) (length-reverse answers)
      (some_told p effort spec (system_of b i) (drop (i + 1) (specifications_of p)) (drop (i + 1) b.systems) (reverse answers) inv (left answers pool e))

  -- of another specification none is taken
  pub kept_pool : (answers : List Answer) → is_invariant spec.kind ≡ false → IsPool p b.systems effort i answers → IsPool p b.systems effort (i + 1) answers
  kept_pool answers other pool = λ e.
      none_told p effort spec (system_of b i) (drop (i + 1) (specifications_of p)) (drop (i + 1) b.systems) (reverse answers) other (left answers pool e)

-- a certificate is shown where one is asked for
pub shown_if : (p : Program) (spec : ResolvedItem) (wanted : Bool) (cert : Block) → IsCertified p spec cert → IsShownBy wanted p spec (if wanted then Some cert else None)
shown_if p spec true cert h = h
shown_if p spec false cert h = tt

-- the number of a specification is that of a system
pub has_system : (p : Program) (b : BitProgram) (number : ℕ) (spec : ResolvedItem) → IsBuilt p b → slice_get (specifications_of p) (number - 1) ≡ Some spec → number - 1 < length b.systems
has_system p b number spec built h = let within = slice_get_within (specifications_of p) (number - 1) spec h in omega (arith, built.each_one, within)
