-- What is right to say is one thing.
use Rattle.std.proofs.Common.{◌≡◌, inl, inr, ℕ, ◌+◌, List, [], ◌∷◌, Option, Some, None, refl, sym, ap, ◌∙◌}
use Rattle.smv_tree.specs.declared.place.Place.{Place}
use Rattle.smv_tree.specs.declared.refusal.Refusal.{Refusal}
use Rattle.smv_tree.specs.declared.tree.Program.{Program}
use Rattle.smv_tree.specs.declared.tree.Module.{Module}
use Rattle.smv_tree.specs.declared.tree.Section.{Section}
use Rattle.smv_tree.specs.declared.tree.Section.TheVariants as section
use Rattle.smv_tree.specs.declared.tree.Variable.{Variable}
use Rattle.smv_tree.specs.declared.tree.TypeExpr.{TypeExpr}
use Rattle.smv_tree.specs.declared.tree.TypeExpr.TheVariants as written
use Rattle.smv_tree.specs.declared.tree.Expr.{Expr}
use Rattle.smv_names.specs.declared.reached.UseRule.{UseRule}
use Rattle.smv_names.specs.declared.reached.UseRule.TheVariants as asked
use Rattle.smv_verdicts.specs.Verdicts.{Verdict, Exactly, Claim, Then, Each}
use Rattle.smv_names.specs.Declarations.{declared_refusal}
use Rattle.smv_names.specs.Reached.{named_type, use_verdict, section_verdict, modules_verdict, uses_verdict}
use Rattle.smv_names.specs.Defined.{Entry, entry_verdict, entries_verdict, entry_graph, entries_of, definitions_verdict}
use Rattle.smv_names.specs.Named.{unknown_names}
use Rattle.smv_names.specs.Reached.{too_many_instances}
use Rattle.smv_names.specs.Rules.{module_rules_verdict, instance_names_verdict, names_verdict}

-- at most one thing is right
abbrev pub One : Verdict → Type 0
One V = (r s : Option Refusal) → V r → V s → r ≡ s

pub one_known : (known : Option Refusal) → One (Exactly known)
one_known known r s a b = a ∙ sym b

one_claim : (P : Type 0) (known : Refusal) → One (Claim P known)
one_claim P known None None a b = refl
one_claim P known None (Some s) a b = absurd (a b.0)
one_claim P known (Some r) None a b = absurd (b a.0)
one_claim P known (Some r) (Some s) a b = ap Some (a.1 ∙ sym b.1)

unlike : (r : Refusal) (s : Option Refusal) → s ≡ None → s ≡ Some r → ⊥
unlike r s a b = let f : None ≡ Some r = sym a ∙ b in cc

pub one_then : (V W : Verdict) → One V → One W → One (Then V W)
one_then V W v w None None a b = refl
one_then V W v w None (Some s) a b = elim b [ inl h ↦ v None (Some s) a.0 h | inr h ↦ w None (Some s) a.1 h.1 ]
one_then V W v w (Some r) None a b = elim a [ inl h ↦ v (Some r) None h b.0 | inr h ↦ w (Some r) None h.1 b.1 ]
one_then V W v w (Some r) (Some s) a b =
    elim a [
      | inl h ↦ elim b [ inl k ↦ v (Some r) (Some s) h k | inr k ↦ absurd (unlike r (Some r) (v (Some r) None h k.0) refl) ]
      | inr h ↦ elim b [ inl k ↦ absurd (unlike s (Some s) (v (Some s) None k h.0) refl) | inr k ↦ w (Some r) (Some s) h.1 k.1 ]
    ]

one_each : {A : Type 0} (V : A → Verdict) → ((x : A) → One (V x)) → (xs : List A) → One (Each V xs)
one_each V one [] r s a b = a ∙ sym b
one_each V one (x ∷ xs) r s a b = one_then (V x) (Each V xs) (one x) (one_each V one xs) r s a b

one_named : (which : UseRule) (p : Program) (n : ℕ) (v : Variable) (place : Place) (name : List ℕ) (given : List Expr) → One (named_type which p n v place name given)
one_named asked.Unknown p n v place name given = one_claim _ _
one_named asked.Cyclic p n v place name given = one_claim _ _
one_named asked.Miscounted p n v place name given = one_claim _ _

one_use : (which : UseRule) (p : Program) (n : ℕ) (v : Variable) (t : TypeExpr) → One (use_verdict which p n v t)
one_use which p n v (written.Instance place name given) r s a b = one_named which p n v place name given r s a b
one_use which p n v other r s a b = a ∙ sym b

one_section : (which : UseRule) (p : Program) (n : ℕ) (x : Section) → One (section_verdict which p n x)
one_section which p n (section.Variables kind vs) r s a b = one_each (λ (v : Variable). use_verdict which p n v v.declared) (λ v. one_use which p n v v.declared) vs r s a b
one_section which p n other r s a b = a ∙ sym b

one_modules : (which : UseRule) (p : Program) (n : ℕ) (ms : List Module) → One (modules_verdict which p n ms)
one_modules which p n [] r s a b = a ∙ sym b
one_modules which p n (m ∷ ms) r s a b =
    one_then (Each (section_verdict which p n) m.sections) (modules_verdict which p (n + 1) ms)
    (one_each (section_verdict which p n) (one_section which p n) m.sections)
    (one_modules which p (n + 1) ms) r s a b

one_entry : (g : List (List ℕ)) (n : ℕ) (x : Entry) → One (entry_verdict g n x)
one_entry g n (Entry.Given at k owner e) r s a b = a ∙ sym b
one_entry g n (Entry.Defined at k d) r s a b = one_claim _ _ r s a b

one_entries : (g : List (List ℕ)) (n : ℕ) (xs : List Entry) → One (entries_verdict g n xs)
one_entries g n [] r s a b = a ∙ sym b
one_entries g n (x ∷ xs) r s a b = one_then (entry_verdict g n x) (entries_verdict g (n + 1) xs) (one_entry g n x) (one_entries g (n + 1) xs) r s a b

one_uses : (which : UseRule) (p : Program) → One (uses_verdict which p)
one_uses which p = one_modules which p 0 p.modules

-- of the modules of a program one thing is right to say
modules_judged_once : (p : Program) → One (module_rules_verdict p)
unfolding module_rules_verdict
modules_judged_once p =
    one_then (Exactly (declared_refusal p)) _ (one_known (declared_refusal p))
    (one_then (uses_verdict asked.Unknown p) _ (one_uses asked.Unknown p)
    (one_then (uses_verdict asked.Cyclic p) _ (one_uses asked.Cyclic p)
    (one_uses asked.Miscounted p)))

-- and of the names of its instances
instances_judged_once : (p : Program) → One (instance_names_verdict p)
unfolding instance_names_verdict
instances_judged_once p =
    one_then (Exactly (unknown_names p)) (definitions_verdict p) (one_known (unknown_names p))
    (one_entries (entry_graph p) 0 (entries_of p))

-- of the names of a program one thing is right to say
pub names_judged_once : (p : Program) → One (names_verdict p)
unfolding names_verdict
names_judged_once p =
    one_then (module_rules_verdict p) _ (modules_judged_once p)
    (one_then (Exactly (too_many_instances p)) (instance_names_verdict p) (one_known (too_many_instances p))
    (instances_judged_once p))
