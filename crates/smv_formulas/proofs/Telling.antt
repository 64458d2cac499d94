-- What formulas tell, by their parts.
use Rattle.std.proofs.Common.{◌≡◌, ◌∙◌, ℕ, ◌≤◌, Bool, false, List, [], ◌++◌, length, slice_get, Some, sym, ap, subst, append_assoc, append-nil}
use Rattle.std.proofs.lemmas.List.{take_all}
use Rattle.std.proofs.lemmas.Option.{get_or_from_slice_get, slice_get-map, slice_get_within}
use Rattle.std.specs.Prelude.{◌↔◌}
use Rattle.std.specs.Option.{option_map}
use Rattle.smv_tree.specs.declared.tree.Program.{Program}
use Rattle.smv_scope.proofs.Indexing.{slice_get-append_here}
use Rattle.smv_resolve.specs.declared.node.ExprNode.{ExprNode}
use Rattle.smv_resolve.specs.Resolved.{Resolved, part_at, part_of}
use Rattle.smv_meaning.specs.Lassos.{Lasso, IsTrueIn}
use Rattle.ltl_meaning.specs.declared.node.UnaryOperator.{UnaryOperator}
use Rattle.ltl_meaning.specs.declared.node.BinaryOperator.{BinaryOperator}
use Rattle.ltl_meaning.specs.declared.node.BoundedOperator.{BoundedOperator}
use Rattle.ltl_meaning.specs.declared.node.Window.{Window}
use Rattle.ltl_meaning.specs.declared.node.FormulaNode.TheOpen.{FormulaNode-F}
use Rattle.ltl_meaning.specs.declared.node.FormulaNode.TheFolds.{fold-roll-FormulaNode}
use Rattle.ltl_meaning.specs.declared.node.FormulaNode.TheVariants.{Atom, Constant, rolls-Atom, rolls-Constant}
use Rattle.ltl_meaning.specs.Temporal.{Temporal, formula_at, formula_of}
use Rattle.ltl_meaning.specs.Truth.{Moment, IsTrueAt, bounded_truth, unary_truth, binary_truth}
use Rattle.ltl_meaning.proofs.Alike.{AreAlike, unary_alike, bounded_alike, binary_alike}
use Rattle.smv_formulas.specs.Says.{Says, Tells, atom_parts, atoms_on}
use Rattle.smv_formulas.specs.Forms.{within_holds}
use Rattle.smv_formulas.specs.Trees.{Grows, IsAtom, IsWithin, TellsOn, SaysOn, part_below}
use Rattle.smv_formulas.proofs.Operators.{both, chained}

abbrev pub Held : Type 1
Held = Program → Lasso → Moment

-- the formulas of leaves

pub formula_of-Constant : (b : Bool) → formula_of (Constant b) ≡ Temporal.Constant b
formula_of-Constant b = ap formula_of (sym (rolls-Constant b)) ∙ fold-roll-FormulaNode Temporal formula_at (FormulaNode-F.Constant b)

pub formula_of-Atom : (a : ℕ) → formula_of (Atom a) ≡ Temporal.Atom a
formula_of-Atom a = ap formula_of (sym (rolls-Atom a)) ∙ fold-roll-FormulaNode Temporal formula_at (FormulaNode-F.Atom a)

-- atoms grow

pub grown_self : (old : List ℕ) → Grows old old
grown_self old = record { more = []; is = sym (append-nil old) }

pub grown_twice : (a b c : List ℕ) → Grows a b → Grows b c → Grows a c
grown_twice a b c g h =
    record { more = g.more ++ h.more; is = h.is ∙ ap (λ (l : List ℕ). l ++ h.more) g.is ∙ append_assoc a g.more h.more }

-- with more behind them, atoms are older ones with more behind
pub more_behind : (old new more : List ℕ) (g : Grows old new) → new ++ more ≡ old ++ (g.more ++ more)
more_behind old new more g = ap (λ (l : List ℕ). l ++ more) g.is ∙ append_assoc old g.more more

module _ (nodes : List ExprNode) where
  pub tells_on_more : (old new : List ℕ) (f : Temporal) (H : Held) → Grows old new → TellsOn nodes old f H → TellsOn nodes new f H
  tells_on_more old new f H g told p more =
      subst (λ (l : List ℕ). Tells p (atom_parts nodes l) f (H p)) (sym (more_behind old new more g)) (told p (g.more ++ more))

  pub tells_alike : (atoms : List ℕ) (f : Temporal) (H K : Held) → ((p : Program) (w : Lasso) → AreAlike (H p w) (K p w))
      → TellsOn nodes atoms f H → TellsOn nodes atoms f K
  tells_alike atoms f H K e told p more = record { told = λ w t. chained _ _ _ ((told p more).told w) (e p w) t }

  -- nothing
  pub tells_never : (atoms : List ℕ) (H : Held) → ((p : Program) (w : Lasso) (t : ℕ) → H p w t → ⊥) → TellsOn nodes atoms (Temporal.Constant false) H
  tells_never atoms H never p more = record { told = λ w t. (λ x. absurd (cc), λ x. absurd (never p w t x)) }

  -- an atom
  part_here : (atoms more : List ℕ) (a k : ℕ) → slice_get atoms a ≡ Some k → part_at (atom_parts nodes (atoms ++ more)) a ≡ part_of nodes k
  part_here atoms more a k here =
      get_or_from_slice_get (atom_parts nodes (atoms ++ more)) a (part_of nodes k) Resolved.Stuck
      (slice_get-map (part_of nodes) (atoms ++ more) a
      ∙ ap (option_map (part_of nodes)) (slice_get-append_here atoms more a (slice_get_within atoms a k here) ∙ here))

  pub tells_atom : (atoms : List ℕ) (k : ℕ) (f : Temporal) → IsAtom atoms k f → TellsOn nodes atoms f (λ p w. IsTrueIn p w (part_of nodes k))
  tells_atom atoms k f atom p more = record {
    told = λ w t.
        subst (λ (g : Temporal). IsTrueAt (atoms_on p w (atom_parts nodes (atoms ++ more))) g t ↔ IsTrueIn p w (part_of nodes k) t) (sym atom.is)
        (subst (λ (r : Resolved). IsTrueIn p w (part_at (atom_parts nodes (atoms ++ more)) atom.number) t ↔ IsTrueIn p w r t)
        (part_here atoms more atom.number k atom.here) (both _));
  }

  -- operators

  pub tells_unary : (atoms : List ℕ) (o : UnaryOperator) (f : Temporal) (H : Held) → TellsOn nodes atoms f H
      → TellsOn nodes atoms (Temporal.Unary o f) (λ p w. unary_truth o (H p w))
  tells_unary atoms o f H told p more = record { told = λ w t. unary_alike _ _ ((told p more).told w) o t }

  within_is : (o : BoundedOperator) (window : Window) (P : Moment) → AreAlike (bounded_truth o window P) (within_holds o window.low window.high P)
  within_is BoundedOperator.Finally window P t = both _
  within_is BoundedOperator.Globally window P t = both _
  within_is BoundedOperator.Once window P t = both _
  within_is BoundedOperator.Historically window P t = both _

  pub tells_within : (atoms : List ℕ) (o : BoundedOperator) (low high : ℕ) (f g : Temporal) (H : Held) → IsWithin o low high f g → TellsOn nodes atoms f H
      → TellsOn nodes atoms g (λ p w. within_holds o low high (H p w))
  tells_within atoms o low high f g H is told p more = record {
    told = λ w t.
        subst (λ (h : Temporal). IsTrueAt (atoms_on p w (atom_parts nodes (atoms ++ more))) h t ↔ within_holds o low high (H p w) t) (sym is.is)
        (subst (λ (n : ℕ). bounded_truth o is.window (IsTrueAt (atoms_on p w (atom_parts nodes (atoms ++ more))) f) t ↔ within_holds o n high (H p w) t) is.from
        (subst (λ (n : ℕ). bounded_truth o is.window (IsTrueAt (atoms_on p w (atom_parts nodes (atoms ++ more))) f) t ↔ within_holds o is.window.low n (H p w) t) is.to
        (chained _ _ _ (bounded_alike _ _ ((told p more).told w) o is.window) (within_is o is.window (H p w)) t)));
  }

  pub tells_binary : (atoms : List ℕ) (o : BinaryOperator) (f g : Temporal) (H K : Held) → TellsOn nodes atoms f H → TellsOn nodes atoms g K
      → TellsOn nodes atoms (Temporal.Binary o f g) (λ p w. binary_truth o (H p w) (K p w))
  tells_binary atoms o f g H K left right p more =
      record { told = λ w t. binary_alike _ _ ((left p more).told w) _ _ ((right p more).told w) o t }

  -- all parts
  pub says_whole : (p : Program) (atoms list : List ℕ) (limit v : ℕ) (f g : Temporal) → length nodes ≤ limit → list ≡ atoms → g ≡ f
      → SaysOn nodes atoms f (part_below nodes limit v) → Says p (atom_parts nodes list) g (part_of nodes v)
  says_whole p atoms list limit v f g all same is says =
      subst (λ (ns : List ExprNode). Says p (atom_parts nodes list) g (part_of ns v)) (take_all limit nodes all)
      (subst (λ (h : Temporal). Says p (atom_parts nodes list) h (part_below nodes limit v)) (sym is)
      (subst (λ (l : List ℕ). Says p (atom_parts nodes l) f (part_below nodes limit v)) (append-nil atoms ∙ sym same) (says p [])))
