-- The rules one after another: what one of them says of a program is said of it.
use Rattle.std.proofs.Common.{◌≡◌, inl, inr, Option, None, Some, sym}
use Rattle.smv_tree.specs.declared.refusal.Refusal.{Refusal}
use Rattle.smv_tree.specs.declared.tree.Program.{Program}
use Rattle.smv_names.specs.Reached.{too_many_instances}
use Rattle.smv_names.specs.Rules.{module_rules_verdict, instance_names_verdict, names_verdict}
use Rattle.smv_types.specs.Kinds.{too_deep}
use Rattle.smv_types.specs.Rules.{kinds_refusal, types_verdict}

module _ (p : Program) (r : Refusal) where
  pub modules_refuse : module_rules_verdict p (Some r) → types_verdict p (Some r)
  unfolding names_verdict types_verdict
  modules_refuse h = inl (inl h)

  module _ (modules : module_rules_verdict p None) where
    pub instances_refuse : too_many_instances p ≡ Some r → types_verdict p (Some r)
    unfolding names_verdict types_verdict
    instances_refuse h = inl (inr (modules, inl (sym h)))

    module _ (few : too_many_instances p ≡ None) where
      pub names_refuse : instance_names_verdict p (Some r) → types_verdict p (Some r)
      unfolding names_verdict types_verdict
      names_refuse h = inl (inr (modules, inr (sym few, h)))

      module _ (named : instance_names_verdict p None) where
        pub depth_refuses : too_deep p ≡ Some r → types_verdict p (Some r)
        unfolding names_verdict types_verdict
        depth_refuses h = inr ((modules, (sym few, named)), inl (sym h))

        pub kinds_refuse : too_deep p ≡ None → kinds_refusal p ≡ Some r → types_verdict p (Some r)
        unfolding names_verdict types_verdict
        kinds_refuse shallow h = inr ((modules, (sym few, named)), inr (sym shallow, sym h))

-- none of them refuses it
pub none_refuses : (p : Program) → module_rules_verdict p None → too_many_instances p ≡ None → instance_names_verdict p None → too_deep p ≡ None → kinds_refusal p ≡ None
    → types_verdict p None
unfolding names_verdict types_verdict
none_refuses p modules few named shallow right = ((modules, (sym few, named)), (sym shallow, sym right))
