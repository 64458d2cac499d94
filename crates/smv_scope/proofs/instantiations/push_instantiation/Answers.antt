use Rattle.std.proofs.Common.{◌≡◌, if◌then◌else◌, List, [], ◌∷◌, ◌++◌, Some, None, ap, sym, ◌∙◌, append-nil}
use Rattle.std.specs.HashMap.{get_by_text}
use Rattle.std.specs.Option.{option_copied}
use Rattle.std.proofs.lemmas.List.{map-append}
use Rattle.std.proofs.lemmas.Result.{on_ok_weaker}
use Rattle.smv_scope.specs.declared.instance.Instance.{Instance}
use Rattle.smv_scope.specs.declared.instantiations.Instantiation.{Instantiation}
use Rattle.smv_scope.specs.Modules.{module_named}
use Rattle.smv_scope.specs.Instances.{instance_as, child, child_with}
use Rattle.smv_scope.specs.Instantiations.{instance_by, instances_by}
use Rattle.smv_scope.proofs.instantiations.push_instantiation.Goals as goal

pub returns-in_default-get : goal.returns-in_default-get
returns-in_default-get c = λ at.
    let modules = c.args._program.now.modules in
    let declared = child_with modules at c.args.v c.args.variable.now.declared in
    let direct : child modules at c.args.v c.args.variable.now ≡ declared = ap (λ b. if b then [] else declared) (sym c.is_array.ensures ∙ c.if-is_array.false) in
    let none : module_named modules c.in-Instance.name ≡ None = sym (c.requires c.in-Instance.name) ∙ ap (get_by_text c.args.names.now) (sym c.as_str.ensures) ∙ sym c.get.ensures.value ∙ ap option_copied c.in_default-get.is in
    sym (append-nil (instances_by at c.args.list.now))
    ∙ ap (λ (ys : List Instance). instances_by at c.args.list.now ++ ys) (ap (instance_as at c.args.v) (sym none) ∙ ap (child_with modules at c.args.v) (sym c.in-Instance.is) ∙ sym direct)

pub returns : goal.returns
returns c =
    let modules = c.args._program.now.modules in
    let x : Instantiation = record { variable = c.args.v; of_module = c.in-Some.of_module.now } in
    let found : module_named modules c.in-Instance.name ≡ Some c.in-Some.of_module.now = sym (c.requires c.in-Instance.name) ∙ ap (get_by_text c.args.names.now) (sym c.as_str.ensures) ∙ sym c.get.ensures.value ∙ ap option_copied c.in-Some.is in
    on_ok_weaker c.push.result
    (λ more at.
    let declared = child_with modules at c.args.v c.args.variable.now.declared in
    let direct : child modules at c.args.v c.args.variable.now ≡ declared = ap (λ b. if b then [] else declared) (sym c.is_array.ensures ∙ c.if-is_array.false) in
    ap (instances_by at) more ∙ map-append (instance_by at) c.args.list.now (x ∷ [])
    ∙ ap (λ (ys : List Instance). instances_by at c.args.list.now ++ ys) (sym (direct ∙ ap (child_with modules at c.args.v) c.in-Instance.is ∙ ap (instance_as at c.args.v) found)))
    c.push.ensures.ok
