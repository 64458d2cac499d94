use Rattle.std.proofs.Common.{◌≡◌, List, ℕ, ◌++◌, IfOk, codes, string_bytes, subst, sym, ap, ◌∙◌, append_assoc}
use Rattle.fault_texts.specs.Valuations.{with_name}
use Rattle.fault_texts.proofs.valuations.with_name.Goals as goal
use Rattle.fault_texts.proofs.valuations.with_name.Goals.{then-ahead+in_ok-text, else-ahead+in_ok-text-2}

next_told : (name value : List ℕ) → codes "next(" ++ (name ++ (codes ") = " ++ value)) ≡ codes "next(" ++ name ++ codes ") = " ++ value
next_told name value =
    sym (append_assoc (codes "next(") name (codes ") = " ++ value)) ∙ sym (append_assoc (codes "next(" ++ name) (codes ") = ") value)

now_told : (name value : List ℕ) → name ++ (codes " = " ++ value) ≡ name ++ codes " = " ++ value
now_told name value = sym (append_assoc name (codes " = ") value)

pub returns : goal.returns
returns c =
    let name = c.args.name.now in
    let value = c.args.value.now in
    let told : c.as_str.result.now ≡ with_name c.args.ahead name value = elim c.if-ahead.branch [
      | then-ahead+in_ok-text w ↦
          c.as_str.ensures.value ∙ ap string_bytes w.text-is ∙ w.in_ok-text.ensures.ok ∙ next_told name value ∙ ap (λ b. with_name b name value) (sym w.if-ahead.true)
      | else-ahead+in_ok-text-2 w ↦
          c.as_str.ensures.value ∙ ap string_bytes w.text-is ∙ w.in_ok-text-2.ensures.ok ∙ now_told name value ∙ ap (λ b. with_name b name value) (sym w.if-ahead.false)
    ] in
    subst (λ (x : List ℕ). IfOk c.from_str.result (λ t. t ≡ x)) told c.from_str.ensures
