-- One more element is written.
use Rattle.std.proofs.Common.{◌≡◌, ℕ, ◌+◌, ◌<◌, List, [], ◌∷◌, ◌++◌, length, get_or, take, sym, ◌∙◌, ap, codes, append_assoc, append-nil}
use Rattle.std.proofs.lemmas.List.{take_more}
use Rattle.smv_value.specs.Texts.{value_text}
use Rattle.value_types.specs.declared.value_type.Element.{Element}
use Rattle.value_types.specs.Types.{element_value}
use Rattle.value_types.specs.Shown.{more_elements}

pushed : (names : List (List ℕ)) (es : List Element) (e : Element) → more_elements names (es ++ e ∷ []) ≡ more_elements names es ++ (codes ", " ++ value_text names (element_value e))
pushed names [] e = append-nil (codes ", " ++ value_text names (element_value e))
pushed names (x ∷ es) e =
    ap (λ (l : List ℕ). codes ", " ++ value_text names (element_value x) ++ l) (pushed names es e)
    ∙ sym (append_assoc (codes ", " ++ value_text names (element_value x)) (more_elements names es) (codes ", " ++ value_text names (element_value e)))

pub elements_more : (names : List (List ℕ)) (es : List Element) (i : ℕ) (d : Element) → i < length es →
    more_elements names (take i es) ++ (codes ", " ++ value_text names (element_value (get_or es i d))) ≡ more_elements names (take (i + 1) es)
elements_more names es i d h = sym (ap (more_elements names) (take_more es i d h) ∙ pushed names (take i es) (get_or es i d))
