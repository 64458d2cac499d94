-- The lines of traces as `check` prints them, without their line feeds.
use Rattle.std.specs.Prelude.{◌≡◌, ℕ, ◌^◌, nat_lt, Bool, true, ◌&&◌, List, [], ◌∷◌, ◌++◌, codes, Some}
use Rattle.std.specs.Fmt.{decimal}
use Rattle.std.specs.List.{list_all}
use Rattle.trace_lines.specs.declared.entry.Binding.{Binding}
use Rattle.trace_lines.specs.declared.entry.TraceLine.{TraceLine}
use Rattle.trace_lines.specs.declared.entry.TraceLine.TheVariants as entry
use Rattle.trace_lines.specs.Lines.{entry_read, is_name, is_value}

abbrev pub binding_text : Binding → List ℕ
binding_text b = b.name ++ codes " = " ++ b.value

-- each behind a space, with a comma between
abbrev pub bindings_text : List Binding → List ℕ
bindings_text [] = []
bindings_text (b ∷ []) = codes " " ++ binding_text b
bindings_text (b ∷ c ∷ bs) = codes " " ++ binding_text b ++ codes "," ++ bindings_text (c ∷ bs)

abbrev pub entry_text : TraceLine → List ℕ
entry_text (entry.Spec n) = codes "--@ spec " ++ decimal n
entry_text (entry.State n row) = codes "--@ state " ++ decimal n ++ codes ":" ++ bindings_text row
entry_text (entry.Input n row) = codes "--@ input " ++ decimal n ++ codes ":" ++ bindings_text row
entry_text (entry.Loop n) = codes "--@ loop " ++ decimal n

-- names, values and numbers are such as may stand in a line

abbrev pub is_binding : Binding → Bool
is_binding b = is_name b.name && is_value b.value

abbrev pub in_form : TraceLine → Bool
in_form (entry.Spec n) = nat_lt n (2 ^ 64)
in_form (entry.State n row) = nat_lt n (2 ^ 64) && list_all is_binding row
in_form (entry.Input n row) = nat_lt n (2 ^ 64) && list_all is_binding row
in_form (entry.Loop n) = nat_lt n (2 ^ 64)

-- A line says this just where it is printed so.
pub record SaysExactly (line : List ℕ) (e : TraceLine) : Type 0 where
  pub read : in_form e ≡ true → line ≡ entry_text e → entry_read line ≡ Some e
  pub printed : entry_read line ≡ Some e → (in_form e ≡ true) × (line ≡ entry_text e)
