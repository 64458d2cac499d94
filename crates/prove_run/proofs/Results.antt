-- Results of calls.
use Rattle.std.specs.Prelude.{OnOk, Result, Ok, Err}

pub on_ok_both : {T E : Type 0} (r : Result T E) (P Q S : Type 0) → (P → Q → S) → OnOk r P → OnOk r Q → OnOk r S
on_ok_both (Ok x) P Q S f p q = f p q
on_ok_both (Err e) P Q S f p q = tt
