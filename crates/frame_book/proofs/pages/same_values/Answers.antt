use Rattle.std.proofs.Common.{◌≡◌, Bool, true, false, refl, Decides}
use mathlib.Core.Bool.{beq}
use Rattle.std.proofs.lemmas.Slice.Eq.{slice_eq-Decides}
use Rattle.frame_book.proofs.pages.same_values.Goals as goal

bool_eq : (a b : Bool) → Decides (beq a b) (a ≡ b)
bool_eq true true = ((λ e. refl), (λ e. refl))
bool_eq false false = ((λ e. refl), (λ e. refl))
bool_eq true false = ((λ e. absurd (cc)), (λ e. absurd (cc)))
bool_eq false true = ((λ e. absurd (cc)), (λ e. absurd (cc)))

pub returns : goal.returns
returns c = slice_eq-Decides bool_eq c.args.a.now c.args.b.now c.eq.result c.eq.ensures
