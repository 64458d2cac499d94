-- What the set has after an insertion, by the bytes of a name.
use Rattle.std.proofs.Common.{◌≡◌, ◌∙◌, ◌||◌, ap, Bool, true, false, List, ℕ, bytes_eq, cond, refl, Bor}
use Rattle.smv_names.specs.Lent.{knows}
use Rattle.smv_names.proofs.known.add_name.Goals as goal

either : (a b : Bool) → cond a true b ≡ (a || b)
either true b = refl
either false b = refl

pub returns-clause-known : goal.returns-clause-known
returns-clause-known c = λ q.
    let lent : Bor (List ℕ) = record { ref_ptr = (0, 0); now = q } in
    c.in_ok-insert.ensures.updates.0 lent
    ∙ either (bytes_eq c.as_str.result.now q) (knows c.args.names.now q)
    ∙ ap (λ (name : List ℕ). bytes_eq name q || knows c.args.names.now q) c.as_str.ensures
