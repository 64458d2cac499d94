-- A formula is true where the one without bounds is.
use Rattle.std.proofs.Common.{◌≡◌, ℕ, ◌+◌, ◌*◌, max, Bool, sym, subst, arith}
use Rattle.std.specs.Prelude.{◌↔◌}
use Rattle.ltl_meaning.specs.declared.word.Word.{Word}
use Rattle.ltl_meaning.specs.Ltl.{past_height}
use Rattle.ltl_meaning.specs.Temporal.{Temporal, past_depth}
use Rattle.ltl_meaning.specs.Truth.{Moment, Repeats, IsTrueAt, Satisfies}
use Rattle.ltl_meaning.specs.Lasso.{on, period}
use Rattle.ltl_meaning.specs.Unfolded.{unfolded}
use Rattle.ltl_meaning.proofs.Period.{word_repeats}
use Rattle.ltl_meaning.proofs.Decide.{Decided, decided_like, decide_on}
use Rattle.ltl_meaning.proofs.Alike.{AreAlike, unary_alike, bounded_alike, binary_alike}
use Rattle.ltl_meaning.proofs.Windows.{bounded_steps, bounded_height}

pub unfolds : (atoms : ℕ → Moment) (f : Temporal) → AreAlike (IsTrueAt atoms f) (Satisfies atoms (unfolded f))
unfolds atoms (Temporal.Constant b) t = (λ x. x, λ x. x)
unfolds atoms (Temporal.Atom a) t = (λ x. x, λ x. x)
unfolds atoms (Temporal.Unary o f) t = unary_alike _ _ (unfolds atoms f) o t
unfolds atoms (Temporal.Bounded o w f) t =
    let e = bounded_alike _ _ (unfolds atoms f) o w t in
    let s = bounded_steps atoms (unfolded f) o w t in
    (λ x. s.1 (e.0 x), λ x. e.1 (s.0 x))
unfolds atoms (Temporal.Binary o f g) t = binary_alike _ _ (unfolds atoms f) _ _ (unfolds atoms g) o t

pub unfolded_height : (f : Temporal) → past_height (unfolded f) ≡ past_depth f
unfolded_height (Temporal.Constant b) = omega arith
unfolded_height (Temporal.Atom a) = omega arith
unfolded_height (Temporal.Unary o f) = omega (arith, unfolded_height f)
unfolded_height (Temporal.Bounded o w f) = omega (arith, unfolded_height f, bounded_height (unfolded f) o w)
unfolded_height (Temporal.Binary o f g) = omega (arith, unfolded_height f, unfolded_height g)

-- on a word the truth of every formula is decided at each time
pub decide_at : (w : Word) (f : Temporal) → Decided (IsTrueAt (on w) f)
decide_at w f t = let e = unfolds (on w) f t in decided_like (e.1, e.0) (decide_on w (unfolded f) t)

-- and it repeats with each pass
pub formula_repeats : (f : Temporal) (w : Word) → Repeats (period w) (w.start + past_depth f * period w) (IsTrueAt (on w) f)
formula_repeats f w =
    let r = subst (λ h. Repeats (period w) (w.start + h * period w) (Satisfies (on w) (unfolded f))) (unfolded_height f) (word_repeats (unfolded f) w) in
    λ t h. (
      λ x. (unfolds (on w) f (t + period w)).1 ((r t h).0 ((unfolds (on w) f t).0 x)),
      λ x. (unfolds (on w) f t).1 ((r t h).1 ((unfolds (on w) f (t + period w)).0 x)),
    )
