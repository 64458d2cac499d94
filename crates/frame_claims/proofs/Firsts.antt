-- What the first change of a settlement says.
use Rattle.std.proofs.Common.{◌≡◌, false, List, [], ◌∷◌, refl, ap, sym, ◌∙◌}
use Rattle.std.specs.Prelude.{Some, None, slice_get}
use Rattle.frame_history.specs.declared.entries.Change.{Change}
use Rattle.frame_history.specs.declared.entries.Change.TheVariants.{Add, Raise, Held, Retire, Behind, Dropped, Note, Open, PushFailed, Limit, Spent}
use Rattle.frame_history.specs.History.{is_behind}
use Rattle.frame_claims.specs.Apart.{grown_by, says_spent}

same_change : (d e : Change) → Some d ≡ Some e → d ≡ e
same_change d e is = let h : Some d ≡ Some e = is in cc

some_none : (d : Change) → Some d ≡ None → ⊥
some_none d is = let h : Some d ≡ None = is in cc

behind_any : (d : Change) (ds : List Change) → is_behind (d ∷ ds) ≡ is_behind (d ∷ [])
behind_any (Add clause level parents) ds = refl
behind_any (Raise n level parents) ds = refl
behind_any (Held n clause level) ds = refl
behind_any (Retire n) ds = refl
behind_any (Behind lag) ds = refl
behind_any Dropped ds = refl
behind_any (Note j values parent first) ds = refl
behind_any (Open j) ds = refl
behind_any (PushFailed n level) ds = refl
behind_any (Limit j) ds = refl
behind_any Spent ds = refl

pub behind_some : (ds : List Change) (d : Change) → Some d ≡ slice_get ds 0 → is_behind ds ≡ is_behind (d ∷ [])
behind_some [] d is = absurd (some_none d is)
behind_some (e ∷ ds) d is =
    let same : d ≡ e = same_change d e is in
    behind_any e ds ∙ ap (λ (z : Change). is_behind (z ∷ [])) (sym same)

pub behind_none : (ds : List Change) → None ≡ slice_get ds 0 → is_behind ds ≡ false
behind_none [] is = refl
behind_none (e ∷ ds) is = absurd (some_none e (sym is))

grown_any : (d : Change) (ds : List Change) → grown_by (d ∷ ds) ≡ grown_by (d ∷ [])
grown_any (Add clause level parents) ds = refl
grown_any (Raise n level parents) ds = refl
grown_any (Held n clause level) ds = refl
grown_any (Retire n) ds = refl
grown_any (Behind lag) ds = refl
grown_any Dropped ds = refl
grown_any (Note j values parent first) ds = refl
grown_any (Open j) ds = refl
grown_any (PushFailed n level) ds = refl
grown_any (Limit j) ds = refl
grown_any Spent ds = refl

pub grown_some : (ds : List Change) (d : Change) → Some d ≡ slice_get ds 0 → grown_by ds ≡ grown_by (d ∷ [])
grown_some [] d is = absurd (some_none d is)
grown_some (e ∷ ds) d is =
    let same : d ≡ e = same_change d e is in
    grown_any e ds ∙ ap (λ (z : Change). grown_by (z ∷ [])) (sym same)

pub grown_none : (ds : List Change) → None ≡ slice_get ds 0 → grown_by ds ≡ 0
grown_none [] is = refl
grown_none (e ∷ ds) is = absurd (some_none e (sym is))

spent_any : (d : Change) (ds : List Change) → says_spent (d ∷ ds) ≡ says_spent (d ∷ [])
spent_any (Add clause level parents) ds = refl
spent_any (Raise n level parents) ds = refl
spent_any (Held n clause level) ds = refl
spent_any (Retire n) ds = refl
spent_any (Behind lag) ds = refl
spent_any Dropped ds = refl
spent_any (Note j values parent first) ds = refl
spent_any (Open j) ds = refl
spent_any (PushFailed n level) ds = refl
spent_any (Limit j) ds = refl
spent_any Spent ds = refl

pub spent_some : (ds : List Change) (d : Change) → Some d ≡ slice_get ds 0 → says_spent ds ≡ says_spent (d ∷ [])
spent_some [] d is = absurd (some_none d is)
spent_some (e ∷ ds) d is =
    let same : d ≡ e = same_change d e is in
    spent_any e ds ∙ ap (λ (z : Change). says_spent (z ∷ [])) (sym same)

pub spent_none : (ds : List Change) → None ≡ slice_get ds 0 → says_spent ds ≡ false
spent_none [] is = refl
spent_none (e ∷ ds) is = absurd (some_none e (sym is))
