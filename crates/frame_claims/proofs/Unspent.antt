-- The purse is unspent where no settlement says otherwise.
use Rattle.std.proofs.Common.{◌≡◌, ℕ, ◌+◌, ◌<◌, true, false, List, [], ◌∷◌, ◌++◌, length, take, refl, ap, ◌∙◌}
use Rattle.std.specs.Prelude.{Some, slice_get}
use Rattle.std.proofs.lemmas.List.{take_more}
use Rattle.std.proofs.lemmas.Option.{slice_get_within, get_or_from_slice_get}
use Rattle.clause_core.specs.Systems.{TransitionSystem}
use Rattle.frame_core.specs.declared.parts.Lemma.{Lemma}
use Rattle.frame_history.specs.declared.entries.Limits.{Limits}
use Rattle.frame_history.specs.declared.entries.Made.{Made}
use Rattle.frame_history.specs.declared.entries.Change.{Change}
use Rattle.frame_history.specs.declared.entries.Change.TheVariants.{Add, Raise, Held, Retire, Behind, Dropped, Note, Open, PushFailed, Limit, Spent}
use Rattle.frame_history.specs.declared.entries.Entry.{Entry}
use Rattle.frame_history.specs.declared.entries.Entry.TheVariants.{Claim, Settle, Back}
use Rattle.frame_history.specs.History.{BookState, start, changed, all_changed, after, replay, AcceptsAll, MayStand, IsLawful}
use Rattle.frame_history.proofs.Keeping.{replay-append}
use Rattle.frame_claims.specs.Apart.{says_spent, notes_spent}
use Rattle.frame_claims.proofs.Histories.{lawful_at}
use Rattle.frame_claims.proofs.Turned.{spent_each}

no_way : true ≡ false → ⊥
no_way e = let h : true ≡ false = e in cc

unspent_first : (s : BookState) (d : Change) (ds : List Change) → says_spent (d ∷ ds) ≡ false → (changed s d).spent ≡ s.spent
unspent_first s (Add clause level parents) ds quiet = refl
unspent_first s (Raise n level parents) ds quiet = refl
unspent_first s (Held n clause level) ds quiet = refl
unspent_first s (Retire n) ds quiet = refl
unspent_first s (Behind lag) ds quiet = refl
unspent_first s Dropped ds quiet = refl
unspent_first s (Note j values parent first) ds quiet = refl
unspent_first s (Open j) ds quiet = refl
unspent_first s (PushFailed n level) ds quiet = refl
unspent_first s (Limit j) ds quiet = refl
unspent_first s Spent ds quiet = absurd (no_way quiet)

unspent_all : (limits : Limits) (s : BookState) (c : Made) (ds : List Change) → AcceptsAll limits s c ds → says_spent ds ≡ false →
    (all_changed s ds).spent ≡ s.spent
unspent_all limits s c [] a quiet = absurd a
unspent_all limits s c (d ∷ ds) a quiet = spent_each limits (changed s d) ds a.1 ∙ unspent_first s d ds quiet

pub unspent_after : (limits : Limits) (s : BookState) (e : Entry) → MayStand limits s e → notes_spent e ≡ false → (after s e).spent ≡ s.spent
unspent_after limits s (Claim worker subject level) may quiet = refl
unspent_after limits s (Settle worker n changes) may quiet = unspent_all limits s may.0 changes.items may.2 quiet
unspent_after limits s (Back worker n) may quiet = refl

-- one entry more of a lawful history that says nothing of it
pub unspent_next : (limits : Limits) (systems : List TransitionSystem) (carried : List Lemma) (history : List Entry) (n : ℕ) (e : Entry) →
    IsLawful limits (start limits systems carried) history → slice_get history n ≡ Some e → notes_spent e ≡ false →
    (replay (start limits systems carried) (take n history)).spent ≡ false → (replay (start limits systems carried) (take (n + 1) history)).spent ≡ false
unspent_next limits systems carried history n e lawful there quiet was =
    let first : BookState = start limits systems carried in
    let lt : n < length history = slice_get_within history n e there in
    let more : take (n + 1) history ≡ take n history ++ e ∷ [] =
    take_more history n e lt ∙ ap (λ (x : Entry). take n history ++ x ∷ []) (get_or_from_slice_get history n e e there) in
    let next : replay first (take (n + 1) history) ≡ after (replay first (take n history)) e =
    ap (replay first) more ∙ replay-append first (take n history) e in
    ap (λ (s : BookState). s.spent) next
    ∙ unspent_after limits (replay first (take n history)) e (lawful_at limits first history n e lawful there) quiet ∙ was
