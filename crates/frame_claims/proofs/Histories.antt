-- Beginnings of lawful histories, and the lemmas as a history goes on.
use Rattle.std.proofs.Common.{◌≡◌, ℕ, zero, suc, List, [], ◌∷◌, ◌++◌, take, refl, subst}
use Rattle.std.specs.Prelude.{Some, slice_get}
use Rattle.frame_history.specs.declared.entries.Limits.{Limits}
use Rattle.frame_history.specs.declared.entries.Entry.{Entry}
use Rattle.frame_history.specs.declared.entries.Entry.TheVariants.{Claim, Settle, Back}
use Rattle.frame_history.specs.History.{BookState, after, replay, MayStand, IsLawful}
use Rattle.frame_query.specs.Findings.{IsOlder}
use Rattle.frame_claims.proofs.Claimed.{no_entry, some_entry}
use Rattle.frame_claims.proofs.Turned.{older_itself, older_then, older_all}

pub replay-join : (s : BookState) (es fs : List Entry) → replay s (es ++ fs) ≡ replay (replay s es) fs
replay-join s [] fs = refl
replay-join s (e ∷ es) fs = replay-join (after s e) es fs

-- a beginning of a lawful history is lawful, and so is what comes then
pub lawful_split : (limits : Limits) (s : BookState) (es fs : List Entry) → IsLawful limits s (es ++ fs) → IsLawful limits s es × IsLawful limits (replay s es) fs
lawful_split limits s [] fs l = (tt, l)
lawful_split limits s (e ∷ es) fs l =
    let rest = lawful_split limits (after s e) es fs l.1 in
    ((l.0, rest.0), rest.1)

-- each entry may stand where it does
pub lawful_at : (limits : Limits) (s : BookState) (es : List Entry) (n : ℕ) (e : Entry) → IsLawful limits s es → slice_get es n ≡ Some e →
    MayStand limits (replay s (take n es)) e
lawful_at limits s [] n e l is = absurd (no_entry e is)
lawful_at limits s (d ∷ es) zero e l is = subst (MayStand limits s) (some_entry d e is) l.0
lawful_at limits s (d ∷ es) (suc n) e l is = lawful_at limits (after s d) es n e l.1 is

older_after : (limits : Limits) (s : BookState) (e : Entry) → MayStand limits s e → IsOlder s.frames.lemmas (after s e).frames.lemmas
older_after limits s (Claim worker subject level) may = older_itself s.frames.lemmas
older_after limits s (Settle worker n changes) may = older_all limits s may.0 changes.items may.2
older_after limits s (Back worker n) may = older_itself s.frames.lemmas

-- the lemmas before some entries are the first of those behind them
pub older_in : (limits : Limits) (s : BookState) (es : List Entry) → IsLawful limits s es → IsOlder s.frames.lemmas (replay s es).frames.lemmas
older_in limits s [] l = older_itself s.frames.lemmas
older_in limits s (e ∷ es) l =
    older_then s.frames.lemmas (after s e).frames.lemmas (replay (after s e) es).frames.lemmas (older_after limits s e l.0) (older_in limits (after s e) es l.1)
