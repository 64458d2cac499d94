-- What the propagator keeps, over its steps.
use Rattle.std.proofs.Common.{◌≡◌, ℕ, ◌<◌, ◌≤◌, ◌+◌, ◌*◌, ◌^◌, true, false, ◌∷◌, ◌++◌, List, [], length, take, get_or, refl, sym, subst, ap, ◌∙◌, arith, length-append, length-set}
use Rattle.std.specs.List.{All}
use Rattle.std.proofs.lemmas.List.{take_all}
use Rattle.std.proofs.lemmas.List.Elements.{All-push}
use Rattle.clause_core.specs.declared.literal.Lit.{Lit}
use Rattle.clause_core.specs.Literals.{Within, negate}
use Rattle.sat_prop.specs.declared.lists.Watcher.{Watcher}
use Rattle.sat_prop.specs.declared.trail.Trail.{Trail}
use Rattle.sat_prop.specs.declared.watch.Watches.{Watches}
use Rattle.sat_prop.specs.Covers.{Retired}
use Rattle.sat_prop.specs.Entries.{AllEntries, fits, listed_with, numbers_of}
use Rattle.sat_prop.specs.Moves.{Extends, IsSameTrail}
use Rattle.sat_prop.specs.Packing.{pairs, row_of}
use Rattle.sat_prop.specs.Roots.{ShortSwept, root}
use Rattle.sat_prop.specs.Sifted.{Sifted, put_back, whole}
use Rattle.sat_prop.specs.States.{IsBased, IsListed, IsWatched, IsPropagated, IsGuarded, IsWatching, IsFallen, KeepsWatches, IsAttachable}
use Rattle.sat_prop.specs.Trails.{Based, among, is_literal}
use Rattle.sat_prop.specs.Watches.{AllGuarded, AllListed, AllWatchesIn, HasTwo, InShort, LevelsGuarded, ShortListed, ShortMore, ShortTrue, Watchable, WatchesSay, cell}
use Rattle.sat_prop.proofs.Attaching.{clause_low, enlisted, entries_new, head_cell, heads_new, levels_back, levels_decide, levels_new, lists_new, queue_back, queue_decide, queue_less, small_new, watch_new, words_low}
use Rattle.sat_prop.proofs.Covering.{retired_guarded, retired_levels, retired_listed, retired_match, retired_short, retired_watches}
use Rattle.sat_prop.proofs.Matching.{match_push, pairs_len, pairs_push}
use Rattle.sat_prop.proofs.Queues.{kept_on, levels_kept, levels_went, queue_kept, small_ok_heads, went_longer}
use Rattle.sat_prop.proofs.Rooted.{swept_added, swept_decide, swept_same, swept_undo, swept_went}
use Rattle.sat_prop.proofs.Sweeps.{based_from, reasoned_from, went_same}
use Rattle.sat_prop.proofs.Visits.{cell_in}
use Rattle.sat_prop.proofs.Ways.{reasoned_more, reasoned_take}

-- another trail over as many variables
pub based_on : (cs : List (List Lit)) (t t' : Trail) → Based t'.literals.items t'.reasons.items cs → length t'.values.items ≡ length t.values.items → IsBased cs t → IsBased cs t'
based_on cs t t' new same old =
    let P : ℕ → Type 0 = λ n. All (Within n) cs in
    record { reasons = new; within = subst P (sym same) old.within }

-- a trail that is alike
pub based_same : (cs : List (List Lit)) (t t' : Trail) → IsSameTrail t t' → IsBased cs t → IsBased cs t'
based_same cs t t' alike old =
    let B : List Lit → Type 0 = λ x. Based x t'.reasons.items cs in
    let C : List ℕ → Type 0 = λ x. Based t.literals.items x cs in
    based_on cs t t' (subst B (sym alike.literals) (subst C (sym alike.reasons) old.reasons)) (ap length alike.values) old

pub went_alike : (old t t' : Trail) → IsSameTrail t t' → Extends old t → Extends old t'
went_alike old t t' alike more = went_same old t t' more alike.literals alike.values alike.level_starts

-- a clause more
pub based_more : (cs : List (List Lit)) (t : Trail) (c : List Lit) → Within (length t.values.items) c → IsBased cs t → IsBased (cs ++ c ∷ []) t
based_more cs t c within old =
    let tr = t.literals.items in
    record {
      reasons = based_from tr t.reasons.items (cs ++ c ∷ []) (reasoned_more t.reasons.items tr cs (c ∷ []) (reasoned_from tr t.reasons.items cs old.reasons));
      within = All-push (Within (length t.values.items)) cs c old.within within;
    }

pub watched_trail : (cs : List (List Lit)) (t t' : Trail) (rows : List (List Lit)) (lists : List (List Watcher)) → IsBased cs t' → length t'.values.items ≡ length t.values.items →
    IsWatched cs t rows lists → IsWatched cs t' rows lists
watched_trail cs t t' rows lists based same old = record { based = based; room = omega (arith, same, old.room); cells = omega (arith, same, old.cells); listed = old.listed }

-- other rows and lists
pub watched_lists : (cs : List (List Lit)) (t : Trail) (rows rows' : List (List Lit)) (lists lists' : List (List Watcher)) → length lists' ≡ length lists → IsListed cs rows' lists' →
    IsWatched cs t rows lists → IsWatched cs t rows' lists'
watched_lists cs t rows rows' lists lists' same listed old = record { based = old.based; room = old.room; cells = same ∙ old.cells; listed = listed }

pub listed_lists : (cs rows : List (List Lit)) (lists lists' : List (List Watcher)) → AllListed (pairs rows) (numbers_of lists') → AllEntries (fits cs) lists' →
    IsListed cs rows lists → IsListed cs rows lists'
listed_lists cs rows lists lists' listed fit old = record { rows_len = old.rows_len; watches_in = old.watches_in; rows_match = old.rows_match; all_listed = listed; fit = fit }

pub listed_same : (cs cs' rows rows' : List (List Lit)) (lists lists' : List (List Watcher)) → cs' ≡ cs → rows' ≡ rows → lists' ≡ lists → IsListed cs rows lists → IsListed cs' rows' lists'
listed_same cs cs' rows rows' lists lists' ec er el old =
    let P : List (List Lit) → Type 0 = λ x. IsListed x rows' lists' in
    let Q : List (List Lit) → Type 0 = λ x. IsListed cs x lists' in
    let R : List (List Watcher) → Type 0 = λ x. IsListed cs rows x in
    subst P (sym ec) (subst Q (sym er) (subst R (sym el) old))

-- the lists while one of them is read
pub back_same : (lists lists' : List (List Watcher)) (f : Lit) (s s' : Sifted) → length lists' ≡ length lists → length (put_back lists' f s') ≡ length (put_back lists f s)
back_same lists lists' f s s' same = length-set lists' (cell f) (whole s') ∙ same ∙ sym (length-set lists (cell f) (whole s))

pub back_len : (cs : List (List Lit)) (t t' : Trail) (rows : List (List Lit)) (lists : List (List Watcher)) (f : Lit) (s : Sifted) → Extends t t' → IsWatched cs t' rows (put_back lists f s) →
    length lists ≡ 2 * length t.values.items
back_len cs t t' rows lists f s more now = omega (arith, length-set lists (cell f) (whole s), more.vars, now.cells)

pub back_cell : (cs : List (List Lit)) (t t' : Trail) (rows : List (List Lit)) (lists : List (List Watcher)) (f : Lit) (s : Sifted) → Extends t t' → IsFallen t f →
    IsWatched cs t' rows (put_back lists f s) → cell f < length lists
back_cell cs t t' rows lists f s more fallen now = omega (arith, cell_in f (length t.values.items) fallen.in_range, back_len cs t t' rows lists f s more now)

-- rows that no step changed
pub keeps_none : (cs rows : List (List Lit)) (t : Trail) → KeepsWatches cs rows rows t
keeps_none cs rows t = record { kept = λ s u part old. old; two_kept = λ k two. two }

-- one step after another
pub keeps_on : (cs a b c : List (List Lit)) (t t' : Trail) → Extends t t' → KeepsWatches cs a b t → KeepsWatches cs b c t' → KeepsWatches cs a c t
keeps_on cs a b c t t' more one two =
    record {
      kept = kept_on cs (pairs a) (pairs b) (pairs c) t t' more one.kept two.kept;
      two_kept = λ k has. two.two_kept k (one.two_kept k has);
    }

pub propagated_kept : (cs : List (List Lit)) (t t' : Trail) (rows rows' : List (List Lit)) (head : ℕ) → Extends t t' → KeepsWatches cs rows rows' t →
    IsPropagated cs t rows head → IsPropagated cs t' rows' head
propagated_kept cs t t' rows rows' head more keeps old =
    record {
      low = omega (arith, old.low, went_longer t t' more);
      queue = queue_kept cs (pairs rows) (pairs rows') t t' head old.low more keeps.kept old.queue;
    }

pub propagated_went : (cs : List (List Lit)) (t t' : Trail) (rows : List (List Lit)) (head : ℕ) → Extends t t' → IsPropagated cs t rows head → IsPropagated cs t' rows head
propagated_went cs t t' rows head more old = propagated_kept cs t t' rows rows head more (keeps_none cs rows t) old

-- after unit clauses were propagated
pub watching_went : (cs : List (List Lit)) (t t' : Trail) (rows : List (List Lit)) (lists : List (List Watcher)) (short : List ℕ) (swept swept' head : ℕ) → Extends t t' → IsBased cs t' →
    ShortSwept cs short swept' (root t'.literals.items t'.level_starts.items) → IsWatching cs t rows lists short swept head → IsWatching cs t' rows lists short swept' head
watching_went cs t t' rows lists short swept swept' head more based now old =
    record {
      watched = watched_trail cs t t' rows lists based more.vars old.watched;
      short_listed = old.short_listed;
      guarded = record {
        based = based;
        propagated = propagated_went cs t t' rows head more old.guarded.propagated;
        levels = levels_went cs (pairs rows) t t' more old.guarded.levels;
        swept_in = now;
      };
    }

-- after the queue was run
pub watching_run : (cs : List (List Lit)) (t t' : Trail) (rows rows' : List (List Lit)) (lists lists' : List (List Watcher)) (short : List ℕ) (swept head head' : ℕ) → Extends t t' →
    KeepsWatches cs rows rows' t → IsWatched cs t' rows' lists' → IsPropagated cs t' rows' head' → IsWatching cs t rows lists short swept head → IsWatching cs t' rows' lists' short swept head'
watching_run cs t t' rows rows' lists lists' short swept head head' more keeps watched propagated old =
    record {
      watched = watched;
      short_listed = small_ok_heads cs (pairs rows) (pairs rows') short keeps.two_kept old.short_listed;
      guarded = record {
        based = watched.based;
        propagated = propagated;
        levels = levels_kept cs (pairs rows) (pairs rows') t t' more keeps.kept keeps.two_kept old.guarded.levels;
        swept_in = swept_went cs short swept t t' more old.guarded.swept_in;
      };
    }

-- after rows of covered clauses were emptied
pub watching_retired : (cs : List (List Lit)) (t : Trail) (rows rows' : List (List Lit)) (lists : List (List Watcher)) (short : List ℕ) (swept head : ℕ) → Retired cs rows rows' →
    IsWatching cs t rows lists short swept head → IsWatching cs t rows' lists short swept head
watching_retired cs t rows rows' lists short swept head gone old =
    let tr = t.literals.items in
    let listed = old.watched.listed in
    let guarded = old.guarded in
    record {
      watched = watched_lists cs t rows rows' lists lists refl (record {
        rows_len = gone.0 ∙ listed.rows_len;
        watches_in = retired_watches cs rows rows' gone listed.watches_in;
        rows_match = retired_match cs rows rows' gone listed.rows_match;
        all_listed = retired_listed cs rows rows' (numbers_of lists) gone listed.all_listed;
        fit = listed.fit;
      }) old.watched;
      short_listed = retired_short cs rows rows' short gone old.short_listed;
      guarded = record {
        based = guarded.based;
        propagated = record { low = guarded.propagated.low; queue = retired_guarded cs rows rows' (take head tr) tr gone guarded.propagated.queue };
        levels = retired_levels cs rows rows' tr t.level_starts.items gone guarded.levels;
        swept_in = guarded.swept_in;
      };
    }

-- the watches that a clause gets
pub attachable : (cs : List (List Lit)) (t : Trail) (rows : List (List Lit)) (lists : List (List Watcher)) (c : List Lit) (w : ℕ) (h : Watches) → Within (length t.values.items) c →
    WatchesSay c w h → IsWatched cs t rows lists → IsAttachable (length lists) c h
attachable cs t rows lists c w h within said now =
    let vars = length t.values.items in
    let low = words_low vars c w h within now.room said in
    record {
      cells = record {
        a_cell = λ two. omega (arith, cell_in h.a vars (head_cell vars c h.a within (said.0 two).0), now.cells);
        b_cell = λ two. omega (arith, cell_in h.b vars (head_cell vars c h.b within (said.0 two).1), now.cells);
        a_word = low.0;
        b_word = low.1;
      };
      words = clause_low vars c within now.room;
      two = said.0;
      one = said.1;
    }

-- a clause more, with its row, where it was put into its lists
pub attached : (cs rows : List (List Lit)) (lists lists' : List (List Watcher)) (short : List ℕ) (c : List Lit) (h : Watches) → IsAttachable (length lists) c h →
    (is_literal h.a h.b ≡ true → lists' ≡ lists) → (HasTwo h → lists' ≡ listed_with lists h (length cs)) → (is_literal h.a h.b ≡ true → InShort short (length cs)) →
    IsListed cs rows lists → IsListed (cs ++ c ∷ []) (rows ++ row_of h c ∷ []) lists'
attached cs rows lists lists' short c h can same both in_short old =
    let len = pairs_len rows cs old.rows_len in
    let back = sym (pairs_push rows h c) in
    let e = enlisted lists lists' short h (length cs) can.cells.a_cell can.cells.b_cell same both in_short in
    let W : List Watches → Type 0 = AllWatchesIn (cs ++ c ∷ []) in
    let L : List Watches → Type 0 = λ x. AllListed x (numbers_of lists') in
    record {
      rows_len = length-append rows (row_of h c ∷ []) ∙ ap (λ n. n + 1) old.rows_len ∙ sym (length-append cs (c ∷ []));
      watches_in = subst W back (heads_new cs (pairs rows) c h len old.watches_in can.two);
      rows_match = match_push cs rows h c old.rows_len can.two old.rows_match;
      all_listed = subst L back (lists_new cs (pairs rows) (numbers_of lists) (numbers_of lists') short c h len old.all_listed e.0 e.1);
      fit = entries_new cs c lists lists' h can.cells.a_cell can.cells.b_cell same both can.two old.fit;
    }

pub attached_short : (cs rows : List (List Lit)) (lists lists' : List (List Watcher)) (short short' : List ℕ) (c : List Lit) (h : Watches) → IsAttachable (length lists) c h →
    (is_literal h.a h.b ≡ true → lists' ≡ lists) → (HasTwo h → lists' ≡ listed_with lists h (length cs)) → (is_literal h.a h.b ≡ true → InShort short' (length cs)) → ShortMore short short' →
    IsListed cs rows lists → ShortListed cs (pairs rows) short → ShortListed (cs ++ c ∷ []) (pairs (rows ++ row_of h c ∷ [])) short'
attached_short cs rows lists lists' short short' c h can same both in_short more listed old =
    let e = enlisted lists lists' short' h (length cs) can.cells.a_cell can.cells.b_cell same both in_short in
    let S : List Watches → Type 0 = λ x. ShortListed (cs ++ c ∷ []) x short' in
    subst S (sym (pairs_push rows h c)) (small_new cs (pairs rows) (numbers_of lists') short short' c h (pairs_len rows cs listed.rows_len) old more e.1 can.one)

guarded_same : (cs cs' : List (List Lit)) (t : Trail) (rows rows' : List (List Lit)) (short : List ℕ) (swept head : ℕ) → cs' ≡ cs → rows' ≡ rows →
    IsGuarded cs t rows short swept head → IsGuarded cs' t rows' short swept head
guarded_same cs cs' t rows rows' short swept head ec er old =
    let P : List (List Lit) → Type 0 = λ x. IsGuarded x t rows' short swept head in
    let Q : List (List Lit) → Type 0 = λ x. IsGuarded cs t x short swept head in
    subst P (sym ec) (subst Q (sym er) old)

-- where no clause could be added: the list of short clauses may be longer
pub watching_same : (cs cs' : List (List Lit)) (t : Trail) (rows rows' : List (List Lit)) (lists lists' : List (List Watcher)) (short short' : List ℕ) (swept head : ℕ) → cs' ≡ cs → rows' ≡ rows →
    length lists' ≡ length lists → take (length short) short' ≡ short → IsListed cs' rows' lists' → ShortListed cs' (pairs rows') short' →
    IsWatching cs t rows lists short swept head → IsWatching cs' t rows' lists' short' swept head
watching_same cs cs' t rows rows' lists lists' short short' swept head ec er el es listed short_listed old =
    let before = old.guarded in
    let kept : IsGuarded cs t rows short' swept head =
    record {
      based = before.based;
      propagated = before.propagated;
      levels = before.levels;
      swept_in = swept_same cs cs short short' swept (root t.literals.items t.level_starts.items) refl es before.swept_in;
    } in
    let guarded = guarded_same cs cs' t rows rows' short' swept head ec er kept in
    record {
      watched = record { based = guarded.based; room = old.watched.room; cells = el ∙ old.watched.cells; listed = listed };
      short_listed = short_listed;
      guarded = guarded;
    }

-- a clause more: the head moves back to where none of its watches is false
pub watching_more : (cs cs' : List (List Lit)) (t : Trail) (rows rows' : List (List Lit)) (lists lists' : List (List Watcher)) (short short' : List ℕ) (swept head n : ℕ) (c : List Lit) (w : ℕ) (h : Watches) →
    cs' ≡ cs ++ c ∷ [] → rows' ≡ rows ++ row_of h c ∷ [] → length lists' ≡ length lists → take (length short) short' ≡ short → IsListed cs' rows' lists' → ShortListed cs' (pairs rows') short' →
    Within (length t.values.items) c → Watchable t.literals.items t.level_starts.items c w → WatchesSay c w h → n ≤ head →
    (HasTwo h → among (take n t.literals.items) (negate h.a) ≡ false) → (HasTwo h → among (take n t.literals.items) (negate h.b) ≡ false) →
    IsWatching cs t rows lists short swept head → IsWatching cs' t rows' lists' short' swept n
watching_more cs cs' t rows rows' lists lists' short short' swept head n c w h ec er el es listed short_listed within can said le open_a open_b old =
    let tr = t.literals.items in
    let more = cs ++ c ∷ [] in
    let before = old.guarded in
    let len = pairs_len rows cs old.watched.listed.rows_len in
    let back = sym (pairs_push rows h c) in
    let Q : List Watches → Type 0 = λ x. AllGuarded more x (take n tr) tr in
    let L : List Watches → Type 0 = λ x. LevelsGuarded more x tr t.level_starts.items in
    let less = queue_less cs (pairs rows) tr n head le before.propagated.low before.propagated.queue in
    let now : IsGuarded more t (rows ++ row_of h c ∷ []) short' swept n =
    record {
      based = based_more cs t c within before.based;
      propagated = record { low = omega (arith, le, before.propagated.low); queue = subst Q back (watch_new cs (pairs rows) c h (take n tr) tr len open_a open_b less) };
      levels = subst L back (levels_new cs (pairs rows) c w h tr t.level_starts.items len said can before.levels);
      swept_in = swept_added cs (c ∷ []) short short' swept (root tr t.level_starts.items) es before.swept_in;
    } in
    let guarded = guarded_same more cs' t (rows ++ row_of h c ∷ []) rows' short' swept n ec er now in
    record {
      watched = record { based = guarded.based; room = old.watched.room; cells = el ∙ old.watched.cells; listed = listed };
      short_listed = short_listed;
      guarded = guarded;
    }

-- where no decision could be set
pub guarded_alike : (cs : List (List Lit)) (t t' : Trail) (rows : List (List Lit)) (short : List ℕ) (swept head : ℕ) → IsSameTrail t t' →
    IsGuarded cs t rows short swept head → IsGuarded cs t' rows short swept head
guarded_alike cs t t' rows short swept head alike old =
    let hs = pairs rows in
    let tr = t.literals.items in
    let el = alike.literals in
    let Q : List Lit → Type 0 = λ x. AllGuarded cs hs (take head x) x in
    let L : List Lit → Type 0 = λ x. LevelsGuarded cs hs x t'.level_starts.items in
    let M : List ℕ → Type 0 = λ x. LevelsGuarded cs hs tr x in
    let S : List Lit → Type 0 = λ x. ShortSwept cs short swept (root x t'.level_starts.items) in
    let T : List ℕ → Type 0 = λ x. ShortSwept cs short swept (root tr x) in
    record {
      based = based_same cs t t' alike old.based;
      propagated = record { low = omega (arith, old.propagated.low, ap length el); queue = subst Q (sym el) old.propagated.queue };
      levels = subst L (sym el) (subst M (sym alike.level_starts) old.levels);
      swept_in = subst S (sym el) (subst T (sym alike.level_starts) old.swept_in);
    }

-- a decision, where all before it was propagated
pub guarded_decide : (cs : List (List Lit)) (t t' : Trail) (rows : List (List Lit)) (short : List ℕ) (swept head : ℕ) (l : Lit) → t'.literals.items ≡ t.literals.items ++ l ∷ [] →
    t'.level_starts.items ≡ t.level_starts.items ++ length t.literals.items ∷ [] → length t'.values.items ≡ length t.values.items → Based t'.literals.items t'.reasons.items cs →
    head ≡ length t.literals.items → ShortTrue cs (pairs rows) t.literals.items → IsGuarded cs t rows short swept head → IsGuarded cs t' rows short swept head
guarded_decide cs t t' rows short swept head l el es same reasons rested short_true old =
    let hs = pairs rows in
    let tr = t.literals.items in
    let low : head ≤ length tr = omega (arith, rested) in
    let W : List Lit → Type 0 = λ x. AllGuarded cs hs x tr in
    let whole : W tr = subst W (take_all head tr (omega (arith, rested))) old.propagated.queue in
    let Q : List Lit → Type 0 = λ x. AllGuarded cs hs (take head x) x in
    let L : List Lit → Type 0 = λ x. LevelsGuarded cs hs x t'.level_starts.items in
    let M : List ℕ → Type 0 = λ x. LevelsGuarded cs hs (tr ++ l ∷ []) x in
    record {
      based = based_on cs t t' reasons same old.based;
      propagated = record { low = omega (arith, low, ap length el, length-append tr (l ∷ [])); queue = subst Q (sym el) (queue_decide cs hs tr l head low old.propagated.queue) };
      levels = subst L (sym el) (subst M (sym es) (levels_decide cs hs t l whole short_true old.levels));
      swept_in = swept_decide cs short swept t l t'.literals.items t'.level_starts.items el es old.swept_in;
    }

-- what comes before a decision that is taken back
pub guarded_undo : (cs : List (List Lit)) (t t' : Trail) (rows : List (List Lit)) (short : List ℕ) (swept head level n : ℕ) → level < length t.level_starts.items →
    t'.literals.items ≡ take (get_or t.level_starts.items level 0) t.literals.items → t'.level_starts.items ≡ take level t.level_starts.items → t'.reasons.items ≡ t.reasons.items →
    length t'.values.items ≡ length t.values.items → n ≡ length t'.literals.items → IsGuarded cs t rows short swept head → IsGuarded cs t' rows short swept n
guarded_undo cs t t' rows short swept head level n lt el es er same whole old =
    let hs = pairs rows in
    let low = take (get_or t.level_starts.items level 0) t.literals.items in
    let L : List Lit → Type 0 = λ x. LevelsGuarded cs hs x t'.level_starts.items in
    let M : List ℕ → Type 0 = λ x. LevelsGuarded cs hs low x in
    let B : List Lit → Type 0 = λ x. Based x t'.reasons.items cs in
    let C : List ℕ → Type 0 = λ x. Based low x cs in
    let below : get_or t.level_starts.items level 0 ≤ length t.literals.items = omega (arith, t.in_trail level lt) in
    let reasons : Based low t.reasons.items cs =
    based_from low t.reasons.items cs (reasoned_take t.reasons.items t.literals.items cs (get_or t.level_starts.items level 0) below (reasoned_from t.literals.items t.reasons.items cs old.based.reasons)) in
    record {
      based = based_on cs t t' (subst B (sym el) (subst C (sym er) reasons)) same old.based;
      propagated = record { low = omega (arith, whole); queue = queue_back cs hs t level lt old.levels t'.literals.items el n (omega (arith, whole)) };
      levels = subst L (sym el) (subst M (sym es) (levels_back cs hs t level lt old.levels));
      swept_in = swept_undo cs short swept t level t'.literals.items t'.level_starts.items lt el es old.swept_in;
    }

-- after a step that changed the trail alone
pub watching_trail : (cs : List (List Lit)) (t t' : Trail) (rows : List (List Lit)) (lists : List (List Watcher)) (short : List ℕ) (swept head head' : ℕ) → length t'.values.items ≡ length t.values.items →
    IsGuarded cs t' rows short swept head' → IsWatching cs t rows lists short swept head → IsWatching cs t' rows lists short swept head'
watching_trail cs t t' rows lists short swept head head' same guarded old =
    record { watched = watched_trail cs t t' rows lists guarded.based same old.watched; short_listed = old.short_listed; guarded = guarded }

-- no clauses, and nothing set
pub watching_none : (cs : List (List Lit)) (t : Trail) (rows : List (List Lit)) (lists : List (List Watcher)) (short : List ℕ) → cs ≡ [] → rows ≡ [] → short ≡ [] →
    t.literals.items ≡ [] → t.level_starts.items ≡ [] → 2 * length t.values.items < 2 ^ 32 → length lists ≡ 2 * length t.values.items → AllEntries (fits cs) lists →
    IsWatching cs t rows lists short 0 0
watching_none cs t rows lists short ec er es none levels room cells fit =
    let no_cs : length cs ≡ 0 = ap length ec in
    let no_rows : length rows ≡ 0 = ap length er in
    let based : IsBased cs t =
    record {
      reasons = λ p lp pos. absurd (omega (arith, lp, ap length none));
      within = λ k d lk. absurd (omega (arith, lk, no_cs));
    } in
    record {
      watched = record {
        based = based;
        room = room;
        cells = cells;
        listed = record {
          rows_len = no_rows ∙ sym no_cs;
          watches_in = λ k lk. absurd (omega (arith, lk, no_cs));
          rows_match = λ k lk. absurd (omega (arith, lk, no_cs));
          all_listed = λ k lk. absurd (omega (arith, lk, pairs_len rows cs (no_rows ∙ sym no_cs), no_cs));
          fit = fit;
        };
      };
      short_listed = λ k lk. absurd (omega (arith, lk, no_cs));
      guarded = record {
        based = based;
        propagated = record { low = omega arith; queue = λ k lk. absurd (omega (arith, lk, no_cs)) };
        levels = λ i li. absurd (omega (arith, li, ap length levels));
        swept_in = λ j lj. absurd (omega (arith, lj));
      };
    }

-- while a list is read, over the same rows
pub watched_back : (cs : List (List Lit)) (t : Trail) (rows : List (List Lit)) (lists : List (List Watcher)) (f : Lit) (s s' : Sifted) → AllListed (pairs rows) (numbers_of (put_back lists f s')) →
    AllEntries (fits cs) (put_back lists f s') → IsWatched cs t rows (put_back lists f s) → IsWatched cs t rows (put_back lists f s')
watched_back cs t rows lists f s s' listed fit old =
    let before = put_back lists f s in
    let after = put_back lists f s' in
    watched_lists cs t rows rows before after (back_same lists lists f s s' refl) (listed_lists cs rows before after listed fit old.listed) old
