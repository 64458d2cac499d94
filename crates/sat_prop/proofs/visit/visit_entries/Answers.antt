use Rattle.std.proofs.Common.{◌≡◌, ℕ, ◌<◌, ◌^◌, ◌∷◌, ◌++◌, true, false, List, [], length, map, take, get_or, refl, sym, subst, ap, ◌∙◌, arith, set, length-set, length-append}
use Rattle.std.specs.List.{All, Contains}
use Rattle.std.proofs.lemmas.Bool.{both_ways}
use Rattle.std.proofs.lemmas.List.{length-map}
use Rattle.std.proofs.lemmas.List.Elements.{All-push, All-weaker}
use Rattle.clause_core.specs.declared.literal.Lit.{Lit}
use Rattle.clause_core.specs.Literals.{negate, at, Within}
use Rattle.clause_core.specs.Values.{holds}
use Rattle.clause_core.specs.Propagation.{UnitIn, AllFalse}
use Rattle.sat_prop.specs.Packing.{pair_of, pairs, rewatched}
use Rattle.sat_prop.specs.Words.{literal_of}
use Rattle.sat_prop.specs.declared.trail.Trail.{Trail}
use Rattle.sat_prop.specs.declared.watch.Watches.{Watches}
use Rattle.sat_prop.specs.declared.lists.Watcher.{Watcher}
use Rattle.sat_prop.specs.Trails.{among, Based}
use Rattle.sat_prop.specs.Entries.{fits, numbers, numbers_of}
use Rattle.sat_prop.specs.Sifted.{put_back, whole}
use Rattle.sat_prop.specs.Slots.{entry_of}
use Rattle.sat_prop.specs.States.{IsWatched}
use Rattle.sat_prop.specs.Watches.{watches_at, HasTwo, AllListed, AllWatchesIn, cell, DoneWith, Kept, KeepsTwo}
use Rattle.sat_prop.proofs.Keeping.{back_cell, back_len, back_same, based_on, based_same, watched_back, watched_lists, watched_trail, went_alike}
use Rattle.sat_prop.proofs.Listing.{fits_below, entries_push, numbers_push}
use Rattle.sat_prop.proofs.Matching.{all_back, all_over, match_move, pair_at, pairs_len, pairs_move, unit_over, watched_off}
use Rattle.sat_prop.proofs.Packed.{literal_cell}
use Rattle.sat_prop.proofs.Sifting.{done_all, fit_front, fit_keep, fit_skip, listed_keep, listed_skip, pushed_back, row_in}
use Rattle.sat_prop.proofs.Sweeps.{false_on, went_push, went_none, based_push, contains_among}
use Rattle.sat_prop.proofs.Visits.{apart_from, beside_which, bigs_move, cell_in, done_grows, done_move, done_true, head_new, heads_move, in_hand, kept_move, lists_move, low_cell, move_facts, var_in, went_grows}
use Rattle.sat_prop.proofs.Watching.{cell_same, true_from}
use Rattle.sat_prop.proofs.Ways.{among_here, at_end}
use Rattle.sat_prop.proofs.visit.visit_entries.Goals as goal

pub is_set-requires : goal.is_set-requires
is_set-requires c =
    let cs = c.args.clauses.now in
    let v = length c.args.trail.now.values.items in
    let f = c.args.f in
    let inv = c.visit.invariant in
    let e = entry_of c.in-Some.slot in
    let lf : cell f < length c.visit.lists = back_cell c.args.clauses.now c.args.trail.now c.visit.trail c.visit.rows c.visit.lists f c.visit.sieve inv.extends c.requires.fallen inv.watched in
    let fit : fits cs e ≡ true = fit_front (fits cs) c.visit.lists f c.visit.sieve e lf c.in-Some.ensures inv.watched.listed.fit in
    let lv : e.blocker.var < v = var_in (get_or cs e.clause []) v e.blocker (c.requires.watched.based.within e.clause [] (fits_below cs e fit)) fit in
    omega (arith, lv, inv.extends.vars, ap length c.deref.ensures.value, ap (λ (l : Lit). l.var) c.literal.ensures)

pub get-requires : goal.get-requires
get-requires c =
    let cs = c.args.clauses.now in
    let R = c.visit.rows in
    let f = c.args.f in
    let inv = c.visit.invariant in
    let lf : cell f < length c.visit.lists = back_cell c.args.clauses.now c.args.trail.now c.visit.trail c.visit.rows c.visit.lists f c.visit.sieve inv.extends c.requires.fallen inv.watched in
    row_in cs R c.visit.lists f c.visit.sieve (entry_of c.in-Some.slot) lf inv.watched.listed.rows_len c.in-Some.ensures inv.watched.listed.fit

pub visit-preserved-then-is_set : goal.visit-preserved-then-is_set
visit-preserved-then-is_set c =
    let cs = c.args.clauses.now in
    let t = c.visit.trail in
    let H = pairs c.visit.rows in
    let f = c.args.f in
    let inv = c.visit.invariant in
    let s = c.visit.sieve in
    let s' = c.keep.new.self in
    let e = entry_of c.in-Some.slot in
    let lf : cell f < length c.visit.lists = back_cell c.args.clauses.now c.args.trail.now c.visit.trail c.visit.rows c.visit.lists f c.visit.sieve inv.extends c.requires.fallen inv.watched in
    let fit : fits cs e ≡ true = fit_front (fits cs) c.visit.lists f s e lf c.in-Some.ensures inv.watched.listed.fit in
    let V : List ℕ → Type 0 = λ v. holds v e.blocker ≡ true in
    let L : Lit → Type 0 = λ l. holds c.deref.result.now l ≡ true in
    let set' : V c.deref.result.now = subst L c.literal.ensures (sym c.is_set.ensures ∙ c.if-is_set.true) in
    let on : among t.literals.items e.blocker ≡ true = t.values_ok e.blocker ∙ subst V c.deref.ensures.value set' in
    let hit = true_from t.literals.items (get_or cs e.clause []) e.blocker (contains_among (get_or cs e.clause []) e.blocker fit) on in
    let A : List (List ℕ) → Type 0 = AllListed H in
    let D : Watcher → Type 0 = λ x. DoneWith cs H t.literals.items f x.clause in
    let P : List Watcher → Type 0 = λ xs. All D xs in
    record {
      watched = watched_back cs t c.visit.rows c.visit.lists f s s' (subst A (sym (listed_keep c.visit.lists f s s' e e c.in-Some.ensures refl c.keep.ensures.kept c.keep.ensures.rest)) inv.watched.listed.all_listed) (fit_keep (fits cs) c.visit.lists f s s' e lf c.keep.ensures.kept c.keep.ensures.rest fit inv.watched.listed.fit) inv.watched;
      extends = inv.extends;
      kept = inv.kept;
      done = subst P (sym c.keep.ensures.kept) (All-push D s.kept e inv.done (done_true cs H t.literals.items f e.clause hit));
    }

pub visit-preserved-in_default-other_of : goal.visit-preserved-in_default-other_of
visit-preserved-in_default-other_of c =
    let cs = c.args.clauses.now in
    let t = c.visit.trail in
    let R = c.visit.rows in
    let H = pairs R in
    let f = c.args.f in
    let k = c.in-Some.slot.clause in
    let inv = c.visit.invariant in
    let L = c.visit.lists in
    let s = c.visit.sieve in
    let s' = c.skip.new.self in
    let e = entry_of c.in-Some.slot in
    let lf : cell f < length c.visit.lists = back_cell c.args.clauses.now c.args.trail.now c.visit.trail c.visit.rows c.visit.lists f c.visit.sieve inv.extends c.requires.fallen inv.watched in
    let O : List Lit → Lit → Type 0 = λ r x. HasTwo (pair_of r) → ((pair_of r).a ≡ x → ⊥) × ((pair_of r).b ≡ x → ⊥) in
    let A : List Lit → Type 0 = λ r. O r (literal_of c.word_of-fallen.result) in
    let B : Lit → Type 0 = λ x. O (get_or R k []) x in
    let F : Watches → Type 0 = λ w. HasTwo w → (w.a ≡ f → ⊥) × (w.b ≡ f → ⊥) in
    let beside : F (watches_at H k) = subst F (sym (pair_at R k)) (subst B (ap literal_of c.word_of-fallen.ensures ∙ literal_cell f) (subst A c.get.ensures c.in_default-other_of.ensures.says)) in
    let far = apart_from (watches_at H k) f (cell f) refl beside in
    let P : List Watcher → Type 0 = λ xs. All (λ x. DoneWith cs H t.literals.items f x.clause) xs in
    record {
      watched = watched_back cs t R L f s s' (listed_skip H L f s s' e lf c.in-Some.ensures c.skip.ensures.kept c.skip.ensures.rest far inv.watched.listed.all_listed) (fit_skip (fits cs) L f s s' lf c.skip.ensures.kept c.skip.ensures.rest inv.watched.listed.fit) inv.watched;
      extends = inv.extends;
      kept = inv.kept;
      done = subst P (sym c.skip.ensures.kept) inv.done;
    }

pub returns-clause-says : goal.returns-clause-says
returns-clause-says c =
    let inv = c.visit.invariant in
    let R = c.visit.rows in
    let f = c.args.f in
    let L = c.visit.lists in
    let lf : cell f < length c.visit.lists = back_cell c.args.clauses.now c.args.trail.now c.visit.trail c.visit.rows c.visit.lists f c.visit.sieve inv.extends c.requires.fallen inv.watched in
    done_all c.args.clauses.now (pairs R) L c.visit.trail.literals.items f c.visit.sieve (pairs_len R c.args.clauses.now inv.watched.listed.rows_len) lf inv.watched.listed.all_listed c.in_default.ensures inv.done

pub returns-in-False-clause-says : goal.returns-in-False-clause-says
returns-in-False-clause-says c =
    let cs = c.args.clauses.now in
    let t = c.visit.trail in
    let R = c.visit.rows in
    let H = pairs R in
    let f = c.args.f in
    let k = c.in-Some.slot.clause in
    let o = c.literal-other.result in
    let inv = c.visit.invariant in
    let lf : cell f < length c.visit.lists = back_cell c.args.clauses.now c.args.trail.now c.visit.trail c.visit.rows c.visit.lists f c.visit.sieve inv.extends c.requires.fallen inv.watched in
    let lr : k < length R = row_in cs R c.visit.lists f c.visit.sieve (entry_of c.in-Some.slot) lf inv.watched.listed.rows_len c.in-Some.ensures inv.watched.listed.fit in
    let h = in_hand cs R c.get.result.now k f o c.word_of-fallen.result c.in-Some-other_of.word c.get.ensures lr inv.watched.listed.rows_len inv.watched.listed.watches_in inv.watched.listed.rows_match
    c.word_of-fallen.ensures c.literal-other.ensures c.in-Some-other_of.ensures.says in
    let P : List Lit → Type 0 = AllFalse (holds c.deref-in-Some.result.now) in
    let Q : List ℕ → Type 0 = λ v. AllFalse (holds v) (get_or R k []) in
    let here : Q t.values.items = subst Q c.deref-in-Some.ensures.value (subst P c.get-in-Some.ensures c.in-False.ensures) in
    (h.here, false_on t.values.items t.literals.items (get_or cs k []) t.values_ok (all_over (get_or R k []) (get_or cs k []) (λ m. holds t.values.items (negate m) ≡ true) h.same here))

pub look_at-requires-clause-has : goal.look_at-requires-clause-has
look_at-requires-clause-has c =
    let cs = c.args.clauses.now in
    let t = c.visit.trail in
    let R = c.visit.rows in
    let H = pairs R in
    let f = c.args.f in
    let k = c.in-Some.slot.clause in
    let o = c.literal-other.result in
    let inv = c.visit.invariant in
    let lf : cell f < length c.visit.lists = back_cell c.args.clauses.now c.args.trail.now c.visit.trail c.visit.rows c.visit.lists f c.visit.sieve inv.extends c.requires.fallen inv.watched in
    let lr : k < length R = row_in cs R c.visit.lists f c.visit.sieve (entry_of c.in-Some.slot) lf inv.watched.listed.rows_len c.in-Some.ensures inv.watched.listed.fit in
    let h = in_hand cs R c.get.result.now k f o c.word_of-fallen.result c.in-Some-other_of.word c.get.ensures lr inv.watched.listed.rows_len inv.watched.listed.watches_in inv.watched.listed.rows_match
    c.word_of-fallen.ensures c.literal-other.ensures c.in-Some-other_of.ensures.says in
    let P : List Lit → Type 0 = λ x. Contains x o in
    subst P (sym c.get-in-Some.ensures) (contains_among (get_or R k []) o (h.same o ∙ h.on))

pub look_at-requires-clause-within : goal.look_at-requires-clause-within
look_at-requires-clause-within c =
    let cs = c.args.clauses.now in
    let t = c.visit.trail in
    let R = c.visit.rows in
    let H = pairs R in
    let f = c.args.f in
    let k = c.in-Some.slot.clause in
    let o = c.literal-other.result in
    let inv = c.visit.invariant in
    let lf : cell f < length c.visit.lists = back_cell c.args.clauses.now c.args.trail.now c.visit.trail c.visit.rows c.visit.lists f c.visit.sieve inv.extends c.requires.fallen inv.watched in
    let lr : k < length R = row_in cs R c.visit.lists f c.visit.sieve (entry_of c.in-Some.slot) lf inv.watched.listed.rows_len c.in-Some.ensures inv.watched.listed.fit in
    let h = in_hand cs R c.get.result.now k f o c.word_of-fallen.result c.in-Some-other_of.word c.get.ensures lr inv.watched.listed.rows_len inv.watched.listed.watches_in inv.watched.listed.rows_match
    c.word_of-fallen.ensures c.literal-other.ensures c.in-Some-other_of.ensures.says in
    let n = length c.args.trail.now.values.items in
    let W : ℕ → List Lit → Type 0 = λ m x. Within m x in
    let v = c.deref-in-Some.result.now in
    let len : n ≡ length v = omega (arith, inv.extends.vars, ap length c.deref-in-Some.ensures.value) in
    let row : W n (get_or R k []) = all_back (get_or R k []) (get_or cs k []) (λ x. x.var < n) h.same (c.requires.watched.based.within k [] h.here) in
    let P : List Lit → Type 0 = λ x. W (length v) x in
    let Q : ℕ → Type 0 = λ m. W m (get_or R k []) in
    subst P (sym c.get-in-Some.ensures) (subst Q len row)

pub look_at-requires-clause-off : goal.look_at-requires-clause-off
look_at-requires-clause-off c =
    let cs = c.args.clauses.now in
    let t = c.visit.trail in
    let R = c.visit.rows in
    let H = pairs R in
    let f = c.args.f in
    let k = c.in-Some.slot.clause in
    let o = c.literal-other.result in
    let inv = c.visit.invariant in
    let lf : cell f < length c.visit.lists = back_cell c.args.clauses.now c.args.trail.now c.visit.trail c.visit.rows c.visit.lists f c.visit.sieve inv.extends c.requires.fallen inv.watched in
    let lr : k < length R = row_in cs R c.visit.lists f c.visit.sieve (entry_of c.in-Some.slot) lf inv.watched.listed.rows_len c.in-Some.ensures inv.watched.listed.fit in
    let h = in_hand cs R c.get.result.now k f o c.word_of-fallen.result c.in-Some-other_of.word c.get.ensures lr inv.watched.listed.rows_len inv.watched.listed.watches_in inv.watched.listed.rows_match
    c.word_of-fallen.ensures c.literal-other.ensures c.in-Some-other_of.ensures.says in
    let v = c.deref-in-Some.result.now in
    let row = get_or R k [] in
    let two : 1 < length row = omega (arith, c.in-Some-other_of.ensures.long, ap length c.get.ensures, length-map c.get.result.now literal_of) in
    let off : among t.literals.items (negate f) ≡ true = went_grows c.args.trail.now t inv.extends (negate f) c.requires.fallen.off in
    let V : List ℕ → Type 0 = λ x. holds x (negate f) ≡ true in
    let fallen : V v = subst V (sym c.deref-in-Some.ensures.value) (sym (t.values_ok (negate f)) ∙ off) in
    let P : List Lit → Type 0 = λ x. All (λ m. (m ≡ o → ⊥) → holds v (negate m) ≡ true) (take 2 x) in
    let here : P row = watched_off (holds v) row f o two (beside_which row f o two h.said) fallen in
    subst P (sym c.get-in-Some.ensures) here

pub visit-preserved-in-Hit : goal.visit-preserved-in-Hit
visit-preserved-in-Hit c =
    let cs = c.args.clauses.now in
    let t = c.visit.trail in
    let R = c.visit.rows in
    let H = pairs R in
    let f = c.args.f in
    let k = c.in-Some.slot.clause in
    let o = c.literal-other.result in
    let inv = c.visit.invariant in
    let lf : cell f < length c.visit.lists = back_cell c.args.clauses.now c.args.trail.now c.visit.trail c.visit.rows c.visit.lists f c.visit.sieve inv.extends c.requires.fallen inv.watched in
    let lr : k < length R = row_in cs R c.visit.lists f c.visit.sieve (entry_of c.in-Some.slot) lf inv.watched.listed.rows_len c.in-Some.ensures inv.watched.listed.fit in
    let h = in_hand cs R c.get.result.now k f o c.word_of-fallen.result c.in-Some-other_of.word c.get.ensures lr inv.watched.listed.rows_len inv.watched.listed.watches_in inv.watched.listed.rows_match
    c.word_of-fallen.ensures c.literal-other.ensures c.in-Some-other_of.ensures.says in
    let L = c.visit.lists in
    let s = c.visit.sieve in
    let s' = c.keep-in-Hit.new.self in
    let e = entry_of c.in-Some.slot in
    let x : Watcher = record { clause = k; blocker = literal_of c.in-Some-other_of.word } in
    let Q : List ℕ → Type 0 = λ v. holds v o ≡ true in
    let on : among t.literals.items o ≡ true = t.values_ok o ∙ subst Q c.deref-in-Some.ensures.value c.in-Hit.ensures in
    let hit = true_from t.literals.items (get_or cs k []) o (contains_among (get_or cs k []) o h.on) on in
    let F : Lit → Type 0 = λ l. among (get_or cs k []) l ≡ true in
    let fit : F (literal_of c.in-Some-other_of.word) = subst F c.literal-other.ensures h.on in
    let A : List (List ℕ) → Type 0 = AllListed H in
    let D : Watcher → Type 0 = λ y. DoneWith cs H t.literals.items f y.clause in
    let P : List Watcher → Type 0 = λ xs. All D xs in
    record {
      watched = watched_back cs t R L f s s' (subst A (sym (listed_keep L f s s' e x c.in-Some.ensures refl c.keep-in-Hit.ensures.kept c.keep-in-Hit.ensures.rest)) inv.watched.listed.all_listed) (fit_keep (fits cs) L f s s' x lf c.keep-in-Hit.ensures.kept c.keep-in-Hit.ensures.rest fit inv.watched.listed.fit) inv.watched;
      extends = inv.extends;
      kept = inv.kept;
      done = subst P (sym c.keep-in-Hit.ensures.kept) (All-push D s.kept x inv.done (done_true cs H t.literals.items f k hit));
    }

pub cell_of-requires : goal.cell_of-requires
cell_of-requires c =
    let cs = c.args.clauses.now in
    let t = c.visit.trail in
    let R = c.visit.rows in
    let H = pairs R in
    let f = c.args.f in
    let k = c.in-Some.slot.clause in
    let o = c.literal-other.result in
    let inv = c.visit.invariant in
    let lf : cell f < length c.visit.lists = back_cell c.args.clauses.now c.args.trail.now c.visit.trail c.visit.rows c.visit.lists f c.visit.sieve inv.extends c.requires.fallen inv.watched in
    let lr : k < length R = row_in cs R c.visit.lists f c.visit.sieve (entry_of c.in-Some.slot) lf inv.watched.listed.rows_len c.in-Some.ensures inv.watched.listed.fit in
    let h = in_hand cs R c.get.result.now k f o c.word_of-fallen.result c.in-Some-other_of.word c.get.ensures lr inv.watched.listed.rows_len inv.watched.listed.watches_in inv.watched.listed.rows_match
    c.word_of-fallen.ensures c.literal-other.ensures c.in-Some-other_of.ensures.says in
    let g = c.in-Move.g in
    let n = length c.args.trail.now.values.items in
    let m = move_facts cs R t k c.in-Move.j g o (map literal_of c.get-in-Some.result.now) c.deref-in-Some.result.now c.get-in-Some.ensures c.deref-in-Some.ensures.value h.same
    c.in-Move.ensures in
    let gv : g.var < n = var_in (get_or cs k []) n g (c.requires.watched.based.within k [] h.here) m.0 in
    omega (arith, gv, c.requires.watched.room)

pub push-requires-clause-cell : goal.push-requires-clause-cell
push-requires-clause-cell c =
    let cs = c.args.clauses.now in
    let t = c.visit.trail in
    let R = c.visit.rows in
    let H = pairs R in
    let f = c.args.f in
    let k = c.in-Some.slot.clause in
    let o = c.literal-other.result in
    let inv = c.visit.invariant in
    let lf : cell f < length c.visit.lists = back_cell c.args.clauses.now c.args.trail.now c.visit.trail c.visit.rows c.visit.lists f c.visit.sieve inv.extends c.requires.fallen inv.watched in
    let lr : k < length R = row_in cs R c.visit.lists f c.visit.sieve (entry_of c.in-Some.slot) lf inv.watched.listed.rows_len c.in-Some.ensures inv.watched.listed.fit in
    let h = in_hand cs R c.get.result.now k f o c.word_of-fallen.result c.in-Some-other_of.word c.get.ensures lr inv.watched.listed.rows_len inv.watched.listed.watches_in inv.watched.listed.rows_match
    c.word_of-fallen.ensures c.literal-other.ensures c.in-Some-other_of.ensures.says in
    let g = c.in-Move.g in
    let n = length c.args.trail.now.values.items in
    let m = move_facts cs R t k c.in-Move.j g o (map literal_of c.get-in-Some.result.now) c.deref-in-Some.result.now c.get-in-Some.ensures c.deref-in-Some.ensures.value h.same
    c.in-Move.ensures in
    let gv : g.var < n = var_in (get_or cs k []) n g (c.requires.watched.based.within k [] h.here) m.0 in
    omega (arith, back_len cs c.args.trail.now t R c.visit.lists f c.visit.sieve inv.extends inv.watched, c.cell_of.ensures, cell_in g n gv)

pub rewatch-requires-clause-fits_first : goal.rewatch-requires-clause-fits_first
rewatch-requires-clause-fits_first c =
    let cs = c.args.clauses.now in
    let t = c.visit.trail in
    let R = c.visit.rows in
    let H = pairs R in
    let f = c.args.f in
    let k = c.in-Some.slot.clause in
    let o = c.literal-other.result in
    let inv = c.visit.invariant in
    let lf : cell f < length c.visit.lists = back_cell c.args.clauses.now c.args.trail.now c.visit.trail c.visit.rows c.visit.lists f c.visit.sieve inv.extends c.requires.fallen inv.watched in
    let lr : k < length R = row_in cs R c.visit.lists f c.visit.sieve (entry_of c.in-Some.slot) lf inv.watched.listed.rows_len c.in-Some.ensures inv.watched.listed.fit in
    let h = in_hand cs R c.get.result.now k f o c.word_of-fallen.result c.in-Some-other_of.word c.get.ensures lr inv.watched.listed.rows_len inv.watched.listed.watches_in inv.watched.listed.rows_match
    c.word_of-fallen.ensures c.literal-other.ensures c.in-Some-other_of.ensures.says in
    let g = c.in-Move.g in
    let n = length c.args.trail.now.values.items in
    let m = move_facts cs R t k c.in-Move.j g o (map literal_of c.get-in-Some.result.now) c.deref-in-Some.result.now c.get-in-Some.ensures c.deref-in-Some.ensures.value h.same
    c.in-Move.ensures in
    let P : Lit → Type 0 = λ x. cell x < 2 ^ 32 in
    subst P (sym m.3.2) (low_cell (get_or cs k []) n g (c.requires.watched.based.within k [] h.here) m.0 c.requires.watched.room)

pub visit-preserved-in-Move : goal.visit-preserved-in-Move
visit-preserved-in-Move c =
    let cs = c.args.clauses.now in
    let t = c.visit.trail in
    let R = c.visit.rows in
    let H = pairs R in
    let f = c.args.f in
    let k = c.in-Some.slot.clause in
    let o = c.literal-other.result in
    let inv = c.visit.invariant in
    let lf : cell f < length c.visit.lists = back_cell c.args.clauses.now c.args.trail.now c.visit.trail c.visit.rows c.visit.lists f c.visit.sieve inv.extends c.requires.fallen inv.watched in
    let lr : k < length R = row_in cs R c.visit.lists f c.visit.sieve (entry_of c.in-Some.slot) lf inv.watched.listed.rows_len c.in-Some.ensures inv.watched.listed.fit in
    let h = in_hand cs R c.get.result.now k f o c.word_of-fallen.result c.in-Some-other_of.word c.get.ensures lr inv.watched.listed.rows_len inv.watched.listed.watches_in inv.watched.listed.rows_match
    c.word_of-fallen.ensures c.literal-other.ensures c.in-Some-other_of.ensures.says in
    let g = c.in-Move.g in
    let n = length c.args.trail.now.values.items in
    let m = move_facts cs R t k c.in-Move.j g o (map literal_of c.get-in-Some.result.now) c.deref-in-Some.result.now c.get-in-Some.ensures c.deref-in-Some.ensures.value h.same
    c.in-Move.ensures in
    let gv : g.var < n = var_in (get_or cs k []) n g (c.requires.watched.based.within k [] h.here) m.0 in
    let L = c.visit.lists in
    let L' = c.push.new.self in
    let s = c.visit.sieve in
    let s' = c.skip-in-Move.new.self in
    let e = entry_of c.in-Some.slot in
    let put : Watcher = record { clause = k; blocker = o } in
    let to = c.cell_of.result in
    let lg : to < length L = omega (arith, back_len cs c.args.trail.now t R L f s inv.extends inv.watched, c.cell_of.ensures, cell_in g n gv) in
    let off : among t.literals.items (negate f) ≡ true = went_grows c.args.trail.now t inv.extends (negate f) c.requires.fallen.off in
    let ng : g ≡ f → ⊥ = λ q. let N : Lit → Type 0 = λ x. among t.literals.items (negate x) ≡ false in both_ways _ (subst N q m.1) off in
    let elsewhere : to ≡ cell f → ⊥ = λ q. ng (cell_same g f (sym c.cell_of.ensures ∙ q)) in
    let J = put_back L f s in
    let J' = put_back L' f s in
    let pushed : J' ≡ set J to (get_or J to [] ++ put ∷ []) = pushed_back L L' f s to put elsewhere c.in_ok-push-in-Move.ensures.done in
    let lj : to < length J = omega (arith, lg, length-set L (cell f) (whole s)) in
    let lengths : length L' ≡ length L = ap length c.in_ok-push-in-Move.ensures.done ∙ length-set L to (get_or L to [] ++ put ∷ []) in
    let lf' : cell f < length L' = omega (arith, lf, lengths) in
    let new : Watches = record { a = g; b = o } in
    let H' = set H k new in
    let NJ = numbers_of J in
    let G : ℕ → Type 0 = λ x. x < length NJ → AllListed H' (set NJ x (get_or NJ x [] ++ k ∷ [])) in
    let ln : to < length NJ = omega (arith, lj, length-map J numbers) in
    let listed_g : G (cell g) = λ lt. lists_move H NJ k g o h.paired lt h.two h.which inv.watched.listed.all_listed in
    let listed_to : G to = subst G (sym c.cell_of.ensures) listed_g in
    let A : List (List ℕ) → Type 0 = AllListed H' in
    let listed : A (numbers_of J') = subst A (sym (numbers_push J J' to put pushed)) (listed_to ln) in
    let W : Watches → Type 0 = λ w. HasTwo w → (cell w.a ≡ cell f → ⊥) × (cell w.b ≡ cell f → ⊥) in
    let beside : W new = λ _. (λ q. ng (cell_same g f q), λ q. h.apart (cell_same o f q)) in
    let far : W (watches_at H' k) = subst W (sym (head_new H k new h.paired)) beside in
    let row = get_or R k [] in
    let R' = c.rewatch.new.self in
    let both : 1 < length row = omega (arith, m.3.0, m.3.1) in
    let eh : pairs R' ≡ H' = pairs_move R R' k c.in-Move.j g o f both m.3.2 c.rewatch.ensures in
    let moves : Kept cs H H' t.literals.items = kept_move cs H k g o t.literals.items h.paired h.two h.which m.1 in
    let back = sym eh in
    let V : List Watches → Type 0 = λ w. AllWatchesIn cs w in
    let B : List Watches → Type 0 = λ w. AllListed w (numbers_of (put_back L' f s')) in
    let K : List Watches → Type 0 = λ w. Kept cs (pairs c.args.rows.now) w c.args.trail.now.literals.items in
    let T : List Watches → Type 0 = λ w. KeepsTwo (pairs c.args.rows.now) w in
    let D : List Watches → Watcher → Type 0 = λ w x. DoneWith cs w t.literals.items f x.clause in
    let P : List Watcher → Type 0 = λ xs. All (D H') xs in
    let Q : List Watches → Type 0 = λ w. All (D w) s'.kept in
    let done : P s.kept = All-weaker (D H) (D H') (λ x d. done_move cs H k g o f t.literals.items x.clause h.paired ng h.apart d) s.kept inv.done in
    record {
      watched = watched_lists cs t R R' (put_back L f s) (put_back L' f s') (back_same L L' f s s' lengths) (record {
        rows_len = ap length c.rewatch.ensures ∙ length-set R k (rewatched row c.in-Move.j o f) ∙ inv.watched.listed.rows_len;
        watches_in = subst V back (heads_move cs H k g o h.paired m.0 h.on inv.watched.listed.watches_in);
        rows_match = match_move cs R R' k c.in-Move.j o f h.here lr h.said.0 m.3.0 m.3.1 (beside_which row f o both h.said) c.rewatch.ensures inv.watched.listed.rows_match;
        all_listed = subst B back (listed_skip H' L' f s s' e lf' c.in-Some.ensures c.skip-in-Move.ensures.kept c.skip-in-Move.ensures.rest far listed);
        fit = fit_skip (fits cs) L' f s s' lf' c.skip-in-Move.ensures.kept c.skip-in-Move.ensures.rest (entries_push (fits cs) J J' to put lj pushed inv.watched.listed.fit h.on);
      }) inv.watched;
      extends = inv.extends;
      kept = record {
        kept = subst K back (λ x u part old. moves x u (λ l on. went_grows c.args.trail.now t inv.extends l (part l on)) (inv.kept.kept x u part old));
        two_kept = subst T back (λ j two. bigs_move H k g o h.paired m.2 j (inv.kept.two_kept j two));
      };
      done = subst Q back (subst P (sym c.skip-in-Move.ensures.kept) done);
    }

pub imply-requires-clause-in_range : goal.imply-requires-clause-in_range
imply-requires-clause-in_range c =
    let cs = c.args.clauses.now in
    let t = c.visit.trail in
    let R = c.visit.rows in
    let H = pairs R in
    let f = c.args.f in
    let k = c.in-Some.slot.clause in
    let o = c.literal-other.result in
    let inv = c.visit.invariant in
    let lf : cell f < length c.visit.lists = back_cell c.args.clauses.now c.args.trail.now c.visit.trail c.visit.rows c.visit.lists f c.visit.sieve inv.extends c.requires.fallen inv.watched in
    let lr : k < length R = row_in cs R c.visit.lists f c.visit.sieve (entry_of c.in-Some.slot) lf inv.watched.listed.rows_len c.in-Some.ensures inv.watched.listed.fit in
    let h = in_hand cs R c.get.result.now k f o c.word_of-fallen.result c.in-Some-other_of.word c.get.ensures lr inv.watched.listed.rows_len inv.watched.listed.watches_in inv.watched.listed.rows_match
    c.word_of-fallen.ensures c.literal-other.ensures c.in-Some-other_of.ensures.says in
    let n = length c.args.trail.now.values.items in
    omega (arith, var_in (get_or cs k []) n o (c.requires.watched.based.within k [] h.here) h.on, inv.extends.vars)

pub visit-preserved : goal.visit-preserved
visit-preserved c =
    let cs = c.args.clauses.now in
    let t = c.visit.trail in
    let R = c.visit.rows in
    let H = pairs R in
    let f = c.args.f in
    let k = c.in-Some.slot.clause in
    let o = c.literal-other.result in
    let inv = c.visit.invariant in
    let lf : cell f < length c.visit.lists = back_cell c.args.clauses.now c.args.trail.now c.visit.trail c.visit.rows c.visit.lists f c.visit.sieve inv.extends c.requires.fallen inv.watched in
    let lr : k < length R = row_in cs R c.visit.lists f c.visit.sieve (entry_of c.in-Some.slot) lf inv.watched.listed.rows_len c.in-Some.ensures inv.watched.listed.fit in
    let h = in_hand cs R c.get.result.now k f o c.word_of-fallen.result c.in-Some-other_of.word c.get.ensures lr inv.watched.listed.rows_len inv.watched.listed.watches_in inv.watched.listed.rows_match
    c.word_of-fallen.ensures c.literal-other.ensures c.in-Some-other_of.ensures.says in
    let n = length c.args.trail.now.values.items in
    let v = c.deref-in-Some.result.now in
    let P : List Lit → Type 0 = λ x. UnitIn (holds v) x o × (holds v o ≡ false) × (holds v (negate o) ≡ false) in
    let Q : List ℕ → Type 0 = λ x. UnitIn (holds x) (get_or R k []) o × (holds x o ≡ false) × (holds x (negate o) ≡ false) in
    let said : Q t.values.items = subst Q c.deref-in-Some.ensures.value (subst P c.get-in-Some.ensures c.in-Force.ensures) in
    let u : UnitIn (holds t.values.items) (get_or cs k []) o = unit_over (holds t.values.items) (get_or R k []) (get_or cs k []) o h.same h.on said.0 in
    let in_now : o.var < length t.values.items = omega (arith, var_in (get_or cs k []) n o (c.requires.watched.based.within k [] h.here) h.on, inv.extends.vars) in
    let in_why : o.var < length t.reasons.items = omega (arith, in_now, t.reasons_len) in
    let set' = c.in_ok-imply-in-Force.ensures in
    let new = c.imply.new.self in
    let step = went_push c.args.trail.now t new o inv.extends in_now said.1 said.2 set'.pushed.literals set'.pushed.values set'.level_starts in
    let one = went_push t t new o (went_none t) in_now said.1 said.2 set'.pushed.literals set'.pushed.values set'.level_starts in
    let B : Trail → Type 0 = λ x. Based x.literals.items x.reasons.items cs in
    let based' : B new = rw (set'.pushed.literals, set'.pushed.reasons) (based_push t.values.items t.reasons.items t.literals.items cs o k in_why t.values_ok said.1 said.2 h.here u inv.watched.based.reasons) in
    let on : among new.literals.items o ≡ true =
    among_here new.literals.items (length t.literals.items) o (omega (arith, ap length set'.pushed.literals, length-append t.literals.items (o ∷ []))) (ap (λ xs. at xs (length t.literals.items)) set'.pushed.literals ∙ at_end t.literals.items o) in
    let hit = true_from new.literals.items (get_or cs k []) o (contains_among (get_or cs k []) o h.on) on in
    let L = c.visit.lists in
    let s = c.visit.sieve in
    let s' = c.keep-in-Force.new.self in
    let e = entry_of c.in-Some.slot in
    let x : Watcher = record { clause = k; blocker = literal_of c.in-Some-other_of.word } in
    let F : Lit → Type 0 = λ l. among (get_or cs k []) l ≡ true in
    let fit : F (literal_of c.in-Some-other_of.word) = subst F c.literal-other.ensures h.on in
    let A : List (List ℕ) → Type 0 = AllListed H in
    let D : List Lit → Watcher → Type 0 = λ u x. DoneWith cs H u f x.clause in
    let below = All-weaker (D t.literals.items) (D new.literals.items) (λ x d. done_grows cs H t.literals.items new.literals.items f x.clause (λ l. went_grows t new one.0 l) d) s.kept inv.done in
    let Z : List Watcher → Type 0 = λ xs. All (D new.literals.items) xs in
    record {
      watched = watched_trail cs t new R (put_back L f s') (based_on cs t new based' one.0.vars inv.watched.based) one.0.vars
          (watched_back cs t R L f s s' (subst A (sym (listed_keep L f s s' e x c.in-Some.ensures refl c.keep-in-Force.ensures.kept c.keep-in-Force.ensures.rest)) inv.watched.listed.all_listed) (fit_keep (fits cs) L f s s' x lf c.keep-in-Force.ensures.kept c.keep-in-Force.ensures.rest fit inv.watched.listed.fit) inv.watched);
      extends = step.0;
      kept = inv.kept;
      done = subst Z (sym c.keep-in-Force.ensures.kept) (All-push (D new.literals.items) s.kept x below (done_true cs H new.literals.items f k hit));
    }

pub returns-in_err-push-in-Move-clause-watched : goal.returns-in_err-push-in-Move-clause-watched
returns-in_err-push-in-Move-clause-watched c =
    let W : List (List Watcher) → Type 0 = λ x. IsWatched c.args.clauses.now c.visit.trail c.visit.rows (put_back x c.args.f c.visit.sieve) in
    subst W (sym c.in_err-push-in-Move.ensures.failed) c.visit.invariant.watched

pub returns-in_err-imply-in-Force-clause-watched : goal.returns-in_err-imply-in-Force-clause-watched
returns-in_err-imply-in-Force-clause-watched c =
    let cs = c.args.clauses.now in
    let t = c.visit.trail in
    let new = c.imply.new.self in
    let said = c.in_err-imply-in-Force.ensures.failed in
    let before = c.visit.invariant.watched in
    watched_trail cs t new c.visit.rows (put_back c.visit.lists c.args.f c.visit.sieve) (based_same cs t new said before.based) (ap length said.values) before

pub returns-in_err-imply-in-Force-clause-extends : goal.returns-in_err-imply-in-Force-clause-extends
returns-in_err-imply-in-Force-clause-extends c =
    went_alike c.args.trail.now c.visit.trail c.imply.new.self c.in_err-imply-in-Force.ensures.failed c.visit.invariant.extends
