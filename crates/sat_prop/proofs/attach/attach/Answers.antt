use Rattle.std.proofs.Common.{◌≡◌, ℕ, ◌∷◌, ◌++◌, List, [], true, length, refl, subst, sym, ap, ◌∙◌}
use Rattle.clause_core.specs.declared.literal.Lit.{Lit}
use Rattle.sat_prop.specs.Entries.{listed_with}
use Rattle.sat_prop.specs.Packing.{pairs, row_of}
use Rattle.sat_prop.specs.States.{HasCells}
use Rattle.sat_prop.specs.Trails.{is_literal}
use Rattle.sat_prop.specs.Watches.{ShortListed, HasTwo, InShort}
use Rattle.sat_prop.proofs.Attaching.{delisted, enlisted_length, small_more}
use Rattle.sat_prop.proofs.Keeping.{attached, attached_short, listed_same}
use Rattle.sat_prop.proofs.attach.attach.Goals as goal

pub delist-requires : goal.delist-requires
delist-requires c =
    let said = c.in_ok-enlist.ensures in
    let P : ℕ → Type 0 = λ n. HasCells n c.args.h in
    record { cells = subst P (sym (enlisted_length c.args.lists.now c.enlist.new.lists c.args.h c.len-k.result said.same said.both)) c.requires.attachable.cells }

pub returns-in_err-enlist-clause-listed : goal.returns-in_err-enlist-clause-listed
returns-in_err-enlist-clause-listed c =
    let cs = c.args.clauses.now in
    let rows = c.args.rows.now in
    listed_same cs cs rows rows c.args.lists.now c.enlist.new.lists refl refl c.in_err-enlist.ensures.failed c.requires.listed

pub returns-in_err-enlist-clause-short_listed : goal.returns-in_err-enlist-clause-short_listed
returns-in_err-enlist-clause-short_listed c =
    small_more c.args.clauses.now (pairs c.args.rows.now) c.args.short.now.items c.enlist.new.short.items c.in_err-enlist.ensures.short c.requires.short_listed

pub returns-in-Err-clause-cells : goal.returns-in-Err-clause-cells
returns-in-Err-clause-cells c = ap length (delisted c.args.lists.now c.enlist.new.lists c.delist.new.lists c.args.h c.len-k.result c.in_ok-enlist.ensures.same c.in_ok-enlist.ensures.both c.delist.ensures.same c.delist.ensures.undone)

pub returns-in-Err-clause-listed : goal.returns-in-Err-clause-listed
returns-in-Err-clause-listed c =
    let said = c.in_ok-enlist.ensures in
    let back = delisted c.args.lists.now c.enlist.new.lists c.delist.new.lists c.args.h c.len-k.result said.same said.both c.delist.ensures.same c.delist.ensures.undone in
    listed_same c.args.clauses.now c.push_clause.new.clauses c.args.rows.now c.push_clause.new.rows c.args.lists.now c.delist.new.lists c.in-Err.ensures.failed c.in-Err.ensures.failed_rows back
    c.requires.listed

pub returns-in-Err-clause-short_listed : goal.returns-in-Err-clause-short_listed
returns-in-Err-clause-short_listed c =
    let short = c.enlist.new.short.items in
    let P : List (List Lit) → Type 0 = λ x. ShortListed x (pairs c.push_clause.new.rows) short in
    let Q : List (List Lit) → Type 0 = λ x. ShortListed c.args.clauses.now (pairs x) short in
    subst P (sym c.in-Err.ensures.failed) (subst Q (sym c.in-Err.ensures.failed_rows)
    (small_more c.args.clauses.now (pairs c.args.rows.now) c.args.short.now.items short c.in_ok-enlist.ensures.short c.requires.short_listed))

pub returns-clause-cells : goal.returns-clause-cells
returns-clause-cells c =
    let said = c.in_ok-enlist.ensures in
    enlisted_length c.args.lists.now c.enlist.new.lists c.args.h c.len-k.result said.same said.both

pub returns-clause-listed : goal.returns-clause-listed
returns-clause-listed c =
    let cs = c.args.clauses.now in
    let rows = c.args.rows.now in
    let said = c.in_ok-enlist.ensures in
    let lists = c.enlist.new.lists in
    let short = c.enlist.new.short.items in
    let h = c.args.h in
    let number : c.len-k.result ≡ length cs = c.len-k.ensures ∙ c.requires.listed.rows_len in
    let E : ℕ → Type 0 = λ k. HasTwo h → lists ≡ listed_with c.args.lists.now h k in
    let F : ℕ → Type 0 = λ k. is_literal h.a h.b ≡ true → InShort short k in
    let new = attached cs rows c.args.lists.now lists short c.args.c.now h c.requires.attachable said.same (subst E number said.both) (subst F number said.short_done) c.requires.listed in
    listed_same (cs ++ c.args.c.now ∷ []) c.push_clause.new.clauses (rows ++ row_of h c.args.c.now ∷ []) c.push_clause.new.rows lists lists c.in_default.ensures.done c.in_default.ensures.done_rows refl new

pub returns-clause-short_listed : goal.returns-clause-short_listed
returns-clause-short_listed c =
    let cs = c.args.clauses.now in
    let rows = c.args.rows.now in
    let said = c.in_ok-enlist.ensures in
    let lists = c.enlist.new.lists in
    let short = c.enlist.new.short.items in
    let h = c.args.h in
    let number : c.len-k.result ≡ length cs = c.len-k.ensures ∙ c.requires.listed.rows_len in
    let E : ℕ → Type 0 = λ k. HasTwo h → lists ≡ listed_with c.args.lists.now h k in
    let F : ℕ → Type 0 = λ k. is_literal h.a h.b ≡ true → InShort short k in
    let new = attached_short cs rows c.args.lists.now lists c.args.short.now.items short c.args.c.now h c.requires.attachable said.same (subst E number said.both) (subst F number said.short_done) said.short
    c.requires.listed c.requires.short_listed in
    let P : List (List Lit) → Type 0 = λ x. ShortListed x (pairs c.push_clause.new.rows) short in
    let Q : List (List Lit) → Type 0 = λ x. ShortListed (cs ++ c.args.c.now ∷ []) (pairs x) short in
    subst P (sym c.in_default.ensures.done) (subst Q (sym c.in_default.ensures.done_rows) new)
