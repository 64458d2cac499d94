use Rattle.std.proofs.Common.{List, sym, subst, ◌∙◌}
use Rattle.sat_prop.specs.declared.lists.Watcher.{Watcher}
use Rattle.sat_prop.specs.States.{IsWatched}
use Rattle.sat_prop.proofs.Sifting.{taken_out}
use Rattle.sat_prop.proofs.visit.visit_list.Goals as goal

pub visit_entries-found-requires-clause-watched : goal.visit_entries-found-requires-clause-watched
visit_entries-found-requires-clause-watched c =
    let W : List (List Watcher) → Type 0 = IsWatched c.args.clauses.now c.args.trail.now c.args.rows.now in
    let same = taken_out c.args.lists.now c.take.new.self c.cell_of-c.result c.args.f c.new-sieve.result c.cell_of-c.ensures c.take.ensures.others c.new-sieve.ensures.kept (c.new-sieve.ensures.rest ∙ c.take.ensures.list) in
    subst W (sym same) c.requires.watched
