-- A list of entries that is read while some of them are taken out.
use Rattle.std.specs.Prelude.{◌++◌, List, slice_set}
use Rattle.clause_core.specs.declared.literal.Lit.{Lit}
use Rattle.sat_prop.specs.declared.lists.Watcher.{Watcher}
use Rattle.sat_prop.specs.Watches.{cell}

-- the entries that stay so far, and those that are still to be read
pub record Sifted : Type 0 where
  pub kept : List Watcher
  pub rest : List Watcher

-- all of them
abbrev pub whole : Sifted → List Watcher
whole s = s.kept ++ s.rest

-- the lists, with the one that is read put back as that of f
abbrev pub put_back : List (List Watcher) → Lit → Sifted → List (List Watcher)
put_back lists f s = slice_set lists (cell f) (whole s)
