use Rattle.std.proofs.Common.{◌≡◌, ℕ, ◌<◌, List, get_or, length, refl, rules}
use Rattle.std.specs.Prelude.{Some, slice_get}
use Rattle.std.proofs.lemmas.Option.{slice_get_read}
use Rattle.frame_history.specs.declared.entries.Entry.{Entry}
use Rattle.frame_claims.proofs.Scanned.{scanned_next}
use Rattle.frame_claims.proofs.apart.are_apart.Goals as goal

pub entries-preserved : goal.entries-preserved
entries-preserved c =
    let history : List Entry = c.args.history.now in
    let n : ℕ = c.entries.n in
    let e : Entry = c.index-history-n.result in
    let lt : n < length history = search rules in
    let read : e ≡ get_or history n e = search rules in
    let there : slice_get history n ≡ Some e = slice_get_read history (length history) n e refl lt read in
    record {
      within = search rules;
      scanned = λ limits systems carried lawful.
          scanned_next limits systems carried history n e c.entries.made.items c.in-Some.now c.push.new.self.items c.entries.growth lawful there
          c.in_ok-push.ensures.items (c.entries.invariant.scanned limits systems carried lawful) c.in-Some.ensures;
    }
