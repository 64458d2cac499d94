use Rattle.std.proofs.Common.{◌≡◌, ℕ, ◌<◌, false, List, get_or, length, refl, rules}
use Rattle.std.specs.Prelude.{Some, slice_get}
use Rattle.std.proofs.lemmas.Option.{slice_get_read}
use Rattle.frame_history.specs.declared.entries.Entry.{Entry}
use Rattle.frame_claims.specs.Apart.{notes_spent}
use Rattle.frame_claims.proofs.Unspent.{unspent_next}
use Rattle.frame_claims.proofs.apart.is_unspent.Goals as goal

pub entries-preserved : goal.entries-preserved
entries-preserved c =
    let history : List Entry = c.args.history.now in
    let n : ℕ = c.entries.n in
    let e : Entry = c.index-history-n.result in
    let lt : n < length history = search rules in
    let read : e ≡ get_or history n e = search rules in
    let there : slice_get history n ≡ Some e = slice_get_read history (length history) n e refl lt read in
    let quiet : notes_spent e ≡ false = search rules in
    record {
      within = search rules;
      unspent = λ limits systems carried lawful.
          unspent_next limits systems carried history n e lawful there quiet (c.entries.invariant.unspent limits systems carried lawful);
    }
