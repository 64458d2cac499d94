-- A command line says a command, so one is found.
use Rattle.std.proofs.Common.{map, Bor, List, ℕ}
use Rattle.clap.specs.Words.{app_of}
use Rattle.command_words.proofs.Found.{found_told}
use Rattle.command_words.proofs.reading.read_words.Goals as goal

pub command_of-requires : goal.command_of-requires
command_of-requires c =
    let words = map (λ (w : Bor (List ℕ)). w.now) c.args.words.now in
    let e = c.in-Ok-try_get_matches_from.ensures in
    found_told (app_of c.in-Ok.program) c.in-Ok.ensures words c.in-Ok-try_get_matches_from.matches e.matches e.kinds
