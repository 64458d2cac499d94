use Rattle.std.proofs.Common.{◌≡◌, drop, map}
use Rattle.cert_text.specs.Tokens.{tokens_of}
use Rattle.cert_text.proofs.Scans.{behind}
use Rattle.cert_text.proofs.scan.tokens_in.Given as goal

abbrev pub invariant-loop-word : goal.invariant-loop-word
invariant-loop-word l = behind l.tokens.items (tokens_of (drop l.word-index (map (λ x. x.now) l.words))) ≡ tokens_of (map (λ x. x.now) l.words)
