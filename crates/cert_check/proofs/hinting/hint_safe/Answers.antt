use Rattle.cert_core.specs.declared.form.Part.TheVariants.{Safe}
use Rattle.cert_core.specs.Certificates.{safe_clauses}
use Rattle.cert_check.proofs.Joining.{safe_same, safe_log, puts_at}
use Rattle.cert_check.proofs.hinting.hint_safe.Goals as goal

pub hint_part-requires-clause-derives : goal.hint_part-requires-clause-derives
hint_part-requires-clause-derives c =
    safe_log c.args.system.now c.args.cert.now c.args.checker.now c.args.given.now c.in_ok-log.log c.requires.vars c.requires.given c.in_ok-log.ensures c.requires.certifies

pub returns-clause-puts : goal.returns-clause-puts
returns-clause-puts c =
    puts_at _ c.args.system.now.all_bits _ (safe_clauses c.args.system.now c.args.cert.now.clauses) Safe c.args.to.now c.hint_part.new.to c.requires.vars
    (safe_same c.args.system.now c.args.cert.now c.args.given.now c.requires.given) c.in_ok-hint_part.ensures.puts
