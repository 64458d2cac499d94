use Rattle.smv_text.proofs.Ascii.{token_ascii}
use Rattle.smv_text.proofs.texts.push.Goals as goal

pub from_ascii-requires : goal.from_ascii-requires
from_ascii-requires c = token_ascii c.args.text.now c.args.kind c.requires
