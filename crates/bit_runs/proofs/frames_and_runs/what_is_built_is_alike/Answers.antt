use Rattle.bit_system.specs.Building.{IsLike, system_of}
use Rattle.bit_runs.proofs.frames_and_runs.what_is_built_is_alike.Goals as goal

pub returns : goal.returns
returns c = λ p b built j lt. (let like : IsLike (system_of b 0) (system_of b j) = built.alike j lt in record {
  state_bits = like.state_bits;
  all_bits = like.all_bits;
  init = like.init;
  step = like.step;
  bad = λ e. cc;
  good = λ e. cc;
})
