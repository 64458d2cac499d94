use Rattle.prove_ltl.proofs.Owned.{own_violates}
use Rattle.prove_ltl.proofs.searching.violating.Goals as goal

pub returns : goal.returns
returns c = λ f atoms n ism fair.
    let sys = c.args.system.now in
    let m = c.args.monitored.now.system in
    let r = c.args.lasso.now in
    let own = c.in_ok-own.own in
    let is = c.in_ok-own.ensures f atoms ism in
    let both = c.own_lassos.ensures sys m f atoms ism c.law.ensures.gives c.law-2.ensures.gives n r own fair is in
    own_violates sys m f atoms n r own fair is both.0 both.1
    (λ values ext. c.found_lassos.ensures sys m f atoms ism c.law-2.ensures.gives n r fair values ext)
