-- One number more.
use Rattle.std.proofs.Common.{◌≤◌, List, All, subst, arith}
use Rattle.std.proofs.lemmas.List.{take_all}
use Rattle.bit_system.specs.declared.sides.Claim.{Claim}
use Rattle.bit_system.proofs.Joining.{all_below_more}
use Rattle.bit_system.proofs.systems.highest.Goals as goal

pub loop-c-preserved : goal.loop-c-preserved
loop-c-preserved c =
    let most = c.higher-most.result in
    record {
      start = omega (arith, c.loop-c.invariant.start, c.higher-most.ensures.first);
      all = all_below_more c.args.claims.now c.loop-c.c-index c.loop-c.most most c.c-item.result c.loop-c-test.true c.higher-most.ensures.first
          (subst (λ (x : Claim). x.vars ≤ most) c.c-item.is c.higher-most.ensures.second) c.loop-c.invariant.all;
    }

pub returns-clause-all : goal.returns-clause-all
returns-clause-all c =
    subst (λ (cs : List Claim). All (λ (x : Claim). x.vars ≤ c.loop-c.most) cs) (take_all c.loop-c.c-index c.args.claims.now c.loop-c-test.false) c.loop-c.invariant.all
