use Rattle.std.proofs.Common.{sym, subst}
use Rattle.runs.proofs.Findings.{runs_on_safe}
use Rattle.runs.proofs.Orderly.{runs_on_orderly}
use Rattle.runs.specs.Runs.{Run}
use Rattle.runs.specs.World.{World}
use Rattle.floor.proofs.Memory.{all_find}
use Rattle.floor.proofs.floor.Floor.run.Goals as goal

pub returns-clause-found : goal.returns-clause-found
returns-clause-found g c =
    let rule = c.args.self.now.rule in
    let met = g.met.R.QuorumRule in
    let ran = c.make_all.ensures.ran in
    record {
      ran = ran;
      findings = λ first start before founded run ends.
          runs_on_safe (g.R.QuorumRule.carries rule) (met.local rule) (met.whole rule) (met.grows rule) (met.meets rule) first start before ran.takens founded run
          (subst (λ (x : World). Run (g.R.QuorumRule.carries rule) x ran.takens) (sym ends) ran.run);
      orderly = λ first start before founded run ends.
          runs_on_orderly (g.R.QuorumRule.carries rule) first start before ran.takens founded run
          (subst (λ (x : World). Run (g.R.QuorumRule.carries rule) x ran.takens) (sym ends) ran.run);
      memory = λ first start before founded run ends room.
          all_find (g.R.QuorumRule.carries rule) first start founded _ room before _ ran.takens run ends ran.run ran.memory;
    }
