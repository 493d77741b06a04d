use Rattle.std.proofs.Common.{arith}
use Rattle.runs.proofs.Findings.{safe_going_on_from}
use Rattle.floor.proofs.Memory.{lacks_two}
use Rattle.floor.proofs.floor.Floor.apply.Goals as goal

pub returns-clause-findings : goal.returns-clause-findings
returns-clause-findings g c first w before founded run ends =
    let rule = c.args.self.now.rule in
    let met = g.met.R.QuorumRule in
    safe_going_on_from (g.R.QuorumRule.carries rule) (met.grows rule) (met.meets rule) first w before _ _ founded run ends c.step.ensures.step

-- at most two messages are posted
pub returns-clause-memory : goal.returns-clause-memory
returns-clause-memory g c none =
    let lacks = lacks_two _ _ c.args.call _ (c.step.ensures.lacking none) in
    omega (arith, lacks, c.args.post.now.ok.0)
