use Rattle.runs.proofs.Findings.{safe_runs}
use Rattle.runs.proofs.runs_stand_for.Goals as goal

-- from the rule's laws
pub returns : goal.returns
returns g c = safe_runs (g.R.QuorumRule.carries c.args.rule.now) (g.met.R.QuorumRule.grows c.args.rule.now) (g.met.R.QuorumRule.meets c.args.rule.now)
