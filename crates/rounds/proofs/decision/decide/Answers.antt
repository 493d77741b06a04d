use Rattle.rounds.proofs.Grounds.{grounds_of, only_of}
use Rattle.rounds.proofs.decision.decide.Goals as goal

pub returns : goal.returns
returns g c =
    let rule = c.args.rule.now in
    let laws = g.met.R.QuorumRule in
    let f = g.R.QuorumRule.carries rule in
    let h = c.args.head in
    let rs = c.args.reports.now in
    let d = c.first_that_applies.result in
    record {
      first = c.first_that_applies.ensures;
      grounds = grounds_of f h rs (laws.grows rule) (laws.meets rule) d c.first_that_applies.ensures;
      only = only_of f h rs (laws.grows rule) (laws.meets rule) d c.first_that_applies.ensures;
    }
