use Rattle.std.proofs.Common.{ap}
use Rattle.runs.specs.World.{World}
use Rattle.floor.specs.Worlds.{world}
use Rattle.floor.proofs.Ruled.{stop_done}
use Rattle.floor.proofs.floor.Floor.halt.Goals as goal

pub returns-clause-stopped : goal.returns-clause-stopped
returns-clause-stopped g c post =
    let w : World = world g.S.Store.pages g.S.Store.places c.args.self.now post in
    let left = ap (λ s. world g.S.Store.pages g.S.Store.places s post) c.lend.ensures.floor in
    stop_done (g.R.QuorumRule.carries c.args.self.now.rule) w c.args.replica c.in_ok-replica.replica c.read-page.result c.in_ok-answer.answer _
    c.in_ok-replica.ensures c.read-page.ensures c.in_ok-answer.ensures.answer left
