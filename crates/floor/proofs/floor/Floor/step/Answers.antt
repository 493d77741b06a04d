use Rattle.std.proofs.Common.{[]}
use Rattle.floor.specs.Worlds.{world}
use Rattle.floor.proofs.Memory.{stop_finds, cut_finds}
use Rattle.floor.proofs.floor.Floor.step.Goals as goal

pub returns-in-Stop-clause-lacking : goal.returns-in-Stop-clause-lacking
returns-in-Stop-clause-lacking g c none =
    absurd (stop_finds (g.R.QuorumRule.carries c.args.self.now.rule) (world g.S.Store.pages g.S.Store.places c.args.self.now [])
    c.in-Stop.replica c.halt.result (world g.S.Store.pages g.S.Store.places c.halt.new.self []) (c.halt.ensures.stopped []) none)

pub returns-in-Cut-clause-lacking : goal.returns-in-Cut-clause-lacking
returns-in-Cut-clause-lacking g c none =
    absurd (cut_finds (g.R.QuorumRule.carries c.args.self.now.rule) _ c.in-Cut.work c.cut_off.result _ c.cut_off.ensures.cut none)
