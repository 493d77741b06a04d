use Rattle.std.proofs.Common.{below_none, below_more}
use Rattle.stores.proofs.Reading.{carried_out, ends_refused, chain_none, chain_more, may_read_none, may_read_more, spent_none, spent_more}
use Rattle.stores.proofs.replay.carry_out.Goals as goal

pub loop-done-init : goal.loop-done-init
loop-done-init g c = (below_none _, chain_none _ _ _, λ r l. may_read_none r _ _, spent_none _)

pub loop-done-preserved : goal.loop-done-preserved
loop-done-preserved g c =
    let kept = c.in-Some.ensures in
    let step = carried_out _ _ _ _ _ _ _ _ _ kept.1 kept.2 c.in-Ok.ensures.done c.in-Ok.ensures.left in
    let sixteen = g.met.S.Store.sixteen c.loop-done.store in (
      below_more _ _ c.loop-done.invariant.0 kept.0,
      chain_more _ _ _ _ _ _ c.loop-done.invariant.1 step,
      λ r l. may_read_more _ _ _ r _ _ _ _ _ sixteen kept.0 step (c.loop-done.invariant.2 r l),
      spent_more _ _ _ _ _ _ _ _ c.loop-done.invariant.3 step,
    )

pub returns-in_default-perform-clause-carried : goal.returns-in_default-perform-clause-carried
returns-in_default-perform-clause-carried g c =
    ends_refused _ _ _ _ _ _ _ _ _ _ _ c.loop-done.invariant.1 c.loop-done-test.true c.in-Some.ensures.0 c.in-Some.ensures.1 c.in-Some.ensures.2 c.in_default-perform.ensures.done
