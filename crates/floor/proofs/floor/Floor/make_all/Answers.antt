use Rattle.std.proofs.Common.{refl, ◌∙◌, arith}
use Rattle.std.proofs.lemmas.List.{take_all}
use Rattle.floor.proofs.Making.{ran_more, lacks_first}
use Rattle.floor.proofs.floor.Floor.make_all.Goals as goal

pub loop-call-preserved : goal.loop-call-preserved
loop-call-preserved g c =
    let now = c.loop-call.invariant in
    let step = rw now.1 at c.step.ensures.step in
    let cut = rw now.1 at c.step.ensures.cut in
    let lacks = rw now.1 at c.step.ensures.lacking in
    let kept = c.step.ensures.capacity in (
      ran_more _ _ _ _ _ _ _ _ _ _ _ c.args.calls.now c.loop-call.call-index _ c.step.result c.loop-call-test.true now.0 step refl refl cut
          (lacks_first _ _ _ c.step.result _ _ now.2 lacks),
      c.step.ensures.rule ∙ now.1,
      omega (arith, now.2, kept),
    )

pub returns-clause-ran : goal.returns-clause-ran
returns-clause-ran g c = rw (take_all c.loop-call.call-index c.args.calls.now c.loop-call-test.false) at c.loop-call.invariant.0
