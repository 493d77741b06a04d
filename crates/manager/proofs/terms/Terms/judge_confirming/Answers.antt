use Rattle.manager.proofs.terms.Terms.judge_confirming.Goals as goal

-- the part that is judged are the recording members among the survivors
pub returns : goal.returns
returns g c = rw c.intersection-heard.ensures.bits at c.judge_carrying.ensures
