use Rattle.manager.proofs.refuse.check_message.Goals as goal

-- a message against the rules is refused
pub returns-clause-test : goal.returns-clause-test
returns-clause-test c = rw (c.at.ensures, c.keeps_rules.ensures.test) at c.refuse_if.ensures
