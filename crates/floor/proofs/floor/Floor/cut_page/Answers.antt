use Rattle.floor.proofs.floor.Floor.cut_page.Goals as goal

-- the page is left as the store's cut leaves it
pub returns-clause-left : goal.returns-clause-left
returns-clause-left g c = c.cut.ensures.left
