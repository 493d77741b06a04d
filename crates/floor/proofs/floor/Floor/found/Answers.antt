use Rattle.std.proofs.Common.{refl, rules}
use Rattle.quorum.proofs.Refused.{was_allowed}
use Rattle.runs.proofs.Founded.{founded}
use Rattle.floor.proofs.Pages.{accepted_fresh, founded_all}
use Rattle.floor.proofs.floor.Floor.found.Goals as goal

left : goal.returns-clause-founded
left g c = record {
  pages_are = founded_all c.args.view _ _ (accepted_fresh c.args.view _ _ _ c.in_ok-check_founding.ensures) c.write_founding.ensures.pages;
  rows_are = c.found_rows.ensures.rows;
  need_is = refl;
  silent = search rules;
}

pub returns-clause-founded : goal.returns-clause-founded
returns-clause-founded g c = left g c

pub returns-clause-begins : goal.returns-clause-begins
returns-clause-begins g c =
    let before = c.args.self.now.store in
    founded c.args.view c.args.need (g.S.Store.pages before) (g.S.Store.places before) _ (search rules) (was_allowed _ _ c.in_ok-check_founding.ensures) (left g c)
    (g.met.S.Store.sixteen c.write_founding.new.store) c.found_rows.ensures.sixteen
