-- Each line of the table is as the rules say: computed. Assumes nothing.
use Rattle.std.proofs.Common.{IsTrue, refl}
use Rattle.std.specs.List.{list_all}
use Rattle.quorum.specs.Below.{any, first, select}
use Rattle.quorum.specs.Members.{has, tally}
use Rattle.starred.specs.Examples.{reports_of, shows}
use Rattle.starred.specs.Table.{table}

pub table_shown : IsTrue (list_all shows table)
unfolding has tally any first select reports_of
table_shown = refl
