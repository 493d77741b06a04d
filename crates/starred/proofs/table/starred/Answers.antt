use Rattle.std.proofs.Common.{ap, ◌∙◌}
use Rattle.std.specs.List.{list_all}
use Rattle.starred.specs.Examples.{shows}
use Rattle.starred.proofs.Shown.{table_shown}
use Rattle.starred.proofs.table.starred.Goals as goal

pub returns : goal.returns
returns c = record { is = c.lines.ensures; shown = ap (list_all shows) c.lines.ensures ∙ table_shown }
