-- A replica that is down, by a stop or because a call was cut off: the moves see its page and an empty row. Assumes nothing.
use Rattle.std.proofs.Common.{◌≡◌, false, refl, ap}
use Rattle.std.proofs.lemmas.Bool.{and_right}
use Rattle.stores.specs.declared.page.Page.{Page}
use Rattle.rows.specs.Rows.{is_normal, empty_row}
use Rattle.rows.specs.declared.row.Row.{Row}
use Rattle.safety.specs.Replicas.{node, leaving}
use Rattle.safety.specs.Replicas.Row.{idle}
use Rattle.bridge.specs.Seen.{node_of}

pub down_is : (p : Page) (w : Row) → node_of p (empty_row false) ≡ leaving (node_of p w) idle
down_is p w = ap (λ b. node b p.top p.mark p.component p.recorded idle) (and_right (is_normal p.mode) false refl)
