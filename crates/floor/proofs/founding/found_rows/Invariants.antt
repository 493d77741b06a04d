use Rattle.std.proofs.Common.{◌≡◌, ℕ, ◌<◌, length}
use Rattle.runs.specs.Founding.{row_at, founding_row}
use Rattle.floor.proofs.founding.found_rows.Given as goal

-- the rows below are founded; the table has sixteen, as each setting of one tells
abbrev pub invariant-loop-replica : goal.invariant-loop-replica
invariant-loop-replica l =
    (0 < l.replica-index → length l.table.rows ≡ 16)
    × ((k : ℕ) → k < l.replica-index → row_at l.table.rows k ≡ founding_row l.view k)
