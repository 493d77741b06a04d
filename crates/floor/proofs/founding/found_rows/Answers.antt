use Rattle.std.proofs.Common.{false, ◌≡◌, ◌<◌, List, length, set, sym, ap, ap₂, ◌∙◌, arith, ⊎_elim, slice_index_or}
use Rattle.std.proofs.lemmas.List.{get_or-set_same, get_or-set_other, length-set}
use Rattle.std.proofs.lemmas.Bool.{cases_eq}
use Rattle.quorum.proofs.Below.{everybody_at}
use Rattle.rows.specs.Rows.{empty_row}
use Rattle.rows.specs.declared.row.Row.{Row}
use Rattle.runs.specs.Founding.{row_at, founding_row}
use Rattle.floor.proofs.founding.found_rows.Goals as goal

pub loop-replica-preserved : goal.loop-replica-preserved
loop-replica-preserved c =
    let k = c.loop-replica.replica-index in
    let row = founding_row c.args.view in
    let now = c.loop-replica.table.rows in
    let long : length now ≡ 16 = c.set_row.ensures.sixteen in
    let below : k < 16 = c.loop-replica-test.true in
    let place : slice_index_or c.all-replica-items.result k c.replica-item.result ≡ k =
    ap (λ xs. slice_index_or xs k c.replica-item.result) c.all-replica-items.ensures
    ∙ everybody_at k c.replica-item.result below in
    let same : c.set_row.new.table.rows ≡ set now k (row k) =
    c.set_row.ensures.rows ∙ ap₂ (set now) place (c.founding_row.ensures ∙ ap row place) in (
      λ _. ap length same ∙ length-set now k (row k) ∙ long,
      λ j l. ap (λ (rows : List Row). row_at rows j) same ∙
          ⊎_elim
          (λ e. ap (row_at (set now k (row k))) e ∙ get_or-set_same now k (row k) (empty_row false) (omega (arith, long, below))
          ∙ ap row (sym e))
          (λ ne. get_or-set_other now k j (row k) (empty_row false) ne ∙ c.loop-replica.invariant.1 j (omega (arith, l, ne)))
          (cases_eq j k),
    )
