use Rattle.std.proofs.Common.{◌≡◌, ◌+◌, ◌≤◌, true, false, List, set, sym, ap, ◌∙◌, subst, arith, slice_index_or}
use Rattle.quorum.specs.Members.{has, one, tally}
use Rattle.quorum.specs.Tallies.{tally_more_yes, tally_more_no}
use Rattle.quorum.proofs.Below.{everybody_at}
use Rattle.stores.specs.Writings.{SpentBy}
use Rattle.stores.specs.declared.page.Page.{Page}
use Rattle.runs.specs.Founding.{founding_page, FoundedPages}
use Rattle.floor.proofs.Pages.{founded_write, founded_skip}
use Rattle.floor.proofs.founding.write_founding.Goals as goal
use Rattle.floor.proofs.founding.write_founding.Goals.{then-contains+in_ok-write_member, else-contains}

pub write_member-requires-clause-member : goal.write_member-requires-clause-member
write_member-requires-clause-member g c = rw c.number.ensures.value at (sym c.contains.ensures.test ∙ c.if-contains.true)

pub loop-replica-preserved : goal.loop-replica-preserved
loop-replica-preserved g c =
    let v = c.args.view in
    let k = c.loop-replica.replica-index in
    let before = g.S.Store.pages c.args.store.now in
    let first = g.S.Store.places c.args.store.now in
    let now = g.S.Store.pages c.loop-replica.store in
    let count = tally one (has v.set.0) in
    let spent = c.loop-replica.invariant.2 in
    let Done : g.row.S.Denot → Type 0 =
    λ s. (16 ≤ g.S.Store.places s + (k + 1)) × FoundedPages v before (k + 1) (g.S.Store.pages s)
    × SpentBy (count (k + 1)) first (g.S.Store.places s) in
    let place : slice_index_or c.all-replica-items.result k c.replica-item.result ≡ k =
    ap (λ xs. slice_index_or xs k c.replica-item.result) c.all-replica-items.ensures
    ∙ everybody_at k c.replica-item.result c.loop-replica-test.true in
    let at = c.number.ensures.value ∙ place in
    elim c.if-contains.branch [
      | then-contains+in_ok-write_member w ↦
          let wrote = w.in_ok-write_member.ensures in
          let member : has v.set.0 k ≡ true = ap (has v.set.0) (sym at) ∙ sym c.contains.ensures.test ∙ w.if-contains.true in
          let long = g.met.S.Store.sixteen c.loop-replica.store in
          let pages = founded_write v before now k long c.loop-replica-test.true member c.loop-replica.invariant.1 in
          let same = wrote.0 ∙ ap (λ i. set now i (founding_page v)) place in
          subst Done (sym w.store-is) (
            omega (arith, c.loop-replica.invariant.0, wrote.1.1),
            subst (λ (xs : List Page). FoundedPages v before (k + 1) xs) (sym same) pages,
            let more : count (k + 1) ≡ count k + 1 = tally_more_yes one (has v.set.0) k member in
                record { most = omega (arith, spent.most, wrote.1.0); least = omega (arith, more, spent.least, wrote.1.1) },
          )
      | else-contains w ↦
          let outside : has v.set.0 k ≡ false = ap (has v.set.0) (sym at) ∙ sym c.contains.ensures.test ∙ w.if-contains.false in
          subst Done (sym w.store-is) (
            omega (arith, c.loop-replica.invariant.0),
            founded_skip v before now k outside c.loop-replica.invariant.1,
            let more : count (k + 1) ≡ count k = tally_more_no one (has v.set.0) k outside in
                record { most = spent.most; least = omega (arith, more, spent.least) },
          )
    ]
