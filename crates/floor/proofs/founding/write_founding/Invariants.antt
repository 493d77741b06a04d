use Rattle.std.proofs.Common.{◌+◌, ◌≤◌}
use Rattle.quorum.specs.Members.{has, one, tally}
use Rattle.runs.specs.Founding.{FoundedPages}
use Rattle.stores.specs.Writings.{SpentBy}
use Rattle.floor.proofs.founding.write_founding.Given as goal

-- each write uses at most one place
abbrev pub invariant-loop-replica : goal.invariant-loop-replica
invariant-loop-replica g l =
    (16 ≤ g.S.Store.places l.store + l.replica-index)
    × FoundedPages l.view (g.S.Store.pages l.initial.store) l.replica-index (g.S.Store.pages l.store)
    × SpentBy (tally one (has l.view.set.0) l.replica-index) (g.S.Store.places l.initial.store) (g.S.Store.places l.store)
