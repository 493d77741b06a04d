use Rattle.std.proofs.Common.{◌≡◌, ℕ, ◌<◌, true}
use Rattle.stores.specs.Kept.{page_at}
use Rattle.stores.specs.Writings.{writing_at, acceptable, CarriedOut, Chain, MayRead, SpentBy}
use Rattle.stores.proofs.replay.carry_out.Given as goal

-- those passed were acceptable and make a chain, which settles what may be read and how many places are spent
abbrev pub invariant-loop-done : goal.invariant-loop-done
invariant-loop-done g l =
    ((k : ℕ) → k < l.done → acceptable (writing_at l.writings k) ≡ true) ×
    Chain (CarriedOut g.S.Store.pages g.S.Store.places g.S.Breakable.leaves) l.initial.store l.writings l.done l.store ×
    ((r : ℕ) → r < 16 → MayRead r (page_at (g.S.Store.pages l.initial.store) r) l.writings l.done (page_at (g.S.Store.pages l.store) r)) ×
    SpentBy l.done (g.S.Store.places l.initial.store) (g.S.Store.places l.store)
