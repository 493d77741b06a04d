use Rattle.std.proofs.Common.{◌≡◌, ◌≤◌, take, vec_items, vec_capacity}
use Rattle.floor.specs.Ran.{Ran}
use Rattle.floor.specs.Worlds.{world}
use Rattle.floor.proofs.floor.Floor.make_all.Given as goal

-- the calls made so far are a run; the post's capacity did not fall
abbrev pub invariant-loop-call : goal.invariant-loop-call
invariant-loop-call g l =
    Ran g.S.Store.pages g.S.Store.places g.S.Breakable.leaves (g.R.QuorumRule.carries l.initial.self.rule)
    (vec_capacity l.initial.post)
    l.initial.self.store (world g.S.Store.pages g.S.Store.places l.initial.self (vec_items l.initial.post))
    l.self.store (world g.S.Store.pages g.S.Store.places l.self (vec_items l.post))
    (take l.call-index l.calls)
    × (l.self.rule ≡ l.initial.self.rule)
    × (vec_capacity l.initial.post ≤ vec_capacity l.post)
