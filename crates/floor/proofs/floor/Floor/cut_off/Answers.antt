use Rattle.std.proofs.Common.{◌<◌, subst, arith}
use Rattle.std.proofs.lemmas.Result.{err_from_is_err_and}
use Rattle.runs.specs.World.{World, replica_of}
use Rattle.floor.specs.Cuts.{LeftAt}
use Rattle.floor.specs.Worlds.{world}
use Rattle.floor.proofs.Ruled.{ruled_refused, break_refused, break_done, break_leaves}
use Rattle.floor.proofs.floor.Floor.cut_off.Goals as goal

pub returns-in_err-accepted-clause-cut : goal.returns-in_err-accepted-clause-cut
returns-in_err-accepted-clause-cut g c =
    let f = g.R.QuorumRule.carries c.args.self.now.rule in
    let w : World = world g.S.Store.pages g.S.Store.places c.args.self.now c.args.post.now in
    let told = c.in_err-accepted.ensures.asked in
    let e = err_from_is_err_and c.from_residual.result c.from_residual.ensures.1 in
    rw (e.1, e.2) (ruled_refused f w c.args.work _ told.0, told.1)

pub returns-in_err-break_off-clause-cut : goal.returns-in_err-break_off-clause-cut
returns-in_err-break_off-clause-cut g c =
    let f = g.R.QuorumRule.carries c.args.self.now.rule in
    let told = c.in_ok-accepted.ensures.asked in
    let broke = c.in_err-break_off.ensures in
    let within : replica_of c.args.work < 16 = omega (arith, c.in_ok-accepted.ensures.within, told.2.replica_is) in
    let e = err_from_is_err_and c.from_residual-in_err-break_off.result c.from_residual-in_err-break_off.ensures.1 in
    rw (e.1, e.2) (break_refused f _ _ c.args.work told.0 c.in_ok-accepted.accepted told.1 told.2 _ (c.row_before-before.ensures within) _ _ broke.test broke.refused)

pub returns-clause-cut : goal.returns-clause-cut
returns-clause-cut g c =
    let f = g.R.QuorumRule.carries c.args.self.now.rule in
    let told = c.in_ok-accepted.ensures.asked in
    let broke = c.in_ok-break_off.ensures in
    let done = break_done f _ _ c.args.work told.0 c.in_ok-accepted.accepted told.1 told.2 _ broke.test broke.broken in
    (told.0, done.0, c.quiet.ensures, done.1)

pub returns-clause-left : goal.returns-clause-left
returns-clause-left g c =
    let f = g.R.QuorumRule.carries c.args.self.now.rule in
    let told = c.in_ok-accepted.ensures.asked in
    let broke = c.in_ok-break_off.ensures in
    let w : World = world g.S.Store.pages g.S.Store.places c.args.self.now c.args.post.now in
    let v : World = world g.S.Store.pages g.S.Store.places c.break_off.new.self c.args.post.now in
    let left = break_leaves f _ _ c.args.work told.0 c.in_ok-accepted.accepted told.1 told.2
    (g.S.Breakable.leaves c.accept.new.self.store) c.args.n v broke.test broke.left in
    subst (λ (s : g.row.S.Denot). LeftAt (g.S.Breakable.leaves s) f c.args.n w c.args.work v) c.in_ok-accepted.ensures.store left
