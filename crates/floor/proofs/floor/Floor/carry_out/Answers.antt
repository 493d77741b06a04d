use Rattle.std.proofs.Common.{◌<◌, vec_items, arith}
use Rattle.std.proofs.lemmas.Result.{err_from_is_err_and}
use Rattle.runs.specs.World.{World, replica_of}
use Rattle.floor.specs.Worlds.{world}
use Rattle.floor.proofs.Ruled.{ruled_refused, finished_did, finished_lacks}
use Rattle.floor.proofs.floor.Floor.carry_out.Goals as goal

pub returns-in_err-accepted-clause-did : goal.returns-in_err-accepted-clause-did
returns-in_err-accepted-clause-did g c =
    let f = g.R.QuorumRule.carries c.args.self.now.rule in
    let w : World = world g.S.Store.pages g.S.Store.places c.args.self.now (vec_items c.args.post.now) in
    let told = rw c.deref.ensures.value at c.in_err-accepted.ensures.asked in
    let e = err_from_is_err_and c.from_residual.result c.from_residual.ensures.1 in
    rw (e.1, e.2) (ruled_refused f w c.args.work _ told.0, told.1)

pub returns-clause-did : goal.returns-clause-did
returns-clause-did g c =
    let f = g.R.QuorumRule.carries c.args.self.now.rule in
    let told = rw c.deref.ensures.value at c.in_ok-accepted.ensures.asked in
    let did = c.finish.ensures in
    let within : replica_of c.args.work < 16 = omega (arith, c.in_ok-accepted.ensures.within, told.2.replica_is) in
    finished_did f _ _ c.args.work told.0 c.in_ok-accepted.accepted told.1 told.2 _ (c.row_before-before.ensures within) _ c.finish.result did.test did.answer did.stored did.refused
    (λ h. omega (arith, did.memory h, c.args.post.now.ok.1))

pub returns-clause-memory : goal.returns-clause-memory
returns-clause-memory g c none =
    let f = g.R.QuorumRule.carries c.args.self.now.rule in
    let told = rw c.deref.ensures.value at c.in_ok-accepted.ensures.asked in
    let did = c.finish.ensures in
    finished_lacks f _ _ c.args.work told.0 c.in_ok-accepted.accepted told.1 told.2 (c.args.post.now.cap) c.finish.result did.test none
    (omega (arith, did.memory none, c.args.post.now.ok.0))
