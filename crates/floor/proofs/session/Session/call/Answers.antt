use Rattle.std.proofs.Common.{◌≢◌, [], ◌∷◌, ◌++◌, Err}
use Rattle.std.proofs.Math.Logic.{∥∥₁_elim, ∥∥₁_map}
use Rattle.std.proofs.lemmas.List.Elements.{All-head}
use Rattle.quorum.specs.declared.fault.Failure.TheVariants.{NoMemory}
use Rattle.runs.proofs.Orderly.{runs_orderly}
use Rattle.runs.proofs.Runs.{run_step, end_step}
use Rattle.runs.specs.Runs.{Taken}
use Rattle.floor.specs.Led.{call_made}
use Rattle.floor.specs.Worlds.{world}
use Rattle.floor.proofs.Memory.{all_find}
use Rattle.floor.proofs.session.Session.call.Goals as goal

pub invariant_of-self : goal.invariant_of-self
invariant_of-self g c =
    let f = g.R.QuorumRule.carries c.args.self.now.floor.rule in
    let v = world g.S.Store.pages g.S.Store.places c.apply.new.self c.apply.new.post.items in
    let t = call_made c.args.call c.apply.result v in
    record {
      led = rw (c.apply.ensures.rule) (∥∥₁_map c.args.self.now.led (λ l. record {
        first = l.first;
        start = l.start;
        history = l.history ++ t ∷ [];
        founded = l.founded;
        run = run_step f l.start l.history _ t l.run l.ends c.apply.ensures.step;
        ends = end_step l.start l.history t;
      }));
    }

pub returns-clause-findings : goal.returns-clause-findings
returns-clause-findings g c =
    let f = g.R.QuorumRule.carries c.args.self.now.floor.rule in
    let v = world g.S.Store.pages g.S.Store.places c.apply.new.self c.apply.new.post.items in
    let t = call_made c.args.call c.apply.result v in
    ∥∥₁_map c.args.self.now.led (λ l.
    let run = run_step f l.start l.history _ t l.run l.ends c.apply.ensures.step in
    record {
      led = l;
      run = run;
      findings = c.apply.ensures.findings l.first l.start l.history l.founded l.run l.ends;
      orderly = runs_orderly f l.first l.start (l.history ++ t ∷ []) l.founded run;
    })

-- of a run that this call goes on
pub returns-clause-room : goal.returns-clause-room
returns-clause-room g c room none =
    let f = g.R.QuorumRule.carries c.args.self.now.floor.rule in
    let v = world g.S.Store.pages g.S.Store.places c.apply.new.self c.apply.new.post.items in
    let t = call_made c.args.call c.apply.result v in
    ∥∥₁_elim c.args.self.now.led (λ x y. absurd x) (λ l.
    All-head (λ (x : Taken). x.answer ≢ Err NoMemory) t []
    (all_find f l.first l.start l.founded _ room l.history _ (t ∷ []) l.run l.ends
    (c.apply.ensures.step, tt) (c.apply.ensures.lacking, tt)) none)
