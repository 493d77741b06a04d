-- How a head closes and a round ends, and on what evidence. Assumes nothing.
use Rattle.std.specs.Prelude.{◌≡◌, ℕ, Bool, true, ◌⊎◌, is_some, Some, None, Option}
use Rattle.rounds.specs.declared.outcome.Outcome.{Outcome}
use Rattle.rounds.specs.declared.outcome.Outcome.TheVariants.{Spare}
use Rattle.rows.specs.declared.message.Body.TheVariants.{Abort}
use Rattle.rows.specs.declared.message.Message.{Message}
use Rattle.rows.specs.declared.row.Row.{Row}
use Rattle.stores.specs.declared.page.Mode.TheVariants.{Waiting, Reconfiguration}
use Rattle.stores.specs.declared.page.Page.{Page}
use Rattle.stores.specs.declared.view.Head.{Head}
use Rattle.stores.specs.declared.view.View.{View}
use Rattle.manager.specs.declared.need.Need.{Need}
use Rattle.manager.specs.Calls.{head_of}
use Rattle.manager.specs.Effects.{Effect}
use Rattle.manager.specs.Requests.{Request}
use Rattle.manager.specs.Requests.Request.{delivery}
use Rattle.laws.specs.Grounds.{GivingUp, Leaving, Forgetting, EndingGrounds, InRound}
use Rattle.laws.specs.Known.{Known, known, counted, head_under}
use Rattle.laws.specs.Laws.{EveryCall}
use Rattle.evidence.specs.Views.{Installed, Settled, Spared}

-- ---- closing
-- Why the head is closed after a call under it.
pub data Closing (f : ℕ → ℕ → Bool) (need : Need) (r : ℕ) (h : Head) (k : Known) (p : Page) (q : Request) (e : Effect)
    : Type 0 where
  installed : (v : View) (how : Installed f r (Some h) k p v e) → Closing f need r h k p q e
  round_ended : (ended : is_some e.answer.ended ≡ true) → Closing f need r h k p q e
  -- too few States are possible, or what was recorded can no longer be carried: the mode becomes reconfiguration
  gave_up : (mode : e.page.mode ≡ Reconfiguration) (why : GivingUp f need h k p.component e.page.recorded)
      → Closing f need r h k p q e
  -- a member lost a newcomer unheard, or a waiting replica has nobody to wait for: the mode stays
  left : (why : Leaving need r h k p.component e.page.mode) → Closing f need r h k p q e
  -- a newcomer that recorded lost another one unheard: it waits again, with nothing recorded
  forgot : (mode : e.page.mode ≡ Waiting) (none : e.page.recorded ≡ None) (why : Forgetting h k p.component)
      → Closing f need r h k p q e
  -- this call delivers an Abort to a waiting replica
  aborted : (m : Message) (delivers : q ≡ delivery m) (abort : m.body ≡ Abort) (mode : e.page.mode ≡ Waiting)
      → Closing f need r h k p q e

-- ---- the end of a round
-- A call's answer tells the end of a round, with its grounds, exactly where the call was in a round and leaves no head.
-- A settled view is the component view then; a replica outside it, or outdone, is a spare.
pub record Ending (f : ℕ → ℕ → Bool) (r : ℕ) (h : Head) (k : Known) (p : Page) (w : Row) (q : Request) (e : Effect)
    : Type 0 where
  pub only : (o : Outcome) (v : Option View) → e.answer.ended ≡ Some (o, v) →
      InRound f p w q × (head_of e.row.stage ≡ None) × EndingGrounds f h k p q o v
  pub always : InRound f p w q → head_of e.row.stage ≡ None → is_some e.answer.ended ≡ true
  pub settles : (o : Outcome) (v : View) → e.answer.ended ≡ Some (o, Some v) → Settled v e ⊎ Spared r e
  pub outdone : e.answer.ended ≡ Some (Spare, None) → Spared r e

-- ---- the laws
-- a head closes only on its evidence, and a row without a head has nobody lost
pub record ClosingsRest : Type 0 where
  pub why : EveryCall (λ f need r p w q e. (h : Head) → head_under w q ≡ Some h → head_of e.row.stage ≡ None →
      Closing f need r h (counted r (known r p w q) e.answer.posts) p q e)
  pub empty : EveryCall (λ f need r p w q e. head_of e.row.stage ≡ None → e.row.lost.0 ≡ 0)

-- the end of a round is told exactly where one ended, on its grounds; where no head is open, none is told
pub record EndingsRest : Type 0 where
  pub told : EveryCall (λ f need r p w q e. (h : Head) → head_under w q ≡ Some h →
      Ending f r h (counted r (known r p w q) e.answer.posts) p w q e)
  pub untold : EveryCall (λ f need r p w q e. head_under w q ≡ None → e.answer.ended ≡ None)
