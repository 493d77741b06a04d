-- The floor's part in a call: it refuses, or hands a task to the manager. Assumes nothing.
use Rattle.std.specs.Prelude.{ℕ, Bool, true, false, List, Some, None, Ok, Err, Option, Result}
use Rattle.quorum.specs.declared.fault.Fault.{Fault}
use Rattle.quorum.specs.declared.fault.Reason.TheVariants.{NoSuchMessage}
use Rattle.manager.specs.Calls.{viewed, delivered, lost_at, started_at, stopped_at}
use Rattle.manager.specs.Effects.{Effect}
use Rattle.manager.specs.declared.need.Need.{Need}
use Rattle.rows.specs.declared.message.Message.{Message}
use Rattle.rows.specs.declared.row.Row.{Row}
use Rattle.runs.specs.Founding.{row_at}
use Rattle.runs.specs.World.{floor_refusal, message_at, up_test, down_test, loss_test, delivery_test}
use Rattle.runs.specs.declared.work.Work.{Work}
use Rattle.runs.specs.declared.work.Work.TheVariants as works
use Rattle.stores.specs.declared.page.Page.{Page}
use Rattle.floor.specs.declared.task.Task.{Task}
use Rattle.floor.specs.declared.task.Task.TheVariants as tasks
use Rattle.quorum.specs.Faults.{given}

-- what the manager makes of a task
abbrev pub managed : (ℕ → ℕ → Bool) → Need → ℕ → Page → Row → Task → Result Effect Fault
managed f need r p w (tasks.View h) = viewed f need r p w h
managed f need r p w (tasks.Deliver m) = delivered f need r p w m
managed f need r p w (tasks.Loss q) = lost_at f need r p w q
managed f need r p w tasks.Start = started_at r p w
managed f need r p w tasks.Stop = stopped_at r p w

-- the same of the row of replica r
abbrev pub lent : (ℕ → ℕ → Bool) → Need → List Row → ℕ → Page → Task → Result Effect Fault
lent f need rows r p t = managed f need r p (row_at rows r) t

-- the message, if there is one
abbrev pub delivery_task : ℕ → Option Fault → Option Message → Result (ℕ × Task) Fault
delivery_task r (Some fault) m = Err fault
delivery_task r None None = Err (floor_refusal NoSuchMessage r)
delivery_task r None (Some m) = Ok (r, tasks.Deliver m)

-- the replica at which a call is made, and what the manager is asked there
abbrev pub tasked : List Row → List Message → Work → Result (ℕ × Task) Fault
tasked rows post (works.View r h) = given (up_test rows r) (r, tasks.View h)
tasked rows post (works.Deliver r i) = delivery_task r (delivery_test rows r (message_at post i)) (message_at post i)
tasked rows post (works.Loss r q) = given (loss_test rows r q) (r, tasks.Loss q)
tasked rows post (works.Start r) = given (down_test rows r) (r, tasks.Start)

-- a view or delivery wants room in the post
abbrev pub wants_room : Work → Bool
wants_room (works.View r h) = true
wants_room (works.Deliver r i) = true
wants_room (works.Loss r q) = false
wants_room (works.Start r) = false
