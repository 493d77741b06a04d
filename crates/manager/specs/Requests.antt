-- What is asked of a manager, as one type, and what it comes to. Assumes nothing.
use Rattle.std.specs.Prelude.{ℕ, Bool, Result}
use Rattle.quorum.specs.declared.fault.Fault.{Fault}
use Rattle.rows.specs.declared.message.Message.{Message}
use Rattle.rows.specs.declared.row.Row.{Row}
use Rattle.stores.specs.declared.page.Page.{Page}
use Rattle.stores.specs.declared.view.Head.{Head}
use Rattle.manager.specs.declared.need.Need.{Need}
use Rattle.manager.specs.Calls.{viewed, delivered, lost_at, started_at, stopped_at}
use Rattle.manager.specs.Effects.{Effect}

-- What one of the five calls asks: to take up a view, to hear a message, to mark a replica as lost, to start, to stop.
pub data Request : Type 0 where
  view : Head → Request
  delivery : Message → Request
  loss : ℕ → Request
  start : Request
  stop : Request

-- what a request at replica r comes to, with its page and row
abbrev pub effect_of : (ℕ → ℕ → Bool) → Need → ℕ → Page → Row → Request → Result Effect Fault
effect_of f need r p w (view h) = viewed f need r p w h
effect_of f need r p w (delivery m) = delivered f need r p w m
effect_of f need r p w (loss q) = lost_at f need r p w q
effect_of f need r p w start = started_at r p w
effect_of f need r p w stop = stopped_at r p w
