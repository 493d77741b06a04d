-- What holds of every world of a run beside the findings: nothing leaves the rules, and the post stays in bounds. Assumes nothing.
use Rattle.std.specs.Prelude.{◌≡◌, ℕ, suc, ◌<◌, ◌≤◌, Bool, true, List, length}
use Rattle.std.specs.List.{All}
use Rattle.laws.specs.Standing.{StandsToBeRecorded}
use Rattle.rows.specs.Messages.{message_keeps}
use Rattle.rows.specs.Rows.{row_keeps}
use Rattle.stores.specs.Kept.{page_at, Sound}
use Rattle.stores.specs.declared.view.View.{View}
use Rattle.runs.specs.Founding.{row_at}
use Rattle.runs.specs.Runs.{Taken, Run, world_at, OfCall, Founded}
use Rattle.runs.specs.World.{World}
use Rattle.runs.specs.declared.work.Call.{Call}
use Rattle.runs.specs.declared.work.Call.TheVariants.{Whole, Cut, Stop}
use Rattle.runs.specs.declared.work.Work.TheVariants.{View as Views, Deliver, Loss, Start}

-- A world in order, by the rule of the relation f.
pub record Orderly (f : ℕ → ℕ → Bool) (w : World) : Type 0 where
  -- Each of sixteen pages keeps the page rules for its replica.
  pub all_pages : length w.pages ≡ 16
  pub pages : Sound w.pages
  -- Each of sixteen rows keeps the row rules beside its page.
  pub all_rows : length w.rows ≡ 16
  pub rows : (r : ℕ) → r < 16 → row_keeps r (page_at w.pages r) (row_at w.rows r) ≡ true
  -- No row stands to be recorded.
  pub none_stands : (r : ℕ) → r < 16 → StandsToBeRecorded f w.need r (page_at w.pages r) (row_at w.rows r) → ⊥
  -- Each message of the post keeps the message rules, and there are at most 65,536.
  pub messages : All (λ m. message_keeps m ≡ true) w.post
  pub room : length w.post ≤ 65536

-- a loss, a start, a stop, or a call that is cut off
abbrev pub IsSilent : Call → Type 0
IsSilent (Whole (Views r h)) = ⊥
IsSilent (Whole (Deliver r i)) = ⊥
IsSilent (Whole (Loss r q)) = Unit {0}
IsSilent (Whole (Start r)) = Unit {0}
IsSilent (Cut k n) = Unit {0}
IsSilent (Stop r) = Unit {0}

-- Call i is one of those.
abbrev pub Silent : World → List Taken → ℕ → Type 0
Silent w takens i = OfCall (λ before t. IsSilent t.call) w takens i

-- What holds of the run from w by these calls, beside the findings.
pub record OrderlyRun (f : ℕ → ℕ → Bool) (w : World) (takens : List Taken) : Type 0 where
  -- Every world is in order.
  pub worlds : (i : ℕ) → Orderly f (world_at w takens i)
  -- Losses, starts and stops post nothing, nor does a call that is cut off.
  pub silent : (i : ℕ) → Silent w takens (suc i) → (world_at w takens (suc i)).post ≡ (world_at w takens i).post

-- It holds of every run from every founding, by every relation: no law of the rule is needed.
abbrev pub RunsOrderly : Type 0
RunsOrderly =
    (f : ℕ → ℕ → Bool) (first : View) (w : World) (takens : List Taken) → Founded first w → Run f w takens →
    OrderlyRun f w takens
