-- What is found of every run of a floor. Calls are numbered from 1; the founding, which installs the first view, is number 0.
-- Here f is the rule's relation, w the world that the founding left, and v and u are views. Assumes nothing.
use Rattle.std.specs.Prelude.{◌≡◌, ℕ, suc, ◌<◌, ◌≤◌, Bool, true, ◌⊎◌, List, [], ◌∷◌, ◌++◌, Some, Ok, Option, ◌≢◌}
use Rattle.quorum.specs.Laws.{Local, Whole as CarriesItself, Grows, Meets}
use Rattle.quorum.specs.Sets.{both}
use Rattle.manager.specs.Calls.{head_of}
use Rattle.manager.specs.Effects.{Effect}
use Rattle.manager.specs.declared.answer.Answer.{Answer}
use Rattle.rounds.specs.declared.outcome.Outcome.{Outcome}
use Rattle.rounds.specs.declared.report.Report.{Report}
use Rattle.rows.specs.declared.message.Body.TheVariants.{Report as Reports}
use Rattle.rows.specs.declared.message.Message.{Message}
use Rattle.safety.specs.Replicas.{In}
use Rattle.stores.specs.Kept.{page_at}
use Rattle.stores.specs.declared.view.Head.{Head}
use Rattle.stores.specs.declared.view.View.{View}
use Rattle.runs.specs.Founding.{row_at}
use Rattle.runs.specs.Runs.{Taken, Run, world_at, end_of, OfCall, Founded}
use Rattle.runs.specs.Steps.{Step}
use Rattle.runs.specs.World.{World, ruled, listed}
use Rattle.runs.specs.declared.work.Call.{Call}
use Rattle.runs.specs.declared.work.Call.TheVariants.{Whole, Cut, Stop}
use Rattle.runs.specs.declared.work.Work.{Work}
use Rattle.runs.specs.declared.work.Work.TheVariants.{View as Views, Deliver, Loss, Start}

-- the work that a call asks for, whole or cut off; a stop asks for none
abbrev pub Asks : Call → Work → Type 0
Asks (Whole k) work = k ≡ work
Asks (Cut k n) work = k ≡ work
Asks (Stop r) work = ⊥

-- the head that a call is under: a view's own, and else that of the replica before the call
abbrev pub head_under : World → Work → Option Head
head_under w (Views r h) = Some h
head_under w (Deliver r i) = head_of (row_at w.rows r).stage
head_under w (Loss r q) = head_of (row_at w.rows r).stage
head_under w (Start r) = head_of (row_at w.rows r).stage

-- the message by which replica q reports m under the head h
abbrev pub report_from : ℕ → Head → Report → Message
report_from q h m = record { sender = q; head = h; body = Reports m }

module _ (f : ℕ → ℕ → Bool) where
  -- A call that was accepted, whole or cut off: the work asked for, and the effect of that in the world before the call.
  -- A call that was refused and one that found no memory are none, so they form and settle nothing.
  pub record Accepted (before : World) (t : Taken) : Type 0 where
    pub work : Work
    pub effect : Effect
    pub answer : Answer
    pub asks : Asks t.call work
    pub answers : t.answer ≡ Ok answer
    pub rules : ruled f before work ≡ Ok effect

  -- its effect is to post a report under the head h
  abbrev pub FormsIn : Head → World → Taken → Type 0
  FormsIn h before t = (a : Accepted before t) × (q : ℕ) × (m : Report) × In (report_from q h m) (listed a.effect.answer.posts)

  -- its effect is that a round under the head h ends with the settled view v
  abbrev pub SettlesIn : Head → View → World → Taken → Type 0
  SettlesIn h v before t =
      (a : Accepted before t) × (o : Outcome) × (a.effect.answer.ended ≡ Some (o, Some v)) × (head_under before a.work ≡ Some h)

module _ (w : World) (takens : List Taken) where
  -- In call i a page came to hold v as its component view.
  pub record Installed (i : ℕ) (v : View) : Type 0 where
    pub by : ℕ
    pub below : by < 16
    pub holds : (page_at (world_at w takens i).pages by).component ≡ Some v
    pub new : (j : ℕ) → suc j ≡ i → (page_at (world_at w takens j).pages by).component ≢ Some v

module _ (f : ℕ → ℕ → Bool) (w : World) (takens : List Taken) where
  -- Call i, whole or cut off, formed a report under the head h.
  abbrev pub Forms : ℕ → Head → Type 0
  Forms i h = OfCall (FormsIn f h) w takens i

  -- Call i, whole or cut off, ended a round under the head h that settled on v.
  abbrev pub Settles : ℕ → Head → View → Type 0
  Settles i h v = OfCall (SettlesIn f h v) w takens i

  -- Call i comes before that of the first report formed under h.
  abbrev pub BeforeReports : ℕ → Head → Type 0
  BeforeReports i h = (t : ℕ) → t ≤ i → Forms t h → ⊥

  -- A view numbered one less than v, installed in an earlier call than i; the members of both carry its set.
  pub record Predecessor (i : ℕ) (v : View) : Type 0 where
    pub view : View
    pub call : ℕ
    pub installed : Installed w takens call view
    pub earlier : call < i
    pub next : v.number.0 ≡ suc view.number.0
    pub carried : f (both v.set.0 view.set.0) view.set.0 ≡ true

-- What is found of the run from w by these calls, after a founding with this first view.
pub record Findings (f : ℕ → ℕ → Bool) (first : View) (w : World) (takens : List Taken) : Type 0 where
  -- (a) Two views installed under one number have the same members.
  pub one_view : (i j : ℕ) (v u : View) → Installed w takens i v → Installed w takens j u → v.number ≡ u.number → v.set ≡ u.set
  -- (b) Each installed view but the first has a predecessor.
  pub succeeds : (i : ℕ) (v : View) → Installed w takens i v → (v ≡ first) ⊎ Predecessor f w takens i v
  -- (c) No round settles on a number below one installed in a call before that of the round's first report.
  pub never_back : (i j : ℕ) (h : Head) (v u : View) → Settles f w takens i h v → Installed w takens j u → BeforeReports f w takens j h → u.number.0 ≤ v.number.0

-- The findings hold of every run by this relation, from every founding.
abbrev pub SafeRuns : (ℕ → ℕ → Bool) → Type 0
SafeRuns f = (first : View) (w : World) (takens : List Taken) → Founded first w → Run f w takens → Findings f first w takens

-- They hold by every relation with the four laws of quorum rules.
abbrev pub RunsSafe : Type 0
RunsSafe = (f : ℕ → ℕ → Bool) → Local f → CarriesItself f → Grows f → Meets f → SafeRuns f

-- They hold when a run goes on by one more call, or by any run from where it ended.
abbrev pub SafeGoingOn : (ℕ → ℕ → Bool) → Type 0
SafeGoingOn f =
    (first : View) (w : World) (before : List Taken) (t : Taken) → Founded first w → Run f w before → Step f (end_of w before) t.call t.answer t.world →
    Findings f first w (before ++ t ∷ [])

-- the same where the world that the run ended in is known by another name
abbrev pub SafeGoingOnFrom : (ℕ → ℕ → Bool) → Type 0
SafeGoingOnFrom f =
    (first : View) (w : World) (before : List Taken) (now : World) (t : Taken) → Founded first w → Run f w before → end_of w before ≡ now →
    Step f now t.call t.answer t.world → Findings f first w (before ++ t ∷ [])

abbrev pub GoesOnSafe : Type 0
GoesOnSafe = (f : ℕ → ℕ → Bool) → Local f → CarriesItself f → Grows f → Meets f → SafeGoingOn f

abbrev pub RunsOnSafe : Type 0
RunsOnSafe =
    (f : ℕ → ℕ → Bool) → Local f → CarriesItself f → Grows f → Meets f → (first : View) (w : World) (before after : List Taken) → Founded first w → Run f w before → Run f (end_of w before) after →
    Findings f first w (before ++ after)
