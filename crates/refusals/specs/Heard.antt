-- What each stage hears, and what was heard: the table of stages and kinds, as facts. Assumes nothing.
use Rattle.std.specs.Prelude.{◌≡◌, ℕ, ◌+◌, ◌≤◌, true, ◌⊎◌, Some, None, Option}
use Rattle.quorum.specs.Members.{has}
use Rattle.quorum.specs.declared.set.ReplicaSet.{ReplicaSet}
use Rattle.rounds.specs.Reports.{reported}
use Rattle.rounds.specs.declared.report.Report.{Report}
use Rattle.stores.specs.declared.page.Mode.TheVariants.{Reconfiguration}
use Rattle.stores.specs.declared.page.Page.{Page}
use Rattle.stores.specs.declared.view.Head.{Head}
use Rattle.stores.specs.declared.view.Number.{Number}
use Rattle.stores.specs.declared.view.Recorded.{Recorded as RecordedView}
use Rattle.stores.specs.declared.view.View.{View}
use Rattle.rows.specs.Rows.{head_of}
use Rattle.rows.specs.declared.message.Body.{Body}
use Rattle.rows.specs.declared.message.Body.TheVariants.{State, Abort, Join, Recorded, Report as Reports}
use Rattle.rows.specs.declared.row.Recorders.{Recorders}
use Rattle.rows.specs.declared.row.Reference.{Reference}
use Rattle.rows.specs.declared.row.Row.{Row}
use Rattle.rows.specs.declared.row.Stage.{Stage}
use Rattle.rows.specs.declared.row.Stage.TheVariants.{Gathering, Confirming, Applying, Entering, Round}

-- the five kinds of messages
pub data Kind : Type 0 where
  state : Kind
  abort : Kind
  join : Kind
  recorded : Kind
  report : Kind

-- a message's kind
abbrev pub kind_of : Body → Kind
kind_of (State c s) = state
kind_of Abort = abort
kind_of Join = join
kind_of (Recorded n part) = recorded
kind_of (Reports m) = report

-- ---- the open head
-- this head is open
abbrev pub IsOpen : Head → Row → Type 0
IsOpen h w = head_of w.stage ≡ Some h

-- no head is open
abbrev pub IsIdle : Row → Type 0
IsIdle w = head_of w.stage ≡ None

-- ---- what is heard
-- one above the component view's number
abbrev pub OneAbove : Option View → Number → Type 0
OneAbove o n = (c : View) × (o ≡ Some c) × (n.0 ≡ c.number.0 + 1)

-- the recorded view's number
abbrev pub AsRecorded : Option RecordedView → Number → Type 0
AsRecorded o n = (s : RecordedView) × (o ≡ Some s) × (n ≡ s.view.number)

-- its number plus one is not below the mark, if there is one
abbrev pub ReachesMark : Option Number → Number → Type 0
ReachesMark o n = (m : Number) → o ≡ Some m → m.0 ≤ n.0 + 1

-- the reference's view, if there is a reference
abbrev pub FitsReference : Option Reference → View → Type 0
FitsReference o c = (x : Reference) → o ≡ Some x → c ≡ x.component

-- what a stage hears of replica q; nothing but this
abbrev pub Hears : Page → ReplicaSet → Stage → ℕ → Body → Type 0
Hears p survivors (Gathering h g) q (State c s) = (has survivors.0 q ≡ true) × (p.component ≡ Some c)
Hears p survivors (Gathering h g) q (Recorded n part) = OneAbove p.component n
Hears p survivors (Gathering h g) q (Reports m) = m.mode ≡ Reconfiguration
Hears p survivors (Confirming h g) q (Recorded n part) = AsRecorded p.recorded n
Hears p survivors (Confirming h g) q (Reports m) = m.mode ≡ Reconfiguration
Hears p survivors (Applying h a) q (State c s) = ReachesMark p.mark c.number × FitsReference a.reference c
Hears p survivors (Applying h a) q Abort = Unit {0}
Hears p survivors (Applying h a) q Join = a.reference ≡ None
Hears p survivors (Entering h e) q (Recorded n part) = AsRecorded p.recorded n
Hears p survivors (Round h rs) q (Reports m) = Unit {0}
Hears p survivors stage q body = ⊥

-- ---- what was heard
-- its Recorded was heard, as a member's or as a newcomer's
abbrev pub HasRecorded : Recorders → ℕ → Type 0
HasRecorded x q = (has x.members.0 q ≡ true) ⊎ (has x.newcomers.0 q ≡ true)

-- under the head this kind was heard from replica q; or, of a Report that is answered, one was, from whomever
abbrev pub WasHeard : Stage → Kind → ℕ → Type 0
WasHeard (Gathering h g) state q = has g.states.0 q ≡ true
WasHeard (Gathering h g) recorded q = HasRecorded g.recorders q
WasHeard (Gathering h g) report q = g.answered ≡ true
WasHeard (Confirming h g) recorded q = HasRecorded g.recorders q
WasHeard (Confirming h g) report q = g.answered ≡ true
WasHeard (Applying h a) state q = has a.states.0 q ≡ true
WasHeard (Applying h a) join q = has a.joins.0 q ≡ true
WasHeard (Entering h e) recorded q = HasRecorded e.recorders q
WasHeard (Round h rs) report q = (m : Report) × (reported rs q ≡ Some m)
WasHeard stage kind q = ⊥

-- what is no longer heard under the head: States once it is recorded, Joins once there is a reference
abbrev pub IsPast : Stage → Kind → Type 0
IsPast (Confirming h g) state = Unit {0}
IsPast (Applying h a) join = (x : Reference) × (a.reference ≡ Some x)
IsPast (Entering h e) state = Unit {0}
IsPast (Entering h e) join = Unit {0}
IsPast stage kind = ⊥

-- heard under the head, or no longer heard
abbrev pub IsHeard : Stage → Kind → ℕ → Type 0
IsHeard stage kind q = WasHeard stage kind q ⊎ IsPast stage kind
