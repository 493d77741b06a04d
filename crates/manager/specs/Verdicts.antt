-- Judging a head, stage by stage. `f p s` says whether the part p carries the set s. Assumes nothing.
use Rattle.std.specs.Prelude.{ℕ, ◌+◌, ◌/◌, Bool, false, if◌then◌else◌, not, List, is_some, Some, None, Option, ◌==◌, nat_lt}
use Rattle.quorum.specs.Below.{select, within}
use Rattle.quorum.specs.Members.{size}
use Rattle.quorum.specs.Sets.{either, both, less, single}
use Rattle.rounds.specs.Decision.{decided}
use Rattle.rounds.specs.Reports.{reported}
use Rattle.rounds.specs.declared.outcome.Outcome.{Outcome}
use Rattle.rounds.specs.declared.outcome.Outcome.TheVariants.{LostMember}
use Rattle.rounds.specs.declared.report.Report.{Report}
use Rattle.stores.specs.declared.page.Page.{Page}
use Rattle.stores.specs.declared.view.Head.{Head}
use Rattle.stores.specs.declared.view.View.{View}
use Rattle.manager.specs.declared.need.Need.{Need}
use Rattle.manager.specs.declared.need.Need.TheVariants.{One, MoreThanHalf}
use Rattle.rows.specs.Recorders.{all_recorders}
use Rattle.rows.specs.declared.row.Applied.{Applied}
use Rattle.rows.specs.declared.row.Confirmed.{Confirmed}
use Rattle.rows.specs.declared.row.Entered.{Entered}
use Rattle.rows.specs.declared.row.Gathered.{Gathered}
use Rattle.rows.specs.declared.row.Recorders.{Recorders}
use Rattle.rows.specs.declared.row.Reference.{Reference}
use Rattle.rows.specs.declared.row.Row.{Row}
use Rattle.rows.specs.declared.row.Stage.{Stage}
use Rattle.rows.specs.declared.row.Stage.TheVariants.{Idle, Gathering, Confirming, Applying, Entering, Round}
use Rattle.manager.specs.declared.verdict.Verdict.{Verdict}
use Rattle.manager.specs.declared.verdict.Verdict.TheVariants.{Stays, Records, Installs, Reconfigures, Closes, Forgets, Ends}

-- one, or more than half of n
abbrev pub need_of : Need → ℕ → ℕ
need_of One n = 1
need_of MoreThanHalf n = n / 2 + 1

-- members of the head outside the survivors: the newcomers
abbrev pub newcomers_of : Head → ℕ → ℕ
newcomers_of h survivors = less h.set.0 survivors

-- newcomers whose Recorded was not heard, as a member's or a newcomer's
abbrev pub unheard : Head → ℕ → Recorders → ℕ
unheard h survivors x = less (newcomers_of h survivors) (all_recorders x)

-- a set is empty
abbrev pub nobody : ℕ → Bool
nobody s = s == 0

-- Gathering. Fewer States heard and still possible than needed: reconfiguration. Need met: with all newcomers heard the head is
-- recorded; with a newcomer lost unheard it closes.
abbrev pub gathering_verdict : Need → ℕ → ℕ → Head → Gathered → View → Verdict
gathering_verdict need survivors lost h g c =
    let needed = need_of need (size c.set.0) in
    let missing = unheard h survivors g.recorders in
    if nat_lt (size (either g.states.0 (less survivors lost))) needed then Reconfigures
    else if nat_lt (size g.states.0) needed then Stays
    else if nobody missing then Records
    else if nobody (both missing lost) then Stays else Closes

-- of a part heard and those who may still be: who carries the set leads to installing, who can no longer to reconfiguration
abbrev pub carrying_verdict : (ℕ → ℕ → Bool) → ℕ → ℕ → ℕ → ℕ → Verdict
carrying_verdict f heard survivors lost set =
    if f heard set then Installs
    else if f (either heard (less survivors lost)) set then Stays else Reconfigures

-- Confirming: survivors heard as recording members
abbrev pub confirming_verdict : (ℕ → ℕ → Bool) → ℕ → ℕ → Confirmed → View → Verdict
confirming_verdict f survivors lost g c = carrying_verdict f (both g.recorders.members.0 survivors) survivors lost c.set.0

-- Applying: the sources before a reference, which are not kept: the head without the replica and without those whose Join was heard
abbrev pub sources_of : ℕ → Head → Applied → ℕ
sources_of r h a = less (less h.set.0 (single r)) a.joins.0

-- who may still send a State, beside those who did: the sources or, with a reference, its members in the head; never itself or the lost
abbrev pub possible_senders : ℕ → ℕ → Head → Applied → Option Reference → ℕ
possible_senders r lost h a None = less (sources_of r h a) (either lost (single r))
possible_senders r lost h a (Some x) = less (both x.component.set.0 h.set.0) (either lost (single r))

-- out of how many: the sources, or the reference's set
abbrev pub asked : ℕ → Head → Applied → Option Reference → ℕ
asked r h a None = size (sources_of r h a)
asked r h a (Some x) = size x.component.set.0

-- need is met only with a reference
abbrev pub need_met : Need → Applied → Option Reference → Bool
need_met need a None = false
need_met need a (Some x) = not (nat_lt (size a.states.0) (need_of need (size x.component.set.0)))

-- Need met: the head is recorded. It closes where the sources are empty, or where States heard and possible are fewer than needed.
abbrev pub applying_verdict : Need → ℕ → ℕ → Head → Applied → Verdict
applying_verdict need r lost h a =
    if need_met need a a.reference then Records
    else if nobody (sources_of r h a) then Closes
    else if nat_lt (size (either a.states.0 (possible_senders r lost h a a.reference))) (need_of need (asked r h a a.reference)) then Closes else Stays

-- Entering. A newcomer lost unheard: the recorded view goes. With all heard, recording members among the reference's survivors decide.
abbrev pub entering_verdict : (ℕ → ℕ → Bool) → ℕ → Head → Entered → Verdict
entering_verdict f lost h e =
    let survivors = e.reference.survivors.0 in
    let missing = unheard h survivors e.recorders in
    if nobody missing then carrying_verdict f (both e.recorders.members.0 survivors) survivors lost e.reference.component.set.0
    else if nobody (both missing lost) then Stays else Forgets

-- the replicas whose reports were heard
abbrev pub heard_of : List (Option Report) → ℕ
heard_of rs = select (λ q. is_some (reported rs q)) 16

-- the decision of a round, kept shut: it is read by its own laws
unfoldable pub round_end : (ℕ → ℕ → Bool) → Head → List (Option Report) → Outcome × Option View
round_end f h rs = decided f h rs

-- Round: a lost member of the head ends it; with all reports of the head heard it is decided
abbrev pub round_verdict : (ℕ → ℕ → Bool) → ℕ → Head → List (Option Report) → Verdict
round_verdict f lost h rs =
    if nobody (both lost h.set.0) then (if within h.set.0 (heard_of rs) then Ends (round_end f h rs).0 (round_end f h rs).1 else Stays)
    else Ends LostMember None

-- with a component view; without one nothing is judged
abbrev pub with_component : Option View → (View → Verdict) → Verdict
with_component None v = Stays
with_component (Some c) v = v c

-- the head of a page and row, judged
abbrev pub stage_verdict : (ℕ → ℕ → Bool) → Need → ℕ → Page → ℕ → ℕ → Stage → Verdict
stage_verdict f need r p survivors lost Idle = Stays
stage_verdict f need r p survivors lost (Gathering h g) = with_component p.component (gathering_verdict need survivors lost h g)
stage_verdict f need r p survivors lost (Confirming h g) = with_component p.component (confirming_verdict f survivors lost g)
stage_verdict f need r p survivors lost (Applying h a) = applying_verdict need r lost h a
stage_verdict f need r p survivors lost (Entering h e) = entering_verdict f lost h e
stage_verdict f need r p survivors lost (Round h rs) = round_verdict f lost h rs

unfoldable pub verdict_of : (ℕ → ℕ → Bool) → Need → ℕ → Page → Row → Verdict
verdict_of f need r p w = stage_verdict f need r p w.survivors.0 w.lost.0 w.stage
