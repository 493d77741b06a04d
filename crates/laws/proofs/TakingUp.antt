-- Taking up a view. Assumes nothing.
use Rattle.std.proofs.Common.{◌≡◌, ℕ, ◌<◌, ◌≤◌, Bool, true, false, if◌then◌else◌, ◌&&◌, ltb, replicate, is_some, Some, None, Option, sym, refl, ap, subst, inl, le_refl, arith}
use lib.ListN.{get_or-replicate}
use Rattle.std.proofs.lemmas.Bool.{and_from, both_ways, cond_both, lt-ltb}
use Rattle.std.proofs.lemmas.Bool.Decides.{nat_tests}
use Rattle.quorum.specs.Below.{within}
use Rattle.quorum.specs.Members.{has}
use Rattle.quorum.specs.Sets.{single}
use Rattle.rounds.specs.Reports.{reported, report_of}
use Rattle.rows.specs.Messages.{reporting_mode, report_keeps, body_keeps, message_keeps}
use Rattle.rows.specs.Recorders.{no_recorders}
use Rattle.rows.specs.Rows.{survivors_keep, has_next, report_breaks, stage_keeps, row_keeps}
use Rattle.rows.specs.declared.message.Body.{Body}
use Rattle.rows.specs.declared.message.Body.TheVariants.{State, Abort, Join, Report as Reports}
use Rattle.rows.specs.declared.message.Message.{Message}
use Rattle.rows.specs.declared.row.Row.{Row}
use Rattle.rows.specs.declared.row.Stage.{Stage}
use Rattle.rows.specs.declared.row.Stage.TheVariants.{Idle, Gathering, Confirming, Applying, Entering, Round}
use Rattle.stores.specs.Rules.{mode_fits}
use Rattle.stores.specs.declared.page.Mode.{Mode}
use Rattle.stores.specs.declared.page.Mode.TheVariants.{Waiting, Joining, Normal, Reconfiguration}
use Rattle.stores.specs.declared.page.Page.{Page}
use Rattle.stores.specs.declared.view.Head.{Head}
use Rattle.stores.specs.declared.view.Number.{Number}
use Rattle.stores.specs.declared.view.View.{View}
use Rattle.manager.specs.Calls.{head_of, report_message, own_reports, round_row, beginning, topped, thinned, gathering_row, state_message, abort_message, join_message, applying_row, member_takes_up, normal_takes_up, mode_takes_up, taking_up}
use Rattle.manager.specs.Effects.{Effect, in_mode, posts_of, entry_of, judged, judged_again}
use Rattle.manager.specs.Verdicts.{verdict_of}
use Rattle.manager.specs.declared.need.Need.{Need}
use Rattle.manager.specs.Requests.Request.{view}
use Rattle.laws.specs.Grounds.{InRound, Begins, Uncarrying, IsRound}
use Rattle.laws.specs.Known.{Known, known, taken_up, last_of, part_told, counted}
use Rattle.laws.specs.Laws.{NotLower, Advances}
use Rattle.laws.proofs.Courses.{Said, First, says, last_posted, Brought, standing, Course}
use Rattle.laws.proofs.Courses.Course.{judged_so}
use Rattle.laws.proofs.Hearing.{one_more, report_kept}
use Rattle.laws.proofs.Judged.{Agrees, verdict_fits}
use Rattle.manager.proofs.Accepted.{Announced}
use Rattle.laws.proofs.Pages.{topped_tests, reconfigured_tests, has_view}
use Rattle.laws.proofs.Recording.{entry_stands, again, judges}
use Rattle.rows.proofs.Facts.{row_parts, row_from, gathering_back, applying_back, round_back}
use Rattle.laws.proofs.Subsets.{within_none, within_alone, within_first, within_second, recorders_none}
use Rattle.stores.proofs.Kept.{Tests, tests_of}

-- a page is not behind itself
same_mark : (m : Option Number) → NotLower m m
same_mark None = tt
same_mark (Some m) = le_refl m.0

pub advances_itself : (p : Page) → Advances p p
advances_itself p = record { top = le_refl p.top.0; mark = same_mark p.mark }

-- ---- the messages
-- a message of the replica, with a body that keeps the rules
said : (r : ℕ) (h : Head) (b : Body) → has h.set.0 r ≡ true → body_keeps r h b ≡ true →
    Said r h (record { sender = r; head = h; body = b })
unfolding message_keeps
said r h b i k = record { keeps = and_from (has h.set.0 r) (body_keeps r h b) i k; sender = refl; head = refl }

module _ (f : ℕ → ℕ → Bool) (need : Need) (r : ℕ) (p : Page) (w : Row) (h : Head) (a : Announced r p w h) where
  page : Tests r p
  page = tests_of r p a.offer.page

  survivors_in : survivors_keep w.survivors p.component ≡ true
  survivors_in = (row_parts r p w a.offer.row).0

  -- a course of taking up the view, with k known; `In` says that it begins a round
  abbrev Goes : Known → Type 0 → Effect → Type 0
  Goes k In e = Course f need r h k p In (view h) e

  -- the top stamp is the view's, with this row
  topped_comes : (k : Known) (In : Type 0) (x : Row) → head_of x.stage ≡ Some h → row_keeps r (topped p h) x ≡ true →
      Agrees k x → (In → IsRound x.stage) → (IsRound x.stage → In) →
      Brought f need r h k p In (topped p h) x
  topped_comes k In x i keep known enters leaves = record {
    page = topped_tests r p h (let l = a.later in omega arith) page;
    row = keep;
    same = i;
    known = known;
    advances = record { top = let l = a.later in omega arith; mark = same_mark p.mark };
    component = refl;
    recorded = refl;
    enters = enters;
    leaves = leaves;
  }

  -- ---- a round begins
  own_kept : (x : Page) → report_keeps r (report_of x) ≡ true → (k : ℕ) → k < 16 →
      report_breaks h k (reported (own_reports r x) k) ≡ false
  own_kept x n =
      one_more h r (replicate 16 None) (report_of x) a.member n
      (λ k l. ap (report_breaks h k) (get_or-replicate 16 k None None l))

  begins : (k : Known) (In : Type 0) (x : Page) (y : Row) (first : Option Message) → In → k.lost ≡ y.lost →
      k.survivors ≡ y.survivors → k.reports ≡ own_reports r x → x.mode ≡ Reconfiguration →
      Tests r x → h.stamp.0 ≤ x.top.0 → survivors_keep y.survivors x.component ≡ true → Advances p x →
      x.component ≡ p.component → x.recorded ≡ p.recorded → First r h first →
      Goes k In (beginning f need r x y h first)
  begins k In x y first now lost survivors reports m t l s v c d told =
      let own = report_kept r x t (ap reporting_mode m) in
      let z = round_row r x y h in
      let keep : row_keeps r x z ≡ true =
      row_from r x z s (round_back r x h (own_reports r x)
      (record { reconfiguration = rw m; head = record { holds = a.member; stamped = l }; reports = own_kept x own })) in
      let b : Brought f need r h k p In x z =
      record {
        page = t;
        row = keep;
        same = refl;
        known = record { lost = lost; survivors = survivors; stage = reports };
        advances = v;
        component = c;
        recorded = d;
        enters = λ _. tt;
        leaves = λ _. now;
      } in
      let posts = posts_of first (Some (report_message r h x)) in
      let last : part_told (last_of posts) ≡ None = ap part_told (last_posted first (report_message r h x)) in
      let st = standing f need r h k p In posts x z last
      (says r h first (Some (report_message r h x)) told (said r h (Reports (report_of x)) a.member own, tt)) b in
      judged_so posts x z (verdict_of f need r x z) st
      (verdict_fits f need r h (counted r k posts) x z st.page st.row st.same st.known)

  -- ---- waiting
  waits : p.mode ≡ Waiting → Goes (taken_up r p w h Waiting) (Begins f w.survivors h p.component Waiting) (judged f need
      r (topped p h) (applying_row w h) (Some (join_message r h)))
  waits m =
      judges f need r h (taken_up r p w h Waiting) p ⊥ (view h) (topped p h) (applying_row w h)
      (Some (join_message r h)) (said r h Join a.member refl, refl)
      (topped_comes (taken_up r p w h Waiting) ⊥ (applying_row w h) refl
      (row_from r (topped p h) (applying_row w h) survivors_in
      (applying_back r (topped p h) h (record { joins = record { 0 = 0 }; states = record { 0 = 0 }; reference = None })
      (record {
        waiting = rw m;
        head = record { holds = a.member; stamped = le_refl h.stamp.0 };
        reference = refl;
        joins = within_none h.set.0;
        states = within_none h.set.0;
      })))
      (record { lost = refl; survivors = refl; stage = (refl, refl, refl, refl, refl) }) (λ n. n) (λ n. n))

  -- ---- normal, with the component view c
  module _ (m : p.mode ≡ Normal) (c : View) (e : p.component ≡ Some c) where
    low : c.number.0 < 1000000000
    low = let x = a.room in let y = rw (m, e) at x in grind (arith, nat_tests)

    thin : within (thinned w h).survivors.0 c.set.0 ≡ true
    thin = let s = rw e at survivors_in in within_first w.survivors.0 h.set.0 c.set.0 s

    thin_keeps : survivors_keep (thinned w h).survivors p.component ≡ true
    thin_keeps = subst (λ o. survivors_keep (thinned w h).survivors o ≡ true) (sym e) thin

    next : has_next p.component ≡ true
    next = subst (λ o. has_next o ≡ true) (sym e) (lt-ltb c.number.0 1000000000 low)

    abbrev Thin : Type 0
    Thin = Uncarrying f w.survivors h (Some c)

    gathers : f (thinned w h).survivors.0 c.set.0 ≡ true →
        Brought f need r h (taken_up r p w h Normal) p Thin (topped p h) (gathering_row r (thinned w h) h)
    gathers carry =
        topped_comes (taken_up r p w h Normal) Thin (gathering_row r (thinned w h) h) refl
        (row_from r (topped p h) (gathering_row r (thinned w h) h) thin_keeps
        (gathering_back r (topped p h) h (record
        { states = record { 0 = single r }; recorders = no_recorders; answered = false })
        (record {
          normal = rw m;
          head = record { holds = a.member; stamped = le_refl h.stamp.0 };
          next = next;
          states = within_alone h.set.0 r a.member;
          recorders = recorders_none h.set.0;
        })))
        (record { lost = refl; survivors = refl; stage = (refl, refl, refl) })
        (λ lacks. absurd (both_ways _ lacks carry))
        (λ n. absurd n)

    members : Goes (taken_up r p w h Normal) Thin (member_takes_up f need r (topped p h) (thinned w h) h c)
    members =
        let k = taken_up r p w h Normal in
        let x = topped p h in
        let y = thinned w h in
        let z = gathering_row r y h in
        let told : body_keeps r h (State c y.survivors) ≡ true =
        and_from (ltb c.number.0 1000000000 && within y.survivors.0 c.set.0) (within y.survivors.0 h.set.0)
        (and_from (ltb c.number.0 1000000000) (within y.survivors.0 c.set.0) (lt-ltb c.number.0 1000000000 low) thin)
        (within_second w.survivors.0 h.set.0) in
        cond_both (f y.survivors.0 c.set.0)
        (if within h.set.0 y.survivors.0 then judged_again f need r None (entry_of r x z) else judged f need r x z
        (Some (state_message r h c y.survivors)))
        (beginning f need r (in_mode Reconfiguration x) y h (Some (abort_message r h))) (Goes k Thin)
        (λ carry. cond_both (within h.set.0 y.survivors.0) (judged_again f need r None (entry_of r x z))
        (judged f need r x z (Some (state_message r h c y.survivors))) (Goes k Thin)
        (λ none. again f need r h k p Thin (view h) None (entry_of r x z)
        (entry_stands f need r h k p Thin x z None tt (gathers carry) (λ d i. inl none)))
        (λ _. judges f need r h k p Thin (view h) x z (Some (state_message r h c y.survivors))
        (said r h (State c y.survivors) a.member told, refl) (gathers carry)))
        (λ lacks. begins k Thin (in_mode Reconfiguration x) y (Some (abort_message r h)) lacks refl refl refl refl
        (reconfigured_tests r x (has_view r x (topped_tests r p h (let l = a.later in omega arith) page) (λ n. cc))
        (topped_tests r p h (let l = a.later in omega arith) page))
        (le_refl h.stamp.0) thin_keeps (record { top = let l = a.later in omega arith; mark = same_mark p.mark }) refl
        refl (said r h Abort a.member refl, refl))

  viewless : (mode : Mode) (o : Option View) (s : Bool) → mode ≡ Normal → o ≡ None →
      mode_fits mode (is_some o) s ≡ true → ⊥
  viewless mode o s m n i = let j = rw (m, n) at i in cc

  normals : p.mode ≡ Normal → (o : Option View) → p.component ≡ o →
      Goes (taken_up r p w h Normal) (Begins f w.survivors h o Normal) (normal_takes_up f need r (topped p h) w h o)
  normals m None e = absurd (viewless p.mode p.component (is_some p.recorded) m e page.mode)
  normals m (Some c) e = members m c e

  reconfigures : p.mode ≡ Reconfiguration → Goes (taken_up r p w h Reconfiguration) (Begins f w.survivors h p.component
      Reconfiguration) (beginning f need r (topped p h) w h None)
  reconfigures m =
      begins (taken_up r p w h Reconfiguration) (Unit {0}) (topped p h) w None tt refl refl refl m
      (topped_tests r p h (let l = a.later in omega arith) page) (le_refl h.stamp.0) survivors_in
      (record { top = let l = a.later in omega arith; mark = same_mark p.mark }) refl refl tt

  -- up and idle, no page is joining
  idle_joins : (s : Stage) → is_some (head_of s) ≡ false → p.mode ≡ Joining → stage_keeps r p true w.lost s ≡ true → ⊥
  idle_joins Idle i m k = let j = rw m at k in absurd (grind (arith, nat_tests))
  idle_joins (Gathering g x) i m k = cc
  idle_joins (Confirming g x) i m k = cc
  idle_joins (Applying g x) i m k = cc
  idle_joins (Entering g x) i m k = cc
  idle_joins (Round g x) i m k = cc

  modes : (m : Mode) → p.mode ≡ m → Goes (taken_up r p w h m) (Begins f w.survivors h p.component m) (mode_takes_up f
      need r (topped p h) w h m)
  modes Waiting e = waits e
  modes Joining e =
      absurd (let k = (row_parts r p w a.offer.row).1 in let u = rw a.up at k in idle_joins w.stage a.idle e u)
  modes Normal e = normals e p.component refl
  modes Reconfiguration e = reconfigures e

  pub takes_up : Goes (known r p w (view h)) (InRound f p w (view h)) (taking_up f need r p w h)
  takes_up = modes p.mode refl
