-- Taking up a view is a chain of moves. Assumes nothing.
use Rattle.std.proofs.Common.{◌≡◌, ℕ, ◌<◌, Bool, true, if◌then◌else◌, List, [], ◌++◌, is_some, Some, None, Option, sym, refl, ap, ◌∙◌}
use Rattle.std.proofs.lemmas.Bool.{cond_both, false≢true}
use Rattle.quorum.specs.Below.{within}
use Rattle.quorum.specs.Laws.{Grows, Meets}
use Rattle.stores.specs.declared.page.Mode.{Mode}
use Rattle.stores.specs.declared.page.Mode.TheVariants.{Waiting, Joining, Normal, Reconfiguration}
use Rattle.stores.specs.declared.page.Page.{Page}
use Rattle.stores.specs.declared.view.Head.{Head}
use Rattle.stores.specs.declared.view.View.{View}
use Rattle.rows.specs.declared.message.Message.{Message}
use Rattle.rows.specs.declared.row.Row.{Row}
use Rattle.manager.specs.Calls.{report_message, own_reports, round_row, beginning, topped, thinned, gathering_row, state_message, abort_message, join_message, applying_row, member_takes_up, normal_takes_up, mode_takes_up, taking_up}
use Rattle.manager.specs.Effects.{Effect, in_mode, entry_of, posts_of, judged, judged_again}
use Rattle.manager.specs.Verdicts.{verdict_of}
use Rattle.manager.specs.declared.need.Need.{Need}
use Rattle.safety.specs.Moves.{Move, Chain}
use Rattle.safety.specs.Moves.Chain.{go}
use Rattle.safety.specs.Moves.Move.{take_up, gather, apply, begin_round, tell_state, leave}
use Rattle.safety.specs.Replicas.{Node, with_row}
use Rattle.safety.specs.Replicas as Moves
use Rattle.safety.specs.Replicas.Phase.{taken, gathering}
use Rattle.safety.specs.Replicas.Row.{under}
use Rattle.bridge.specs.Seen.{seen_stage, seen_reports, node_of, formed_by, settlement_of}
use Rattle.stores.proofs.Kept.{rules_from}
use Rattle.manager.proofs.Accepted.{Announced}
use Rattle.bridge.proofs.Accepted.{closed_stage, not_joining}
use Rattle.bridge.proofs.Bits.{nobody_there}
use Rattle.bridge.proofs.Chains.{seen_maybe, formed_both, quietly, forming}
use Rattle.bridge.proofs.Judged.{verdict_comes}
use Rattle.manager.proofs.Posted.{carried_posts}
use Rattle.bridge.proofs.Recorded.{enters, again, judges, after, at_once, silently}
use Rattle.bridge.proofs.Reports.{alone_own, alone_only}
use Rattle.rounds.specs.Reports.{report_of}

-- the view is the head now, and no more
abbrev just_taken : Page → Row → Head → Node
just_taken p w h = with_row (node_of p w) (under h taken)

module _ (carries : ℕ → ℕ → Bool) (grows : Grows carries) (meets : Meets carries) (need : Need) (r : ℕ) (post : List Moves.Message) where
  -- from x under the head h the call comes to e
  abbrev Goes : Node → Head → Effect → Type 0
  Goes x h e = Chain carries post r x (formed_by e.answer.posts) (settlement_of (Some h) e.answer.ended) (node_of e.page e.row)

  -- a round begins, after a message that says nothing to the moves
  begins : (p : Page) (w : Row) (h : Head) (m : Option Message) → w.up ≡ true → r < 16 → p.mode ≡ Reconfiguration → seen_maybe m ≡ [] →
      Goes (just_taken p w h) h (beginning carries need r p w h m)
  begins p w h m up below e silent =
      let own = report_message r h p in
      let posts = posts_of m (Some own) in
      let v = verdict_of carries need r p (round_row r p w h) in
      forming carries post r
      (sym (ap formed_by (carried_posts r p (round_row r p w h) posts v) ∙ formed_both m (Some own) ∙ ap (λ l. seen_maybe (Some own) ++ l) silent))
      (go (begin_round h (seen_reports (own_reports r p)) refl (alone_own r (report_of p) below) (alone_only r (report_of p)))
      (verdict_comes carries grows meets need r post p (round_row r p w h) up e posts))

  -- ---- a member
  member_goes : (p : Page) (w : Row) (h : Head) (c : View) → w.up ≡ true → r < 16 → p.mode ≡ Normal → p.component ≡ Some c →
      Goes (just_taken p w h) h (member_takes_up carries need r p w h c)
  member_goes p w h c up below m i =
      cond_both (carries w.survivors.0 c.set.0) (if within h.set.0 w.survivors.0 then recorded else told) _ (Goes (just_taken p w h) h)
      (λ _. cond_both (within h.set.0 w.survivors.0) recorded told (Goes (just_taken p w h) h)
      (λ _. quietly carries post r gathers (at_once carries grows meets need r post (again carries grows meets need r post p (gathering_row r w h) None (entry_of r p (gathering_row r w h)) (enters carries grows meets need r post p (gathering_row r w h) up m))))
      (λ _. quietly carries post r gathers (after carries grows meets need r post (tell_state h (gathering 0) c refl i) (judges carries grows meets need r post p (gathering_row r w h) (Some (state_message r h c w.survivors)) up m))))
      (λ _. quietly carries post r leave (begins (in_mode Reconfiguration p) w h (Some (abort_message r h)) up below refl refl))
    where
      recorded : Effect
      recorded = judged_again carries need r None (entry_of r p (gathering_row r w h))

      told : Effect
      told = judged carries need r p (gathering_row r w h) (Some (state_message r h c w.survivors))

      gathers : Move post r (just_taken p w h) (node_of p (gathering_row r w h)) []
      gathers = gather h 0 refl nobody_there

  normal_goes : (p : Page) (w : Row) (h : Head) → w.up ≡ true → r < 16 → p.mode ≡ Normal → is_some p.component ≡ true → (o : Option View) → p.component ≡ o →
      Goes (just_taken p w h) h (normal_takes_up carries need r p w h o)
  normal_goes p w h up below m there None i = absurd (false≢true (sym (ap is_some i) ∙ there))
  normal_goes p w h up below m there (Some c) i = member_goes p (thinned w h) h c up below m i

  -- ---- in each mode
  mode_goes : (p : Page) (w : Row) (h : Head) → Announced r p w h → (m : Mode) → p.mode ≡ m → Goes (just_taken (topped p h) w h) h (mode_takes_up carries need r (topped p h) w h m)
  mode_goes p w h a Waiting m =
      quietly carries post r (apply h refl)
      (at_once carries grows meets need r post
      (silently carries grows meets need r post refl (judges carries grows meets need r post (topped p h) (applying_row w h) (Some (join_message r h)) a.up (m, ((rules_from r p a.offer.page).waiting m).0))))
  mode_goes p w h a Joining m = absurd (not_joining r p w h a m)
  mode_goes p w h a Normal m = normal_goes (topped p h) w h a.up a.offer.below m ((rules_from r p a.offer.page).normal m) p.component refl
  mode_goes p w h a Reconfiguration m = begins (topped p h) w h None a.up a.offer.below m refl

  pub taking_goes : (p : Page) (w : Row) (h : Head) → Announced r p w h → Goes (node_of p w) h (taking_up carries need r p w h)
  taking_goes p w h a = quietly carries post r (take_up h (ap seen_stage (closed_stage w.stage a.idle)) a.member a.later) (mode_goes p w h a p.mode refl)
