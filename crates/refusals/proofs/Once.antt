-- Of a sender a kind is heard once under a head, and a Report is answered once. Assumes nothing.
use Rattle.std.proofs.Common.{◌≡◌, ℕ, ◌^◌, ◌<◌, Bool, true, false, ◌⊎◌, ◌↔◌, All, AllPairs, List, [], ◌∷◌, length, replicate, is_some, Some, None, Ok, Err, Option, Result, sym, refl, ap, ◌∙◌, subst, inl, inr, ⊎_elim, arith}
use Rattle.std.proofs.lemmas.Bool.{both_ways, and_parts, cases_lt}
use Rattle.std.proofs.lemmas.List.{length-set, length-replicate}
use Rattle.std.proofs.lemmas.List.Elements.{All-nil, All-cons}
use Rattle.std.proofs.lemmas.List.Kept.{AllPairs-cons}
use Rattle.std.proofs.lemmas.Option.{none-some, same_Some}
use Rattle.quorum.proofs.Bits.{has_high}
use Rattle.quorum.specs.Members.{has}
use Rattle.quorum.specs.declared.fault.Fault.{Fault}
use Rattle.quorum.specs.declared.fault.Reason.TheVariants.{NotHeard, HeardAlready}
use Rattle.rounds.specs.Reports.{report_of}
use Rattle.rounds.specs.declared.report.Report.{Report}
use Rattle.stores.specs.declared.page.Page.{Page}
use Rattle.stores.specs.declared.view.Head.{Head}
use Rattle.rows.specs.Messages.{body_keeps, message_keeps}
use Rattle.rows.specs.Rows.{head_of, empty_row}
use Rattle.rows.specs.declared.message.Message.{Message}
use Rattle.rows.specs.declared.message.Posts.{Posts}
use Rattle.rows.specs.declared.message.Posts.TheVariants.{Nothing}
use Rattle.rows.specs.declared.row.Row.{Row}
use Rattle.rows.specs.declared.row.Stage.{Stage}
use Rattle.rows.specs.declared.row.Stage.TheVariants.{Idle, Gathering, Confirming, Applying, Entering, Round}
use Rattle.manager.proofs.Accepted.{accepted, announced}
use Rattle.manager.specs.Calls.{report_message, own_reports, round_row, topped, gathering_row, state_message, join_message, applying_row, following, losing, started, taking_up, view_refusal, loss_refusal, start_refusal, call_refusal, viewed, delivered, lost_at, stopped_at, started_at}
use Rattle.manager.specs.Effects.{Effect, effect, in_mode, in_stage, posts_of, judged}
use Rattle.manager.specs.Requests.{Request, effect_of}
use Rattle.manager.specs.Requests.Request.{view, delivery, loss, start, stop}
use Rattle.manager.specs.Verdicts.{verdict_of}
use Rattle.manager.specs.declared.hearing.Hearing.{Hearing}
use Rattle.manager.specs.declared.hearing.Hearing.TheVariants.{Heard, Answered, Outdone, Aborted}
use Rattle.manager.specs.declared.need.Need.{Need}
use Rattle.refusals.specs.Heard.{Kind, kind_of, IsOpen, IsHeard}
use Rattle.refusals.specs.Heard.Kind.{state, recorded, report}
use Rattle.refusals.specs.Once.{HasSixteenPlaces, DeliveriesNoted, HeardStays, HeardIsRefused, IsPosted, IsAnswering, ReportsAnswered, AcceptedCall, UnderHead, IsRepeated, PostsReport, OnceUnderHead}
use Rattle.refusals.specs.Order.{order_of, Condition, replica_named}
use Rattle.refusals.proofs.Found.{Passes, Comes}
use Rattle.refusals.proofs.Noted.{turn_stays, HeardWhileOpen, heard_kept, turn_notes, past_unheard, heard_under, turn_answers, IsQuiet, quiet_kept, turn_quiet, turn_head, OnlyHead, head_kept, places_kept, turn_places}
use Rattle.refusals.proofs.Ordered.{comes}
use Rattle.refusals.proofs.Stages.{Kept, carried_stage, again_stage, judged_stage, following_stage, Adds, posted_of, again_adds, judged_adds, begins, Told, told}
use Rattle.refusals.proofs.Turns.{by_rules}

nothing_open : (s : Stage) → is_some (head_of s) ≡ false → head_of s ≡ None
nothing_open Idle e = refl
nothing_open (Gathering h g) e = absurd (both_ways true e refl)
nothing_open (Confirming h g) e = absurd (both_ways true e refl)
nothing_open (Applying h a) e = absurd (both_ways true e refl)
nothing_open (Entering h x) e = absurd (both_ways true e refl)
nothing_open (Round h rs) e = absurd (both_ways true e refl)

-- a member is one of the sixteen
one_of_sixteen : (s q : ℕ) → s < 2 ^ 16 → has s q ≡ true → q < 16
one_of_sixteen s q l i = ⊎_elim (λ h. h) (λ h. absurd (both_ways (has s q) (has_high s 16 q l h) i)) (cases_lt q 16)

module _ (f : ℕ → ℕ → Bool) (need : Need) (r : ℕ) where
  -- ---- one call
  module _ (p : Page) (w : Row) (e : Effect) where
    -- what a call that was accepted has come to
    view_comes : (h : Head) → viewed f need r p w h ≡ Ok e → (head_of w.stage ≡ None) × (taking_up f need r p w h ≡ e)
    unfolding viewed
    view_comes h d =
        let a = accepted (view_refusal r p w h) (taking_up f need r p w h) e d in
        (nothing_open w.stage (announced r p w h a.0).idle, a.1)

    loss_comes : (q : ℕ) → lost_at f need r p w q ≡ Ok e → judged f need r p (losing w q) None ≡ e
    unfolding lost_at
    loss_comes q d = (accepted (loss_refusal r p w q) (judged f need r p (losing w q) None) e d).1

    start_comes : started_at r p w ≡ Ok e → effect (in_mode (started p.mode) p) (empty_row true) Nothing ≡ e
    unfolding started_at
    start_comes d =
        (accepted (start_refusal r p w) (effect (in_mode (started p.mode) p) (empty_row true) Nothing) e d).1

    stop_comes : stopped_at r p w ≡ Ok e → effect p (empty_row false) Nothing ≡ e
    unfolding stopped_at
    stop_comes d = (accepted (call_refusal r p w) (effect p (empty_row false) Nothing) e d).1

    -- a fact of stages that every call but a view hands on
    hands_on : (Q : Stage → Type 0) → Kept Q → (a : Request) → effect_of f need r p w a ≡ Ok e → Q w.stage →
        ((m : Message) (t : Told f need r p w m e) → a ≡ delivery m → Q t.turn.left) →
        ((h : Head) → a ≡ view h → head_of w.stage ≡ None → Q (taking_up f need r p w h).row.stage) →
        Q e.row.stage
    hands_on Q k (view h) d i turned viewed =
        let a = view_comes h d in
        subst (λ (x : Effect). Q x.row.stage) a.1 (viewed h refl a.0)
    hands_on Q k (delivery m) d i turned viewed =
        let t = told f need r p w m e d in
        subst (λ (x : Effect). Q x.row.stage) t.follows
        (following_stage Q k f need r p (in_stage t.turn.left w) m.head t.turn.hearing (turned m t refl))
    hands_on Q k (loss q) d i turned viewed =
        subst (λ (x : Effect). Q x.row.stage) (loss_comes q d) (judged_stage Q k f need r p (losing w q) None i)
    hands_on Q k start d i turned viewed = subst (λ (x : Effect). Q x.row.stage) (start_comes d) k.idle
    hands_on Q k stop d i turned viewed = subst (λ (x : Effect). Q x.row.stage) (stop_comes d) k.idle

  -- ---- what is heard
  under_its_head : (p : Page) (w : Row) (m : Message) (e : Effect) → Told f need r p w m e →
      OnlyHead m.head e.row.stage
  under_its_head p w m e t =
      subst (λ (x : Effect). OnlyHead m.head x.row.stage) t.follows
      (following_stage (OnlyHead m.head) (head_kept m.head) f need r p (in_stage t.turn.left w) m.head t.turn.hearing
      (λ j i. same_Some m.head j
      (sym t.found.head ∙ sym (by_rules m.sender _ p w.survivors
      (turn_head m.sender) w.stage m.body t.turn t.heard) ∙ i)))

  sender_there : (p : Page) (w : Row) (m : Message) (e : Effect) → Told f need r p w m e →
      has m.head.set.0 m.sender ≡ true
  unfolding message_keeps
  sender_there p w m e t =
      (and_parts (has m.head.set.0 m.sender) (body_keeps m.sender m.head m.body) t.found.message).0

  noted_so : (p : Page) (w : Row) (m : Message) (e : Effect) (h : Head) (t : Told f need r p w m e) → IsOpen h e.row →
      (t.turn.hearing ≡ Aborted) ⊎ IsHeard t.turn.left (kind_of m.body) m.sender →
      IsHeard e.row.stage (kind_of m.body) m.sender
  noted_so p w m e h t o (inl k) =
      let gone : following f need r p (in_stage t.turn.left w) m.head Aborted ≡ e =
      ap (following f need r p (in_stage t.turn.left w) m.head) (sym k) ∙ t.follows in
      absurd (none-some h (ap (λ (x : Effect). head_of x.row.stage) gone ∙ o))
  noted_so p w m e h t o (inr i) =
      let kind = kind_of m.body in
      subst (λ (x : Effect). HeardWhileOpen kind m.sender x.row.stage) t.follows
      (following_stage (HeardWhileOpen kind m.sender) (heard_kept kind m.sender) f need r p
      (in_stage t.turn.left w) m.head t.turn.hearing (λ _ _. i)) h o

  noted : (p : Page) (w : Row) (m : Message) (e : Effect) (h : Head) → HasSixteenPlaces w.stage → h.set.0 < 2 ^ 16 →
      delivered f need r p w m ≡ Ok e → IsOpen h e.row →
      IsHeard e.row.stage (kind_of m.body) m.sender
  noted p w m e h places small d o =
      let t = told f need r p w m e d in
      let same : m.head ≡ h = under_its_head p w m e t h o in
      let l : m.sender < 16 = one_of_sixteen m.head.set.0 m.sender
      (subst (λ (x : Head). x.set.0 < 2 ^ 16) (sym same) small) (sender_there p w m e t) in
      noted_so p w m e h t o (by_rules m.sender _ p w.survivors
      (turn_notes m.sender l) w.stage m.body t.turn t.heard places)

  stays : (p : Page) (w : Row) (a : Request) (e : Effect) (h : Head) (kind : Kind) (q : ℕ) →
      effect_of f need r p w a ≡ Ok e → IsOpen h e.row → IsHeard w.stage kind q → IsHeard e.row.stage kind q
  stays p w a e h kind q d o i =
      hands_on p w e (HeardWhileOpen kind q) (heard_kept kind q) a d (λ _ _. i)
      (λ m t _ _ _. by_rules m.sender _ p w.survivors (turn_stays m.sender q kind) w.stage m.body t.turn t.heard i)
      (λ g _ none. absurd (heard_under w.stage kind q i none)) h o

  not_again : (p : Page) (w : Row) (m : Message) → IsHeard w.stage (kind_of m.body) m.sender →
      Passes (Condition r p w (delivery m)) (replica_named r (delivery m)) (order_of (delivery m)) → ⊥
  not_again p w m (inl i) n = n 7 HeardAlready (omega arith) i
  not_again p w m (inr i) n = n 6 NotHeard (omega arith) (past_unheard p w.survivors w.stage m.sender m.body i)

  refused_so : (p : Page) (w : Row) (m : Message) (x : Result Effect Fault) →
      Comes (Condition r p w (delivery m)) (replica_named r (delivery m)) (order_of (delivery m)) x →
      IsHeard w.stage (kind_of m.body) m.sender → (fault : Fault) × (x ≡ Err fault)
  refused_so p w m x (inl k) i = absurd (not_again p w m i k.2)
  refused_so p w m x (inr k) i = (_, k.fault)

  -- ---- what is answered
  no_report : (m : Option Message) (posts : Posts) → Adds m posts →
      ((x : Message) → m ≡ Some x → kind_of x.body ≡ report → ⊥) → (x : Message) → IsPosted x posts →
      kind_of x.body ≡ report → ⊥
  no_report m posts a first x i k =
      ⊎_elim (λ e. first x e k) (λ e. let z : recorded ≡ report = sym (a.recorded_only x e) ∙ k in cc)
      ((posted_of m a.second x).0 (subst (IsPosted x) a.is i))

  -- a message that was heard is answered first, or nothing is posted before a Recorded
  abbrev Follows : Page → Head → Hearing → Posts → Type 0
  Follows p h k posts =
      ((k ≡ Answered) × Adds (Some (report_message r h p)) posts) ⊎ ((k ≡ Answered → ⊥) × Adds None posts)

  follows_posts : (p : Page) (w : Row) (h : Head) (k : Hearing) →
      Follows p h k (following f need r p w h k).answer.posts
  follows_posts p w h Heard = inr (λ e. cc, judged_adds f need r p w None)
  follows_posts p w h Answered = inl (refl, judged_adds f need r p w (Some (report_message r h p)))
  follows_posts p w h Outdone =
      inr (λ e. cc, record { second = None; is = refl; recorded_only = λ x i. absurd (none-some x i) })
  follows_posts p w h Aborted =
      inr (λ e. cc, record { second = None; is = refl; recorded_only = λ x i. absurd (none-some x i) })

  told_posts : (p : Page) (w : Row) (m : Message) (e : Effect) (t : Told f need r p w m e) →
      Follows p m.head t.turn.hearing e.answer.posts
  told_posts p w m e t =
      subst (λ (y : Effect). Follows p m.head t.turn.hearing y.answer.posts) t.follows
      (follows_posts p (in_stage t.turn.left w) m.head t.turn.hearing)

  answered_so : (p : Page) (h : Head) (k : Hearing) (posts : Posts) (x : Message) → Follows p h k posts →
      (IsPosted x posts × (kind_of x.body ≡ report)) ↔ ((k ≡ Answered) × (x ≡ report_message r h p))
  answered_so p h k posts x (inl a) =
      let own = report_message r h p in (
        λ i. (
          a.0,
          ⊎_elim (λ e. sym (same_Some own x e))
              (λ e. absurd (let z : recorded ≡ report = sym (a.1.recorded_only x e) ∙ i.1 in cc))
              ((posted_of (Some own) a.1.second x).0 (subst (IsPosted x) a.1.is i.0)),
        ),
        λ i. (
          subst (IsPosted x) (sym a.1.is) ((posted_of (Some own) a.1.second x).1 (inl (ap Some (sym i.1)))),
          ap (λ (y : Message). kind_of y.body) i.1,
        ),
      )
  answered_so p h k posts x (inr a) =
      (λ i. absurd (no_report None posts a.1 (λ y e _. none-some y e) x i.0 i.1), λ i. absurd (a.0 i.0))

  answers : (p : Page) (w : Row) (m : Message) (e : Effect) → delivered f need r p w m ≡ Ok e → (x : Message) →
      (IsPosted x e.answer.posts × (kind_of x.body ≡ report)) ↔
      (IsAnswering w.stage × (kind_of m.body ≡ report) × (x ≡ report_message r m.head p))
  answers p w m e d x =
      let t = told f need r p w m e d in
      let fits = by_rules m.sender _ p w.survivors (turn_answers m.sender) w.stage m.body t.turn t.heard in
      let both = answered_so p m.head t.turn.hearing e.answer.posts x (told_posts p w m e t) in (
        λ i. let j = both.0 i in let k = fits.0 j.0 in (k.0, k.1, j.1),
        λ i. both.1 (fits.1 (i.0, i.1), i.2),
      )

  -- ---- the own Report
  abbrev Reports : Effect → Type 0
  Reports e = (x : Message) × IsPosted x e.answer.posts × (kind_of x.body ≡ report)

  nothing_reported : (posts : Posts) → Adds None posts → (x : Message) → IsPosted x posts → kind_of x.body ≡ report →
      ⊥
  nothing_reported posts a x i k = no_report None posts a (λ y e _. none-some y e) x i k

  -- a view that is taken up with a Report begins a round, or the replica waits
  view_quiet : (p : Page) (w : Row) (h : Head) → Reports (taking_up f need r p w h) →
      IsQuiet (taking_up f need r p w h).row.stage
  view_quiet p w h =
      begins f need r h (λ e. Reports e → IsQuiet e.row.stage) p w (record {
        waits = λ _. judged_stage IsQuiet quiet_kept f need r (topped p h) (applying_row w h)
            (Some (join_message r h)) tt;
        stays = λ x. absurd x.1;
        records = λ y x. absurd (nothing_reported _
            (again_adds f need r (topped p h) (gathering_row r y h) None) x.0 x.1 x.2);
        gathers = λ y c x. absurd
            (no_report (Some (state_message r h c y.survivors)) _
            (judged_adds f need r (topped p h) (gathering_row r y h) (Some (state_message r h c y.survivors)))
            (λ z i k. let e : state ≡ report =
            ap (λ (u : Message). kind_of u.body) (same_Some (state_message r h c y.survivors) z i) ∙
            k in cc) x.0 x.1 x.2);
        rounds = λ q y first _. carried_stage IsQuiet quiet_kept r q (round_row r q y h)
            (posts_of first (Some (report_message r h q))) (verdict_of f need r q (round_row r q y h)) tt;
      })

  -- a call that posts a Report leaves the row with none to come
  reports_once : (p : Page) (w : Row) (a : Request) (e : Effect) → effect_of f need r p w a ≡ Ok e → Reports e →
      IsQuiet e.row.stage
  reports_once p w (view h) e d x =
      let a = view_comes p w e h d in
      subst (λ (y : Effect). Reports y → IsQuiet y.row.stage) a.1 (view_quiet p w h) x
  reports_once p w (delivery m) e d x =
      let t = told f need r p w m e d in
      let k = ((answered_so p m.head t.turn.hearing e.answer.posts x.0 (told_posts p w m e t)).0 (x.1, x.2)).0 in
      let i = (by_rules m.sender _ p w.survivors (turn_quiet m.sender) w.stage m.body t.turn t.heard).1 k in
      subst (λ (y : Effect). IsQuiet y.row.stage) t.follows
      (following_stage IsQuiet quiet_kept f need r p (in_stage t.turn.left w) m.head t.turn.hearing i)
  reports_once p w (loss q) e d x =
      absurd (nothing_reported e.answer.posts
      (subst (λ (y : Effect). Adds None y.answer.posts) (loss_comes p w e q d)
      (judged_adds f need r p (losing w q) None)) x.0 x.1 x.2)
  reports_once p w start e d x = absurd (subst (λ (y : Effect). Reports y → ⊥) (start_comes p w e d) (λ z. z.1) x)
  reports_once p w stop e d x = absurd (subst (λ (y : Effect). Reports y → ⊥) (stop_comes p w e d) (λ z. z.1) x)

  -- with none to come, none is posted while the head is open, and none comes
  reports_no_more : (p : Page) (w : Row) (a : Request) (e : Effect) (h : Head) → effect_of f need r p w a ≡ Ok e →
      IsOpen h w → IsQuiet w.stage → Reports e → ⊥
  reports_no_more p w (view g) e h d o i x = none-some h (sym (view_comes p w e g d).0 ∙ o)
  reports_no_more p w (delivery m) e h d o i x =
      let t = told f need r p w m e d in
      let k = ((answered_so p m.head t.turn.hearing e.answer.posts x.0 (told_posts p w m e t)).0 (x.1, x.2)).0 in
      ((by_rules m.sender _ p w.survivors (turn_quiet m.sender) w.stage m.body t.turn t.heard).0 i).0 k
  reports_no_more p w (loss q) e h d o i x =
      nothing_reported e.answer.posts
      (subst (λ (y : Effect). Adds None y.answer.posts) (loss_comes p w e q d)
      (judged_adds f need r p (losing w q) None)) x.0 x.1 x.2
  reports_no_more p w start e h d o i x = subst (λ (y : Effect). Reports y → ⊥) (start_comes p w e d) (λ z. z.1) x
  reports_no_more p w stop e h d o i x = subst (λ (y : Effect). Reports y → ⊥) (stop_comes p w e d) (λ z. z.1) x

  stays_quiet : (p : Page) (w : Row) (a : Request) (e : Effect) (h : Head) → effect_of f need r p w a ≡ Ok e →
      IsOpen h w → IsQuiet w.stage → IsQuiet e.row.stage
  stays_quiet p w a e h d o i =
      hands_on p w e IsQuiet quiet_kept a d i
      (λ m t _. ((by_rules m.sender _ p w.survivors (turn_quiet m.sender) w.stage m.body t.turn t.heard).0 i).1)
      (λ g _ none. absurd (none-some h (sym none ∙ o)))

  -- ---- a round's places
  begun_places : (p : Page) (w : Row) (h : Head) → HasSixteenPlaces w.stage →
      HasSixteenPlaces (taking_up f need r p w h).row.stage
  begun_places p w h i =
      begins f need r h (λ e. HasSixteenPlaces e.row.stage) p w (record {
        waits = judged_stage HasSixteenPlaces places_kept f need r (topped p h) (applying_row w h)
            (Some (join_message r h)) tt;
        stays = i;
        records = λ y. again_stage HasSixteenPlaces places_kept f need r (topped p h) (gathering_row r y h) None tt;
        gathers = λ y c. judged_stage HasSixteenPlaces places_kept f need r (topped p h) (gathering_row r y h)
            (Some (state_message r h c y.survivors)) tt;
        rounds = λ q y first. carried_stage HasSixteenPlaces places_kept r q (round_row r q y h)
            (posts_of first (Some (report_message r h q))) (verdict_of f need r q (round_row r q y h)) (sixteen q);
      })
    where
      sixteen : (q : Page) → length (own_reports r q) ≡ 16
      sixteen q = length-set (replicate 16 None) r (Some (report_of q)) ∙ length-replicate {A = Option Report} 16 None

  keeps_places : (p : Page) (w : Row) (a : Request) (e : Effect) → effect_of f need r p w a ≡ Ok e →
      HasSixteenPlaces w.stage → HasSixteenPlaces e.row.stage
  keeps_places p w a e d i =
      hands_on p w e HasSixteenPlaces places_kept a d i
      (λ m t _. by_rules m.sender _ p w.survivors (turn_places m.sender) w.stage m.body t.turn t.heard i)
      (λ h _ _. begun_places p w h i)

  -- ---- many calls under a head
  module _ (h : Head) where
    -- what is heard is not delivered again
    abbrev IsNotAgain : Kind → ℕ → AcceptedCall → Type 0
    IsNotAgain kind q b = (m : Message) → b.request ≡ delivery m → kind_of m.body ≡ kind → m.sender ≡ q → ⊥

    later : (kind : Kind) (q : ℕ) (p : Page) (w : Row) (ds : List AcceptedCall) → UnderHead f need r h p w ds →
        IsHeard w.stage kind q → All (IsNotAgain kind q) ds
    later kind q p w [] u i = All-nil (IsNotAgain kind q)
    later kind q p w (d ∷ ds) u i =
        All-cons (IsNotAgain kind q) d ds
        (λ m is k s.
        let told_again = refused_so p w m (effect_of f need r p w (delivery m)) (comes r p w f need (delivery m))
        (subst (λ n. IsHeard w.stage (kind_of m.body) n) (sym s) (subst (λ x. IsHeard w.stage x q) (sym k) i)) in
        let done = subst (λ (a : Request). effect_of f need r p w a ≡ Ok d.effect) is u.0 in
        let z : Err told_again.0 ≡ Ok d.effect = sym told_again.1 ∙ done in
        cc)
        (later kind q d.effect.page d.effect.row ds u.2 (stays p w d.request d.effect h kind q u.0 u.1 i))

    -- with none to come no Report is posted
    quiet_later : (p : Page) (w : Row) (ds : List AcceptedCall) → UnderHead f need r h p w ds → IsOpen h w →
        IsQuiet w.stage → All (λ (b : AcceptedCall). PostsReport b → ⊥) ds
    quiet_later p w [] u o i = All-nil (λ b. PostsReport b → ⊥)
    quiet_later p w (d ∷ ds) u o i =
        All-cons (λ b. PostsReport b → ⊥) d ds (reports_no_more p w d.request d.effect h u.0 o i)
        (quiet_later d.effect.page d.effect.row ds u.2 u.1 (stays_quiet p w d.request d.effect h u.0 o i))

    heard_once : (p : Page) (w : Row) (ds : List AcceptedCall) → HasSixteenPlaces w.stage → h.set.0 < 2 ^ 16 →
        UnderHead f need r h p w ds → AllPairs (λ a b. IsRepeated a b → ⊥) ds
    heard_once p w [] places small u = λ i j x l k again. omega arith
    heard_once p w (d ∷ ds) places small u =
        AllPairs-cons (λ a b. IsRepeated a b → ⊥) d ds
        (λ i x l again.
        let m = again.first in
        let done : delivered f need r p w m ≡ Ok d.effect =
        subst (λ (a : Request). effect_of f need r p w a ≡ Ok d.effect) again.first_is u.0 in
        later (kind_of m.body) m.sender d.effect.page d.effect.row ds u.2
        (noted p w m d.effect h places small done u.1) i x l again.second again.second_is (sym again.kind)
        (sym again.sender))
        (heard_once d.effect.page d.effect.row ds (keeps_places p w d.request d.effect u.0 places) small u.2)

    reported_once : (p : Page) (w : Row) (ds : List AcceptedCall) → UnderHead f need r h p w ds →
        AllPairs (λ a b. PostsReport a × PostsReport b → ⊥) ds
    reported_once p w [] u = λ i j x l k both. omega arith
    reported_once p w (d ∷ ds) u =
        AllPairs-cons (λ a b. PostsReport a × PostsReport b → ⊥) d ds
        (λ i x l both. quiet_later d.effect.page d.effect.row ds u.2 u.1
        (reports_once p w d.request d.effect u.0 both.0) i x l both.1)
        (reported_once d.effect.page d.effect.row ds u.2)

-- ---- the laws
pub deliveries_noted : DeliveriesNoted
deliveries_noted f need r p w m e h places small d o = noted f need r p w m e h places small d o

pub heard_stays : HeardStays
heard_stays f need r p w a e h kind q d o i = stays f need r p w a e h kind q d o i

pub heard_refused : HeardIsRefused
heard_refused f need r p w m i =
    refused_so f need r p w m (effect_of f need r p w (delivery m)) (comes r p w f need (delivery m)) i

pub reports_answered : ReportsAnswered
reports_answered f need r p w m e d x = answers f need r p w m e d x

pub once_under_head : OnceUnderHead
once_under_head = record {
  heard = λ f need r h p w ds places small u. heard_once f need r h p w ds places small u;
  reported = λ f need r h p w ds u. reported_once f need r h p w ds u;
}
