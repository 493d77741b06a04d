-- How each of the five calls goes. Assumes nothing.
use Rattle.std.proofs.Common.{◌≡◌, ℕ, Bool, true, false, ◌⊎◌, is_some, Some, None, Ok, Err, Option, Result, sym, refl, ◌∙◌, subst, inl, inr}
use Rattle.std.proofs.lemmas.Bool.{and_parts}
use Rattle.quorum.specs.Members.{has}
use Rattle.quorum.specs.declared.fault.Fault.{Fault}
use Rattle.quorum.specs.declared.fault.Reason.{Reason}
use Rattle.quorum.specs.declared.set.ReplicaSet.{ReplicaSet}
use Rattle.rows.specs.Messages.{body_keeps, message_keeps}
use Rattle.rows.specs.Recorders.{adding}
use Rattle.rows.specs.Rows.{is_normal, stage_keeps, empty_row}
use Rattle.rows.specs.declared.message.Body.{Body}
use Rattle.rows.specs.declared.message.Body.TheVariants.{State, Abort, Join, Recorded, Report as Reports}
use Rattle.rows.specs.declared.message.Message.{Message}
use Rattle.rows.specs.declared.message.Posts.TheVariants.{Nothing}
use Rattle.rows.specs.declared.row.Row.{Row}
use Rattle.rows.specs.declared.row.Stage.{Stage}
use Rattle.rows.specs.declared.row.Stage.TheVariants.{Idle, Gathering, Confirming, Applying, Entering, Round}
use Rattle.stores.specs.declared.page.Page.{Page}
use Rattle.stores.specs.declared.view.Head.{Head}
use Rattle.manager.specs.Calls.{head_of, report_message, following, losing, started, call_refusal, view_refusal, delivery_refusal, loss_refusal, start_refusal, taking_up, viewed, heard_or_not, delivered_to, delivered, lost_at, stopped_at, started_at}
use Rattle.manager.specs.Effects.{Effect, effect, in_mode, in_stage, judged}
use Rattle.manager.specs.Hearing.{Turn, above, base_of, hears}
use Rattle.manager.specs.Requests.{Request, effect_of}
use Rattle.manager.specs.Requests.Request.{view, delivery, loss, start, stop}
use Rattle.manager.specs.declared.hearing.Hearing.{Hearing}
use Rattle.manager.specs.declared.hearing.Hearing.TheVariants.{Heard, Answered, Outdone, Aborted}
use Rattle.manager.specs.declared.need.Need.{Need}
use Rattle.laws.specs.Grounds.{InRound, IsRound}
use Rattle.laws.specs.Known.{Known, nothing_heard, heard_in, known_in, telling, known, head_under}
use Rattle.manager.proofs.Accepted.{accepted, Offered, called, announced, Delivered, arrived, missed, startable}
use Rattle.laws.proofs.Courses.{Brought, Course}
use Rattle.laws.proofs.Courses.Course.{outdone, aborted}
use Rattle.laws.proofs.Hearing.{HearingKeeps, HeardKeeps, heard_keeps}
use Rattle.laws.proofs.Judged.{AgreesIn}
use Rattle.laws.proofs.Recording.{judges}
use Rattle.rows.proofs.Facts.{row_parts, row_from, mode_normal}
use Rattle.laws.proofs.TakingUp.{advances_itself, takes_up}
use Rattle.rounds.proofs.Highest.{some_same}
use Rattle.stores.proofs.Kept.{tests_of}

-- a call works under a head
pub record Worked (f : ℕ → ℕ → Bool) (need : Need) (r : ℕ) (p : Page) (w : Row) (x : Request) (e : Effect) : Type 0
  where
    pub head : Head
    pub is : head_under w x ≡ Some head
    pub course : Course f need r head (known r p w x) p (InRound f p w x) x e

-- or turns the replica down or up
pub record Turned (r : ℕ) (p : Page) (w : Row) (x : Request) (e : Effect) : Type 0 where
  pub offer : Offered r p w
  pub headless : head_under w x ≡ None
  pub is : (effect p (empty_row false) Nothing ≡ e) ⊎ (effect (in_mode (started p.mode) p) (empty_row true) Nothing ≡ e)

-- ---- what a row has, and what a message adds to it
lost_in : (k : Known) (s : Stage) → ((heard_in k s).lost ≡ k.lost) × ((heard_in k s).survivors ≡ k.survivors)
lost_in k Idle = (refl, refl)
lost_in k (Gathering h g) = (refl, refl)
lost_in k (Confirming h g) = (refl, refl)
lost_in k (Applying h a) = (refl, refl)
lost_in k (Entering h e) = (refl, refl)
lost_in k (Round h rs) = (refl, refl)

-- what a message that keeps its rules tells, of its own head or of another name of it
told_by : (m : Message) → message_keeps m ≡ true →
    (has m.head.set.0 m.sender ≡ true) × (body_keeps m.sender m.head m.body ≡ true)
unfolding message_keeps
told_by m e = and_parts (has m.head.set.0 m.sender) (body_keeps m.sender m.head m.body) e

pub under_same : (m : Message) (o : Option Head) → message_keeps m ≡ true → o ≡ Some m.head → (h : Head) → o ≡ Some h →
    (has h.set.0 m.sender ≡ true) × (body_keeps m.sender h m.body ≡ true)
under_same m o k e h j =
    subst (λ (x : Head). (has x.set.0 m.sender ≡ true) × (body_keeps m.sender x m.body ≡ true)) (some_same e j)
    (told_by m k)

lost_told : (k : Known) (q : ℕ) (b : Body) → ((telling k q b).lost ≡ k.lost) × ((telling k q b).survivors ≡ k.survivors)
lost_told k q (State c s) = (refl, refl)
lost_told k q Abort = (refl, refl)
lost_told k q Join = (refl, refl)
lost_told k q (Recorded n part) = (refl, refl)
lost_told k q (Reports m) = (refl, refl)

agrees_itself : (lost more survivors : ReplicaSet) (s : Stage) →
    AgreesIn (record (heard_in (nothing_heard lost survivors) s) { lost = more }) s
agrees_itself lost more survivors Idle = tt
agrees_itself lost more survivors (Gathering h g) = (refl, refl, refl)
agrees_itself lost more survivors (Confirming h g) = (refl, refl)
agrees_itself lost more survivors (Applying h a) = (refl, refl, refl, refl, refl)
agrees_itself lost more survivors (Entering h e) = (refl, refl, refl)
agrees_itself lost more survivors (Round h rs) = refl

-- ---- a replica stops, and starts
pub stopped_so : (r : ℕ) (p : Page) (w : Row) (e : Effect) → stopped_at r p w ≡ Ok e →
    Offered r p w × (effect p (empty_row false) Nothing ≡ e)
unfolding stopped_at
stopped_so r p w e d =
    let a = accepted (call_refusal r p w) (effect p (empty_row false) Nothing) e d in ((called r p w a.0).0, a.1)

pub started_so : (r : ℕ) (p : Page) (w : Row) (e : Effect) → started_at r p w ≡ Ok e →
    Offered r p w × (effect (in_mode (started p.mode) p) (empty_row true) Nothing ≡ e)
unfolding started_at
started_so r p w e d =
    let a = accepted (start_refusal r p w) (effect (in_mode (started p.mode) p) (empty_row true) Nothing) e d in
    (startable r p w a.0, a.1)

module _ (f : ℕ → ℕ → Bool) (need : Need) (r : ℕ) (p : Page) (w : Row) where
  -- ---- a view is taken up
  pub viewed_so : (h : Head) (e : Effect) → viewed f need r p w h ≡ Ok e → Worked f need r p w (view h) e
  unfolding viewed
  viewed_so h e d =
      let a = accepted (view_refusal r p w h) (taking_up f need r p w h) e d in
      record {
        head = h;
        is = refl;
        course = subst (Course f need r h (known r p w (view h)) p (InRound f p w (view h))
            (view h)) a.1 (takes_up f need r p w h (announced r p w h a.0));
      }

  -- ---- a message is delivered
  module _ (m : Message) where
    abbrev Goes : Effect → Type 0
    Goes e = Course f need r m.head (known r p w (delivery m)) p (IsRound w.stage) (delivery m) e

    follows_hearing : (x : Row) → Brought f need r m.head (known r p w (delivery m)) p (IsRound w.stage) p x →
        (j : Hearing) → HearingKeeps r p (Some m.head) w.up w.lost (known r p w (delivery m)) m.body w.stage j → Goes
        (following f need r p x m.head j)
    follows_hearing x b Heard k =
        judges f need r m.head (known r p w (delivery m)) p (IsRound w.stage) (delivery m) p x None tt b
    follows_hearing x b Answered k =
        judges f need r m.head (known r p w (delivery m)) p (IsRound w.stage) (delivery m) p x
        (Some (report_message r m.head p))
        (record { keeps = k m.head refl; sender = refl; head = refl }, refl) b
    follows_hearing x b Outdone k =
        let report = k.0 in
        let y = and_parts (is_normal report.mode) (above (base_of p.component p.recorded) report.component) k.2 in
        outdone x b (record {
          message = m;
          delivers = refl;
          report = report;
          tells = k.1;
          normal = mode_normal
              report.mode y.0;
          higher = y.1;
        }) k.3
    follows_hearing x b Aborted k = aborted x m b refl k.0 k.1 k.2

    heard_so : (e : Effect) → Delivered r p w m → (x : Result (Turn Stage) Reason) →
        HeardKeeps r p (Some m.head) w.up w.lost (known r p w (delivery m)) m.body w.stage x →
        heard_or_not f need r p w m.head x ≡ Ok e → Goes e
    heard_so e o (Err reason) k d = absurd cc
    heard_so e o (Ok t) k d =
        let x = in_stage t.left w in
        let same : following f need r p x m.head t.hearing ≡ e = cc in
        let tests = tests_of r p o.offer.page in
        let in_row = lost_in (nothing_heard w.lost w.survivors) w.stage in
        let told = lost_told (known_in w) m.sender m.body in
        subst Goes same
        (follows_hearing x
        (record {
          page = tests;
          row = row_from r p x (row_parts r p w o.offer.row).0 k.stage;
          same = sym k.same;
          known = record { lost = told.0 ∙ in_row.0; survivors = told.1 ∙ in_row.1; stage = k.known };
          advances = advances_itself p;
          component = refl;
          recorded = refl;
          enters = k.enters;
          leaves = k.leaves;
        })
        t.hearing k.hearing)

    delivered_by : (e : Effect) (o : Option Fault) → delivery_refusal r p w m ≡ o →
        delivered_to f need r p w m o ≡ Ok e → Worked f need r p w (delivery m) e
    delivered_by e (Some fault) i d = absurd cc
    delivered_by e None i d =
        let a = arrived r p w m i in
        let keeps = heard_keeps r p w m.sender m.body (tests_of r p a.offer.page) (row_parts r p w a.offer.row).1
        (under_same m (head_of w.stage) a.message a.head) in
        record {
          head = m.head;
          is = a.head;
          course = heard_so e a (hears p w m.sender m.body)
              (subst (λ o. HeardKeeps r p o w.up w.lost (known r p w (delivery m)) m.body w.stage
              (hears p w m.sender m.body)) a.head keeps) d;
        }

    pub delivered_so : (e : Effect) → delivered f need r p w m ≡ Ok e → Worked f need r p w (delivery m) e
    unfolding delivered
    delivered_so e d = delivered_by e (delivery_refusal r p w m) refl d

  -- ---- a replica of the head is lost
  -- with the head open, a row's rules say nothing of the lost
  losing_stage : (a b : ReplicaSet) (s : Stage) → is_some (head_of s) ≡ true → stage_keeps r p w.up a s ≡ true →
      stage_keeps r p w.up b s ≡ true
  losing_stage a b Idle e k = absurd cc
  losing_stage a b (Gathering h g) e k = k
  losing_stage a b (Confirming h g) e k = k
  losing_stage a b (Applying h g) e k = k
  losing_stage a b (Entering h g) e k = k
  losing_stage a b (Round h g) e k = k

  there : (o : Option Head) → is_some o ≡ true → (h : Head) × (o ≡ Some h)
  there None e = absurd cc
  there (Some h) e = (h, refl)

  pub lost_so : (q : ℕ) (e : Effect) → lost_at f need r p w q ≡ Ok e → Worked f need r p w (loss q) e
  unfolding lost_at
  lost_so q e d =
      let a = accepted (loss_refusal r p w q) (judged f need r p (losing w q) None) e d in
      let o = missed r p w q a.0 in
      let keeps = row_parts r p w o.offer.row in
      let x = losing w q in
      let h = there (head_of w.stage) o.opened in
      let survivors = (lost_in (nothing_heard w.lost w.survivors) w.stage).1 in
      record {
        head = h.0;
        is = h.1;
        course = subst (Course f need r h.0 (known r p w (loss q)) p (IsRound w.stage) (loss q)) a.1
            (judges f need r h.0 (known r p w (loss q)) p (IsRound w.stage) (loss q) p x None tt
            (record {
              page = tests_of r p o.offer.page;
              row = row_from r p x keeps.0 (losing_stage w.lost x.lost w.stage o.opened keeps.1);
              same = h.1;
              known = record {
                lost = refl;
                survivors = survivors;
                stage = agrees_itself w.lost (adding w.lost q)
                    w.survivors w.stage;
              };
              advances = advances_itself p;
              component = refl;
              recorded = refl;
              enters = λ i. i;
              leaves = λ i. i;
            }));
      }

  -- ---- any call
  pub call_goes : (x : Request) (e : Effect) → effect_of f need r p w x ≡ Ok e →
      Worked f need r p w x e ⊎ Turned r p w x e
  call_goes (view h) e d = inl (viewed_so h e d)
  call_goes (delivery m) e d = inl (delivered_so m e d)
  call_goes (loss q) e d = inl (lost_so q e d)
  call_goes start e d = let a = started_so r p w e d in inr (record { offer = a.0; headless = refl; is = inr a.1 })
  call_goes stop e d = let a = stopped_so r p w e d in inr (record { offer = a.0; headless = refl; is = inl a.1 })
