-- What a call leaves keeps the rules, and nothing falls. Assumes nothing.
use Rattle.std.proofs.Common.{◌≡◌, ℕ, Bool, true, false, ◌||◌, is_some, Some, None, Ok, Option, refl, subst, ⊎_elim}
use Rattle.std.proofs.lemmas.Bool.{cond_both}
use Rattle.quorum.specs.Members.{has}
use Rattle.rounds.specs.declared.outcome.Outcome.{Outcome}
use Rattle.rows.specs.Rows.{is_joining, survivors_keep, row_keeps}
use Rattle.rows.specs.declared.message.Message.{Message}
use Rattle.rows.specs.declared.message.Posts.{Posts}
use Rattle.rows.specs.declared.message.Posts.TheVariants.{Nothing, One as Single, Two}
use Rattle.rows.specs.declared.row.Row.{Row}
use Rattle.stores.specs.declared.page.Mode.{Mode}
use Rattle.stores.specs.declared.page.Mode.TheVariants.{Waiting, Joining, Normal, Reconfiguration}
use Rattle.stores.specs.declared.page.Page.{Page}
use Rattle.stores.specs.declared.view.Head.{Head}
use Rattle.stores.specs.declared.view.Recorded.{Recorded}
use Rattle.stores.specs.declared.view.View.{View}
use Rattle.manager.specs.Calls.{started, viewed, delivered, lost_at, started_at, stopped_at}
use Rattle.manager.specs.Effects.{Effect, effect, ending, in_mode, closed, raised, component_page, component_row, spare_page, spare_row, installing, settling, carried_out}
use Rattle.manager.specs.Requests.{Request, effect_of}
use Rattle.manager.specs.Requests.Request.{view, delivery, loss, start, stop}
use Rattle.manager.specs.declared.need.Need.{Need}
use Rattle.manager.specs.declared.need.Need.TheVariants.{One}
use Rattle.manager.specs.declared.verdict.Verdict.{Verdict}
use Rattle.manager.specs.declared.verdict.Verdict.TheVariants.{Stays, Records, Installs, Reconfigures, Closes, Forgets, Ends}
use Rattle.laws.specs.Known.{Known, counted}
use Rattle.laws.specs.Laws.{PostsKeep, Keeps, Advances, CallsKeep, CallsAdvance}
pub use Rattle.laws.proofs.Going.{started_so, stopped_so}
pub use Rattle.laws.proofs.Losses.{lost_posts}
use Rattle.laws.proofs.Going.{Turned, call_goes}
use Rattle.laws.proofs.Courses.{Says, Stands, Course}
use Rattle.laws.proofs.Courses.Course.{judged_so, outdone, aborted}
use Rattle.laws.proofs.Judged.{Fits}
use Rattle.laws.proofs.Pages.{advances_raised, installed_tests, settled_tests, spare_tests, reconfigured_tests, joining_recorded, forgotten_tests, started_tests}
use Rattle.rows.proofs.Facts.{row_parts}
use Rattle.laws.proofs.Rows.{closed_keeps, component_keeps, spare_keeps, down_keeps, up_keeps}
use Rattle.laws.proofs.Settled.{Numbered}
use Rattle.laws.proofs.TakingUp.{advances_itself}
use Rattle.stores.proofs.Kept.{Tests, of_tests, tests_of}

pub record Kept (r : ℕ) (q : Page) (e : Effect) : Type 0 where
  pub keeps : Keeps r e
  pub advances : Advances q e.page

posts_keep : (r : ℕ) (h : Head) (posts : Posts) → Says r h posts → PostsKeep posts
posts_keep r h Nothing s = tt
posts_keep r h (Single m) s = s.keeps
posts_keep r h (Two m n) s = (s.0.keeps, s.1.keeps)

-- ---- what each verdict leaves
module _ (r : ℕ) (q p : Page) (w : Row) (posts : Posts) (tests : Tests r p) (row : row_keeps r p w ≡ true)
    (advances : Advances q p) (told : PostsKeep posts) where
  survivors_in : survivors_keep w.survivors p.component ≡ true
  survivors_in = (row_parts r p w row).0

  stays : Kept r q (effect p w posts)
  stays = record { keeps = record { page = of_tests r p tests; row = row; posts = told }; advances = advances }

  closes : is_joining p.mode ≡ false → Kept r q (effect p (closed w) posts)
  closes j =
      record {
        keeps = record { page = of_tests r p tests; row = closed_keeps r p w survivors_in j; posts = told };
        advances = advances;
      }

  installs : (o : Option Recorded) → p.recorded ≡ o → Kept r q (installing p w posts o)
  installs None e = closes (joining_recorded r p e tests)
  installs (Some s) e = record {
    keeps = record {
      page = of_tests r _ (installed_tests r p s e tests);
      row = component_keeps r _ w s.view refl refl;
      posts = told;
    };
    advances = record { top = advances.top; mark = advances.mark };
  }

  reconfigures : (is_some p.component || is_some p.recorded) ≡ true →
      Kept r q (effect (in_mode Reconfiguration p) (closed w) posts)
  reconfigures x = record {
    keeps = record {
      page = of_tests r _ (reconfigured_tests r p x tests);
      row = closed_keeps r
          (in_mode Reconfiguration p) w survivors_in refl;
      posts = told;
    };
    advances = record { top = advances.top; mark = advances.mark };
  }

  forgets : is_joining p.mode ≡ true → Kept r q (carried_out r p w posts Forgets)
  forgets j = record {
    keeps = record {
      page = of_tests r _ (forgotten_tests r p j tests);
      row = closed_keeps r _ w survivors_in refl;
      posts = told;
    };
    advances = record { top = advances.top; mark = advances.mark };
  }

  spares : (o : Outcome) (v : Option View) → Kept r q (ending (spare_page p) (spare_row w) posts o v)
  spares o v = record {
    keeps = record { page = of_tests r _ (spare_tests r p tests); row = spare_keeps r _ w refl; posts = told };
    advances = record { top = advances.top; mark = advances.mark };
  }

  settles : (o : Outcome) (v : Option View) → is_joining p.mode ≡ false → Numbered v →
      Kept r q (settling r p w posts o v)
  settles o None j n =
      record {
        keeps = record { page = of_tests r p tests; row = closed_keeps r p w survivors_in j; posts = told };
        advances = advances;
      }
  settles o (Some v) j n =
      cond_both (has v.set.0 r) (ending (component_page p (Some (raised p.mark v.number.0)) v) (component_row w v) posts
      o (Some v))
      (ending (spare_page p) (spare_row w) posts o (Some v)) (Kept r q)
      (λ i. record {
        keeps = record {
          page = of_tests r _ (settled_tests r p v i n tests);
          row = component_keeps r _ w v refl refl;
          posts = told;
        };
        advances = record { top = advances.top; mark = advances_raised q p v.number.0 advances };
      })
      (λ _. spares o (Some v))

module _ (f : ℕ → ℕ → Bool) (need : Need) (r : ℕ) (h : Head) (k : Known) (q : Page) (In : Type 0) (x : Request) where
  by_verdict : (posts : Posts) (p : Page) (w : Row) (v : Verdict) → Stands f need r h k q In posts p w →
      Fits f need r h (counted r k posts) p w.stage v → Kept r q (carried_out r p w posts v)
  by_verdict posts p w Stays s i = stays r q p w posts s.page s.row s.advances (posts_keep r h posts s.says)
  by_verdict posts p w Records s i = stays r q p w posts s.page s.row s.advances (posts_keep r h posts s.says)
  by_verdict posts p w Installs s i =
      installs r q p w posts s.page s.row s.advances (posts_keep r h posts s.says) p.recorded refl
  by_verdict posts p w Reconfigures s i =
      reconfigures r q p w posts s.page s.row s.advances (posts_keep r h posts s.says) i.0
  by_verdict posts p w Closes s i = closes r q p w posts s.page s.row s.advances (posts_keep r h posts s.says) i.0
  by_verdict posts p w Forgets s i = forgets r q p w posts s.page s.row s.advances (posts_keep r h posts s.says) i.0
  by_verdict posts p w (Ends o v) s i =
      settles r q p w posts s.page s.row s.advances (posts_keep r h posts s.says) o v i.0 i.1

  pub course_kept : (e : Effect) → Course f need r h k q In x e → Kept r q e
  course_kept _ (judged_so posts p w v s i) = by_verdict posts p w v s i
  course_kept _ (outdone w b o i) = spares r q q w Nothing b.page b.row b.advances tt _ None
  course_kept _ (aborted w m b d t n i) = closes r q q w Nothing b.page b.row b.advances tt (rw n)

-- ---- a start and a stop
started_mode : (m : Mode) → is_joining (started m) ≡ false
started_mode Waiting = refl
started_mode Joining = refl
started_mode Normal = refl
started_mode Reconfiguration = refl

stopped_kept : (r : ℕ) (p : Page) (w : Row) (x : Request) (e : Effect) → Turned r p w x e → Kept r p e
stopped_kept r p w x e t =
    let adv = advances_itself p in
    let next = in_mode (started p.mode) p in
    ⊎_elim
    (λ i. subst (Kept r p) i (record {
      keeps = record { page = t.offer.page; row = down_keeps r p; posts = tt };
      advances = adv;
    }))
    (λ i. subst (Kept r p) i
    (record {
      keeps = record {
        page = of_tests r next (started_tests r p (tests_of r p t.offer.page));
        row = up_keeps r next
            (started_mode p.mode);
        posts = tt;
      };
      advances = record { top = adv.top; mark = adv.mark };
    }))
    t.is

-- ---- any call
pub kept : (f : ℕ → ℕ → Bool) (need : Need) (r : ℕ) (p : Page) (w : Row) (x : Request) (e : Effect) →
    effect_of f need r p w x ≡ Ok e → Kept r p e
kept f need r p w x e d =
    ⊎_elim (λ g. course_kept f need r g.head _ p _ x e g.course) (λ g. stopped_kept r p w x e g)
    (call_goes f need r p w x e d)

pub calls_keep : CallsKeep
calls_keep f need r p w x e d = (kept f need r p w x e d).keeps

pub calls_advance : CallsAdvance
calls_advance f need r p w x e d = (kept f need r p w x e d).advances

-- ---- call by call
pub viewed_keeps : (f : ℕ → ℕ → Bool) (need : Need) (r : ℕ) (p : Page) (w : Row) (h : Head) (e : Effect) →
    viewed f need r p w h ≡ Ok e → Keeps r e
viewed_keeps f need r p w h e d = calls_keep f need r p w (view h) e d

pub delivered_keeps : (f : ℕ → ℕ → Bool) (need : Need) (r : ℕ) (p : Page) (w : Row) (m : Message) (e : Effect) →
    delivered f need r p w m ≡ Ok e → Keeps r e
delivered_keeps f need r p w m e d = calls_keep f need r p w (delivery m) e d

pub lost_keeps : (f : ℕ → ℕ → Bool) (need : Need) (r : ℕ) (p : Page) (w : Row) (q : ℕ) (e : Effect) →
    lost_at f need r p w q ≡ Ok e → Keeps r e
lost_keeps f need r p w q e d = calls_keep f need r p w (loss q) e d

-- of these two the rule and the need do not matter
pub started_keeps : (r : ℕ) (p : Page) (w : Row) (e : Effect) → started_at r p w ≡ Ok e → Keeps r e
started_keeps r p w e d = calls_keep (λ a b. true) One r p w start e d

pub stopped_keeps : (r : ℕ) (p : Page) (w : Row) (e : Effect) → stopped_at r p w ≡ Ok e → Keeps r e
stopped_keeps r p w e d = calls_keep (λ a b. true) One r p w stop e d
