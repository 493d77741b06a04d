-- A step of a floor is a call of the moves. Assumes nothing.
use Rattle.std.proofs.Common.{◌≡◌, ℕ, ◌<◌, Bool, false, ◌⊎◌, List, [], length, set, Some, None, Ok, Err, Option, Result, sym, refl, ap, ◌∙◌, subst, inr, ⊎_elim}
use Rattle.quorum.specs.Laws.{Grows, Meets}
use Rattle.quorum.specs.declared.fault.Failure.{Failure}
use Rattle.quorum.specs.declared.fault.Failure.TheVariants.{Refused, NoMemory}
use Rattle.bridge.proofs.Down.{down_is}
use Rattle.bridge.specs.Refines.{MovesTo}
use Rattle.bridge.specs.Seen.{node_of, seen_post, formed_by, settlement_of}
use Rattle.manager.specs.Effects.{Effect}
use Rattle.manager.specs.declared.answer.Answer.{Answer}
use Rattle.safety.specs.Moves.{Settlement, settlement}
use Rattle.safety.specs.Moves.Chain.{rest, go}
use Rattle.safety.specs.Moves.Move.{close}
use Rattle.safety.specs.Replicas.{Node, leaving, In}
use Rattle.safety.specs.Replicas as Replicas
use Rattle.safety.specs.Replicas.Row.{idle}
use Rattle.safety.specs.Runs as Moves
use Rattle.safety.specs.Runs.{done}
use Rattle.safety.specs.Runs.Ended.{whole, cut_new, cut_old}
use Rattle.stores.specs.Kept.{page_at}
use Rattle.stores.specs.declared.view.Head.{Head}
use Rattle.stores.specs.declared.view.View.{View}
use Rattle.runs.specs.Findings.{Asks, head_under, Accepted, FormsIn, SettlesIn}
use Rattle.runs.specs.Founding.{row_at}
use Rattle.runs.specs.Runs.{Taken}
use Rattle.runs.specs.Steps.{Step, Halted}
use Rattle.runs.specs.World.{World, replica_of, ruled, Changed, Same, Broken, listed}
use Rattle.runs.specs.declared.work.Call.{Call}
use Rattle.runs.specs.declared.work.Call.TheVariants.{Whole, Cut, Stop}
use Rattle.runs.specs.declared.work.Work.{Work}
use Rattle.runs.proofs.Accepted.{ruled_moves}
use Rattle.quorum.proofs.Refused.{ok_inj, err_ok}
use Rattle.runs.proofs.Ruled.{stop_accepted}
use Rattle.runs.proofs.Posts.{posted_by, report_posted}
use Rattle.runs.proofs.Seen.{seen_at, world_of, Sixteen, both_here, both_others, row_here, row_others, seen_same, long_both, long_row}
use Rattle.rows.specs.Rows.{empty_row}

abbrev taken : Call → Result Answer Failure → World → Taken
taken call answer world = record { call = call; answer = answer; world = world }

module _ (f : ℕ → ℕ → Bool) (w : World) where
  -- what the moves make of a step: a call that forms and settles no more and no less
  pub record Called (t : Taken) : Type 0 where
    pub formed : List Replicas.Message
    pub settled : Option Settlement
    pub is : Moves.Call f (world_of w) (done formed settled (world_of t.world))
    pub long : Sixteen t.world
    pub forms : (q : ℕ) (h : Head) (m : Replicas.Report) → In (Replicas.Message.report_from q h m) formed → FormsIn f h w t
    pub settles : (h : Head) (v : View) → SettlesIn f h v w t → settled ≡ Some (settlement h v)

  module _ (l : Sixteen w) where
    -- ---- nothing changed: a refusal, or no memory
    unchanged : (t : Taken) → (Accepted f w t → ⊥) → Same w t.world → Called t
    unchanged t none s =
        let same : (q : ℕ) → (world_of t.world).at q ≡ (world_of w).at q = seen_same t.world w.pages w.rows s.pages_are s.rows_are in
        record {
          formed = [];
          settled = None;
          is = record {
            at = 0;
            becomes = (world_of w).at 0;
            chain = rest;
            ended = whole (record { here = same 0; others = λ q d. same q; posted = λ m i. inr (subst (λ p. In m (seen_post p)) s.post_is i) });
          };
          long = (ap length s.pages_are ∙ l.0, ap length s.rows_are ∙ l.1);
          forms = λ q h m i. absurd i;
          settles = λ h v a. absurd (none a.0);
        }

    -- ---- a stop
    halted : (t : Taken) (r : ℕ) → (Accepted f w t → ⊥) → r < 16 → Halted w t.world r → Called t
    halted t r none below s =
        let p = page_at w.pages r in
        let row = row_at w.rows r in
        let same : (q : ℕ) → (world_of t.world).at q ≡ seen_at w.pages (set w.rows r (empty_row false)) q = seen_same t.world w.pages (set w.rows r (empty_row false)) s.pages_are s.rows_are in
        record {
          formed = [];
          settled = None;
          is = record {
            at = r;
            becomes = leaving (node_of p row) idle;
            chain = go close rest;
            ended = whole (record {
              here = same r ∙ row_here w l r below p (empty_row false) ∙ down_is p row;
              others = λ q d. same q ∙ row_others w l r below p (empty_row false) q d;
              posted = λ m i. inr (subst (λ x. In m (seen_post x)) s.post_is i);
            });
          };
          long = long_row w t.world r (empty_row false) l s.pages_are s.rows_are;
          forms = λ q h m i. absurd i;
          settles = λ h v a. absurd (none a.0);
        }

    -- ---- an accepted call
    module _ (grows : Grows f) (meets : Meets f) (t : Taken) (k : Work) (e : Effect) (a : Answer) (asks : Asks t.call k) (only : (work : Work) → Asks t.call work → k ≡ work)
        (answers : t.answer ≡ Ok a) (rules : ruled f w k ≡ Ok e) where
      abbrev r : ℕ
      r = replica_of k

      abbrev node_after : Node
      node_after = node_of e.page e.row

      below : r < 16
      below = (ruled_moves f grows meets w k e rules).0

      chain_is : MovesTo f (seen_post w.post) r (page_at w.pages r) (row_at w.rows r) (head_under w k) e
      chain_is = (ruled_moves f grows meets w k e rules).1

      abbrev act : Accepted f w t
      act = record { work = k; effect = e; answer = a; asks = asks; answers = answers; rules = rules }

      settles_so : (h : Head) (v : View) → SettlesIn f h v w t → settlement_of (head_under w k) e.answer.ended ≡ Some (settlement h v)
      settles_so h v (b, o, ended, under) =
          let same : k ≡ b.work = only b.work b.asks in
          let does : e ≡ b.effect = ok_inj (sym rules ∙ ap (ruled f w) same ∙ b.rules) in
          (λ j. settlement_of (head_under w (same j)) (does j).answer.ended) ∙ (λ j. settlement_of (under j) (ended j))

      called : Moves.Ended r (world_of w) node_after (formed_by e.answer.posts) (world_of t.world) → Sixteen t.world → Called t
      called ended long = record {
        formed = formed_by e.answer.posts;
        settled = settlement_of (head_under w k) e.answer.ended;
        is = record { at = r; becomes = node_after; chain = chain_is; ended = ended };
        long = long;
        forms = λ q h m i. let b = report_posted q h m e.answer.posts i in (act, q, b.0, b.1);
        settles = settles_so;
      }

      carried_out : Changed w t.world r e.page e.row (listed e.answer.posts) → Called t
      carried_out c =
          let same : (q : ℕ) → (world_of t.world).at q ≡ seen_at (set w.pages r e.page) (set w.rows r e.row) q = seen_same t.world (set w.pages r e.page) (set w.rows r e.row) c.pages_are c.rows_are in
          called
          (whole (record {
            here = same r ∙ both_here w l r below e.page e.row;
            others = λ q d. same q ∙ both_others w l r below e.page e.row q d;
            posted = λ m i. posted_by m w.post e.answer.posts (subst (λ x. In m (seen_post x)) c.post_is i);
          }))
          (long_both w t.world r e.page e.row l c.pages_are c.rows_are)

      cut_off : Broken w t.world r e.page → Called t
      cut_off c =
          let down = empty_row false in
          let row = row_at w.rows r in
          let old = page_at w.pages r in
          let silent : (m : Replicas.Message) → In m (seen_post t.world.post) → In m [] ⊎ In m (seen_post w.post) = λ m i. inr (subst (λ x. In m (seen_post x)) c.post_is i) in
          ⊎_elim
          (λ (p : t.world.pages ≡ w.pages).
          let same : (q : ℕ) → (world_of t.world).at q ≡ seen_at w.pages (set w.rows r down) q = seen_same t.world w.pages (set w.rows r down) p c.rows_are in
          called
          (cut_old (record {
            here = same r ∙ row_here w l r below old down ∙ down_is old row;
            others = λ q d. same q ∙ row_others w l r below old down q d;
            posted = silent;
          }))
          (long_row w t.world r down l p c.rows_are))
          (λ (p : t.world.pages ≡ set w.pages r e.page).
          let same : (q : ℕ) → (world_of t.world).at q ≡ seen_at (set w.pages r e.page) (set w.rows r down) q = seen_same t.world (set w.pages r e.page) (set w.rows r down) p c.rows_are in
          called
          (cut_new (record {
            here = same r ∙ both_here w l r below e.page down ∙ down_is e.page e.row;
            others = λ q d. same q ∙ both_others w l r below e.page down q d;
            posted = silent;
          }))
          (long_both w t.world r e.page down l p c.rows_are))
          c.pages_are

    -- ---- every step
    not_answered : (call : Call) (why : Failure) (v : World) → Accepted f w (taken call (Err why) v) → ⊥
    not_answered call why v a = err_ok a.answers

    step_taken : (grows : Grows f) (meets : Meets f) (call : Call) (answer : Result Answer Failure) (v : World) → Step f w call answer v → Called (taken call answer v)
    step_taken grows meets (Whole k) (Ok a) v (e, rules, is, c) = carried_out grows meets (taken (Whole k) (Ok a) v) k e a refl (λ work i. i) refl rules c
    step_taken grows meets (Whole k) (Err (Refused fault)) v (rules, s) = unchanged (taken (Whole k) (Err (Refused fault)) v) (not_answered (Whole k) (Refused fault) v) s
    step_taken grows meets (Whole k) (Err NoMemory) v (e, rules, some, s) = unchanged (taken (Whole k) (Err NoMemory) v) (not_answered (Whole k) NoMemory v) s
    step_taken grows meets (Cut k n) (Ok a) v (e, rules, is, c) = cut_off grows meets (taken (Cut k n) (Ok a) v) k e a refl (λ work i. i) refl rules c
    step_taken grows meets (Cut k n) (Err (Refused fault)) v (rules, s) = unchanged (taken (Cut k n) (Err (Refused fault)) v) (not_answered (Cut k n) (Refused fault) v) s
    step_taken grows meets (Cut k n) (Err NoMemory) v s = absurd s
    step_taken grows meets (Stop r) (Ok a) v (e, rules, is, c) = halted (taken (Stop r) (Ok a) v) r (λ b. b.asks) (stop_accepted f w r e rules).0 c
    step_taken grows meets (Stop r) (Err (Refused fault)) v (rules, s) = unchanged (taken (Stop r) (Err (Refused fault)) v) (not_answered (Stop r) (Refused fault) v) s
    step_taken grows meets (Stop r) (Err NoMemory) v s = absurd s

    pub step_called : Grows f → Meets f → (t : Taken) → Step f w t.call t.answer t.world → Called t
    step_called grows meets t s = step_taken grows meets t.call t.answer t.world s
