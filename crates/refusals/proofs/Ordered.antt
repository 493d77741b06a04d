-- Each call comes to the first of its refusals whose condition holds, or is accepted where none does. Assumes nothing.
use Rattle.std.specs.Option.{option_or}
use Rattle.std.proofs.Common.{◌≡◌, ℕ, ◌≤◌, leb, eqb, Bool, true, false, not, ◌&&◌, ◌||◌, ◌≢◌, ◌⊎◌, ◌↔◌, All, Decides, List, [], ◌∷◌, is_some, Some, None, Ok, Err, Option, Result, sym, refl, ap, ◌∙◌, subst, inl, inr, ⊎_elim}
use Rattle.std.proofs.lemmas.Bool.{cond_both, cases_Bool, both_ways, eqb-true, eq-eqb, leb-true, le-leb, not-true, not_from_false, and_cases, and_parts, false_from_ne_true}
use Rattle.std.proofs.lemmas.Bool.Decides.{Decides-and, Decides-or, Decides-not}
use Rattle.std.proofs.lemmas.List.Elements.{All-nil, All-cons, All-append}
use Rattle.std.proofs.lemmas.Option.{none-some, same_Some}
use Rattle.quorum.specs.Faults.{refused_if, given}
use Rattle.quorum.specs.Members.{has}
use Rattle.quorum.specs.declared.fault.Fault.{Fault}
use Rattle.quorum.specs.declared.fault.Layer.TheVariants.{Manager}
use Rattle.quorum.specs.declared.fault.Reason.{Reason}
use Rattle.quorum.specs.declared.fault.Reason.TheVariants.{NoSuchReplica, WrongPower, ViewWithoutReplica, HeadOpen, StampNotAbove, NumbersExhausted, NoHead, OtherHead, WrongParty, NotHeard, HeardAlready, AgainstRules}
use Rattle.stores.proofs.Kept.{rules_from, keeps_from}
use Rattle.stores.proofs.Same.{decides_head}
use Rattle.stores.specs.Facts.{PageRules}
use Rattle.stores.specs.Rules.{keeps_rules}
use Rattle.stores.specs.Views.{same_head}
use Rattle.stores.specs.declared.page.Mode.{Mode}
use Rattle.stores.specs.declared.page.Mode.TheVariants.{Waiting, Joining, Normal, Reconfiguration}
use Rattle.stores.specs.declared.page.Page.{Page}
use Rattle.stores.specs.declared.view.Head.{Head}
use Rattle.stores.specs.declared.view.View.{View}
use Rattle.rows.proofs.Kept.{message_rules, message_back, row_rules, row_back}
use Rattle.rows.specs.Facts.{RowRules}
use Rattle.rows.specs.Messages.{message_keeps}
use Rattle.rows.specs.Rows.{head_of, is_normal, row_keeps, empty_row}
use Rattle.rows.specs.declared.message.Message.{Message}
use Rattle.rows.specs.declared.message.Posts.TheVariants.{Nothing}
use Rattle.rows.specs.declared.row.Row.{Row}
use Rattle.rows.specs.declared.row.Stage.{Stage}
use Rattle.manager.specs.declared.need.Need.{Need}
use Rattle.manager.specs.Calls.{refusal, all_keep, offer_refusal, call_refusal, head_of, at_highest, announcement_refusal, view_refusal, message_refusal, head_refusal, delivery_refusal, party_refusal, loss_refusal, start_refusal, started, losing, following, taking_up, viewed, heard_or_not, delivered_to, delivered, lost_at, stopped_at, started_at}
use Rattle.manager.specs.Effects.{Effect, effect, in_mode, in_stage, judged}
use Rattle.manager.specs.Hearing.{Turn, hears}
use Rattle.manager.specs.Requests.{Request, effect_of}
use Rattle.manager.specs.Requests.Request.{view, delivery, loss, start, stop}
use Rattle.refusals.specs.Heard.{IsOpen, Hears, WasHeard, kind_of}
use Rattle.refusals.specs.Order.{order_of, IsExhausted, IsStranger, Condition, replica_named, IsRefusal, RefusalsInOrder, AcceptedOtherwise}
use Rattle.refusals.proofs.Found.{Passes, Refused, Found, found_one, found_either, found_next, first_stays, first_later, passes_or_stops, one_first, Comes, comes_given}
use Rattle.refusals.proofs.Hearing.{Turned, turns}

joined : {A : Type 0} (a b c : Option A) → option_or (option_or a b) c ≡ option_or a (option_or b c)
joined None b c = refl
joined (Some x) b c = refl

-- ---- what the tests say
down : (b : Bool) → Decides (not b) (b ≡ false)
down true = (λ e. absurd (both_ways false refl e), λ h. absurd (both_ways true h refl))
down false = (λ e. refl, λ h. refl)

up : (b : Bool) → Decides b (b ≡ true)
up b = (λ e. e, λ e. e)

at_most : (m n : ℕ) → Decides (leb m n) (m ≤ n)
at_most m n = (leb-true m n, le-leb m n)

equals : (m n : ℕ) → Decides (eqb m n) (m ≡ n)
equals m n = (eqb-true m n, eq-eqb m n)

both_kept : (r : ℕ) (p : Page) (w : Row) → Decides (not (all_keep r p w)) ((PageRules r p → ⊥) ⊎ (RowRules r p w → ⊥))
both_kept r p w = (there, back)
  where
    there : not (all_keep r p w) ≡ true → (PageRules r p → ⊥) ⊎ (RowRules r p w → ⊥)
    there e =
        ⊎_elim (λ i. inl (λ k. both_ways (keeps_rules r p) i (keeps_from r p k)))
        (λ i. inr (λ k. both_ways (row_keeps r p w) i (row_back r p w k)))
        (and_cases (keeps_rules r p) (row_keeps r p w) (not-true (all_keep r p w) e))

    breaks : (PageRules r p → ⊥) ⊎ (RowRules r p w → ⊥) → all_keep r p w ≡ true → ⊥
    breaks (inl n) e = n (rules_from r p (and_parts (keeps_rules r p) (row_keeps r p w) e).0)
    breaks (inr n) e = n (row_rules r p w (and_parts (keeps_rules r p) (row_keeps r p w) e).1)

    back : (PageRules r p → ⊥) ⊎ (RowRules r p w → ⊥) → not (all_keep r p w) ≡ true
    back n = not_from_false (all_keep r p w) (false_from_ne_true (all_keep r p w) (breaks n))

opened : (w : Row) (o : Option Head) → head_of w.stage ≡ o → Decides (is_some o) ((g : Head) × IsOpen g w)
opened w None e = (λ i. absurd (both_ways false refl i), λ h. absurd (none-some h.0 (sym e ∙ h.1)))
opened w (Some h) e = (λ i. (h, e), λ k. refl)

normal : (m : Mode) → Decides (is_normal m) (m ≡ Normal)
normal Waiting = (λ e. absurd (both_ways false refl e), λ h. absurd cc)
normal Joining = (λ e. absurd (both_ways false refl e), λ h. absurd cc)
normal Normal = (λ e. refl, λ h. refl)
normal Reconfiguration = (λ e. absurd (both_ways false refl e), λ h. absurd cc)

highest : (o : Option View) → Decides (at_highest o) ((c : View) × (o ≡ Some c) × (1000000000 ≤ c.number.0))
highest None = (λ e. absurd (both_ways false refl e), λ h. absurd (none-some h.0 h.1))
highest (Some c) = (
  λ e. (c, refl, leb-true 1000000000 c.number.0 e),
  λ h. le-leb 1000000000 c.number.0 (subst (λ (v : View). 1000000000 ≤ v.number.0) (same_Some h.0 c (sym h.1)) h.2),
)

exhausted : (p : Page) → Decides (is_normal p.mode && at_highest p.component) (IsExhausted p)
exhausted p =
    let d = Decides-and (is_normal p.mode) (at_highest p.component) (normal p.mode) (highest p.component) in
    (λ e. let h = d.0 e in (h.0, h.1.0, h.1.1, h.1.2), λ h. d.1 (h.0, (h.1, h.2, h.3)))

-- ---- each call: its tests one after another, each with its reason
module _ (r : ℕ) (p : Page) (w : Row) where
  abbrev FoundBy : Request → List Reason → Option Fault → Type 0
  FoundBy a xs o = Found (Condition r p w a) (replica_named r a) xs o

  abbrev ComesBy : Request → Result Effect Fault → Type 0
  ComesBy a x = Comes (Condition r p w a) (replica_named r a) (order_of a) x

  one : (a : Request) (x : Reason) (n : ℕ) (b : Bool) → n ≡ replica_named r a x → Decides b (Condition r p w a x) →
      FoundBy a (x ∷ []) (refused_if b (refusal x n))
  one a = found_one (Condition r p w a) (replica_named r a)

  next : (a : Request) {x : Reason} {xs : List Reason} {o u : Option Fault} → FoundBy a (x ∷ []) o → FoundBy a xs u →
      FoundBy a (x ∷ xs) (option_or o u)
  next a {x} {xs} {o} {u} s t = found_next (Condition r p w a) (replica_named r a) x xs o u s t

  -- the tests of every call: page and row, the replica, and of most its power
  abbrev rules_test : Option Fault
  rules_test = refused_if (not (all_keep r p w)) (refusal AgainstRules r)

  abbrev number_test : Option Fault
  number_test = refused_if (leb 16 r) (refusal NoSuchReplica r)

  abbrev power_test : Option Fault
  power_test = refused_if (not w.up) (refusal WrongPower r)

  -- a view
  announcement_found : (h : Head) →
      FoundBy (view h) (ViewWithoutReplica ∷ HeadOpen ∷ StampNotAbove ∷ NumbersExhausted ∷ [])
      (announcement_refusal r p w h)
  announcement_found h =
      let a : Request = view h in
      next a (one a ViewWithoutReplica r (not (has h.set.0 r)) refl (down (has h.set.0 r)))
      (next a (one a HeadOpen r (is_some (head_of w.stage)) refl (opened w (head_of w.stage) refl))
      (next a (one a StampNotAbove r (leb h.stamp.0 p.top.0) refl (at_most h.stamp.0 p.top.0))
      (one a NumbersExhausted r (is_normal p.mode && at_highest p.component) refl (exhausted p))))

  view_found : (h : Head) → FoundBy (view h) (order_of (view h)) (view_refusal r p w h)
  unfolding view_refusal
  view_found h =
      let a : Request = view h in
      let rest = announcement_refusal r p w h in
      let same : option_or rules_test (option_or number_test (option_or power_test rest)) ≡ option_or
      (call_refusal r p w) rest = simp joined in
      subst (FoundBy a (order_of a)) same
      (next a (one a AgainstRules r (not (all_keep r p w)) refl (both_kept r p w))
      (next a (one a NoSuchReplica r (leb 16 r) refl (at_most 16 r))
      (next a (one a WrongPower r (not w.up) refl (down w.up)) (announcement_found h))))

  -- a delivery, up to hearing
  abbrev arriving : List Reason
  arriving = AgainstRules ∷ NoSuchReplica ∷ WrongPower ∷ NoHead ∷ OtherHead ∷ WrongParty ∷ []

  abbrev hearing : List Reason
  hearing = NotHeard ∷ HeardAlready ∷ []

  -- with a head open
  has_head : (h : Head) → head_of w.stage ≡ Some h → head_of w.stage ≡ None → ⊥
  has_head h e i = none-some h (sym i ∙ e)

  other_head : (m : Message) (h : Head) → head_of w.stage ≡ Some h →
      Decides (not (same_head m.head h)) ((g : Head) × (head_of w.stage ≡ Some g) × (m.head ≢ g))
  other_head m h e = (
    λ d. (h, e, λ i. both_ways (same_head m.head h) (not-true (same_head m.head h) d) ((decides_head m.head h).1 i)),
    λ g. ⊎_elim
        (λ i. absurd (g.2 ((decides_head m.head h).0 i ∙ same_Some h g.0 (sym e ∙ g.1))))
        (not_from_false (same_head m.head h)) (cases_Bool (same_head m.head h)),
  )

  head_found : (m : Message) (o : Option Head) → head_of w.stage ≡ o →
      FoundBy (delivery m) (NoHead ∷ OtherHead ∷ WrongParty ∷ []) (head_refusal r w m o)
  head_found m None e = record { is = inr (record { reason = NoHead; fault = refl; first = inl (refl, e) }) }
  head_found m (Some h) e =
      let a : Request = delivery m in
      next a (one a NoHead r false refl (λ i. absurd (both_ways false refl i), λ i. absurd (has_head h e i)))
      (next a (one a OtherHead r (not (same_head m.head h)) refl (other_head m h e))
      (one a WrongParty r (eqb m.sender r || has w.lost.0 m.sender) refl
      (Decides-or (eqb m.sender r) (has w.lost.0 m.sender) (equals m.sender r) (up (has w.lost.0 m.sender)))))

  message_found : (m : Message) → FoundBy (delivery m) (AgainstRules ∷ [])
      (option_or (message_refusal r m) rules_test)
  message_found m =
      found_either (Condition r p w (delivery m)) (replica_named r (delivery m)) AgainstRules r r
      (not (message_keeps m)) (not (all_keep r p w))
      (cond_both (not (message_keeps m)) r r (λ k. k ≡ r) (λ _. refl) (λ _. refl))
      (Decides-or (not (message_keeps m)) (not (all_keep r p w))
      (Decides-not (message_keeps m) (message_rules m, message_back m)) (both_kept r p w))

  delivery_found : (m : Message) → FoundBy (delivery m) arriving (delivery_refusal r p w m)
  unfolding delivery_refusal
  delivery_found m =
      let a : Request = delivery m in
      let told = message_refusal r m in
      let rest = head_refusal r w m (head_of w.stage) in
      let same : option_or (option_or told rules_test) (option_or number_test (option_or power_test rest))
      ≡ option_or told (option_or (call_refusal r p w) rest) = simp joined in
      subst (FoundBy a arriving) same
      (next a (message_found m)
      (next a (one a NoSuchReplica r (leb 16 r) refl (at_most 16 r))
      (next a (one a WrongPower r (not w.up) refl (down w.up)) (head_found m (head_of w.stage) refl))))

  -- a loss
  stranger : (q : ℕ) (h : Head) → head_of w.stage ≡ Some h → Decides (not (has h.set.0 q)) (IsStranger w q)
  stranger q h e = (
    λ d. (h, e, not-true (has h.set.0 q) d),
    λ g. not_from_false (has h.set.0 q)
        (subst (λ (x : Head). has x.set.0 q ≡ false) (same_Some g.0 h (sym g.1 ∙ e)) g.2),
  )

  party_found : (q : ℕ) (o : Option Head) → head_of w.stage ≡ o →
      FoundBy (loss q) (NoHead ∷ WrongParty ∷ []) (party_refusal r w q o)
  party_found q None e = record { is = inr (record { reason = NoHead; fault = refl; first = inl (refl, e) }) }
  party_found q (Some h) e =
      let a : Request = loss q in
      next a (one a NoHead r false refl (λ i. absurd (both_ways false refl i), λ i. absurd (has_head h e i)))
      (one a WrongParty r (eqb q r || (not (has h.set.0 q) || has w.lost.0 q)) refl
      (Decides-or (eqb q r) (not (has h.set.0 q) || has w.lost.0 q) (equals q r)
      (Decides-or (not (has h.set.0 q)) (has w.lost.0 q) (stranger q h e) (up (has w.lost.0 q)))))

  numbers_found : (q : ℕ) → FoundBy (loss q) (NoSuchReplica ∷ [])
      (option_or number_test (refused_if (leb 16 q) (refusal NoSuchReplica q)))
  numbers_found q =
      found_either (Condition r p w (loss q)) (replica_named r (loss q)) NoSuchReplica r q (leb 16 r) (leb 16 q) refl
      (Decides-or (leb 16 r) (leb 16 q) (at_most 16 r) (at_most 16 q))

  loss_found : (q : ℕ) → FoundBy (loss q) (order_of (loss q)) (loss_refusal r p w q)
  unfolding loss_refusal
  loss_found q =
      let a : Request = loss q in
      let other = refused_if (leb 16 q) (refusal NoSuchReplica q) in
      let rest = party_refusal r w q (head_of w.stage) in
      let same : option_or rules_test (option_or (option_or number_test other) (option_or power_test rest))
      ≡ option_or (offer_refusal r p w) (option_or other (option_or power_test rest)) = simp joined in
      subst (FoundBy a (order_of a)) same
      (next a (one a AgainstRules r (not (all_keep r p w)) refl (both_kept r p w))
      (next a (numbers_found q)
      (next a (one a WrongPower r (not w.up) refl (down w.up)) (party_found q (head_of w.stage) refl))))

  -- a start and a stop
  start_found : FoundBy start (order_of start) (start_refusal r p w)
  unfolding start_refusal
  start_found =
      let power = refused_if w.up (refusal WrongPower r) in
      let same : option_or rules_test (option_or number_test power) ≡ option_or (offer_refusal r p w) power =
      simp joined in
      subst (FoundBy start (order_of start)) same
      (next start (one start AgainstRules r (not (all_keep r p w)) refl (both_kept r p w))
      (next start (one start NoSuchReplica r (leb 16 r) refl (at_most 16 r))
      (one start WrongPower r w.up refl (up w.up))))

  stop_found : FoundBy stop (order_of stop) (call_refusal r p w)
  stop_found =
      let same : option_or rules_test (option_or number_test power_test) ≡ call_refusal r p w = simp joined in
      subst (FoundBy stop (order_of stop)) same
      (next stop (one stop AgainstRules r (not (all_keep r p w)) refl (both_kept r p w))
      (next stop (one stop NoSuchReplica r (leb 16 r) refl (at_most 16 r))
      (one stop WrongPower r (not w.up) refl (down w.up))))

  -- ---- what each call comes to
  module _ (f : ℕ → ℕ → Bool) (need : Need) where
    -- of a message that arrives the tests are whether it is heard, and whether it was
    heard_comes : (m : Message) (x : Result (Turn Stage) Reason) →
        Passes (Condition r p w (delivery m)) (replica_named r (delivery m)) arriving →
        Turned (Hears p w.survivors w.stage m.sender m.body) (WasHeard w.stage (kind_of m.body) m.sender) x →
        ComesBy (delivery m) (heard_or_not f need r p w m.head x)
    heard_comes m (Ok t) n h =
        let Fails : Reason → Type 0 = λ y. Condition r p w (delivery m) y → ⊥ in
        let two = All-cons Fails HeardAlready [] h.1 (All-nil Fails) in
        inl (
          following f need r p (in_stage t.left w) m.head t.hearing,
          refl,
          All-append Fails arriving hearing n (All-cons Fails NotHeard (HeardAlready ∷ []) (λ k. k h.0) two),
        )
    heard_comes m (Err e) n (inl h) =
        let C : Reason → Type 0 = Condition r p w (delivery m) in
        inr (record {
          reason = NotHeard;
          fault = ap (λ x. Err (refusal x r)) h.0;
          first = first_later C (replica_named r (delivery m)) arriving hearing NotHeard n (inl (refl, h.1));
        })
    heard_comes m (Err e) n (inr h) =
        let C : Reason → Type 0 = Condition r p w (delivery m) in
        let last = inr (λ k. k h.1, inl (refl, h.2)) in
        inr (record {
          reason = HeardAlready;
          fault = ap (λ x. Err (refusal x r)) h.0;
          first = first_later C (replica_named r (delivery m)) arriving hearing HeardAlready n last;
        })

    delivered_comes : (m : Message) (o : Option Fault) → FoundBy (delivery m) arriving o →
        ComesBy (delivery m) (delivered_to f need r p w m o)
    unfolding hears
    delivered_comes m o s = by_cases o s.is
      where
        by_cases : (o : Option Fault) →
            ((o ≡ None) × Passes (Condition r p w (delivery m)) (replica_named r (delivery m)) arriving)
            ⊎ Refused (Condition r p w (delivery m)) (replica_named r (delivery m)) arriving o →
            ComesBy (delivery m) (delivered_to f need r p w m o)
        by_cases None (inl h) =
            heard_comes m (hears p w m.sender m.body) h.1 (turns p w.survivors m.sender w.stage m.body)
        by_cases None (inr k) = absurd cc
        by_cases (Some fault) (inl h) = absurd cc
        by_cases (Some fault) (inr k) =
            let C : Reason → Type 0 = Condition r p w (delivery m) in
            inr (record {
              reason = k.reason;
              fault = ap Err (same_Some fault (refusal k.reason r) k.fault);
              first = first_stays C (replica_named r (delivery m)) arriving hearing k.reason k.first;
            })

    given_comes : (a : Request) (o : Option Fault) (e : Effect) → FoundBy a (order_of a) o → ComesBy a (given o e)
    given_comes a = comes_given (Condition r p w a) (replica_named r a) (order_of a)

    pub comes : (a : Request) → ComesBy a (effect_of f need r p w a)
    unfolding viewed delivered lost_at stopped_at started_at
    comes (view h) = given_comes (view h) (view_refusal r p w h) (taking_up f need r p w h) (view_found h)
    comes (delivery m) = delivered_comes m (delivery_refusal r p w m) (delivery_found m)
    comes (loss q) = given_comes (loss q) (loss_refusal r p w q) (judged f need r p (losing w q) None) (loss_found q)
    comes start =
        given_comes start (start_refusal r p w)
        (effect (in_mode (started p.mode) p) (empty_row true) Nothing) start_found
    comes stop = given_comes stop (call_refusal r p w) (effect p (empty_row false) Nothing) stop_found

-- ---- the laws
module _ (r : ℕ) (p : Page) (w : Row) (a : Request) where
  from_refused : (fault : Fault) (x : Result Effect Fault) → ComesBy r p w a x → x ≡ Err fault →
      IsRefusal r p w a fault
  from_refused fault x (inl k) e = absurd cc
  from_refused fault x (inr k) e =
      let same : refusal k.reason (replica_named r a k.reason) ≡ fault = cc in
      subst (IsRefusal r p w a) same (record { reason = k.first; replica = refl; layer = refl })

  to_refused : (fault : Fault) (x : Result Effect Fault) → ComesBy r p w a x → IsRefusal r p w a fault → x ≡ Err fault
  to_refused fault x (inl k) g =
      absurd (passes_or_stops (Condition r p w a) (replica_named r a) (order_of a) fault.reason k.2 g.reason)
  to_refused fault x (inr k) g =
      let C : Reason → Type 0 = Condition r p w a in
      let e = one_first C (replica_named r a) (order_of a) k.reason fault.reason k.first g.reason in
      let n : Some (replica_named r a k.reason) ≡ fault.replica =
      ap (λ y. Some (replica_named r a y)) e ∙ sym g.replica in
      let l : Manager ≡ fault.layer = sym g.layer in
      k.fault ∙ (λ i. Err (record { reason = e i; replica = n i; layer = l i }))

  passed : (x : Result Effect Fault) → ComesBy r p w a x →
      ((e : Effect) × (x ≡ Ok e)) ↔ All (λ y. Condition r p w a y → ⊥) (order_of a)
  passed x (inl k) = (λ h. k.2, λ h. (k.0, k.1))
  passed x (inr k) = (
    λ h. absurd cc,
    λ h. absurd (passes_or_stops (Condition r p w a) (replica_named r a) (order_of a) k.reason h k.first),
  )

pub refusals_in_order : RefusalsInOrder
refusals_in_order f need r p w a fault =
    let x = effect_of f need r p w a in
    let c = comes r p w f need a in
    (from_refused r p w a fault x c, to_refused r p w a fault x c)

pub accepted_otherwise : AcceptedOtherwise
accepted_otherwise f need r p w a = passed r p w a (effect_of f need r p w a) (comes r p w f need a)
