-- Calls, whole or cut off, keep the invariant; and what a call settles. Assumes nothing.
use Rattle.std.proofs.Common.{◌≡◌, ℕ, ◌<◌, ◌≤◌, Bool, ◌≢◌, ◌⊎◌, List, [], ◌++◌, Some, None, Option, sym, refl, ap, ◌∙◌, subst, inl, inr, ⊎_elim}
use Rattle.std.proofs.lemmas.Bool.{cases_eq, false≢true}
use Rattle.quorum.specs.Laws.{Meets}
use Rattle.stores.specs.declared.view.Head.{Head}
use Rattle.stores.specs.declared.view.View.{View}
use Rattle.stores.specs.Views.{view, head}
use Rattle.safety.specs.Replicas.{Report, Node, leaving, Message, In}
use Rattle.safety.specs.Replicas.Row.{idle}
use Rattle.safety.specs.Replicas.Message.{report_from}
use Rattle.safety.specs.Moves.{Settlement, settlement, Chain}
use Rattle.safety.specs.Runs.{World, Turned, Step, Ended, Call}
use Rattle.safety.proofs.Fate.{May}
use Rattle.safety.proofs.History.{History, in_chain, in_ended, in_call}
use Rattle.safety.proofs.History.Event.{installs, forms}
use Rattle.safety.proofs.Invariant.{NodeOk, Rooted, Invariant, Later}
use Rattle.safety.proofs.Lists.{in_split, Was, was_same}
use Rattle.safety.proofs.Marks.{none_some}
use Rattle.safety.specs.Runs.Ended.{whole, cut_new, cut_old}
use Rattle.safety.proofs.Chains.{chain_keeps}
use Rattle.safety.proofs.Stays.{node_stays, message_stays, rivals_stay}
use Rattle.safety.proofs.Tells.{formed_in_chain, installed_by_chain, settled_by_chain}

module _ (carries : ℕ → ℕ → Bool) (first : View) (meets : Meets carries) where
  -- messages are lost, and the row of r may be emptied
  lost_keeps : (past : History) (r : ℕ) (u v : World) → ((q : ℕ) → q ≢ r → v.at q ≡ u.at q)
      → (v.at r ≡ u.at r) ⊎ (v.at r ≡ leaving (u.at r) idle) → ((m : Message) → In m v.post → In m u.post) → Invariant carries first past u
      → Invariant carries first past v
  lost_keeps past r u v same at_r mailed i = record {
    nodes = λ q. ⊎_elim (λ (z : q ≡ r). subst (λ (j : ℕ). NodeOk carries past v j (v.at j)) (sym z) mine) (λ (d : q ≢ r). subst (NodeOk carries past v q) (sym (same q d)) (stays q)) (cases_eq q r);
    mail = λ m a. message_stays carries past u past v since m (i.mail m (mailed m a));
    rooted = i.rooted;
    rivals = rivals_stay carries past u past v since (λ q k s X a. a) i.rivals;
  }
    where
      may : (s X : ℕ) → (v.at r ≡ u.at r) ⊎ (v.at r ≡ leaving (u.at r) idle) → May (v.at r) s X → May (u.at r) s X
      may s X (inl e) m = subst (λ (y : Node). May y s X) e m
      may s X (inr e) m = ⊎_elim (λ (a : (u.at r).top.0 < s). inl a) (λ (a : None ≡ Some (head s X)). absurd (none_some a)) (subst (λ (y : Node). May y s X) e m)

      since : Later past u past v
      since = record {
        more = was_same past;
        may = λ q s X m.
            ⊎_elim (λ (z : q ≡ r). subst (λ (j : ℕ). May (u.at j) s X) (sym z) (may s X at_r (subst (λ (j : ℕ). May (v.at j) s X) z m)))
            (λ (d : q ≢ r). subst (λ (y : Node). May y s X) (same q d) m) (cases_eq q r);
        new = λ q k s X a. inl a;
      }

      stays : (q : ℕ) → NodeOk carries past v q (u.at q)
      stays q = node_stays carries past u past v since q (λ k s X a. a) (u.at q) (i.nodes q)

      mine : NodeOk carries past v r (v.at r)
      mine =
          ⊎_elim (λ (e : v.at r ≡ u.at r). subst (NodeOk carries past v r) (sym e) (stays r))
          (λ (e : v.at r ≡ leaving (u.at r) idle).
          let a = stays r in
          subst (NodeOk carries past v r) (sym e)
          (record {
            component_mark = a.component_mark;
            recorded_mark = a.recorded_mark;
            marked = a.marked;
            topped = a.topped;
            within = a.within;
            both = a.both;
            chose = a.chose;
            known = a.known;
            free = λ z. absurd (false≢true z);
            row_ok = tt;
          })) at_r

  nothing_posted : {r : ℕ} {w v : World} {x : Node} → Turned r w x [] v → (m : Message) → In m v.post → In m w.post
  nothing_posted {w = w} t m b = ⊎_elim (λ (a : ⊥). absurd a) (λ (a : In m w.post). a) (t.posted m b)

  -- the rest speaks of a chain of r that formed ms and made it x, and of how its call ended
  module _ {w v : World} {r : ℕ} {x : Node} {ms : List Message} {s : Option Settlement} (c : Chain carries w.post r (w.at r) ms s x) where
    ended_keeps : (past : History) → Invariant carries first past w → (e : Ended r w x ms v) → Invariant carries first (in_ended carries (in_chain carries c) e ++ past) v
    ended_keeps past i (whole t) =
        let a = chain_keeps carries first meets w.post r past w i (λ m b. b) refl c in
        lost_keeps (in_chain carries c ++ past) r a.world v (λ q d. t.others q d ∙ sym (a.others q d)) (inl (t.here ∙ sym a.mine)) (λ m b. a.mail m (t.posted m b)) a.holds
    ended_keeps past i (cut_new t) =
        let a = chain_keeps carries first meets w.post r past w i (λ m b. b) refl c in
        lost_keeps (in_chain carries c ++ past) r a.world v (λ q d. t.others q d ∙ sym (a.others q d)) (inr (t.here ∙ ap (λ (y : Node). leaving y idle) (sym a.mine))) (λ m b. a.mail m (inr (nothing_posted t m b))) a.holds
    ended_keeps past i (cut_old t) = lost_keeps past r w v t.others (inr t.here) (nothing_posted t) i

    formed_in_ended : (e : Ended r w x ms v) (h : Head) → In (forms h) (in_ended carries (in_chain carries c) e) → (q : ℕ) × (m : Report) × In (report_from q h m) ms
    formed_in_ended (whole t) h u = formed_in_chain carries c h u
    formed_in_ended (cut_new t) h u = formed_in_chain carries c h u
    formed_in_ended (cut_old t) h u = absurd u

    installed_by_ended : (e : Ended r w x ms v) (n X : ℕ) → In (installs n X) (in_ended carries (in_chain carries c) e) → (v.at r).component ≡ Some (view n X)
    installed_by_ended (whole t) n X u = ap (λ (y : Node). y.component) t.here ∙ installed_by_chain carries c n X u
    installed_by_ended (cut_new t) n X u = ap (λ (y : Node). y.component) t.here ∙ installed_by_chain carries c n X u
    installed_by_ended (cut_old t) n X u = absurd u

  others_stay : {w v : World} {r : ℕ} {x : Node} {ms : List Message} → Ended r w x ms v → (q : ℕ) → q ≢ r → v.at q ≡ w.at q
  others_stay (whole t) q d = t.others q d
  others_stay (cut_new t) q d = t.others q d
  others_stay (cut_old t) q d = t.others q d

  pub call_keeps : (past : History) {w : World} {s : Step} → Invariant carries first past w → (c : Call carries w s)
      → Invariant carries first (in_call carries c ++ past) s.world
  call_keeps past i c = ended_keeps c.chain past i c.ended

  -- a report that the history has was formed in the call
  pub formed_in_call : {w : World} {s : Step} (c : Call carries w s) (h : Head) → In (forms h) (in_call carries c)
      → (q : ℕ) × (m : Report) × In (report_from q h m) s.formed
  formed_in_call c h u = formed_in_ended c.chain c.ended h u

  -- a view installed in a call is held after it
  pub installed_by_call : {w : World} {s : Step} (c : Call carries w s) (n X : ℕ) → In (installs n X) (in_call carries c)
      → (q : ℕ) × ((s.world.at q).component ≡ Some (view n X))
  installed_by_call c n X u = (c.at, installed_by_ended c.chain c.ended n X u)

  -- a call changes one replica
  pub one_replica : {w : World} {s : Step} → Call carries w s → (r : ℕ) × ((q : ℕ) → q ≢ r → s.world.at q ≡ w.at q)
  one_replica c = (c.at, others_stay c.ended)

  -- the call settled a round: a report under its head was formed in the call or before, and no view above was installed before one was
  pub record SettledCall (past : History) (formed : List Message) (h : Head) (n : ℕ) : Type 0 where
    pub reported : In (forms h) past ⊎ ((q : ℕ) × (m : Report) × In (report_from q h m) formed)
    pub least : (then : History) → Was then past → Rooted carries first then → (In (forms h) then → ⊥) → (m Y : ℕ) → In (installs m Y) then → m ≤ n

  pub settled_by_call : (past : History) {w : World} {s : Step} → Invariant carries first past w → Call carries w s → (h : Head) (v : View)
      → s.settled ≡ Some (settlement h v) → SettledCall past s.formed h v.number.0
  settled_by_call past {w = w} i c h v u =
      let a = settled_by_chain carries first meets w.post c.at past w i (λ m b. b) refl c.chain h v u in
      record {
        reported = ⊎_elim (λ (b : In (forms h) (in_chain carries c.chain)). inr (formed_in_chain carries c.chain h b)) (λ (b : In (forms h) past). inl b) (in_split (forms h) (in_chain carries c.chain) past a.formed);
        least = a.least;
      }
