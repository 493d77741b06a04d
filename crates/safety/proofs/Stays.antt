-- What stays as more happens. Assumes nothing.
use Rattle.std.proofs.Common.{◌≡◌, ℕ, suc, Bool, ◌⊎◌, List, ◌++◌, Some, None, Option, sym, subst, inl, inr, ⊎_elim, arith}
use Rattle.stores.specs.declared.view.Head.{Head}
use Rattle.stores.specs.declared.view.Number.{Number}
use Rattle.stores.specs.declared.view.View.{View}
use Rattle.stores.specs.Views.{recorded}
use Rattle.safety.specs.Replicas.{Report, Phase, Row, Node, Message, In}
use Rattle.safety.specs.Replicas.Phase.{taken, gathering, confirming, applying, entering, round}
use Rattle.safety.specs.Replicas.Row.{idle, under}
use Rattle.safety.specs.Replicas.Message.{state_from, recorded_from, report_from}
use Rattle.safety.specs.Runs.{World}
use Rattle.safety.proofs.Fate.{May, Dead}
use Rattle.safety.proofs.History.{Event, History}
use Rattle.safety.proofs.History.Event.{records, installs}
use Rattle.safety.proofs.Invariant.{ApplyingOk, PhaseOk, RowOk, NodeOk, MessageOk, Backed, Rooted, Rivals, Invariant, Later}
use Rattle.safety.proofs.Lists.{in_split, was_same, was_more, was_in, was_trans}
use Rattle.safety.proofs.Promises.{Promise}
use Rattle.safety.proofs.Worlds.{put, by}

module _ (carries : ℕ → ℕ → Bool) where
  module _ (past : History) (w : World) (past' : History) (w' : World) (n : Later past w past' w') where
    since : (e : Event) → In e past → In e past'
    since e h = was_in e past past' n.more h

    pub dead_stays : (k V s X : ℕ) → Dead carries past w k V s X → Dead carries past' w' k V s X
    dead_stays k V s X d part c all =
        d part c
        (λ q l a v.
        ⊎_elim (λ (e : In (records q k s X) past'). n.new q k s X e) (λ (m : May (w'.at q) s X). inr (n.may q s X m)) (all q l a v))

    pub promise_stays : (q : ℕ) (h : Head) (m : Report) → Promise carries past w q h m → Promise carries past' w' q h m
    promise_stays q h m r = record {
      before = r.before;
      formed = was_trans _ _ _ r.formed n.more;
      known = λ k V e. since _ (r.known k V e);
      both = λ k V j X s e f. let b = r.both k V j X s e f in (b.0, since _ b.1);
      only_above = λ s X a. r.only_above s X (n.may q s X a);
      marked = r.marked;
      chose = λ k V s X e f. ⊎_elim (λ (a : m.recorded ≡ Some (recorded (suc k) X s)). inl a) (λ (d : Dead carries past w k V s X). inr (dead_stays k V s X d)) (r.chose k V s X e f);
      all_before = λ k s X l e.
          ⊎_elim (λ (a : In (records q k s X) past). r.all_before k s X l a)
          (λ (a : May (w.at q) s X). let b = r.only_above s X a in absurd (omega arith)) (n.new q k s X e);
    }

    pub message_stays : (m : Message) → MessageOk carries past w m → MessageOk carries past' w' m
    message_stays (state_from q h c) a = since _ a
    message_stays (recorded_from q h j) a = (a.0, a.1, since _ a.2)
    message_stays (report_from q h m) a = promise_stays q h m a

    pub backed_stays : (j X : ℕ) → Backed carries past j X → Backed carries past' j X
    backed_stays j X b = record {
      num = b.num;
      set = b.set;
      stamp = b.stamp;
      part = b.part;
      next = b.next;
      was = since _ b.was;
      carried = b.carried;
      each = λ q l a v. since _ (b.each q l a v);
    }

    -- a replica that did not record
    module _ (q : ℕ) (own : (k s X : ℕ) → In (records q k s X) past' → In (records q k s X) past) where
      reference_stays : (m : Option Number) (o : Option View) → ApplyingOk past m o → ApplyingOk past' m o
      reference_stays m None a = a
      reference_stays m (Some v) a = (since _ a.0, a.1)

      pub phase_stays : (x : Node) (h : Head) (p : Phase) → PhaseOk carries past w q x h p → PhaseOk carries past' w' q x h p
      phase_stays x h taken a = λ k t X e. a k t X (own k t X e)
      phase_stays x h (gathering heard) a = λ k V e p u. since _ (a k V e p u)
      phase_stays x h (confirming heard) a = record { all_heard = λ k V e p u. since _ (a.all_heard k V e p u); holds = a.holds }
      phase_stays x h (applying o) a = reference_stays x.mark o a
      phase_stays x h (entering v heard) a = record { reference = since _ a.reference; holds = a.holds; all_heard = λ p b. since _ (a.all_heard p b) }
      phase_stays x h (round reports) a = record { below = λ k t X e. a.below k t X (own k t X e); own = a.own; promised = λ p m e. promise_stays p h m (a.promised p m e) }

      pub row_stays : (x : Node) (r : Row) → RowOk carries past w q x r → RowOk carries past' w' q x r
      row_stays x idle a = a
      row_stays x (under h p) a = (a.0, a.1, phase_stays x h p a.2)

      pub node_stays : (x : Node) → NodeOk carries past w q x → NodeOk carries past' w' q x
      node_stays x a = record {
        component_mark = a.component_mark;
        recorded_mark = a.recorded_mark;
        marked = λ k s X e. a.marked k s X (own k s X e);
        topped = λ k s X e. a.topped k s X (own k s X e);
        within = λ k s X e. a.within k s X (own k s X e);
        both = λ k V j X s e f. let b = a.both k V j X s e f in (b.0, since _ b.1);
        chose = λ k V s X e f. ⊎_elim (λ (b : x.recorded ≡ Some (recorded (suc k) X s)). inl b) (λ (d : Dead carries past w k V s X). inr (dead_stays k V s X d)) (a.chose k V s X e (own k s X f));
        known = λ k V e. since _ (a.known k V e);
        free = a.free;
        row_ok = row_stays x x.row a.row_ok;
      }

    pub rival_stays : (k s X t Y : ℕ)
        → ((s ≡ t) × (X ≡ Y)) ⊎ ((V : ℕ) × In (installs k V) past × (Dead carries past w k V s X ⊎ Dead carries past w k V t Y))
        → ((s ≡ t) × (X ≡ Y)) ⊎ ((V : ℕ) × In (installs k V) past' × (Dead carries past' w' k V s X ⊎ Dead carries past' w' k V t Y))
    rival_stays k s X t Y (inl b) = inl b
    rival_stays k s X t Y (inr b) = inr (b.0, since _ b.1, ⊎_elim (λ (d : Dead carries past w k b.0 s X). inl (dead_stays k b.0 s X d)) (λ (d : Dead carries past w k b.0 t Y). inr (dead_stays k b.0 t Y d)) b.2)

    -- where nobody recorded
    pub rivals_stay : ((q k s X : ℕ) → In (records q k s X) past' → In (records q k s X) past) → Rivals carries past w → Rivals carries past' w'
    rivals_stay own a q k s X t Y e f = rival_stays k s X t Y (a q k s X t Y (own q k s X e) (own q k t Y f))

    -- where no view was installed
    pub rooted_stays : (first : View) → ((j X : ℕ) → In (installs j X) past' → In (installs j X) past) → Rooted carries first past → Rooted carries first past'
    rooted_stays first own a = record {
      single = λ j X Y e f. a.single j X Y (own j X e) (own j Y f);
      backed = λ j X e. ⊎_elim (λ (b : (j ≡ first.number.0) × (X ≡ first.set.0)). inl b) (λ (b : Backed carries past j X). inr (backed_stays j X b)) (a.backed j X (own j X e));
    }

  -- the replica r has become x, has posted ms, and es happened
  module _ (first : View) (past : History) (w : World) (r : ℕ) (x : Node) (ms : List Message) (es : History) where
    pub later : ((s X : ℕ) → May x s X → May (w.at r) s X) → ((q k s X : ℕ) → In (records q k s X) es → (q ≡ r) × May (w.at r) s X)
        → Later past w (es ++ past) (put w r x ms)
    later may new = record {
      more = was_more past past es (was_same past);
      may = λ q s X. by w r x ms q (λ (y : Node). May y s X → May (w.at q) s X) (λ e a. subst (λ (i : ℕ). May (w.at i) s X) (sym e) (may s X a)) (λ d a. a);
      new = λ q k s X e.
          ⊎_elim (λ (a : In (records q k s X) es). let b = new q k s X a in inr (subst (λ (i : ℕ). May (w.at i) s X) (sym b.0) b.1))
          (λ (a : In (records q k s X) past). inl a) (in_split (records q k s X) es past e);
    }

    pub kept : Invariant carries first past w → (n : Later past w (es ++ past) (put w r x ms)) → ((q k s X : ℕ) → In (records q k s X) es → q ≡ r)
        → NodeOk carries (es ++ past) (put w r x ms) r x → ((m : Message) → In m ms → MessageOk carries (es ++ past) (put w r x ms) m)
        → Rooted carries first (es ++ past) → Rivals carries (es ++ past) (put w r x ms) → Invariant carries first (es ++ past) (put w r x ms)
    kept i n only ok sent ro ri = record {
      nodes = λ q.
          by w r x ms q (NodeOk carries (es ++ past) (put w r x ms) q) (λ e. subst (λ (j : ℕ). NodeOk carries (es ++ past) (put w r x ms) j x) (sym e) ok)
          (λ d.
          node_stays past w (es ++ past) (put w r x ms) n q
          (λ k s X e. ⊎_elim (λ (a : In (records q k s X) es). absurd (d (only q k s X a))) (λ (a : In (records q k s X) past). a) (in_split (records q k s X) es past e)) (w.at q) (i.nodes q));
      mail = λ m e. ⊎_elim (sent m) (λ (a : In m w.post). message_stays past w (es ++ past) (put w r x ms) n m (i.mail m a)) (in_split m ms w.post e);
      rooted = ro;
      rivals = ri;
    }
