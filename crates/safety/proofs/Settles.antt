-- Settling a round. Assumes nothing.
use Rattle.std.proofs.Common.{◌≡◌, ℕ, suc, Bool, ◌⊎◌, [], Option, sym, subst, inl, inr, arith}
use Rattle.quorum.specs.Laws.{Meets}
use Rattle.stores.specs.declared.view.Head.{Head}
use Rattle.stores.specs.declared.view.Number.{Number}
use Rattle.stores.specs.declared.view.View.{View}
use Rattle.safety.specs.Replicas.{Report, holding, content, In, raise, Upto}
use Rattle.safety.specs.Replicas.Phase.{round}
use Rattle.safety.specs.Replicas.Row.{under}
use Rattle.safety.specs.Rounds.{Low, Decides}
use Rattle.safety.specs.Runs.{World}
use Rattle.safety.proofs.History.{Event, History, past_after, installs_inj}
use Rattle.safety.proofs.History.Event.{records, installs}
use Rattle.safety.proofs.Invariant.{Rooted, Invariant, Later}
use Rattle.safety.proofs.Marks.{raise_keeps, raise_one, upto_not}
use Rattle.stores.specs.Facts.{Marked}
use Rattle.safety.proofs.Worlds.{put}
use Rattle.safety.specs.Rounds.Decides.{by_holders, by_clear, by_all}
use Rattle.safety.proofs.Decisions.{DeadAfter, in_round, held_next, held_backed, presumed_known, cleared_dead, complete_dead}
use Rattle.safety.proofs.Installs.{then, installed}
use Rattle.safety.proofs.Rooted.{rooted_new}
use Rattle.safety.proofs.Stays.{rooted_stays}

module _ (carries : ℕ → ℕ → Bool) (first : View) (meets : Meets carries) (past : History) (w : World) (r : ℕ) (i : Invariant carries first past w)
    (h : Head) (reports : ℕ → Option Report) (e : (w.at r).row ≡ under h (round reports)) where
  -- where no mark in the round is far above v's number, the own is not either
  own_mark : (v : View) → Low reports v → Upto (w.at r).mark (suc v.number.0)
  own_mark v low = low r (content (w.at r)) (in_round carries first meets past w r i h reports e).own

  abbrev after : View → World
  after v = put w r (holding (w.at r) (raise (w.at r).mark v.number.0) v) []

  -- the settled view becomes the component view
  settling : (v : View) → Upto (w.at r).mark (suc v.number.0)
      → ((s Y : ℕ) → In (records r v.number.0 s Y) past → DeadAfter carries first meets past w r i h reports e v s Y)
      → (Later past w (past_after past v) (after v) → Rooted carries first (past_after past v)) → Invariant carries first (past_after past v) (after v)
  settling v up fate ro =
      let mark : Option Number = raise (w.at r).mark v.number.0 in
      let fits = raise_one (w.at r).mark v.number.0 up in
      let raised : (k : ℕ) → Marked (w.at r).mark k → Marked mark k = raise_keeps (w.at r).mark v.number.0 in
      installed carries first past w r i mark v fits raised fate (ro (then carries first past w r i mark v fits raised fate))

  -- the settled view was installed before
  again : (v : View) → In (installs v.number.0 v.set.0) past → Later past w (past_after past v) (after v) → Rooted carries first (past_after past v)
  again v a since = rooted_stays carries past w (past_after past v) (after v) since first own i.rooted
    where
      own : (j Y : ℕ) → In (installs j Y) (past_after past v) → In (installs j Y) past
      own j Y (inl u) = subst (λ (y : Event). In y past) (sym u) a
      own j Y (inr u) = u

  pub keep_settle : (v : View) → Decides reports carries v → Invariant carries first (past_after past v) (after v)
  keep_settle v (by_holders u d c) =
      let n : ℕ = d.view.number.0 in
      let up : Upto (w.at r).mark n = subst (Upto (w.at r).mark) (sym (held_next carries first meets past w r i h reports e u d c)) (own_mark u c.low) in
      settling d.view (λ m a. let l = up m a in omega arith) (λ s Y a. absurd (upto_not (w.at r).mark n up ((i.nodes r).marked n s Y a)))
      (λ since. rooted_new carries first meets past w (past_after past d.view) (after d.view) since i.rooted i.rivals n d.view.set.0 (held_backed carries first meets past w r i h reports e u d c) new)
    where
      new : (j Y : ℕ) → In (installs j Y) (past_after past d.view) → In (installs j Y) past ⊎ ((j ≡ d.view.number.0) × (Y ≡ d.view.set.0))
      new j Y (inl a) = inr (installs_inj a)
      new j Y (inr a) = inl a
  keep_settle v (by_clear c) =
      settling v (own_mark v c.presumed.low) (λ s Y u. cleared_dead carries first meets past w r i h reports e v c s Y ((in_round carries first meets past w r i h reports e).below v.number.0 s Y u)) (again v (presumed_known carries first meets past w r i h reports e v c.presumed))
  keep_settle v (by_all c) =
      settling v (own_mark v c.presumed.low) (λ s Y u. complete_dead carries first meets past w r i h reports e v c s Y ((in_round carries first meets past w r i h reports e).below v.number.0 s Y u)) (again v (presumed_known carries first meets past w r i h reports e v c.presumed))
