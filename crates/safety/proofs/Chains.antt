-- Every move, and so every chain of moves, keeps the invariant. Assumes nothing.
use Rattle.std.proofs.Common.{◌≡◌, ℕ, Bool, ◌≢◌, ◌⊎◌, List, [], ◌++◌, Option, sym, refl, ◌∙◌, subst, inl, inr, ⊎_elim, append_assoc}
use Rattle.quorum.specs.Laws.{Meets}
use Rattle.stores.specs.declared.view.View.{View}
use Rattle.safety.specs.Replicas.{Node, Message, In}
use Rattle.safety.specs.Moves.{Move, Settlement, Finish, Chain}
use Rattle.safety.specs.Runs.{World}
use Rattle.safety.proofs.History.{History, in_move, in_finish, in_chain}
use Rattle.safety.proofs.Invariant.{Invariant}
use Rattle.safety.proofs.Lists.{in_right, in_left, in_split}
use Rattle.safety.proofs.Worlds.{put, here, there}
use Rattle.safety.specs.Moves.Move.{take_up, gather, apply, begin_round, tell_state, answer, hear_gathering, hear_confirming, hear_state, hear_entering, hear_report, member_records, newcomer_records, give_up, leave, close, wait_again}
use Rattle.safety.specs.Moves.Finish.{member_installs, newcomer_installs, settle, settle_outside, become_spare}
use Rattle.safety.specs.Moves.Chain.{rest, go, end}
use Rattle.safety.proofs.Installs.{keep_spare, keep_member_installs, keep_newcomer_installs}
use Rattle.safety.proofs.Pages.{keep_tell_state, keep_take_up, keep_wait_again, keep_newcomer_records}
use Rattle.safety.proofs.Records.{keep_member_records}
use Rattle.safety.proofs.Reports.{keep_answer, keep_begin_round}
use Rattle.safety.proofs.Rows.{keep_close, keep_leave, keep_give_up, keep_gather, keep_apply, keep_hear_gathering, keep_hear_confirming, keep_hear_state, keep_hear_entering, keep_hear_report}
use Rattle.safety.proofs.Settles.{keep_settle}

module _ (carries : ℕ → ℕ → Bool) (first : View) (meets : Meets carries) where
  module _ (past : History) (w : World) (r : ℕ) (i : Invariant carries first past w) where
    -- each move keeps the invariant, at the world's post or one with less in it
    move_keeps : (post : List Message) → ((m : Message) → In m post → In m w.post)
        → (y : Node) (ms : List Message) (m : Move post r (w.at r) y ms) → Invariant carries first (in_move m ++ past) (put w r y ms)
    move_keeps post sub y ms (take_up h a b c) = keep_take_up carries first past w r i h a b c
    move_keeps post sub y ms (gather h heard a b) = keep_gather carries first past w r i h heard a b
    move_keeps post sub y ms (apply h a) = keep_apply carries first past w r i h a
    move_keeps post sub y ms (begin_round h reports a b c) = keep_begin_round carries first past w r i h reports a b c
    move_keeps post sub y ms (tell_state h p v a b) = keep_tell_state carries first past w r i h p v a b
    move_keeps post sub y ms (answer h p a) = keep_answer carries first past w r i h p a
    move_keeps post sub y ms (hear_gathering h v heard more q a b c d) = keep_hear_gathering carries first past w r i h heard more q v.number.0 v.set.0 a b (sub _ c) d
    move_keeps post sub y ms (hear_confirming h v heard more q a b c d) = keep_hear_confirming carries first past w r i h heard more q v.number.0 v.set.0 a b (sub _ c) d
    move_keeps post sub y ms (hear_state h old v q a b c) = keep_hear_state carries first past w r i h old q v a (sub _ b) c
    move_keeps post sub y ms (hear_entering h v d heard more q a b c e) = keep_hear_entering carries first past w r i h v heard more q d a b (sub _ c) e
    move_keeps post sub y ms (hear_report h reports more q m a b c d) = keep_hear_report carries first past w r i h reports more q m a (sub _ b) c d
    move_keeps post sub y ms (member_records h v heard more a b c d) = keep_member_records carries first past w r i h heard more v.number.0 v.set.0 a b c d
    move_keeps post sub y ms (newcomer_records h v heard a b c) = keep_newcomer_records carries first past w r i h heard v a b c
    move_keeps post sub y ms (give_up h heard a) = keep_give_up carries first past w r i h heard a
    move_keeps post sub y ms leave = keep_leave carries first past w r i
    move_keeps post sub y ms close = keep_close carries first past w r i
    move_keeps post sub y ms (wait_again a) = keep_wait_again carries first past w r i a

    finish_keeps : (y : Node) (s : Option Settlement) (f : Finish carries r (w.at r) y s) → Invariant carries first (in_finish carries f ++ past) (put w r y [])
    finish_keeps y s (member_installs h v d heard part a b c e f) = keep_member_installs carries first past w r i meets h v d heard part a b c e f
    finish_keeps y s (newcomer_installs h v d heard part a b c e) = keep_newcomer_installs carries first past w r i meets h v d heard part a b c e
    finish_keeps y s (settle h v reports a d) = keep_settle carries first meets past w r i h reports a v d
    finish_keeps y s (settle_outside h v reports a d) = keep_spare carries first past w r i
    finish_keeps y s become_spare = keep_spare carries first past w r i

    -- the same, of a replica that is known to be x
    pub stepped : (post : List Message) → ((m : Message) → In m post → In m w.post) → {x y : Node} {ms : List Message} → w.at r ≡ x
        → (m : Move post r x y ms) → Invariant carries first (in_move m ++ past) (put w r y ms)
    stepped post sub {x} {y} {ms} e m = subst (λ (z : Node). (y : Node) (ms : List Message) (m : Move post r z y ms) → Invariant carries first (in_move m ++ past) (put w r y ms)) e (move_keeps post sub) y ms m

    finished : {x y : Node} {s : Option Settlement} → w.at r ≡ x → (f : Finish carries r x y s) → Invariant carries first (in_finish carries f ++ past) (put w r y [])
    finished {x} {y} {s} e f = subst (λ (z : Node). (y : Node) (s : Option Settlement) (f : Finish carries r z y s) → Invariant carries first (in_finish carries f ++ past) (put w r y [])) e finish_keeps y s f

  -- where a chain of r leads
  pub record Reached (r : ℕ) (past : History) (w : World) (x : Node) (ms : List Message) (es : History) : Type 0 where
    pub world : World
    pub holds : Invariant carries first (es ++ past) world
    pub mine : world.at r ≡ x
    pub others : (q : ℕ) → q ≢ r → world.at q ≡ w.at q
    pub mail : (m : Message) → In m ms ⊎ In m w.post → In m world.post

  pub chain_keeps : (post : List Message) (r : ℕ) (past : History) (w : World) → Invariant carries first past w
      → ((m : Message) → In m post → In m w.post) → {x z : Node} {ms : List Message} {s : Option Settlement} → w.at r ≡ x
      → (c : Chain carries post r x ms s z) → Reached r past w z ms (in_chain carries c)
  chain_keeps post r past w i sub e rest = record { world = w; holds = i; mine = e; others = λ q d. refl; mail = λ m. elim [ inl a ↦ absurd a | inr a ↦ a ] }
  chain_keeps post r past w i sub e (go {y = y} {ms = ms} {ns = ns} m c) =
      let v : World = put w r y ms in
      let a = chain_keeps post r (in_move m ++ past) v (stepped past w r i post sub e m) (λ l b. in_right l ms w.post (sub l b)) (here w r y ms) c in
      record {
        world = a.world;
        holds = subst (λ (l : History). Invariant carries first l a.world) (sym (append_assoc (in_chain carries c) (in_move m) past)) a.holds;
        mine = a.mine;
        others = λ q d. a.others q d ∙ there w r y ms q d;
        mail = λ l.
            elim [
              | inl b ↦ ⊎_elim (λ (b : In l ns). a.mail l (inl b)) (λ (b : In l ms). a.mail l (inr (in_left l ms w.post b))) (in_split l ns ms b)
              | inr b ↦ a.mail l (inr (in_right l ms w.post b))
            ];
      }
  chain_keeps post r past w i sub e (end {y = y} f) = record {
    world = put w r y [];
    holds = finished past w r i e f;
    mine = here w r y [];
    others = λ q d. there w r y [] q d;
    mail = λ m. elim [ inl a ↦ absurd a | inr a ↦ a ];
  }
