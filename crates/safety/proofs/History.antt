-- What happened in a run, as the proof keeps account of it: no statement speaks of it. In the proofs k, n and j are view numbers, s and t stamps,
-- V, X and Y sets, and `past` is what has happened so far. Assumes nothing.
use Rattle.std.proofs.Common.{◌≡◌, ℕ, Bool, List, [], ◌∷◌, ◌++◌, Option, arith}
use Rattle.stores.specs.declared.view.Head.{Head}
use Rattle.stores.specs.declared.view.View.{View}
use Rattle.safety.specs.Replicas.{Node, Message}
use Rattle.safety.specs.Moves.{Move, Settlement, Finish, Chain}
use Rattle.safety.specs.Moves.Move.{take_up, gather, apply, begin_round, tell_state, answer, hear_gathering, hear_confirming, hear_state, hear_entering, hear_report, member_records, newcomer_records, give_up, leave, close, wait_again}
use Rattle.safety.specs.Moves.Finish.{member_installs, newcomer_installs, settle, settle_outside, become_spare}
use Rattle.safety.specs.Moves.Chain.{rest, go, end}
use Rattle.safety.specs.Runs.{World, Step, Ended, Call}
use Rattle.safety.specs.Runs.Ended.{whole, cut_new, cut_old}

pub data Event : Type 0 where
  -- the replica q, its component view numbered k, recorded the next as a member under the head of stamp s and set X
  records : (q k s X : ℕ) → Event
  -- a replica came to hold the view (n, X)
  installs : (n X : ℕ) → Event
  -- a report was formed under a head
  forms : Head → Event

-- the latest first
abbrev pub History : Type 0
History = List Event

-- the same once a replica comes to hold v
abbrev pub past_after : History → View → History
past_after past v = installs v.number.0 v.set.0 ∷ past

pub records_inj : {q k s X p j t Y : ℕ} → records q k s X ≡ records p j t Y → (q ≡ p) × (k ≡ j) × (s ≡ t) × (X ≡ Y)
records_inj h = (cc, cc, cc, cc)

pub installs_inj : {n X m Y : ℕ} → installs n X ≡ installs m Y → (n ≡ m) × (X ≡ Y)
installs_inj h = (cc, cc)

pub records_forms : {q k s X : ℕ} {h : Head} → records q k s X ≡ forms h → ⊥
records_forms h = let z : ◌≡◌ {A = ℕ} 0 1 = cc in omega arith

pub records_installs : {q k s X n Y : ℕ} → records q k s X ≡ installs n Y → ⊥
records_installs h = let z : ◌≡◌ {A = ℕ} 0 1 = cc in omega arith

pub installs_forms : {n X : ℕ} {h : Head} → installs n X ≡ forms h → ⊥
installs_forms h = let z : ◌≡◌ {A = ℕ} 0 1 = cc in omega arith

-- what happens in a move
abbrev pub in_move : {post : List Message} {r : ℕ} {x y : Node} {ms : List Message} → Move post r x y ms → History
in_move (take_up h a b c) = []
in_move (gather h heard a b) = []
in_move (apply h a) = []
in_move (begin_round h reports a b c) = forms h ∷ []
in_move (tell_state h p v a b) = []
in_move (answer h p a) = forms h ∷ []
in_move (hear_gathering h v heard more q a b c d) = []
in_move (hear_confirming h v heard more q a b c d) = []
in_move (hear_state h old v q a b c) = []
in_move (hear_entering h v d heard more q a b c e) = []
in_move (hear_report h reports more q m a b c d) = []
in_move {r = r} (member_records h v heard more a b c d) = records r v.number.0 h.stamp.0 h.set.0 ∷ []
in_move (newcomer_records h v heard a b c) = []
in_move (give_up h heard a) = []
in_move leave = []
in_move close = []
in_move (wait_again a) = []

module _ (carries : ℕ → ℕ → Bool) where
  -- what happens in a last move
  abbrev pub in_finish : {r : ℕ} {x y : Node} {s : Option Settlement} → Finish carries r x y s → History
  in_finish (member_installs h v d heard part a b c e f) = installs d.view.number.0 d.view.set.0 ∷ []
  in_finish (newcomer_installs h v d heard part a b c e) = installs d.view.number.0 d.view.set.0 ∷ []
  in_finish (settle h v reports a b) = installs v.number.0 v.set.0 ∷ []
  in_finish (settle_outside h v reports a b) = []
  in_finish become_spare = []

  abbrev pub in_chain : {post : List Message} {r : ℕ} {x z : Node} {ms : List Message} {s : Option Settlement} → Chain carries post r x ms s z → History
  in_chain rest = []
  in_chain (go m c) = in_chain c ++ in_move m
  in_chain (end f) = in_finish f

  -- what happens in a call: nothing, if it was cut off and left the old page
  abbrev pub in_ended : {r : ℕ} {w v : World} {x : Node} {ms : List Message} → History → Ended r w x ms v → History
  in_ended es (whole t) = es
  in_ended es (cut_new t) = es
  in_ended es (cut_old t) = []

  abbrev pub in_call : {w : World} {s : Step} → Call carries w s → History
  in_call c = in_ended (in_chain c.chain) c.ended
