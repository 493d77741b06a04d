-- What one replica does in a call, one move at a time, each with the evidence that it rests on. Assumes nothing.
use Rattle.std.specs.Prelude.{◌≡◌, ℕ, suc, ◌<◌, Bool, true, false, ◌⊎◌, List, [], ◌∷◌, ◌++◌, Some, None, Option}
use Rattle.quorum.specs.Members.{has}
use Rattle.stores.specs.declared.view.Head.{Head}
use Rattle.stores.specs.declared.view.Recorded.{Recorded}
use Rattle.stores.specs.declared.view.View.{View}
use Rattle.safety.specs.Replicas.{number, Report, Phase, Node, node, with_row, leaving, taking_up, recording, holding, spare, content, Message, In, raise, Upto}
use Rattle.safety.specs.Replicas.Phase.{taken, gathering, confirming, applying, entering, round}
use Rattle.safety.specs.Replicas.Row.{idle, under}
use Rattle.safety.specs.Replicas.Message.{state_from, recorded_from, report_from}
use Rattle.safety.specs.Rounds.{Decides}

-- nobody is in the set
abbrev pub Empty : ℕ → Type 0
Empty set = (p : ℕ) → has set p ≡ true → ⊥

-- each member of the part is one of the set
abbrev pub Part : ℕ → ℕ → Type 0
Part part set = (p : ℕ) → has part p ≡ true → has set p ≡ true

-- whoever is in `more` was in the set already, or is q
abbrev pub Adds : ℕ → ℕ → ℕ → Type 0
Adds set q more = (p : ℕ) → has more p ≡ true → (has set p ≡ true) ⊎ (p ≡ q)

-- A move of the replica r, which is x, at this post: what r becomes, and the messages that it forms.
pub data Move (post : List Message) (r : ℕ) (x : Node) : Node → List Message → Type 0 where
  -- A view with the replica, its stamp above the top stamp, becomes the head.
  take_up : (h : Head)
      (closed : x.row ≡ idle) (its_own : has h.set.0 r ≡ true) (above : x.top.0 < h.stamp.0)
      → Move post r x (taking_up x h) []
  -- Under a head just taken up a member gathers, or a newcomer applies, or a round begins with the replica's own report.
  gather : (h : Head) (heard : ℕ)
      (at : x.row ≡ under h taken) (nobody : Empty heard)
      → Move post r x (with_row x (under h (gathering heard))) []
  apply : (h : Head)
      (at : x.row ≡ under h taken)
      → Move post r x (with_row x (under h (applying None))) []
  begin_round : (h : Head) (reports : ℕ → Option Report)
      (at : x.row ≡ under h taken) (own : reports r ≡ Some (content x)) (alone : (q : ℕ) (m : Report) → reports q ≡ Some m → (q ≡ r) × (m ≡ content x))
      → Move post r x (with_row x (under h (round reports))) (report_from r h (content x) ∷ [])
  -- Under a head a replica tells its component view, or answers with its report.
  tell_state : (h : Head) (phase : Phase) (v : View)
      (at : x.row ≡ under h phase) (its : x.component ≡ Some v)
      → Move post r x x (state_from r h v ∷ [])
  answer : (h : Head) (phase : Phase)
      (at : x.row ≡ under h phase)
      → Move post r x x (report_from r h (content x) ∷ [])
  -- A member hears that q has recorded the head as a member, numbered one above its component view.
  hear_gathering : (h : Head) (v : View) (heard more q : ℕ)
      (at : x.row ≡ under h (gathering heard)) (its : x.component ≡ Some v) (posted : In (recorded_from q h (number (suc v.number.0))) post) (adds : Adds heard q more)
      → Move post r x (with_row x (under h (gathering more))) []
  hear_confirming : (h : Head) (v : View) (heard more q : ℕ)
      (at : x.row ≡ under h (confirming heard)) (its : x.component ≡ Some v) (posted : In (recorded_from q h (number (suc v.number.0))) post) (adds : Adds heard q more)
      → Move post r x (with_row x (under h (confirming more))) []
  -- A newcomer hears its reference: a view whose next number is not below the mark.
  hear_state : (h : Head) (old : Option View) (v : View) (q : ℕ)
      (at : x.row ≡ under h (applying old)) (posted : In (state_from q h v) post) (fits : Upto x.mark (suc v.number.0))
      → Move post r x (with_row x (under h (applying (Some v)))) []
  -- A newcomer that has recorded hears that q has recorded the head as a member, numbered alike.
  hear_entering : (h : Head) (v : View) (d : Recorded) (heard more q : ℕ)
      (at : x.row ≡ under h (entering v heard)) (its : x.recorded ≡ Some d) (posted : In (recorded_from q h d.view.number) post) (adds : Adds heard q more)
      → Move post r x (with_row x (under h (entering v more))) []
  -- A round hears the report of q. The replica's own stays.
  hear_report : (h : Head) (reports more : ℕ → Option Report) (q : ℕ) (m : Report)
      (at : x.row ≡ under h (round reports)) (posted : In (report_from q h m) post) (own : more r ≡ reports r) (adds : (p : ℕ) (n : Report) → more p ≡ Some n → (reports p ≡ Some n) ⊎ ((p ≡ q) × (n ≡ m)))
      → Move post r x (with_row x (under h (round more))) []
  -- A member in normal mode records the head, numbered one above its component view, and says so.
  member_records : (h : Head) (v : View) (heard more : ℕ)
      (in_normal : x.normal ≡ true) (at : x.row ≡ under h (gathering heard)) (its : x.component ≡ Some v) (adds : Adds heard r more)
      → Move post r x (recording x x.normal (suc v.number.0) h (confirming more)) (recorded_from r h (number (suc v.number.0)) ∷ [])
  -- A newcomer records the head, numbered one above its reference. What it says of that bears on nothing here.
  newcomer_records : (h : Head) (v : View) (heard : ℕ)
      (at : x.row ≡ under h (applying (Some v))) (no_view : x.component ≡ None) (nobody : Empty heard)
      → Move post r x (recording x false (suc v.number.0) h (entering v heard)) []
  -- A gathering head closes, and the mode stays.
  give_up : (h : Head) (heard : ℕ)
      (at : x.row ≡ under h (gathering heard))
      → Move post r x (with_row x idle) []
  -- Normal mode ends and the head stays, or the head closes too. A stop is the latter; a start changes nothing that is seen here.
  leave : Move post r x (leaving x x.row) []
  close : Move post r x (leaving x idle) []
  -- A newcomer that gives up clears what it recorded, and waits again.
  wait_again : (no_view : x.component ≡ None) → Move post r x (node false x.top x.mark x.component None idle) []

-- A round that ended under this head settled on this view.
pub record Settlement : Type 0 where
  pub head : Head
  pub view : View

abbrev pub settlement : Head → View → Settlement
settlement h v = record { head = h; view = v }

module _ (carries : ℕ → ℕ → Bool) where
  -- A move that ends a call: what r becomes, and the settlement where a round ends with one.
  pub data Finish (r : ℕ) (x : Node) : Node → Option Settlement → Type 0 where
    -- A member installs what it recorded: of those heard as recording members a part carries its component view.
    member_installs : (h : Head) (v : View) (d : Recorded) (heard part : ℕ)
        (at : x.row ≡ under h (confirming heard)) (its : x.component ≡ Some v) (what : x.recorded ≡ Some d) (heard_all : Part part heard) (members_carry : carries part v.set.0 ≡ true)
        → Finish r x (holding x x.mark d.view) None
    -- A newcomer installs what it recorded: such a part carries its reference.
    newcomer_installs : (h : Head) (v : View) (d : Recorded) (heard part : ℕ)
        (at : x.row ≡ under h (entering v heard)) (what : x.recorded ≡ Some d) (heard_all : Part part heard) (reference_carried : carries part v.set.0 ≡ true)
        → Finish r x (holding x x.mark d.view) None
    -- A round settles: the settled view becomes the component view, or the replica, outside it, a spare.
    settle : (h : Head) (v : View) (reports : ℕ → Option Report)
        (at : x.row ≡ under h (round reports)) (decided : Decides reports carries v)
        → Finish r x (holding x (raise x.mark v.number.0) v) (Some (settlement h v))
    settle_outside : (h : Head) (v : View) (reports : ℕ → Option Report)
        (at : x.row ≡ under h (round reports)) (decided : Decides reports carries v)
        → Finish r x (spare x) (Some (settlement h v))
    -- A replica becomes a spare.
    become_spare : Finish r x (spare x) None

  -- Moves of r, one after another, and what ends them: the messages formed, the latest first, and the settlement.
  pub data Chain (post : List Message) (r : ℕ) : Node → List Message → Option Settlement → Node → Type 0 where
    rest : {x : Node} → Chain post r x [] None x
    go : {x y z : Node} {ms ns : List Message} {s : Option Settlement} → Move post r x y ms → Chain post r y ns s z → Chain post r x (ns ++ ms) s z
    end : {x y : Node} {s : Option Settlement} → Finish r x y s → Chain post r x [] s y
