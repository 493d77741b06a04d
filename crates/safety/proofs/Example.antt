-- A run in which a view is recorded and installed, the group fails, and a round settles. Assumes nothing.
use Rattle.std.proofs.Common.{◌≡◌, ℕ, zero, suc, Bool, true, false, ◌≢◌, ◌⊎◌, List, [], ◌∷◌, ◌++◌, Some, None, Option, sym, refl, ap, ◌∙◌, subst, inl, inr, arith}
use Rattle.quorum.specs.Members.{has, tally, one, majority}
use Rattle.stores.specs.declared.view.Head.{Head}
use Rattle.stores.specs.declared.view.Number.{Number}
use Rattle.stores.specs.declared.view.Stamp.{Stamp}
use Rattle.stores.specs.declared.view.View.{View}
use Rattle.stores.specs.Views.{view, recorded, head}
use Rattle.safety.specs.Replicas.{number, Report, Node, node, with_row, leaving, taking_up, recording, holding, content, Message, raise}
use Rattle.safety.specs.Replicas.Phase.{confirming, round}
use Rattle.safety.specs.Replicas.Row.{idle, under}
use Rattle.safety.specs.Replicas.Message.{recorded_from, report_from}
use Rattle.safety.specs.Moves.{Empty, Adds, Settlement, settlement, Chain}
use Rattle.safety.specs.Rounds.{Clear, Low, Decides}
use Rattle.safety.specs.Runs.{World, Step, done, Call, Run, world_at, Started}
use Rattle.safety.proofs.Lists.{in_split}
use Rattle.safety.proofs.Marks.{none_some, some_inj, view_inj}
use Rattle.std.proofs.lemmas.Bool.{eqb-true, false≢true}
use Rattle.quorum.proofs.Bits.{has_high, has_single}
use Rattle.quorum.proofs.Sets.{has_none}
use Rattle.safety.specs.Example.{GoesOn}
use Rattle.safety.specs.Moves.Move.{take_up, gather, begin_round, hear_confirming, hear_report, member_records, close}
use Rattle.safety.specs.Moves.Finish.{member_installs, settle}
use Rattle.safety.specs.Moves.Chain.{rest, go, end}
use Rattle.safety.specs.Rounds.Decides.{by_clear}
use Rattle.safety.specs.Runs.Ended.{whole}
use Rattle.safety.specs.Runs.Run.{none, call}

abbrev rule : ℕ → ℕ → Bool
rule = majority one

-- who is in the sets {0}, {1} and {0, 1}
only_0 : (p : ℕ) → has 1 p ≡ true → p ≡ 0
only_0 p h = eqb-true p 0 (sym (has_single 0 p) ∙ h)

only_1 : (p : ℕ) → has 2 p ≡ true → p ≡ 1
only_1 p h = eqb-true p 1 (sym (has_single 1 p) ∙ h)

nobody : Empty 0
nobody p h = false≢true (sym (has_none p) ∙ h)

no_more : (p : ℕ) → has 3 (suc (suc p)) ≡ true → ⊥
no_more p h = false≢true (sym (has_high 3 2 (suc (suc p)) (omega arith) (omega arith)) ∙ h)

zero_in : has 3 0 ≡ true
unfolding has
zero_in = refl

one_in : has 3 1 ≡ true
unfolding has
one_in = refl

zero_alone : has 1 0 ≡ true
unfolding has
zero_alone = refl

adds_both : Adds 1 1 3
adds_both zero h = inl zero_alone
adds_both (suc zero) h = inr refl
adds_both (suc (suc p)) h = absurd (no_more p h)

abbrev stamp : ℕ → Stamp
stamp s = record { 0 = s }

abbrev h₁ : Head
h₁ = head 1 3

abbrev h₂ : Head
h₂ = head 2 3

-- a member as it was founded, and a replica outside
abbrev member : Node
member = node true (stamp 0) (Some (number 7)) (Some (view 7 7)) None idle

abbrev outsider : Node
outsider = node false (stamp 0) None None None idle

-- replica 0: it has recorded view 8, installed it, is stopped, and in a round
abbrev recorded_0 : Node
recorded_0 = recording (taking_up member h₁) true 8 h₁ (confirming 1)

abbrev installed_0 : Node
installed_0 = holding recorded_0 recorded_0.mark (view 8 3)

abbrev stopped_0 : Node
stopped_0 = leaving installed_0 idle

abbrev from_0 : ℕ → Option Report
from_0 zero = Some (content stopped_0)
from_0 (suc q) = None

abbrev asking_0 : Node
asking_0 = with_row (taking_up stopped_0 h₂) (under h₂ (round from_0))

-- replica 1: it has recorded view 8, is stopped, and has settled on view 8
abbrev recorded_1 : Node
recorded_1 = recording (taking_up member h₁) true 8 h₁ (confirming 2)

abbrev stopped_1 : Node
stopped_1 = leaving recorded_1 idle

abbrev from_1 : ℕ → Option Report
from_1 zero = None
from_1 (suc zero) = Some (content stopped_1)
from_1 (suc (suc q)) = None

abbrev from_both : ℕ → Option Report
from_both zero = Some (content stopped_0)
from_both (suc zero) = Some (content stopped_1)
from_both (suc (suc q)) = None

abbrev settled_1 : Node
settled_1 = holding (taking_up stopped_1 h₂) (raise stopped_1.mark 8) (view 8 3)

abbrev place : Node → Node → ℕ → Node
place x y zero = x
place x y (suc zero) = y
place x y (suc (suc zero)) = member
place x y (suc (suc (suc q))) = outsider

abbrev world : Node → Node → List Message → World
world x y post = record { at = place x y; post = post }

-- the post after both have recorded, and after each report
abbrev post₂ : List Message
post₂ = recorded_from 1 h₁ (number 8) ∷ recorded_from 0 h₁ (number 8) ∷ []

abbrev report_0 : Message
report_0 = report_from 0 h₂ (content stopped_0)

abbrev report_1 : Message
report_1 = report_from 1 h₂ (content stopped_1)

-- a call of 0 or of 1 leaves the others
others_0 : (x x' y : Node) (q : ℕ) → q ≢ 0 → place x' y q ≡ place x y q
others_0 x x' y zero d = absurd (d refl)
others_0 x x' y (suc zero) d = refl
others_0 x x' y (suc (suc zero)) d = refl
others_0 x x' y (suc (suc (suc q))) d = refl

others_1 : (x y y' : Node) (q : ℕ) → q ≢ 1 → place x y' q ≡ place x y q
others_1 x y y' zero d = refl
others_1 x y y' (suc zero) d = absurd (d refl)
others_1 x y y' (suc (suc zero)) d = refl
others_1 x y y' (suc (suc (suc q))) d = refl

alone_0 : (q : ℕ) (m : Report) → from_0 q ≡ Some m → (q ≡ 0) × (m ≡ content stopped_0)
alone_0 zero m e = (refl, sym (some_inj e))
alone_0 (suc q) m e = absurd (none_some e)

alone_1 : (q : ℕ) (m : Report) → from_1 q ≡ Some m → (q ≡ 1) × (m ≡ content stopped_1)
alone_1 zero m e = absurd (none_some e)
alone_1 (suc zero) m e = (refl, sym (some_inj e))
alone_1 (suc (suc q)) m e = absurd (none_some e)

hears_0 : (q : ℕ) (m : Report) → from_both q ≡ Some m → (from_1 q ≡ Some m) ⊎ ((q ≡ 0) × (m ≡ content stopped_0))
hears_0 zero m e = inr (refl, sym (some_inj e))
hears_0 (suc zero) m e = inl e
hears_0 (suc (suc q)) m e = absurd (none_some e)

-- both marks are 8
low : Low from_both (view 8 3)
low zero m e n f = let z = ap (λ (y : Number). y.0) (some_inj (sym f ∙ ap (λ (y : Report). y.mark) (sym (some_inj e)))) in omega arith
low (suc zero) m e n f = let z = ap (λ (y : Number). y.0) (some_inj (sym f ∙ ap (λ (y : Report). y.mark) (sym (some_inj e)))) in omega arith
low (suc (suc q)) m e n f = absurd (none_some e)

-- 0 has view 8 and nothing recorded, and the mark of 1 is not above 8
clear : (q : ℕ) → has 3 q ≡ true → (m : Report) × (from_both q ≡ Some m) × Clear (view 8 3) m
clear zero h = (content stopped_0, refl, inl (refl, refl))
clear (suc zero) h = (content stopped_1, refl, inr (λ n f. let z = ap (λ (y : Number). y.0) (some_inj (sym f)) in omega arith))
clear (suc (suc q)) h = absurd (no_more q h)

decided : Decides from_both rule (view 8 3)
unfolding has tally
decided = by_clear (record { presumed = record { low = low; from = 0; report = content stopped_0; said = refl; level = refl }; part = 3; clear = clear; clear_carry = refl })

chain_1 : Chain rule [] 0 member (recorded_from 0 h₁ (number 8) ∷ []) None recorded_0
chain_1 = go (take_up h₁ refl zero_in (omega arith)) (go (gather h₁ 0 refl nobody) (go (member_records h₁ (view 7 7) 0 1 refl refl refl (λ p h. inr (only_0 p h))) rest))

chain_2 : (post : List Message) → Chain rule post 1 member (recorded_from 1 h₁ (number 8) ∷ []) None recorded_1
chain_2 post = go (take_up h₁ refl one_in (omega arith)) (go (gather h₁ 0 refl nobody) (go (member_records h₁ (view 7 7) 0 2 refl refl refl (λ p h. inr (only_1 p h))) rest))

-- 0 hears 1; both carry view 7
chain_3 : Chain rule post₂ 0 recorded_0 [] None installed_0
unfolding has tally
chain_3 = go (hear_confirming h₁ (view 7 7) 1 3 1 refl refl (inl refl) adds_both) (end (member_installs h₁ (view 7 7) (recorded 8 3 1) 3 3 refl refl refl (λ p h. h) refl))

chain_8 : Chain rule post₂ 0 stopped_0 (report_0 ∷ []) None asking_0
chain_8 = go (take_up h₂ refl zero_in (omega arith)) (go (begin_round h₂ from_0 refl refl alone_0) rest)

chain_9 : Chain rule (report_0 ∷ post₂) 1 stopped_1 (report_1 ∷ []) (Some (settlement h₂ (view 8 3))) settled_1
chain_9 =
    go (take_up h₂ refl one_in (omega arith))
    (go (begin_round h₂ from_1 refl refl alone_1) (go (hear_report h₂ from_1 from_both 0 (content stopped_0) refl (inl refl) refl hears_0) (end (settle h₂ (view 8 3) from_both refl decided))))

abbrev start : World
start = world member member []

abbrev calls : List Step
calls =
    done (recorded_from 0 h₁ (number 8) ∷ []) None (world recorded_0 member (recorded_from 0 h₁ (number 8) ∷ []))
    ∷ done (recorded_from 1 h₁ (number 8) ∷ []) None (world recorded_0 recorded_1 post₂)
    ∷ done [] None (world installed_0 recorded_1 post₂)
    ∷ done [] None (world stopped_0 recorded_1 post₂)
    ∷ done [] None (world stopped_0 stopped_1 post₂)
    ∷ done [] None (world stopped_0 stopped_1 post₂)
    ∷ done [] None (world stopped_0 stopped_1 post₂)
    ∷ done (report_0 ∷ []) None (world asking_0 stopped_1 (report_0 ∷ post₂))
    ∷ done (report_1 ∷ []) (Some (settlement h₂ (view 8 3))) (world asking_0 settled_1 (report_1 ∷ report_0 ∷ post₂))
    ∷ []

-- a whole call of 0 or of 1
calls_0 : (x x' y : Node) (post : List Message) {ms : List Message} {s : Option Settlement} → Chain rule post 0 x ms s x'
    → Call rule (world x y post) (done ms s (world x' y (ms ++ post)))
calls_0 x x' y post {ms} c = record { at = 0; becomes = x'; chain = c; ended = whole (record { here = refl; others = others_0 x x' y; posted = λ m u. in_split m ms post u }) }

calls_1 : (x y y' : Node) (post : List Message) {ms : List Message} {s : Option Settlement} → Chain rule post 1 y ms s y'
    → Call rule (world x y post) (done ms s (world x y' (ms ++ post)))
calls_1 x y y' post {ms} c = record { at = 1; becomes = y'; chain = c; ended = whole (record { here = refl; others = others_1 x y y'; posted = λ m u. in_split m ms post u }) }

run : Run rule start calls
run =
    call (calls_0 member recorded_0 member [] chain_1)
    (call (calls_1 recorded_0 member recorded_1 _ (chain_2 _))
    (call (calls_0 recorded_0 installed_0 recorded_1 post₂ chain_3)
    (call (calls_0 installed_0 stopped_0 recorded_1 post₂ (go close rest))
    (call (calls_1 stopped_0 recorded_1 stopped_1 post₂ (go close rest))
    (call (calls_0 stopped_0 stopped_0 stopped_1 post₂ rest)
    (call (calls_1 stopped_0 stopped_1 stopped_1 post₂ rest)
    (call (calls_0 stopped_0 asking_0 stopped_1 post₂ chain_8)
    (call (calls_1 asking_0 stopped_1 settled_1 (report_0 ∷ post₂) chain_9) none))))))))

started : Started (view 7 7) start
started = record {
  some = (0, refl);
  only = only;
  marked = marked;
  recorded_marked = λ q d e. absurd (none_some (sym (nothing q) ∙ e));
  apart = λ q v d c e. none_some (sym (nothing q) ∙ e);
  free = λ q e. nothing q;
  idle_rows = rows;
  silent = refl;
}
  where
    only : (q : ℕ) (v : View) → (place member member q).component ≡ Some v → view 7 7 ≡ v
    only zero v e = some_inj e
    only (suc zero) v e = some_inj e
    only (suc (suc zero)) v e = some_inj e
    only (suc (suc (suc q))) v e = absurd (none_some e)

    mark_of : (v : View) → ◌≡◌ {A = Option View} (Some (view 7 7)) (Some v) → ◌≡◌ {A = Option Number} (Some (number 7)) (Some v.number)
    mark_of v e = ap (λ (y : View). Some y.number) (some_inj e)

    marked : (q : ℕ) (v : View) → (place member member q).component ≡ Some v
        → ((place member member q).mark ≡ Some v.number) ⊎ ((place member member q).mark ≡ Some (number (suc v.number.0)))
    marked zero v e = inl (mark_of v e)
    marked (suc zero) v e = inl (mark_of v e)
    marked (suc (suc zero)) v e = inl (mark_of v e)
    marked (suc (suc (suc q))) v e = absurd (none_some e)

    nothing : (q : ℕ) → (place member member q).recorded ≡ None
    nothing zero = refl
    nothing (suc zero) = refl
    nothing (suc (suc zero)) = refl
    nothing (suc (suc (suc q))) = refl

    rows : (q : ℕ) → (place member member q).row ≡ idle
    rows zero = refl
    rows (suc zero) = refl
    rows (suc (suc zero)) = refl
    rows (suc (suc (suc q))) = refl

not_8 : ◌≡◌ {A = Option View} (Some (view 7 7)) (Some (view 8 3)) → ⊥
not_8 e = let z : ◌≡◌ {A = ℕ} 7 8 = (view_inj e).0 in omega arith

pub goes_on : GoesOn
goes_on = record {
  first = start;
  calls = calls;
  started = started;
  run = run;
  installed = record { by = 0; holds = refl; new = λ j e h. let z : j ≡ 2 = omega arith in not_8 (subst (λ (t : ℕ). ((world_at start calls t).at 0).component ≡ Some (view 8 3)) z h) };
  agreed = agreed;
  failed = failed;
  settled = refl;
  followed = record { by = 1; holds = refl; new = λ j e h. let z : j ≡ 8 = omega arith in not_8 (subst (λ (t : ℕ). ((world_at start calls t).at 1).component ≡ Some (view 8 3)) z h) };
}
  where
    agreed : (q : ℕ) → has 3 q ≡ true → ((world_at start calls 2).at q).recorded ≡ Some (recorded 8 3 1)
    agreed zero h = refl
    agreed (suc zero) h = refl
    agreed (suc (suc q)) h = absurd (no_more q h)

    failed : (q : ℕ) → has 3 q ≡ true → (((world_at start calls 5).at q).normal ≡ false) × (((world_at start calls 5).at q).row ≡ idle)
    failed zero h = (refl, refl)
    failed (suc zero) h = (refl, refl)
    failed (suc (suc q)) h = absurd (no_more q h)
