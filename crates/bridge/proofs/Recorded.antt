-- Recording a head, and judging it again. Assumes nothing.
use Rattle.std.proofs.Common.{◌≡◌, ℕ, suc, ◌+◌, Bool, true, false, ◌&&◌, ltb, List, [], ◌∷◌, ◌++◌, Some, None, Option, sym, refl, ap, ◌∙◌, subst, append-nil, add-one}
use Rattle.std.proofs.lemmas.Bool.{cond_both, and_from}
use Rattle.quorum.specs.Laws.{Grows, Meets}
use Rattle.quorum.specs.Sets.{either, single}
use Rattle.stores.specs.Views.{recorded}
use Rattle.stores.specs.declared.page.Mode.TheVariants.{Normal}
use Rattle.stores.specs.declared.page.Page.{Page}
use Rattle.stores.specs.declared.view.Head.{Head}
use Rattle.stores.specs.declared.view.Number.{Number}
use Rattle.stores.specs.declared.view.View.{View}
use Rattle.rows.specs.Rows.{is_normal}
use Rattle.rows.specs.declared.message.Message.{Message}
use Rattle.rows.specs.declared.row.Applied.{Applied}
use Rattle.rows.specs.declared.row.Gathered.{Gathered}
use Rattle.rows.specs.declared.row.Reference.{Reference}
use Rattle.rows.specs.declared.row.Row.{Row}
use Rattle.rows.specs.declared.row.Stage.{Stage}
use Rattle.rows.specs.declared.row.Stage.TheVariants.{Idle, Gathering, Confirming, Applying, Entering, Round}
use Rattle.manager.specs.Calls.{head_of}
use Rattle.manager.specs.Effects.{Effect, Entry, in_stage, raised, carried_out, next_of, next_component, no_entry, member_entry, numbered_entry, newcomer_entry, stage_entry, entry_of, posts_of, judged_again, judged_by, judged}
use Rattle.manager.specs.Verdicts.{verdict_of}
use Rattle.manager.specs.declared.need.Need.{Need}
use Rattle.manager.specs.declared.verdict.Verdict.{Verdict}
use Rattle.manager.specs.declared.verdict.Verdict.TheVariants.{Stays, Records, Installs, Reconfigures, Closes, Forgets, Ends}
use Rattle.manager.proofs.Posted.{carried_posts}
use Rattle.safety.specs.Moves.{Move, Chain, Settlement}
use Rattle.safety.specs.Moves.Chain.{go}
use Rattle.safety.specs.Moves.Move.{member_records, newcomer_records}
use Rattle.safety.specs.Replicas.{Phase, Node, node, number}
use Rattle.safety.specs.Replicas as Moves
use Rattle.safety.specs.Replicas.Message.{recorded_from}
use Rattle.safety.specs.Replicas.Phase.{confirming, applying, entering}
use Rattle.safety.specs.Replicas.Row.{under}
use Rattle.bridge.specs.Seen.{seen_reference, node_of, formed_by, settlement_of}
use Rattle.bridge.proofs.Bits.{adds_one, nobody_there}
use Rattle.bridge.proofs.Chains.{seen_maybe, formed_both, forming}
use Rattle.bridge.proofs.Judged.{Staged, raised_is, Comes, verdict_comes}

-- a replica that has recorded the head h under the number n
abbrev recorded_node : Page → Bool → ℕ → Option Number → Head → Phase → Node
recorded_node p normal n mark h phase = node normal p.top mark p.component (Some (recorded n h.set.0 h.stamp.0)) (under h phase)

-- the number after n, if there is one
next_cases : (P : Option Number → Type 0) (n : Number) → P None → ((k : ℕ) → k ≡ suc n.0 → P (Some (number k))) → P (next_of n)
next_cases P n a b = cond_both (ltb n.0 1000000000) (Some (number (n.0 + 1))) None P (λ _. b (n.0 + 1) (add-one n.0)) (λ _. a)

module _ (carries : ℕ → ℕ → Bool) (grows : Grows carries) (meets : Meets carries) (need : Need) (r : ℕ) (post : List Moves.Message) where
  -- from p and w the replica comes to the entry e, under the same head, and says what e says
  pub record Enters (p : Page) (w : Row) (e : Entry) : Type 0 where
    pub then : {ms : List Moves.Message} {s : Option Settlement} {z : Node} → Chain carries post r (node_of e.page e.row) ms s z →
        Chain carries post r (node_of p w) (ms ++ seen_maybe e.message) s z
    pub up : e.row.up ≡ true
    pub staged : Staged e.page e.row.stage
    pub head : head_of e.row.stage ≡ head_of w.stage

  nothing_entered : (p : Page) (w : Row) → w.up ≡ true → Staged p w.stage → Enters p w (no_entry p w)
  nothing_entered p w up st = record { then = λ {ms} {s} {z} c. forming carries post r (sym (append-nil ms)) c; up = up; staged = st; head = refl }

  module _ (p : Page) (w : Row) (up : w.up ≡ true) where
    -- ---- a member
    member_moves : (h : Head) (g : Gathered) (v : View) → p.mode ≡ Normal → p.component ≡ Some v → (n : ℕ) → n ≡ suc v.number.0 →
        Move post r (node_of p (in_stage (Gathering h g) w))
        (recorded_node p (is_normal p.mode && w.up) n (Some (raised p.mark n)) h (confirming (either g.recorders.members.0 (single r))))
        (recorded_from r h (number n) ∷ [])
    member_moves h g v m i n e =
        let more = either g.recorders.members.0 (single r) in
        let x : Node = node_of p (in_stage (Gathering h g) w) in
        let normal = is_normal p.mode && w.up in
        let n' = suc v.number.0 in
        subst (λ k. Move post r x (recorded_node p normal k (Some (raised p.mark k)) h (confirming more)) (recorded_from r h (number k) ∷ [])) (sym e)
        (subst (λ o. Move post r x (recorded_node p normal n' o h (confirming more)) (recorded_from r h (number n') ∷ []))
        (raised_is p.mark (suc v.number.0))
        (member_records h v g.recorders.members.0 more (and_from (is_normal p.mode) w.up (ap is_normal m) up) refl i (adds_one g.recorders.members.0 r)))

    member_enters : (h : Head) (g : Gathered) → p.mode ≡ Normal → (o : Option View) → p.component ≡ o → Enters p (in_stage (Gathering h g) w) (member_entry r p (in_stage (Gathering h g) w) h g (next_component o))
    member_enters h g m None i = nothing_entered p (in_stage (Gathering h g) w) up m
    member_enters h g m (Some v) i =
        next_cases (λ n. Enters p (in_stage (Gathering h g) w) (member_entry r p (in_stage (Gathering h g) w) h g n)) v.number (nothing_entered p (in_stage (Gathering h g) w) up m)
        (λ n e. record { then = λ {ms} {s} {z} c. go (member_moves h g v m i n e) c; up = up; staged = record { view = v; next = recorded n h.set.0 h.stamp.0; component = i; recorded = refl; numbered = e }; head = refl })

    -- ---- a newcomer
    newcomer_moves : (h : Head) (a : Applied) (x : Reference) → a.reference ≡ Some x → p.component ≡ None → (n : ℕ) → n ≡ suc x.component.number.0 →
        Move post r (node_of p (in_stage (Applying h a) w))
        (recorded_node p false n (Some (raised p.mark n)) h (entering x.component 0)) []
    newcomer_moves h a x f i n e =
        let y : Node = node_of p (in_stage (Applying h a) w) in
        subst (λ k. Move post r y (recorded_node p false k (Some (raised p.mark k)) h (entering x.component 0)) []) (sym e)
        (subst (λ o. Move post r y (recorded_node p false (suc x.component.number.0) o h (entering x.component 0)) [])
        (raised_is p.mark (suc x.component.number.0))
        (newcomer_records h x.component 0 (ap (λ o. under h (applying (seen_reference o))) f) i nobody_there))

    newcomer_enters : (h : Head) (a : Applied) → Staged p (Applying h a) → (o : Option Reference) → a.reference ≡ o → Enters p (in_stage (Applying h a) w) (newcomer_entry r p (in_stage (Applying h a) w) h o)
    newcomer_enters h a st None f = nothing_entered p (in_stage (Applying h a) w) up st
    newcomer_enters h a st (Some x) f =
        next_cases (λ n. Enters p (in_stage (Applying h a) w) (numbered_entry r p (in_stage (Applying h a) w) h x n)) x.component.number (nothing_entered p (in_stage (Applying h a) w) up st)
        (λ n e. record { then = λ {ms} {s} {z} c. go (newcomer_moves h a x f st.1 n e) c; up = up; staged = (st.1, recorded n h.set.0 h.stamp.0, refl); head = refl })

    stage_enters : (s : Stage) → Staged p s → Enters p (in_stage s w) (stage_entry r p (in_stage s w) s)
    stage_enters Idle st = nothing_entered p (in_stage Idle w) up st
    stage_enters (Gathering h g) st = member_enters h g st p.component refl
    stage_enters (Confirming h g) st = nothing_entered p (in_stage (Confirming h g) w) up st
    stage_enters (Applying h a) st = newcomer_enters h a st a.reference refl
    stage_enters (Entering h x) st = nothing_entered p (in_stage (Entering h x) w) up st
    stage_enters (Round h rs) st = nothing_entered p (in_stage (Round h rs) w) up st

    pub enters : Staged p w.stage → Enters p w (entry_of r p w)
    unfolding entry_of
    enters st = stage_enters w.stage st

  -- from x, where the message m was said already, the call comes to e
  pub record Judges (x : Node) (h : Option Head) (m : Option Message) (e : Effect) : Type 0 where
    pub formed : List Moves.Message
    pub chain : Chain carries post r x formed (settlement_of h e.answer.ended) (node_of e.page e.row)
    pub told : formed_by e.answer.posts ≡ formed ++ seen_maybe m

  -- a move that says m, before that
  pub after : {x y : Node} {h : Option Head} {m : Option Message} {e : Effect} → Move post r x y (seen_maybe m) → Judges y h m e →
      Chain carries post r x (formed_by e.answer.posts) (settlement_of h e.answer.ended) (node_of e.page e.row)
  after m j = forming carries post r (sym j.told) (go m j.chain)

  -- nothing was said
  pub at_once : {x : Node} {h : Option Head} {e : Effect} → Judges x h None e →
      Chain carries post r x (formed_by e.answer.posts) (settlement_of h e.answer.ended) (node_of e.page e.row)
  at_once j = forming carries post r (sym (append-nil j.formed) ∙ sym j.told) j.chain

  -- what was said says nothing to the moves
  pub silently : {x : Node} {h : Option Head} {m : Option Message} {e : Effect} → seen_maybe m ≡ [] → Judges x h m e → Judges x h None e
  silently {x} {h} {m} {e} s j = record { formed = j.formed; chain = j.chain; told = j.told ∙ ap (λ l. j.formed ++ l) s }

  pub again : (p : Page) (w : Row) (m : Option Message) (e : Entry) → Enters p w e → Judges (node_of p w) (head_of w.stage) m (judged_again carries need r m e)
  again p w m e en =
      let v = verdict_of carries need r e.page e.row in
      let posts = posts_of m e.message in
      let c = verdict_comes carries grows meets need r post e.page e.row en.up en.staged posts in
      record {
        formed = seen_maybe e.message;
        chain = subst
            (λ h. Chain carries post r (node_of p w) (seen_maybe e.message) (settlement_of h (carried_out r e.page e.row posts v).answer.ended) (node_of (carried_out r e.page e.row posts v).page (carried_out r e.page e.row posts v).row))
            en.head (en.then c);
        told = ap formed_by (carried_posts r e.page e.row posts v) ∙ formed_both m e.message;
      }

  carried : (p : Page) (w : Row) (m : Option Message) (v : Verdict) → Comes carries grows meets need r post p w v → Judges (node_of p w) (head_of w.stage) m (carried_out r p w (posts_of m None) v)
  carried p w m v c = record { formed = []; chain = c (posts_of m None); told = ap formed_by (carried_posts r p w (posts_of m None) v) ∙ formed_both m None }

  judged_as : (p : Page) (w : Row) (m : Option Message) → w.up ≡ true → Staged p w.stage → (v : Verdict) → Comes carries grows meets need r post p w v →
      Judges (node_of p w) (head_of w.stage) m (judged_by carries need r p w m v)
  judged_as p w m up st Stays c = carried p w m Stays c
  judged_as p w m up st Records c = again p w m (entry_of r p w) (enters p w up st)
  judged_as p w m up st Installs c = carried p w m Installs c
  judged_as p w m up st Reconfigures c = carried p w m Reconfigures c
  judged_as p w m up st Closes c = carried p w m Closes c
  judged_as p w m up st Forgets c = carried p w m Forgets c
  judged_as p w m up st (Ends o v) c = carried p w m (Ends o v) c

  -- the head is judged
  pub judges : (p : Page) (w : Row) (m : Option Message) → w.up ≡ true → Staged p w.stage → Judges (node_of p w) (head_of w.stage) m (judged carries need r p w m)
  judges p w m up st = judged_as p w m up st (verdict_of carries need r p w) (verdict_comes carries grows meets need r post p w up st)
