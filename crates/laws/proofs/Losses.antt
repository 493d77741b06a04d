-- A loss posts nothing where the row did not stand to be recorded: it takes away and adds nothing that was heard. Assumes nothing.
use Rattle.std.proofs.Common.{◌≡◌, ℕ, ◌≤◌, ◌≢◌, Bool, true, false, if◌then◌else◌, ◌||◌, ltb, List, Some, None, Ok, Option, refl, ap, ◌∙◌, subst, arith}
use Rattle.std.proofs.lemmas.Bool.{cond_both, ltb-false, le-ltb}
use Rattle.quorum.proofs.Sets.{has_either}
use Rattle.quorum.specs.Below.{within}
use Rattle.quorum.specs.Members.{has, one, size}
use Rattle.quorum.specs.Sets.{either, both, less}
use Rattle.quorum.specs.Tallies.{tally_le}
use Rattle.rounds.specs.declared.outcome.Outcome.TheVariants.{LostMember}
use Rattle.rounds.specs.declared.report.Report.{Report}
use Rattle.rows.specs.declared.message.Posts.TheVariants.{Nothing}
use Rattle.rows.specs.declared.row.Confirmed.{Confirmed}
use Rattle.rows.specs.declared.row.Entered.{Entered}
use Rattle.rows.specs.declared.row.Gathered.{Gathered}
use Rattle.rows.specs.declared.row.Row.{Row}
use Rattle.rows.specs.declared.row.Stage.{Stage}
use Rattle.rows.specs.declared.row.Stage.TheVariants.{Idle, Gathering, Confirming, Applying, Entering, Round}
use Rattle.stores.specs.declared.page.Page.{Page}
use Rattle.stores.specs.declared.view.Head.{Head}
use Rattle.stores.specs.declared.view.View.{View}
use Rattle.manager.proofs.Accepted.{accepted}
use Rattle.manager.proofs.Posted.{carried_posts}
use Rattle.manager.specs.Calls.{losing, loss_refusal, lost_at}
use Rattle.manager.specs.Effects.{Effect, judged_by, judged}
use Rattle.manager.specs.Verdicts.{need_of, unheard, nobody, gathering_verdict, carrying_verdict, confirming_verdict, sources_of, possible_senders, asked, need_met, entering_verdict, heard_of, round_end, round_verdict, with_component, stage_verdict, verdict_of}
use Rattle.manager.specs.declared.need.Need.{Need}
use Rattle.manager.specs.declared.verdict.Verdict.{Verdict}
use Rattle.manager.specs.declared.verdict.Verdict.TheVariants.{Stays, Records, Installs, Reconfigures, Closes, Forgets, Ends}

-- more members weigh no less
pub size_more : (a b : ℕ) → size a ≤ size (either a b)
size_more a b = tally_le one (has a) (has (either a b)) 16 (λ k l i. has_either a b k ∙ ap (λ x. x || has b k) i)

records_chain : (a b c d e g : Bool) → (b ≡ false → a ≡ false) →
    (if g then Reconfigures else if b then Stays else if c then Records else if e then Stays else Closes) ≡ Records →
    (if a then Reconfigures else if b then Stays else if c then Records else if d then Stays else Closes) ≡ Records
records_chain a b c d e true f i = absurd cc
records_chain a true c d e false f i = absurd cc
records_chain true false true d e false f i = absurd (let z = f refl in cc)
records_chain false false true d e false f i = refl
records_chain a false false d true false f i = absurd cc
records_chain a false false d false false f i = absurd cc

gathering_before : (need : Need) (survivors lost more : ℕ) (h : Head) (g : Gathered) (o : Option View) →
    with_component o (gathering_verdict need survivors more h g) ≡ Records → with_component o (gathering_verdict need survivors lost h g) ≡ Records
gathering_before need survivors lost more h g None i = absurd cc
gathering_before need survivors lost more h g (Some c) i =
    let needed = need_of need (size c.set.0) in
    let missing = unheard h survivors g.recorders in
    let reach : ltb (size g.states.0) needed ≡ false → ltb (size (either g.states.0 (less survivors lost))) needed ≡ false =
    λ e. let l = ltb-false (size g.states.0) needed e in let m = size_more g.states.0 (less survivors lost) in le-ltb _ needed (omega arith) in
    records_chain (ltb (size (either g.states.0 (less survivors lost))) needed) (ltb (size g.states.0) needed) (nobody missing)
    (nobody (both missing lost)) (nobody (both missing more)) (ltb (size (either g.states.0 (less survivors more))) needed) reach i

applying_chain : (met a b c d : Bool) → (if met then Records else if a then Closes else if b then Closes else Stays) ≡ Records →
    (if met then Records else if c then Closes else if d then Closes else Stays) ≡ Records
applying_chain true a b c d i = refl
applying_chain false true b c d i = absurd cc
applying_chain false false true c d i = absurd cc
applying_chain false false false c d i = absurd cc

-- the end of a head is no recording
carrying_never : (f : ℕ → ℕ → Bool) (heard survivors lost set : ℕ) → carrying_verdict f heard survivors lost set ≢ Records
carrying_never f heard survivors lost set =
    cond_both (f heard set) Installs (if f (either heard (less survivors lost)) set then Stays else Reconfigures) (λ v. v ≢ Records) (λ _ i. cc)
    (λ _. cond_both (f (either heard (less survivors lost)) set) Stays Reconfigures (λ v. v ≢ Records) (λ _ i. cc) (λ _ i. cc))

pub confirming_never : (f : ℕ → ℕ → Bool) (survivors lost : ℕ) (g : Confirmed) (o : Option View) → with_component o (confirming_verdict f survivors lost g) ≢ Records
confirming_never f survivors lost g None i = cc
confirming_never f survivors lost g (Some c) i = carrying_never f (both g.recorders.members.0 survivors) survivors lost c.set.0 i

pub entering_never : (f : ℕ → ℕ → Bool) (lost : ℕ) (h : Head) (e : Entered) → entering_verdict f lost h e ≢ Records
entering_never f lost h e =
    let survivors = e.reference.survivors.0 in
    let missing = unheard h survivors e.recorders in
    cond_both (nobody missing) (carrying_verdict f (both e.recorders.members.0 survivors) survivors lost e.reference.component.set.0)
    (if nobody (both missing lost) then Stays else Forgets) (λ v. v ≢ Records)
    (λ _. carrying_never f (both e.recorders.members.0 survivors) survivors lost e.reference.component.set.0)
    (λ _. cond_both (nobody (both missing lost)) Stays Forgets (λ v. v ≢ Records) (λ _ i. cc) (λ _ i. cc))

pub round_never : (f : ℕ → ℕ → Bool) (lost : ℕ) (h : Head) (rs : List (Option Report)) → round_verdict f lost h rs ≢ Records
round_never f lost h rs =
    let ends : Verdict = Ends (round_end f h rs).0 (round_end f h rs).1 in
    cond_both (nobody (both lost h.set.0)) (if within h.set.0 (heard_of rs) then ends else Stays) (Ends LostMember None) (λ v. v ≢ Records)
    (λ _. cond_both (within h.set.0 (heard_of rs)) ends Stays (λ v. v ≢ Records) (λ _ i. cc) (λ _ i. cc)) (λ _ i. cc)

stage_before : (f : ℕ → ℕ → Bool) (need : Need) (r : ℕ) (p : Page) (survivors lost more : ℕ) (s : Stage) →
    stage_verdict f need r p survivors more s ≡ Records → stage_verdict f need r p survivors lost s ≡ Records
stage_before f need r p survivors lost more Idle i = absurd cc
stage_before f need r p survivors lost more (Gathering h g) i = gathering_before need survivors lost more h g p.component i
stage_before f need r p survivors lost more (Confirming h g) i = absurd (confirming_never f survivors more g p.component i)
stage_before f need r p survivors lost more (Applying h a) i =
    let possible : ℕ → Bool = λ l. ltb (size (either a.states.0 (possible_senders r l h a a.reference))) (need_of need (asked r h a a.reference)) in
    applying_chain (need_met need a a.reference) (nobody (sources_of r h a)) (possible more) (nobody (sources_of r h a)) (possible lost) i
stage_before f need r p survivors lost more (Entering h e) i = absurd (entering_never f more h e i)
stage_before f need r p survivors lost more (Round h rs) i = absurd (round_never f more h rs i)

-- a row that is to be recorded after a loss was to be recorded before it
recorded_before : (f : ℕ → ℕ → Bool) (need : Need) (r : ℕ) (p : Page) (w : Row) (q : ℕ) → verdict_of f need r p (losing w q) ≡ Records → verdict_of f need r p w ≡ Records
unfolding verdict_of
recorded_before f need r p w q i = stage_before f need r p w.survivors.0 w.lost.0 (losing w q).lost.0 w.stage i

unrecorded_posts : (f : ℕ → ℕ → Bool) (need : Need) (r : ℕ) (p : Page) (w : Row) (v : Verdict) → v ≢ Records → (judged_by f need r p w None v).answer.posts ≡ Nothing
unrecorded_posts f need r p w Stays n = refl
unrecorded_posts f need r p w Records n = absurd (n refl)
unrecorded_posts f need r p w Installs n = carried_posts r p w Nothing Installs
unrecorded_posts f need r p w Reconfigures n = refl
unrecorded_posts f need r p w Closes n = refl
unrecorded_posts f need r p w Forgets n = refl
unrecorded_posts f need r p w (Ends o v) n = carried_posts r p w Nothing (Ends o v)

loss_posts : (f : ℕ → ℕ → Bool) (need : Need) (r : ℕ) (p : Page) (w : Row) (q : ℕ) → verdict_of f need r p w ≢ Records → (judged f need r p (losing w q) None).answer.posts ≡ Nothing
loss_posts f need r p w q n = unrecorded_posts f need r p (losing w q) (verdict_of f need r p (losing w q)) (λ i. n (recorded_before f need r p w q i))

pub lost_posts : (f : ℕ → ℕ → Bool) (need : Need) (r : ℕ) (p : Page) (w : Row) (q : ℕ) (e : Effect) → verdict_of f need r p w ≢ Records → lost_at f need r p w q ≡ Ok e →
    e.answer.posts ≡ Nothing
unfolding lost_at
lost_posts f need r p w q e n d =
    let a = accepted (loss_refusal r p w q) (judged f need r p (losing w q) None) e d in
    subst (λ (x : Effect). x.answer.posts ≡ Nothing) a.1 (loss_posts f need r p w q n)
