-- What a waiting replica hears. Assumes nothing.
use Rattle.std.proofs.Common.{◌≡◌, ℕ, Bool, true, false, ◌&&◌, Some, None, Ok, Err, Option, Result, refl, subst}
use Rattle.std.proofs.lemmas.Bool.{and_parts}
use Rattle.quorum.specs.Members.{has}
use Rattle.quorum.specs.declared.fault.Fault.{Fault}
use Rattle.quorum.specs.declared.fault.Reason.{Reason}
use Rattle.quorum.specs.declared.set.ReplicaSet.{ReplicaSet}
use Rattle.rounds.proofs.Highest.{some_same, none_some}
use Rattle.rows.specs.declared.message.Body.{Body}
use Rattle.rows.specs.declared.message.Body.TheVariants.{State}
use Rattle.rows.specs.declared.message.Message.{Message}
use Rattle.rows.specs.declared.row.Applied.{Applied}
use Rattle.rows.specs.declared.row.Reference.{Reference}
use Rattle.rows.specs.declared.row.Row.{Row}
use Rattle.rows.specs.declared.row.Stage.{Stage}
use Rattle.rows.specs.declared.row.Stage.TheVariants.{Applying}
use Rattle.stores.proofs.Same.{decides_view}
use Rattle.stores.specs.declared.page.Page.{Page}
use Rattle.stores.specs.declared.view.Head.{Head}
use Rattle.stores.specs.declared.view.View.{View}
use Rattle.manager.specs.Calls.{delivery_refusal, delivered_to, heard_or_not, delivered}
use Rattle.manager.specs.Effects.{Effect}
use Rattle.manager.specs.Hearing.{Turn, heard_if, turned, reaches_mark, as_reference, fixed, applied_state, hears}
use Rattle.manager.specs.Requests.{effect_of}
use Rattle.manager.specs.declared.hearing.Hearing.{Hearing}
use Rattle.manager.specs.declared.hearing.Hearing.TheVariants.{Heard}
use Rattle.manager.specs.declared.need.Need.{Need}
use Rattle.laws.specs.Known.{known}
use Rattle.evidence.specs.Views.{OneReference}

-- a message that is delivered is heard
heard_by : (f : ℕ → ℕ → Bool) (need : Need) (r : ℕ) (p : Page) (w : Row) (h : Head) (x : Result (Turn Stage)
    Reason) (e : Effect) → heard_or_not f need r p w h x ≡ Ok e → (t : Turn Stage) × (x ≡ Ok t)
heard_by f need r p w h (Err reason) e d = absurd cc
heard_by f need r p w h (Ok t) e d = (t, refl)

delivered_by : (f : ℕ → ℕ → Bool) (need : Need) (r : ℕ) (p : Page) (w : Row) (m : Message) (e : Effect) (o : Option
    Fault) → delivered_to f need r p w m o ≡ Ok e →
    (t : Turn Stage) × (hears p w m.sender m.body ≡ Ok t)
delivered_by f need r p w m e (Some fault) d = absurd cc
delivered_by f need r p w m e None d = heard_by f need r p w m.head (hears p w m.sender m.body) e d

delivered_heard : (f : ℕ → ℕ → Bool) (need : Need) (r : ℕ) (p : Page) (w : Row) (m : Message) (e : Effect) →
    delivered f need r p w m ≡ Ok e →
    (t : Turn Stage) × (hears p w m.sender m.body ≡ Ok t)
unfolding delivered
delivered_heard f need r p w m e d = delivered_by f need r p w m e (delivery_refusal r p w m) d

hears_so : {A : Type 0} (stage : A → Stage) (x y : Bool) (a : A) (k : Hearing) (t : Turn Stage) →
    turned stage (heard_if x y a k) ≡ Ok t → x ≡ true
hears_so stage false y a k t e = absurd cc
hears_so stage true y a k t e = refl

-- a State that a waiting replica hears is of the reference's component view
fits_reference : (p : Page) (w : Row) (q : ℕ) (h : Head) (a : Applied) (c : View) (s : ReplicaSet) (b : Body) (t : Turn
    Stage) → w.stage ≡ Applying h a → b ≡ State c s →
    hears p w q b ≡ Ok t → as_reference a.reference c ≡ true
unfolding hears
fits_reference p w q h a c s b t i j e =
    let heard = rw (i, j) at e in
    (and_parts (reaches_mark p.mark c.number) (as_reference a.reference c)
    (hears_so (Applying h) (reaches_mark p.mark c.number && as_reference a.reference c) (has a.states.0 q)
    (applied_state a q c s) Heard t heard)).1

fixed_so : (o : Option Reference) (c : View) (s : ReplicaSet) → as_reference o c ≡ true →
    ((fixed o c s).component ≡ c) × ((y : Reference) → o ≡ Some y → fixed o c s ≡ y)
fixed_so None c s e = (refl, λ y i. absurd (none_some refl i))
fixed_so (Some x) c s e = ((decides_view x.component c).0 e, λ y i. some_same refl i)

pub one_reference : OneReference
one_reference f need r p w x e d h a m c s i j b =
    let heard = delivered_heard f need r p w m e (subst (λ y. effect_of f need r p w y ≡ Ok e) j d) in
    let fits = fixed_so a.reference c s (fits_reference p w m.sender h a c s m.body heard.0 i b heard.1) in
    let reference : (known r p w x).reference ≡ Some (fixed a.reference c s) = rw (j, i, b) in
    (fixed a.reference c s, reference, fits.0, fits.1)
