-- The three findings of every run. Assumes nothing.
use Rattle.std.proofs.Common.{◌≡◌, ℕ, zero, suc, ◌<◌, ◌≤◌, max, Bool, ◌≢◌, ◌⊎◌, List, [], ◌∷◌, Some, None, Option, sym, refl, ap, ◌∙◌, subst, inl, inr, ⊎_elim, arith}
use Rattle.std.proofs.lemmas.Bool.{cases_eq, cases_lt, and_from}
use Rattle.quorum.specs.Members.{has}
use Rattle.quorum.specs.Laws.{Grows, Meets, Within}
use Rattle.stores.specs.declared.view.Number.{Number}
use Rattle.stores.specs.declared.view.View.{View}
use Rattle.stores.specs.Views.{view, recorded}
use Rattle.safety.specs.Replicas.{Node, In}
use Rattle.safety.specs.Runs.{World, Step, Run, world_at, Started}
use Rattle.safety.proofs.History.{Event, History, installs_inj, records_installs, installs_forms}
use Rattle.safety.proofs.History.Event.{records, installs, forms}
use Rattle.safety.proofs.Invariant.{RowOk, Backed, Invariant}
use Rattle.safety.proofs.Lists.{was_in}
use Rattle.safety.proofs.Marks.{none_some, some_inj, view_inj}
use native.Mathlib.Nat.{max_comm}
use Rattle.quorum.specs.Sets.{both}
use Rattle.quorum.proofs.Sets.{has_both}
use Rattle.safety.specs.Findings.{Installed, Forms, OneView, Succeeds, NeverBack, Safe, Safety}
use Rattle.safety.proofs.Runs.{history, history_more, always, formed_by, held_by, changed_one, settling}

module _ (carries : ℕ → ℕ → Bool) (grows : Grows carries) (meets : Meets carries) (first : View) where
  -- all that has happened where a run starts
  abbrev founding : History
  founding = installs first.number.0 first.set.0 ∷ []

  -- a world to start from keeps the invariant
  start : (w : World) → Started first w → Invariant carries first founding w
  start w f =
      let none : (q k s Y : ℕ) → In (records q k s Y) founding → ⊥ = λ q k s Y. elim [ inl u ↦ records_installs u | inr u ↦ u ] in
      let is : (n X : ℕ) → In (installs n X) founding → (n ≡ first.number.0) × (X ≡ first.set.0) = λ n X. elim [ inl u ↦ installs_inj u | inr u ↦ absurd u ] in
      record {
        nodes = λ q. record {
          component_mark = λ k V. f.marked q (view k V);
          recorded_mark = λ n X s. f.recorded_marked q (recorded n X s);
          marked = λ k s X e. absurd (none q k s X e);
          topped = λ k s X e. absurd (none q k s X e);
          within = λ k s X e. absurd (none q k s X e);
          both = λ k V n X s e g. absurd (f.apart q (view k V) (recorded n X s) e g);
          chose = λ k V s X e g. absurd (none q k s X g);
          known = λ k V e. let a = f.only q (view k V) e in inl (ap (λ (y : View). installs y.number.0 y.set.0) (sym a));
          free = λ z. inl (f.free q z);
          row_ok = subst (RowOk carries founding w q (w.at q)) (sym (f.idle_rows q)) tt;
        };
        mail = λ m e. absurd (subst (In m) f.silent e);
        rooted = record { single = λ n X Y e g. (is n X e).1 ∙ sym (is n Y g).1; backed = λ n X e. inl (is n X e) };
        rivals = λ q k s X t Y e g. absurd (none q k s X e);
      }

  module _ (w : World) (calls : List Step) (started : Started first w) (run : Run carries w calls) where
    -- what has happened up to call t
    abbrev by_call : ℕ → History
    by_call t = history carries run t founding

    inv : (t : ℕ) → Invariant carries first (by_call t) (world_at w calls t)
    inv t = always carries first meets founding (start w started) run t

    known : (i : ℕ) (v : View) → Installed w calls i v → In (installs v.number.0 v.set.0) (by_call i)
    known i v a = ((inv i).nodes a.by).known v.number.0 v.set.0 a.holds

    -- what has happened by one of two calls has happened by the later one
    by_later : (i j : ℕ) (e : Event) → In e (by_call i) → In e (by_call (max i j))
    by_later i j e u = was_in e (by_call i) (by_call (max i j)) (history_more carries run i (max i j) founding (omega arith)) u

    one_view : OneView w calls
    one_view i j v u a b e =
        let m : u.number.0 ≡ v.number.0 = ap (λ (y : Number). y.0) (sym e) in
        let s : v.set.0 ≡ u.set.0 =
        (inv (max i j)).rooted.single v.number.0 v.set.0 u.set.0 (by_later i j (installs v.number.0 v.set.0) (known i v a))
        (subst (λ (y : ℕ). In (installs v.number.0 u.set.0) (by_call y)) (max_comm j i) (by_later j i (installs v.number.0 u.set.0) (subst (λ (y : ℕ). In (installs y u.set.0) (by_call j)) m (known j u b)))) in
        λ l. record { 0 = s l }

    -- a page has this view or not
    same_view : (o : Option View) (v : View) → (o ≡ Some v) ⊎ (o ≡ Some v → ⊥)
    same_view None v = inr (λ e. none_some e)
    same_view (Some u) v =
        ⊎_elim
        (λ (a : u.number.0 ≡ v.number.0). ⊎_elim (λ (b : u.set.0 ≡ v.set.0). inl (λ l. Some (view (a l) (b l)))) (λ (b : u.set.0 ≢ v.set.0). inr (λ e. b (ap (λ (y : View). y.set.0) (some_inj e)))) (cases_eq u.set.0 v.set.0))
        (λ (a : u.number.0 ≢ v.number.0). inr (λ e. a (ap (λ (y : View). y.number.0) (some_inj e)))) (cases_eq u.number.0 v.number.0)

    -- a view that is held was installed
    first_held : (i q : ℕ) (v : View) → ((world_at w calls i).at q).component ≡ Some v → (j : ℕ) × (j ≤ i) × Installed w calls j v
    first_held zero q v e = (0, omega arith, record { by = q; holds = e; new = λ j z. absurd (omega arith) })
    first_held (suc i) q v e =
        ⊎_elim (λ (a : ((world_at w calls i).at q).component ≡ Some v). let b = first_held i q v a in (b.0, omega (arith, b.1), b.2))
        (λ (a : ((world_at w calls i).at q).component ≡ Some v → ⊥).
        (suc i, omega arith, record { by = q; holds = e; new = λ j z u. let y : j ≡ i = omega arith in a (subst (λ (t : ℕ). ((world_at w calls t).at q).component ≡ Some v) y u) }))
        (same_view ((world_at w calls i).at q).component v)

    was_installed : (i n X : ℕ) → In (installs n X) (by_call i) → (j : ℕ) × (j ≤ i) × Installed w calls j (view n X)
    was_installed i n X u =
        ⊎_elim
        (λ (a : In (installs n X) founding).
        ⊎_elim
        (λ (b : installs n X ≡ installs first.number.0 first.set.0).
        let z = installs_inj b in
        let q = started.some in
        let e : (w.at q.0).component ≡ Some (view n X) = q.1 ∙ (λ l. Some (view (sym z.0 l) (sym z.1 l))) in
        (0, omega arith, record { by = q.0; holds = e; new = λ j y. absurd (omega arith) }))
        (λ (b : ⊥). absurd b) a)
        (λ (a : (j q : ℕ) × (j ≤ i) × (((world_at w calls j).at q).component ≡ Some (view n X))). let b = first_held a.0 a.1 (view n X) a.3 in (b.0, omega (arith, b.1, a.2), b.2))
        (held_by carries first meets n X founding run i u)

    -- two views installed in one call are of one number
    one_number : (i : ℕ) (v u : View) → Installed w calls (suc i) v → Installed w calls (suc i) u → v.number.0 ≡ u.number.0
    one_number i v u a b =
        let r = changed_one carries first meets run i in
        let at_r : (y : View) → (c : Installed w calls (suc i) y) → c.by ≡ r.0 = λ y c.
        ⊎_elim (λ (z : c.by ≡ r.0). z) (λ (d : c.by ≢ r.0). absurd (c.new i refl (sym (ap (λ (x : Node). x.component) (r.1 c.by d)) ∙ c.holds))) (cases_eq c.by r.0) in
        let e : a.by ≡ b.by = at_r v a ∙ sym (at_r u b) in
        (view_inj (sym a.holds ∙ ap (λ (q : ℕ). ((world_at w calls (suc i)).at q).component) e ∙ b.holds)).0

    -- the predecessor was installed in an earlier call
    earlier : (i j : ℕ) (v u : View) → j ≤ i → v.number.0 ≡ suc u.number.0 → Installed w calls i v → Installed w calls j u → j < i
    earlier zero zero v u l z a b =
        let e : first ≡ v = started.only a.by v a.holds in
        let g : first ≡ u = started.only b.by u b.holds in
        let c : v.number.0 ≡ u.number.0 = ap (λ (y : View). y.number.0) (sym e ∙ g) in
        absurd (omega arith)
    earlier zero (suc j) v u l z a b = absurd (omega arith)
    earlier (suc i) j v u l z a b =
        ⊎_elim
        (λ (e : j ≡ suc i). absurd (let y = one_number i v u a (subst (λ (t : ℕ). Installed w calls t u) e b) in omega arith))
        (λ (e : j ≢ suc i). omega arith) (cases_eq j (suc i))

    succeeds : Succeeds w calls carries first
    succeeds i v a =
        let u = known i v a in
        ⊎_elim (λ (b : (v.number.0 ≡ first.number.0) × (v.set.0 ≡ first.set.0)). inl (λ l. view (b.0 l) (b.1 l)))
        (λ (b : Backed carries (by_call i) v.number.0 v.set.0).
        let c = was_installed i b.num b.set b.was in
        let common : Within b.set b.part (both v.set.0 b.set) =
        λ q l m p. has_both v.set.0 b.set q ∙ and_from (has v.set.0 q) (has b.set q) (((inv i).nodes q).within b.num b.stamp v.set.0 (b.each q l p m)) m in
        inr
        (record {
          view = view b.num b.set;
          call = c.0;
          installed = c.2;
          earlier = earlier i c.0 v (view b.num b.set) c.1 b.next a c.2;
          next = b.next;
          carried = grows b.part (both v.set.0 b.set) b.set common b.carried;
        }))
        ((inv i).rooted.backed v.number.0 v.set.0 u)

    never_back : NeverBack w calls carries first
    never_back zero j h v u e a early = absurd (none_some e)
    never_back (suc i) j h v u e a early =
        let s = settling carries first meets h v founding (start w started) run i e in
        let no : In (forms h) founding → ⊥ = elim [ inl b ↦ installs_forms (sym b) | inr b ↦ b ] in
        ⊎_elim
        (λ (l : i < j).
        ⊎_elim (λ (b : In (forms h) founding). absurd (no b)) (λ (b : (t : ℕ) × (t ≤ suc i) × Forms w calls t h). absurd (early b.0 (omega (arith, b.1)) b.2)) s.reported)
        (λ (l : j ≤ i).
        s.least (by_call j) (history_more carries run j i founding l) (inv j).rooted
        (λ b. ⊎_elim (λ (c : In (forms h) founding). no c) (λ (c : (t : ℕ) × (t ≤ j) × Forms w calls t h). early c.0 c.1 c.2) (formed_by carries first meets h founding run j b))
        u.number.0 u.set.0 (known j u a))
        (cases_lt i j)

pub safe : (carries : ℕ → ℕ → Bool) → Grows carries → Meets carries → Safe carries
safe carries grows meets first w calls started run = record {
  one_view = one_view carries grows meets first w calls started run;
  succeeds = succeeds carries grows meets first w calls started run;
  never_back = never_back carries grows meets first w calls started run;
}

pub safety : Safety
safety carries lawful = safe carries lawful.grows lawful.meets
