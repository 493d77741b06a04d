-- Of a sender a kind is heard once under a head, and a Report is answered once. Assumes nothing.
use Rattle.std.specs.Prelude.{◌≡◌, ℕ, ◌^◌, ◌<◌, Bool, ◌⊎◌, ◌↔◌, List, [], ◌∷◌, length, Ok, Err}
use Rattle.std.specs.List.{AllPairs}
use Rattle.quorum.specs.declared.fault.Fault.{Fault}
use Rattle.stores.specs.declared.page.Page.{Page}
use Rattle.stores.specs.declared.view.Head.{Head}
use Rattle.rows.specs.declared.message.Message.{Message}
use Rattle.rows.specs.declared.message.Posts.{Posts}
use Rattle.rows.specs.declared.message.Posts.TheVariants.{Nothing, One, Two}
use Rattle.rows.specs.declared.row.Row.{Row}
use Rattle.rows.specs.declared.row.Stage.{Stage}
use Rattle.rows.specs.declared.row.Stage.TheVariants.{Gathering, Confirming, Round}
use Rattle.manager.specs.declared.need.Need.{Need}
use Rattle.manager.specs.Calls.{report_message}
use Rattle.manager.specs.Effects.{Effect}
use Rattle.manager.specs.Requests.{Request, effect_of}
use Rattle.manager.specs.Requests.Request.{delivery}
use Rattle.refusals.specs.Heard.{Kind, kind_of, IsOpen, IsHeard}
use Rattle.refusals.specs.Heard.Kind.{report}

-- a round has sixteen places for reports: so it is in every row of a program, by its type
abbrev pub HasSixteenPlaces : Stage → Type 0
HasSixteenPlaces (Round h rs) = length rs ≡ 16
HasSixteenPlaces stage = Unit {0}

-- ---- one call
-- an accepted delivery that leaves a head open leaves its kind heard from its sender
abbrev pub DeliveriesNoted : Type 0
DeliveriesNoted =
    (f : ℕ → ℕ → Bool) (need : Need) (r : ℕ) (p : Page) (w : Row) (m : Message) (e : Effect) (h : Head) →
    HasSixteenPlaces w.stage → h.set.0 < 2 ^ 16 → effect_of f need r p w (delivery m) ≡ Ok e → IsOpen h e.row →
    IsHeard e.row.stage (kind_of m.body) m.sender

-- what is heard stays so, whatever call is accepted and leaves a head open
abbrev pub HeardStays : Type 0
HeardStays =
    (f : ℕ → ℕ → Bool) (need : Need) (r : ℕ) (p : Page) (w : Row) (a : Request) (e : Effect) (h : Head)
    (kind : Kind) (q : ℕ) → effect_of f need r p w a ≡ Ok e → IsOpen h e.row → IsHeard w.stage kind q →
    IsHeard e.row.stage kind q

-- what is heard is not accepted again
abbrev pub HeardIsRefused : Type 0
HeardIsRefused =
    (f : ℕ → ℕ → Bool) (need : Need) (r : ℕ) (p : Page) (w : Row) (m : Message) →
    IsHeard w.stage (kind_of m.body) m.sender → (fault : Fault) × (effect_of f need r p w (delivery m) ≡ Err fault)

-- a message is among those to be posted
abbrev pub IsPosted : Message → Posts → Type 0
IsPosted x Nothing = ⊥
IsPosted x (One m) = x ≡ m
IsPosted x (Two m n) = (x ≡ m) ⊎ (x ≡ n)

-- a stage in which a Report is answered
abbrev pub IsAnswering : Stage → Type 0
IsAnswering (Gathering h g) = Unit {0}
IsAnswering (Confirming h g) = Unit {0}
IsAnswering stage = ⊥

-- an accepted delivery posts a Report exactly where it is a Report that is answered, and then the replica's own
abbrev pub ReportsAnswered : Type 0
ReportsAnswered =
    (f : ℕ → ℕ → Bool) (need : Need) (r : ℕ) (p : Page) (w : Row) (m : Message) (e : Effect) →
    effect_of f need r p w (delivery m) ≡ Ok e → (x : Message) →
    (IsPosted x e.answer.posts × (kind_of x.body ≡ report)) ↔
    (IsAnswering w.stage × (kind_of m.body ≡ report) × (x ≡ report_message r m.head p))

-- ---- many calls under a head
-- a call that was accepted, with what it came to
pub record AcceptedCall : Type 0 where
  pub request : Request
  pub effect : Effect

-- calls accepted one after another, from this page and row on, each of which leaves the head h open
abbrev pub UnderHead : (ℕ → ℕ → Bool) → Need → ℕ → Head → Page → Row → List AcceptedCall → Type 0
UnderHead f need r h p w [] = Unit {0}
UnderHead f need r h p w (d ∷ ds) =
    (effect_of f need r p w d.request ≡ Ok d.effect) × IsOpen h d.effect.row
    × UnderHead f need r h d.effect.page d.effect.row ds

-- both are deliveries, of one kind from one sender
pub record IsRepeated (a b : AcceptedCall) : Type 0 where
  pub first : Message
  pub second : Message
  pub first_is : a.request ≡ delivery first
  pub second_is : b.request ≡ delivery second
  pub kind : kind_of first.body ≡ kind_of second.body
  pub sender : first.sender ≡ second.sender

-- a call posts a Report, which is the replica's own
abbrev pub PostsReport : AcceptedCall → Type 0
PostsReport d = (x : Message) × IsPosted x d.effect.answer.posts × (kind_of x.body ≡ report)

-- under a head no kind is heard twice from a sender, and no two calls post a Report
pub record OnceUnderHead : Type 0 where
  pub heard : (f : ℕ → ℕ → Bool) (need : Need) (r : ℕ) (h : Head) (p : Page) (w : Row) (ds : List AcceptedCall) →
      HasSixteenPlaces w.stage → h.set.0 < 2 ^ 16 → UnderHead f need r h p w ds →
      AllPairs (λ a b. IsRepeated a b → ⊥) ds
  pub reported : (f : ℕ → ℕ → Bool) (need : Need) (r : ℕ) (h : Head) (p : Page) (w : Row) (ds : List AcceptedCall) →
      UnderHead f need r h p w ds → AllPairs (λ a b. PostsReport a × PostsReport b → ⊥) ds
