-- When two views, two recorded views and two heads are the same. Assumes nothing.
use Rattle.std.specs.Prelude.{ℕ, Bool, ◌&&◌, ◌==◌}
use Rattle.stores.specs.declared.view.Head.{Head}
use Rattle.stores.specs.declared.view.Recorded.{Recorded}
use Rattle.stores.specs.declared.view.View.{View}

-- the view of this number and set
abbrev pub view : ℕ → ℕ → View
view n X = record { number = record { 0 = n }; set = record { 0 = X } }

-- the view of this number and set, recorded under this stamp
abbrev pub recorded : ℕ → ℕ → ℕ → Recorded
recorded n X s = record { view = view n X; stamp = record { 0 = s } }

-- the head of this stamp and set
abbrev pub head : ℕ → ℕ → Head
head s X = record { stamp = record { 0 = s }; set = record { 0 = X } }

-- number and set are alike
abbrev pub same_view : View → View → Bool
same_view v w = v.number.0 == w.number.0 && v.set.0 == w.set.0

-- number, set and stamp are alike
abbrev pub same_recorded : Recorded → Recorded → Bool
same_recorded s t = same_view s.view t.view && s.stamp.0 == t.stamp.0

-- stamp and set are alike
abbrev pub same_head : Head → Head → Bool
same_head g h = g.stamp.0 == h.stamp.0 && g.set.0 == h.set.0
