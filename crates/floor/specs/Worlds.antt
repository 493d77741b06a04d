-- The world that a floor and its post are. Assumes nothing.
use Rattle.std.specs.Prelude.{ℕ, List}
use Rattle.rows.specs.declared.message.Message.{Message}
use Rattle.runs.specs.World.{World}
use Rattle.stores.specs.declared.page.Page.{Page}
use Rattle.floor.specs.declared.floor.Floor.{Floor}

-- By what the store says of its pages and its places. It is no `impl Model`: a view that is a world has lost the store, and
-- `new` and a refused founding promise more of that than pages and places.
abbrev pub world : {R S : Type 0} → (S → List Page) → (S → ℕ) → Floor R S → List Message → World
world pages places floor post =
    record {
      pages = pages floor.store;
      places = places floor.store;
      rows = floor.table.rows;
      post = post;
      need = floor.need;
    }
