use Rattle.std.proofs.Common.{[], vec_items, refl}
use Rattle.floor.specs.Worlds.{world}
use Rattle.floor.proofs.floor.Floor.evening.Goals as goal

pub returns-clause-evening : goal.returns-clause-evening
returns-clause-evening g c =
    let told = c.in_ok-found.ensures in
    let found = rw (told.rule, told.capacity) at c.run.ensures.found in
    record {
      founded = world g.S.Store.pages g.S.Store.places c.found.new.self (vec_items c.found.new.post);
      begun = c.found.new.self.store;
      spent = told.places;
      pages_are = refl;
      places_are = refl;
      begins = told.begins;
      needs = told.founded.need_is;
      ran = found.ran;
      findings = found.findings c.args.first _ [] told.begins tt refl;
      orderly = found.orderly c.args.first _ [] told.begins tt refl;
      memory = found.memory c.args.first _ [] told.begins tt refl;
    }
