use Rattle.std.proofs.Common.{rules}
use Rattle.board.proofs.hall.Hall.open.Goals as goal

pub returns-clause-pages : goal.returns-clause-pages
returns-clause-pages c = search rules
