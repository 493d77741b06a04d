use Rattle.std.proofs.Common.{rules}
use Rattle.runs.proofs.Founded.{founding_keeps}
use Rattle.floor.proofs.founding.write_member.Goals as goal

-- a member's page keeps the rules
pub invariant_of-write : goal.invariant_of-write
invariant_of-write g c =
    let keeps = founding_keeps c.args.view c.args.replica c.requires.member c.requires.number in
    record { keeps = search (rules, keeps) }
