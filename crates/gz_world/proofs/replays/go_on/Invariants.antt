use Rattle.std.proofs.Common.{◌≤◌, ◌-◌}
use Rattle.gz_model.specs.Told.{ahead}
use Rattle.gz_world.specs.Worlds.{IsRun}
use Rattle.gz_world.specs.Run.{scenario_of}
use Rattle.gz_world.specs.Told.{GoesOn}
use Rattle.gz_world.proofs.replays.go_on.Given as goal

abbrev pub invariant-lines : goal.invariant-lines
invariant-lines g l =
    let source = g.S.Source in
    record {
      goes_on : GoesOn (ahead l.fn.reader (source.left l.fn.input)) (ahead l.reader (source.left l.input)) l.first (scenario_of l.fn.world) l.number l.before (scenario_of l.world);
      run : IsRun l.world;
      few : l.number ≤ 65537;
      short : l.before ≤ 134217728;
      faults_stay : source.faults l.fn.input ≤ source.faults l.input;
    }

abbrev pub decreases-lines : goal.decreases-lines
decreases-lines g l = 65538 - l.number
