use Rattle.std.proofs.Common.{◌≡◌, ◌≤◌, drop, min, max}
use Rattle.dl_prog.specs.Ready.{depth_of}
use Rattle.dl_prog.proofs.room.+depth.Given as goal

abbrev pub invariant-depth_of-loop-command : goal.invariant-depth_of-loop-command
invariant-depth_of-loop-command l =
    (l.depth ≤ 18446744073709551615) × (max l.depth (min (depth_of (drop l.command-index l.commands)) 18446744073709551615) ≡ min (depth_of l.commands) 18446744073709551615)
