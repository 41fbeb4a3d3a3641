use Rattle.std.proofs.Common.{◌≡◌, drop}
use Rattle.dl_notation.specs.Judge.{OfNames}
use Rattle.dl_notation.specs.Parts.{parts_behind, parts_fault}
use Rattle.dl_scope.specs.Walked.{environment}
use Rattle.dl_names.proofs.list.+walk.Given as goal

abbrev pub invariant-walk_parts-loop-i : goal.invariant-walk_parts-loop-i
invariant-walk_parts-loop-i l = record {
  fault : parts_fault (OfNames (environment l.initial.walk)) l.fixed l.rest l.parts ≡ parts_fault (OfNames (environment l.walk)) (drop l.i l.fixed) l.rest (drop l.i l.parts);
  behind : parts_behind l.fixed l.rest l.parts (environment l.initial.walk) ≡ parts_behind (drop l.i l.fixed) l.rest (drop l.i l.parts) (environment l.walk);
}
