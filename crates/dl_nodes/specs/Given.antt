-- Procedures and machines whose sends are of tags that exist, with as many arguments as these have.
use Rattle.std.specs.Prelude.{◌≡◌, ℕ, ◌<◌, List, length}
use Rattle.std.specs.List.{AllByRecursion as Each}
use Rattle.dl_model.specs.declared.program.Proc.{Proc}
use Rattle.dl_model.specs.declared.protocol.Instances.{Instances}
use Rattle.dl_model.specs.Lookup.{proc_at, protocol_at, tag_at}
use Rattle.dl_model.specs.Block.{Block, Done, Sends, Awaits, Polls, Reads, Sets, Ifs, Whiles, Calls, block_of}
use Rattle.dl_model.specs.Machine.{Machine, Working, Over, Frame}

-- the tag exists, and has this many arguments
pub record TagIsGiven (inst : Instances) (at_label at_tag count : ℕ) : Type 0 where
  pub label : at_label < length inst.of
  pub tag : at_tag < length (protocol_at inst at_label).tags
  pub args : count ≡ length (tag_at inst at_label at_tag).args

abbrev pub BlockIsGiven : Instances → Block → Type 0
BlockIsGiven inst Done = Unit {0}
BlockIsGiven inst (Sends note label tag to args rest) = TagIsGiven inst label tag (length args) × BlockIsGiven inst rest
BlockIsGiven inst (Awaits note label tag sender args rest) = BlockIsGiven inst rest
BlockIsGiven inst (Polls note got label tag sender args rest) = BlockIsGiven inst rest
BlockIsGiven inst (Reads note into label field index rest) = BlockIsGiven inst rest
BlockIsGiven inst (Sets target value rest) = BlockIsGiven inst rest
BlockIsGiven inst (Ifs test left right rest) = (BlockIsGiven inst left × BlockIsGiven inst right) × BlockIsGiven inst rest
BlockIsGiven inst (Whiles test note body rest) = BlockIsGiven inst body × BlockIsGiven inst rest
BlockIsGiven inst (Calls note frame into callee args rest) = BlockIsGiven inst rest

pub record ProcsAreGiven (inst : Instances) (procs : List Proc) : Type 0 where
  pub each : (number : ℕ) → BlockIsGiven inst (block_of (proc_at procs number).body)

abbrev pub FrameIsGiven : Instances → Frame → Type 0
FrameIsGiven inst frame = BlockIsGiven inst frame.left

abbrev pub MachineIsGiven : Instances → Machine → Type 0
MachineIsGiven inst (Working frame callers) = FrameIsGiven inst frame × Each (FrameIsGiven inst) callers
MachineIsGiven inst (Over result) = Unit {0}
