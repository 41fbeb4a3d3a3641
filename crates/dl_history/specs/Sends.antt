-- Machines whose sends have the arguments of their tags.
use Rattle.std.specs.Prelude.{◌≡◌, true, length}
use Rattle.std.specs.List.{AllByRecursion as Each}
use Rattle.dl_term.specs.declared.syntax.Lab.TheVariants.{At}
use Rattle.dl_model.specs.declared.file.Decls.{Decls}
use Rattle.dl_model.specs.Block.{Block, Done, Sends, Awaits, Polls, Reads, Sets, Ifs, Whiles, Calls}
use Rattle.dl_model.specs.Machine.{Frame, Machine, Working, Over}
use Rattle.dl_model.specs.Scopes.{file_label, is_tag}
use Rattle.dl_model.specs.Formed.{IsCountOf}

-- each send is of a tag that exists, with as many arguments as the tag has
abbrev pub SendsAreGiven : Decls → Block → Type 0
SendsAreGiven decls Done = Unit {0}
SendsAreGiven decls (Sends note label tag to args rest) = ((is_tag (file_label decls.inst (At label)) tag ≡ true) × IsCountOf decls label tag (length args)) × SendsAreGiven decls rest
SendsAreGiven decls (Awaits note label tag sender args rest) = SendsAreGiven decls rest
SendsAreGiven decls (Polls note got label tag sender args rest) = SendsAreGiven decls rest
SendsAreGiven decls (Reads note into label field index rest) = SendsAreGiven decls rest
SendsAreGiven decls (Sets target value rest) = SendsAreGiven decls rest
SendsAreGiven decls (Ifs test left right rest) = (SendsAreGiven decls left × SendsAreGiven decls right) × SendsAreGiven decls rest
SendsAreGiven decls (Whiles test note body rest) = SendsAreGiven decls body × SendsAreGiven decls rest
SendsAreGiven decls (Calls note frame into callee args rest) = SendsAreGiven decls rest

abbrev pub FrameIsGiven : Decls → Frame → Type 0
FrameIsGiven decls frame = SendsAreGiven decls frame.left

abbrev pub MachineIsGiven : Decls → Machine → Type 0
MachineIsGiven decls (Working frame callers) = FrameIsGiven decls frame × Each (FrameIsGiven decls) callers
MachineIsGiven decls (Over result) = Unit {0}
