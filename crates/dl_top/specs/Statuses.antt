-- The exit statuses.
use Rattle.std.specs.Prelude.{ℕ}
use Rattle.dl_top.specs.declared.status.Status.{Status}
use Rattle.dl_top.specs.declared.status.Status.TheVariants.{Done, Refused, Usage, ReadFault, WriteFault, NoMemory, Unended, TooLong}

abbrev pub code_of : Status → ℕ
code_of Done = 0
code_of Refused = 1
code_of Usage = 2
code_of ReadFault = 3
code_of WriteFault = 4
code_of NoMemory = 5
code_of Unended = 6
code_of TooLong = 7
