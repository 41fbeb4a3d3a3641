use Rattle.std.proofs.Common.{length}
use Rattle.dl_kernel.proofs.scope.+has_message_names_once.Given as goal

abbrev pub decreases-has_message_names_once : goal.decreases-has_message_names_once
decreases-has_message_names_once l = length l.messages.now
