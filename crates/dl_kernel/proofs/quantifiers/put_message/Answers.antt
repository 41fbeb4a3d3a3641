use Rattle.std.proofs.Common.{ap, refl}
use Rattle.dl_kernel.specs.Seen.{put_parts}
use Rattle.dl_kernel.proofs.EnterLemmas.{made-as, oversized-as}
use Rattle.dl_kernel.proofs.InstanceLemmas.{memory-no_limit}
use Rattle.dl_kernel.proofs.quantifiers.put_message.Goals as goal

pub returns-in-Ok-clause-made : goal.returns-in-Ok-clause-made
returns-in-Ok-clause-made c = made-as c.put_parts.result _ _ (ap (put_parts c.args.msg c.args.body.now) c.in-Ok.ensures) c.put_parts.ensures.made

pub returns-in-Ok-clause-limit : goal.returns-in-Ok-clause-limit
returns-in-Ok-clause-limit c = oversized-as _ _ (ap (put_parts c.args.msg c.args.body.now) c.in-Ok.ensures) c.put_parts.ensures.limit

pub returns-in-Err-clause-limit : goal.returns-in-Err-clause-limit
returns-in-Err-clause-limit c = memory-no_limit _ refl
