use Rattle.std.proofs.Common.{◌≡◌, ◌∙◌, ap}
use Rattle.dl_notation.specs.Environment.{ObligationName}
use Rattle.dl_notation.specs.Obligations.{is_proved, obligation_name}
use Rattle.dl_scope.specs.Walked.{claimed, environment}
use Rattle.dl_rules.proofs.ClaimLemmas.{claims_among}
use Rattle.dl_rules.proofs.lists.is_proved.Goals as goal

pub returns : goal.returns
returns c =
    let name : claimed c.in_ok-claim.claim ≡ obligation_name c.args.word.now c.args.parts.now = c.in_ok-claim.ensures in
    c.contains-is_proved.ensures ∙ claims_among c.in_ok-claim.claim c.args.walk.now.proved.keys ∙ ap (λ (n : ObligationName). is_proved (environment c.args.walk.now) n) name
