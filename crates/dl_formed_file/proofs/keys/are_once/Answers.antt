use Rattle.std.proofs.Common.{nat_eq, length, ap, ◌∙◌}
use Rattle.dl_formed_file.proofs.OnceLemmas.{count-tells}
use Rattle.dl_formed_file.proofs.keys.are_once.Goals as goal

pub returns : goal.returns
returns c =
    ap (λ n. nat_eq n (length c.args.proofs.now)) (c.len.ensures.len ∙ ap length c.in_ok-keys.ensures) ∙ count-tells c.args.proofs.now
