use Rattle.std.proofs.Common.{◌≡◌, Some, None, position, sym, ap, ◌∙◌}
use Rattle.dl_verdict.specs.Keys.{key_of, same_key}
use Rattle.dl_verdict.specs.declared.keys.Key.{Key}
use Rattle.dl_verdict.proofs.Tables.{found-there}
use Rattle.dl_verdict.proofs.keys.find_proof.Goals as goal

pub returns-in-Some : goal.returns-in-Some
returns-in-Some c =
    let keys = c.args.keys.now.keys in
    let place : c.place_of_key.result ≡ position (same_key (key_of c.args.duty)) keys =
    c.place_of_key.ensures ∙ ap (λ (key : Key). position (same_key key) keys) c.key_of.ensures in
    c.at.ensures ∙ found-there c.args.duty c.args.proofs.now keys (Some c.in-Some.place) c.requires (sym c.in-Some.is ∙ place)

pub returns-in-None : goal.returns-in-None
returns-in-None c =
    let keys = c.args.keys.now.keys in
    let place : c.place_of_key.result ≡ position (same_key (key_of c.args.duty)) keys =
    c.place_of_key.ensures ∙ ap (λ (key : Key). position (same_key key) keys) c.key_of.ensures in
    found-there c.args.duty c.args.proofs.now keys None c.requires (sym c.in-None.is ∙ place)
