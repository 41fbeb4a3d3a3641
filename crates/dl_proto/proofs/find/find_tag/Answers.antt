use Rattle.std.proofs.Common.{◌≡◌, Some, slice_get, rules}
use Rattle.dl_model.specs.Scopes.{protocol_found}
use Rattle.dl_proto.specs.Ready.{TagIsReady}
use Rattle.dl_model.specs.Lookup.{protocol_at}
use Rattle.dl_proto.proofs.Found.{tag-found}
use Rattle.dl_proto.proofs.Options.{if-some}
use Rattle.dl_proto.proofs.find.find_tag.Goals as goal

pub returns-in-Some-clause-ready : goal.returns-in-Some-clause-ready
returns-in-Some-clause-ready c =
    let found : protocol_found c.args.inst.now (slice_get c.args.inst.now.of c.args.label) ≡ Some c.in-Some.protocol.now = search (rules, c.in-Some.ensures) in
    if-some _ (TagIsReady (protocol_at c.args.inst.now c.args.label)) c.at.result (slice_get c.in-Some.protocol.now.tags c.args.tag) (search rules)
    (λ tag is. tag-found c.args.inst.now c.args.label c.args.tag c.in-Some.protocol.now tag c.requires found is)
