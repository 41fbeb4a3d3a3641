use Rattle.std.proofs.Common.{◌<◌, length, refl, arith}
use Rattle.dl_term.specs.State.{soup_at}
use Rattle.dl_model.specs.Runs.{IsMatch, HasNoMatch}
use Rattle.dl_history.proofs.Telling.{told-never, told-not, none-more}
use Rattle.dl_history.proofs.replies.has_no_match.Goals as goal

pub returns-then-is_match : goal.returns-then-is_match
returns-then-is_match c =
    told-never (HasNoMatch c.args.inst.now c.args.state.now.state c.args.node c.args.label c.args.tag) (λ none. none c.loop-id.id (c.is_match.ensures.0 c.if-is_match.true))

pub loop-id-preserved : goal.loop-id-preserved
loop-id-preserved c =
    let Match = IsMatch c.args.inst.now c.args.state.now.state c.args.node c.args.label c.args.tag in
    none-more Match c.loop-id.id c.loop-id.invariant (told-not (Match c.loop-id.id) c.is_match.result c.is_match.ensures c.if-is_match.false)

pub returns : goal.returns
returns c = record {
  0 = λ t k match.
      let known : k < length (soup_at c.args.state.now.state c.args.label) = match.known in
      let below : k < c.loop-id.id = omega (arith, known, c.len-id-end.ensures) in
      c.loop-id.invariant k below match;
  1 = λ none. refl;
}
