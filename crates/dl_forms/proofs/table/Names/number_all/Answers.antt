use Rattle.std.proofs.Common.{rules, ◌≡◌, ◌<◌, ◌≤◌, sym, ◌∙◌, refl, length}
use Rattle.dl_forms.specs.Table.{with_name}
use Rattle.dl_forms.proofs.TableLemmas.{number_step, number_end}
use Rattle.dl_forms.proofs.table.Names.number_all.Goals as goal

pub loop-word-init : goal.loop-word-init
loop-word-init c = refl

pub loop-word-preserved : goal.loop-word-preserved
loop-word-preserved c =
    let few : c.loop-word.word-index < length c.args.words.now = search rules in
    let new : c.number.new.self ≡ with_name c.loop-word.self c.in_ok-name.name = c.in_ok-number.ensures.names in
    rw (new, c.in_ok-name.ensures) (number_step c.loop-word.self c.args.words.now c.loop-word.word-index _ few ∙ c.loop-word.invariant)

pub returns : goal.returns
returns c =
    let ended : length c.args.words.now ≤ c.loop-word.word-index = search rules in
    sym (number_end c.loop-word.self c.args.words.now c.loop-word.word-index ended) ∙ c.loop-word.invariant
