use Rattle.std.proofs.Common.{ℤ, Bool, List, ◌∙◌}
use Rattle.std.specs.Prelude.{◌&&◌}
use Rattle.std.specs.List.{list_all}
use Rattle.dl_forms.specs.Context.{Text}
use Rattle.dl_means.specs.Known.{words_of}
use Rattle.dl_means.specs.Says.{says, says_term, says_command}
use Rattle.dl_means.proofs.CommandLemmas.{three-same}
use Rattle.dl_means.proofs.commands.says_proc.Goals as goal

pub returns : goal.returns
returns c =
    let names = c.args.names.now in
    let words : List (Text × ℤ) = words_of c.args.words.now in
    let proc = c.args.proc.now in
    let inner : Bool = list_all (says_command names words) proc.body && says_term names words proc.result in
    c.all_three.ensures
    ∙ three-same c.says.result c.says-2.result c.says_body.result (says names words proc.pre) (says names words proc.post) inner c.says.ensures c.says-2.ensures c.says_body.ensures
