use Rattle.std.proofs.Common.{◌≡◌, ℕ, ℤ, Bool, List, Option, ap, ◌∙◌}
use Rattle.dl_forms.specs.Context.{Text}
use Rattle.dl_notation.specs.Rules.{other_words}
use Rattle.dl_means.specs.Points.{fits_point}
use Rattle.dl_means.specs.Says.{says_rule, proc_in, variables_in}
use Rattle.dl_means.specs.Flags.{fits_flags}
use Rattle.dl_means.proofs.CommandLemmas.{flags-fit, fails-first, passes-on}
use Rattle.dl_means.proofs.says.says_proof.Goals as goal

pub returns-then-fits_point : goal.returns-then-fits_point
returns-then-fits_point c =
    let names = c.args.names.now in
    let decls = c.args.decls.now in
    let proof = c.args.proof.now in
    let known : Option ℕ → List (Text × ℤ) = λ (proc : Option ℕ). other_words (variables_in names decls proc) c.args.env.now.words in
    let fits : c.fits_point.result ≡ fits_point decls proof.duty = c.fits_point.ensures ∙ (ap (λ (points : List (List Bool)). fits_flags points proof.duty) c.requires ∙ flags-fit decls proof.duty) in
    let says : c.says_script_in.result ≡ says_rule names (known (proc_in proof.duty)) proof.script.rule =
    c.says_script_in.ensures ∙ ap (λ (proc : Option ℕ). says_rule names (known proc) proof.script.rule) c.procedure_in-proc.ensures in
    passes-on (fits_point decls proof.duty) (says_rule names (known (proc_in proof.duty)) proof.script.rule) c.fits_point.result c.says_script_in.result fits c.if-fits_point.true says

pub returns-else-fits_point : goal.returns-else-fits_point
returns-else-fits_point c =
    let names = c.args.names.now in
    let decls = c.args.decls.now in
    let proof = c.args.proof.now in
    let known : List (Text × ℤ) = other_words (variables_in names decls (proc_in proof.duty)) c.args.env.now.words in
    let fits : c.fits_point.result ≡ fits_point decls proof.duty = c.fits_point.ensures ∙ (ap (λ (points : List (List Bool)). fits_flags points proof.duty) c.requires ∙ flags-fit decls proof.duty) in
    fails-first (fits_point decls proof.duty) (says_rule names known proof.script.rule) c.fits_point.result fits c.if-fits_point.false
