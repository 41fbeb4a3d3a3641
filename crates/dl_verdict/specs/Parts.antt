-- The parts of an obligation as it is shown.
use Rattle.std.specs.Prelude.{ℕ, ◌+◌, pos, Bool, List, [], ◌∷◌, Some, codes}
use Rattle.dl_term.specs.declared.syntax.Lab.TheVariants.{Own}
use Rattle.dl_tree.specs.declared.tree.Tree.{Tree}
use Rattle.dl_tree.specs.declared.tree.Tree.TheVariants as tree
use Rattle.dl_model.specs.Lookup.{protocol_in, proc_at}
use Rattle.dl_model.specs.Words.{first_name}
use Rattle.dl_sequent.specs.declared.duty.Duty.{Duty}
use Rattle.dl_sequent.specs.declared.duty.Duty.TheVariants as duty
use Rattle.dl_inv.specs.Obligations.{invariant_at}
use Rattle.dl_inv.specs.Steps.{tag_of}
use Rattle.dl_file.specs.declared.file.File.{File}
use Rattle.dl_faults.specs.Shown.{no_place, name, way, label_and_tag}

-- the first word of an obligation
abbrev pub head_of : Duty → List ℕ
head_of (duty.InitProtocol p) = codes "init"
head_of (duty.InitInvariant i) = codes "init"
head_of (duty.StepProtocol p tag receive) = codes "step"
head_of (duty.StepInvariant i label tag receive) = codes "step"
head_of (duty.Start proc) = codes "start"
head_of (duty.Guard proc point) = codes "guard"
head_of (duty.AfterSend proc point) = codes "after"
head_of (duty.Got proc point) = codes "got"
head_of (duty.Miss proc point) = codes "miss"
head_of (duty.AfterRead proc point) = codes "after"
head_of (duty.Body proc point) = codes "body"
head_of (duty.Exit proc point) = codes "exit"
head_of (duty.Enter proc point) = codes "enter"
head_of (duty.Leave proc point) = codes "leave"
head_of (duty.Stable proc point label tag receive) = codes "stable"
head_of (duty.Frame proc point label tag receive) = codes "frame"
head_of (duty.Deploy node) = codes "deploy"

-- a point of a procedure, and more
abbrev pub point_and : File → ℕ → ℕ → List Tree → List Tree
point_and file proc point more = name file (proc_at file.decls.procs proc).sym ∷ tree.Num (pos point) no_place ∷ more

-- a step of a protocol
abbrev pub own_step : File → ℕ → ℕ → Bool → List Tree
own_step file p tag receive = name file (protocol_in file.decls.inst (Some p)).sym ∷ name file (tag_of file.decls.inst (Some p) Own tag).sym ∷ way receive ∷ []

-- what stands behind the first word
abbrev pub rest_of : File → Duty → List Tree
rest_of file (duty.InitProtocol p) = name file (protocol_in file.decls.inst (Some p)).sym ∷ []
rest_of file (duty.InitInvariant i) = name file (invariant_at file.decls i).sym ∷ []
rest_of file (duty.StepProtocol p tag receive) = own_step file p tag receive
rest_of file (duty.StepInvariant i label tag receive) = name file (invariant_at file.decls i).sym ∷ label_and_tag file label tag receive
rest_of file (duty.Start proc) = name file (proc_at file.decls.procs proc).sym ∷ []
rest_of file (duty.Guard proc point) = point_and file proc point []
rest_of file (duty.AfterSend proc point) = point_and file proc point []
rest_of file (duty.Got proc point) = point_and file proc point []
rest_of file (duty.Miss proc point) = point_and file proc point []
rest_of file (duty.AfterRead proc point) = point_and file proc point []
rest_of file (duty.Body proc point) = point_and file proc point []
rest_of file (duty.Exit proc point) = point_and file proc point []
rest_of file (duty.Enter proc point) = point_and file proc point []
rest_of file (duty.Leave proc point) = point_and file proc point []
rest_of file (duty.Stable proc point label tag receive) = point_and file proc point (label_and_tag file label tag receive)
rest_of file (duty.Frame proc point label tag receive) = point_and file proc point (label_and_tag file label tag receive)
rest_of file (duty.Deploy node) = name file (first_name + node) ∷ []
