-- How names and obligations are written in a refusal.
use Rattle.std.specs.Prelude.{ℕ, ◌+◌, pos, Bool, true, false, List, [], ◌∷◌, Option, Some, None, slice_get, unwrap_or, codes}
use Rattle.dl_term.specs.declared.syntax.Lab.TheVariants.{Own, At}
use Rattle.dl_tree.specs.declared.tree.Place.{Place}
use Rattle.dl_tree.specs.declared.tree.Tree.{Tree}
use Rattle.dl_tree.specs.declared.tree.Tree.TheVariants as tree
use Rattle.dl_model.specs.Lookup.{protocol_in, hook_at, proc_at}
use Rattle.dl_model.specs.Words.{first_name}
use Rattle.dl_sequent.specs.declared.duty.Duty.{Duty}
use Rattle.dl_sequent.specs.declared.duty.Duty.TheVariants as duty
use Rattle.dl_inv.specs.Facts.{label_name}
use Rattle.dl_inv.specs.Obligations.{invariant_at}
use Rattle.dl_inv.specs.Steps.{tag_of}
use Rattle.dl_file.specs.declared.file.File.{File}
use Rattle.dl_faults.specs.declared.wrong.Named.{Named}
use Rattle.dl_faults.specs.declared.wrong.Named.TheVariants.{Nothing, Hook, Label, Obligation}

abbrev pub no_place : Place
no_place = record { line = 0; col = 0 }

abbrev pub word : List ℕ → Tree
word text = tree.Sym text no_place

abbrev pub form : List ℕ → List Tree → Tree
form head parts = tree.List (word head ∷ parts) no_place

-- the texts of the names of a file, by their numbers
abbrev pub texts_of : File → List (List ℕ)
texts_of file = file.names

abbrev pub name : File → ℕ → Tree
name file sym = word (unwrap_or (slice_get (texts_of file) sym) [])

abbrev pub way : Bool → Tree
way false = word (codes "send")
way true = word (codes "receive")

-- what is proved of a point of a procedure
abbrev pub at_point : File → List ℕ → ℕ → ℕ → List Tree → Tree
at_point file head proc point more = form head (name file (proc_at file.decls.procs proc).sym ∷ tree.Num (pos point) no_place ∷ more)

abbrev pub label_and_tag : File → ℕ → ℕ → Bool → List Tree
label_and_tag file label tag receive = name file (label_name file.decls label) ∷ name file (tag_of file.decls.inst None (At label) tag).sym ∷ way receive ∷ []

-- an obligation, as the item of its proof names it
abbrev pub obligation : File → Duty → Tree
obligation file (duty.InitProtocol p) = form (codes "init") (name file (protocol_in file.decls.inst (Some p)).sym ∷ [])
obligation file (duty.InitInvariant i) = form (codes "init") (name file (invariant_at file.decls i).sym ∷ [])
obligation file (duty.StepProtocol p tag receive) =
    form (codes "step") (name file (protocol_in file.decls.inst (Some p)).sym ∷ name file (tag_of file.decls.inst (Some p) Own tag).sym ∷ way receive ∷ [])
obligation file (duty.StepInvariant i label tag receive) = form (codes "step") (name file (invariant_at file.decls i).sym ∷ label_and_tag file label tag receive)
obligation file (duty.Start proc) = form (codes "start") (name file (proc_at file.decls.procs proc).sym ∷ [])
obligation file (duty.Guard proc point) = at_point file (codes "guard") proc point []
obligation file (duty.AfterSend proc point) = at_point file (codes "after") proc point []
obligation file (duty.Got proc point) = at_point file (codes "got") proc point []
obligation file (duty.Miss proc point) = at_point file (codes "miss") proc point []
obligation file (duty.AfterRead proc point) = at_point file (codes "after") proc point []
obligation file (duty.Body proc point) = at_point file (codes "body") proc point []
obligation file (duty.Exit proc point) = at_point file (codes "exit") proc point []
obligation file (duty.Enter proc point) = at_point file (codes "enter") proc point []
obligation file (duty.Leave proc point) = at_point file (codes "leave") proc point []
obligation file (duty.Stable proc point label tag receive) = at_point file (codes "stable") proc point (label_and_tag file label tag receive)
obligation file (duty.Frame proc point label tag receive) = at_point file (codes "frame") proc point (label_and_tag file label tag receive)
obligation file (duty.Deploy node) = form (codes "deploy") (name file (first_name + node) ∷ [])

-- what is named in a refusal
abbrev pub shown : File → Named → Option Tree
shown file Nothing = None
shown file (Hook hook) = Some (name file (hook_at file.decls hook).sym)
shown file (Label label) = Some (name file (label_name file.decls label))
shown file (Obligation duty) = Some (obligation file duty)
