-- What the readers of a file give.
use Rattle.std.specs.Prelude.{◌≡◌, ℕ, ◌<◌, Bool, true, false, not, ◌&&◌, is_some, List, [], ◌∷◌, ◌++◌, map, length}
use Rattle.std.specs.List.{AllByRecursion as Each, list_any, flat_map}
use Rattle.dl_model.specs.declared.program.Proc.{Proc}
use Rattle.dl_model.specs.declared.file.Decls.{Decls}
use Rattle.dl_model.specs.Lookup.{arg_names}
use Rattle.dl_model.specs.Words.{me_word, result_word}
use Rattle.dl_model.specs.Sorts.{has}
use Rattle.dl_model.specs.Formed.{AreDistinct, IsFormed, file_bound}
use Rattle.dl_sequent.specs.declared.duty.Duty.{Duty}
use Rattle.dl_triples.specs.Taken.{own_names}
use Rattle.dl_file.specs.declared.file.Proof.{Proof}
use Rattle.dl_file.specs.declared.file.File.{File}
use Rattle.dl_faults.specs.Shown.{texts_of}
use Rattle.dl_faults.specs.Whole.{names_taken}
use Rattle.dl_faults.specs.Obligations.{same_duty}

-- An obligation takes these names: as many as it takes, each once. None is one of its variables, and no quantifier of the file binds
-- one.
pub record TakesNames (decls : Decls) (duty : Duty) (names : List ℕ) : Type 0 where
  pub count : length names ≡ names_taken decls duty
  pub distinct : AreDistinct names
  pub new : Each (λ name. has (own_names decls duty) name ≡ false) names
  pub unbound : Each (λ name. has (file_bound decls) name ≡ false) names

-- A proof gives the names that its obligation takes.
abbrev pub ProofIsFormed : Decls → Proof → Type 0
ProofIsFormed decls proof = TakesNames decls proof.duty proof.names

-- no obligation stands twice
abbrev pub are_once : List Duty → Bool
are_once [] = true
are_once (duty ∷ duties) = not (list_any (same_duty duty) duties) && are_once duties

-- the variables of a procedure but for `me` and `result`
abbrev pub proc_names : Proc → List ℕ
proc_names proc = arg_names proc.params ++ proc.locals

-- the variables of all procedures
abbrev pub program_names : Decls → List ℕ
program_names decls = result_word ∷ me_word ∷ flat_map proc_names decls.procs

-- The declarations are formed and have a deployment, each name that a quantifier binds and each variable of a procedure has its text,
-- and the proofs are formed, at most one for each obligation.
pub record FileIsFormed (file : File) : Type 0 where
  pub decls : IsFormed file.decls
  pub deployed : is_some file.decls.deploy ≡ true
  pub texts : Each (λ name. name < length (texts_of file)) (file_bound file.decls)
  pub variables : Each (λ name. name < length (texts_of file)) (program_names file.decls)
  pub proofs : Each (ProofIsFormed file.decls) file.proofs
  pub once : are_once (map (λ (proof : Proof). proof.duty) file.proofs) ≡ true
