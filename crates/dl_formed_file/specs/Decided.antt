-- Whether a file is formed, as tests.
use Rattle.std.specs.Prelude.{ℕ, Bool, not, ◌&&◌, ◌||◌, ◌==◌, nat_lt, is_some, List, length}
use Rattle.std.specs.List.{list_all}
use Rattle.dl_model.specs.declared.file.Decls.{Decls}
use Rattle.dl_model.specs.Sorts.{has}
use Rattle.dl_model.specs.declared.program.Proc.{Proc}
use Rattle.dl_model.specs.Lookup.{arg_names}
use Rattle.dl_model.specs.Words.{me_word, result_word}
use Rattle.dl_triples.specs.Taken.{own_names}
use Rattle.dl_faults.specs.Whole.{names_taken}
use Rattle.dl_formed.specs.Decided.{are_distinct, are_below}
use Rattle.dl_file.specs.declared.file.Proof.{Proof}
use Rattle.dl_file.specs.declared.file.File.{File}
use Rattle.dl_faults.specs.Shown.{texts_of}

abbrev pub is_deployed : Decls → Bool
is_deployed decls = is_some decls.deploy

-- none of the names is a bound one
abbrev pub are_unbound : List ℕ → List ℕ → Bool
are_unbound bound names = list_all (λ name. not (has bound name)) names

-- as many names as the obligation takes, each once, none of them one of its variables, and none of them bound
abbrev pub proof_is_formed : Decls → List ℕ → Proof → Bool
proof_is_formed decls bound proof =
    (length proof.names == names_taken decls proof.duty)
    && (are_distinct proof.names && (are_unbound (own_names decls proof.duty) proof.names && are_unbound bound proof.names))

-- each variable of a procedure is one of so many names
abbrev pub proc_is_below : ℕ → Proc → Bool
proc_is_below count proc = are_below count (arg_names proc.params) && are_below count proc.locals

abbrev pub variables_are_below : ℕ → Decls → Bool
variables_are_below count decls = nat_lt result_word count && (nat_lt me_word count && list_all (proc_is_below count) decls.procs)

-- each bound name and each variable of a procedure has its text, and each proof its names
abbrev pub names_are_right : File → List ℕ → Bool
names_are_right file bound =
    are_below (length (texts_of file)) bound
    && (variables_are_below (length (texts_of file)) file.decls && list_all (proof_is_formed file.decls bound) file.proofs)

-- a name is one of the variables of a procedure
abbrev pub proc_has : Proc → ℕ → Bool
proc_has proc name = (name == me_word) || (has (arg_names proc.params) name || has proc.locals name)
